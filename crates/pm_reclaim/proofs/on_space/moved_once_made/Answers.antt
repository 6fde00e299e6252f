use Rattle.std.proofs.Common.{◌≡◌, ℕ, Some, refl, ap, ◌∙◌, ⊎_elim}
use Rattle.pm_types.specs.declared.address.Addr.{Addr}
use Rattle.pm_types.specs.declared.source.RefSource.{RefSource}
use Rattle.pm_view.specs.Events.{nothing, fix, move_anchor, move_out, move_on}
use Rattle.pm_law_collect.proofs.PhasesLemmas.Comes.{comes_where}
use Rattle.pm_space.specs.Shown.{view}
use Rattle.pm_next.specs.declared.row.Row.TheVariants.{Nothing, Fix}
use Rattle.pm_next.specs.Seen.{seen_row}
use Rattle.pm_reclaim.proofs.Sole.{sole_after, none_stale}
use Rattle.pm_reclaim.proofs.on_space.moved_once_made.Goals as goal

pub returns-in-MoveAnchor-clause-kept : goal.returns-in-MoveAnchor-clause-kept
returns-in-MoveAnchor-clause-kept g c =
    let v = view c.args.space.now.parts in
    let is = comes_where v (move_anchor c.in-MoveAnchor.at c.in-MoveAnchor.train) (c.requires ∙ ap seen_row c.in-MoveAnchor.is) in
    none_stale v is.car c.in-MoveAnchor.at.slot c.args.space.now.kept is.emptied

pub returns-in-MoveAnchor-clause-made : goal.returns-in-MoveAnchor-clause-made
returns-in-MoveAnchor-clause-made g c =
    let v = view c.args.space.now.parts in
    let at = c.in-MoveAnchor.at in
    let row = c.requires ∙ ap seen_row c.in-MoveAnchor.is in
    λ new step event.
    sole_after v new step (move_anchor at c.in-MoveAnchor.train) (Some at.slot) row
    (λ picked number may vacant. c.only_the_slot_that_moved_last_is_named.ensures.moves v (move_anchor at c.in-MoveAnchor.train) picked number c.in-MoveAnchor.train at c.args.space.now.kept row may vacant (refl, refl)) event

pub returns-in-MoveOut-clause-kept : goal.returns-in-MoveOut-clause-kept
returns-in-MoveOut-clause-kept g c =
    let v = view c.args.space.now.parts in
    let is = comes_where v (move_out c.in-MoveOut.at) (c.requires ∙ ap seen_row c.in-MoveOut.is) in
    none_stale v is.car c.in-MoveOut.at.slot c.args.space.now.kept is.emptied

pub returns-in-MoveOut-clause-made : goal.returns-in-MoveOut-clause-made
returns-in-MoveOut-clause-made g c =
    let v = view c.args.space.now.parts in
    let at = c.in-MoveOut.at in
    let row = c.requires ∙ ap seen_row c.in-MoveOut.is in
    λ new step event.
    sole_after v new step (move_out at) (Some at.slot) row
    (λ picked number may vacant. c.only_the_slot_that_moved_last_is_named.ensures.moves v (move_out at) picked number picked at c.args.space.now.kept row may vacant (refl, refl)) event

pub returns-in-MoveOn-clause-kept : goal.returns-in-MoveOn-clause-kept
returns-in-MoveOn-clause-kept g c =
    let v = view c.args.space.now.parts in
    let is = comes_where v (move_on c.in-MoveOn.at c.in-MoveOn.train) (c.requires ∙ ap seen_row c.in-MoveOn.is) in
    none_stale v is.car c.in-MoveOn.at.slot c.args.space.now.kept is.emptied

pub returns-in-MoveOn-clause-made : goal.returns-in-MoveOn-clause-made
returns-in-MoveOn-clause-made g c =
    let v = view c.args.space.now.parts in
    let at = c.in-MoveOn.at in
    let row = c.requires ∙ ap seen_row c.in-MoveOn.is in
    λ new step event.
    sole_after v new step (move_on at c.in-MoveOn.train) (Some at.slot) row
    (λ picked number may vacant. c.only_the_slot_that_moved_last_is_named.ensures.moves v (move_on at c.in-MoveOn.train) picked number c.in-MoveOn.train at c.args.space.now.kept row may vacant (refl, refl)) event

pub returns-in-Nothing-clause-made : goal.returns-in-Nothing-clause-made
returns-in-Nothing-clause-made g c =
    let space = c.args.space.now in
    let v = view space.parts in
    λ new step event.
    ⊎_elim
    (λ (is : c.args.row ≡ Nothing). sole_after v new step nothing space.moved (c.requires ∙ ap seen_row is) (λ picked number may vacant. space.sole) event)
    (λ (is : (car : ℕ) × (source : RefSource) × (to : Addr) × (c.args.row ≡ Fix car source to)).
    let row = c.requires ∙ ap seen_row is.3 in
    sole_after v new step (fix is.0 is.1 is.2) space.moved row (λ picked number may vacant. c.only_the_slot_that_moved_last_is_named.ensures.fixes v is.0 picked number is.1 is.2 space.moved space.kept row space.sole) event)
    c.in-Nothing.is
