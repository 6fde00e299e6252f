use Rattle.std.proofs.Common.{sym, ap, ◌∙◌}
use Rattle.std.specs.FinMap.{get}
use Rattle.pm_snap.specs.Snapped.{at_key}
use Rattle.pm_snap.specs.Kept.{seen_frozen, or_now}
use Rattle.pm_snap.proofs.Tables.{get_frozen}
use Rattle.pm_snap.proofs.table.Table.frozen.Goals as goal

pub returns-in-Some-get : goal.returns-in-Some-get
returns-in-Some-get g c =
    let values = c.self.inside.values in
    c.as_ref.ensures.value ∙ ap (λ found. or_now found (get values c.args.key)) c.in-Some-get.ensures.value
    ∙ sym (get_frozen values c.in-Some.kept c.args.key)
    ∙ ap (λ kept. at_key (seen_frozen values kept) c.args.key) (sym c.in-Some.is)
    ∙ ap (λ s. at_key s.frozen c.args.key) c.self.view_is

pub returns-in-None : goal.returns-in-None
returns-in-None g c =
    let values = c.self.inside.values in
    c.get-in-None.ensures ∙ ap (λ found. or_now found (get values c.args.key)) c.in-None.ensures.value
    ∙ sym (get_frozen values c.in-Some.kept c.args.key)
    ∙ ap (λ kept. at_key (seen_frozen values kept) c.args.key) (sym c.in-Some.is)
    ∙ ap (λ s. at_key s.frozen c.args.key) c.self.view_is
