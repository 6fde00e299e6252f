use Rattle.std.proofs.Common.{ap, ◌∙◌, Result, Ok, Err, OnErr}
use Rattle.std.specs.FinSet.{from_list}
use Rattle.pm_image.specs.Marked.{with_marked, seen_far}
use Rattle.pm_image.proofs.Marks.{marked_more, beside_more, marked_nothing}
use Rattle.pm_image.proofs.NumberSets.{insert_shown}
use Rattle.pm_image.proofs.number_set.NumberSet.insert.Goals as goal
use Rattle.pm_image.proofs.number_set.NumberSet.insert.Goals.{then-reach, else-reach+in_ok-insert}

on_err : {A E : Type 0} {P : Type 0} (r : Result A E) → P → OnErr r P
on_err (Ok x) holds = tt
on_err (Err e) holds = holds

pub returns-in_err-insert-clause-err : goal.returns-in_err-insert-clause-err
returns-in_err-insert-clause-err c =
    let reached = marked_nothing c.self.inside.near.items (seen_far c.self.inside.far) c.args.self.now c.self.view_is c.reach.new.near.items c.reach.ensures.marks in
    on_err c.from_residual.result (ap (λ ks. with_marked c.reach.new.near.items 0 (from_list ks)) c.in_err-insert.ensures.err ∙ reached)

pub returns-clause-ok : goal.returns-clause-ok
returns-clause-ok c =
    let bs = c.reach.new.near.items in
    let far = seen_far c.self.inside.far in
    let reached = marked_nothing c.self.inside.near.items far c.args.self.now c.self.view_is bs c.reach.ensures.marks in
    elim c.if-reach.branch [
      | then-reach w ↦ ap (λ s. with_marked s.near.items 0 (seen_far s.far)) w.self-inside-is ∙ marked_more bs far c.args.self.now reached c.args.number (c.reach.ensures.place w.if-reach.true)
      | else-reach+in_ok-insert w ↦ ap (λ s. with_marked s.near.items 0 (seen_far s.far)) w.self-inside-is
          ∙ ap (with_marked bs 0) (insert_shown c.self.inside.far w.insert.new.self c.args.number w.in_ok-insert.ensures.updates)
          ∙ beside_more bs far c.args.self.now reached c.args.number
    ]
