use Rattle.std.proofs.Common.{ap, ◌∙◌}
use Rattle.pm_types.specs.Near.{filled, seen_far}
use Rattle.pm_types.proofs.Fills.{put_near, put_far, added_nothing}
use Rattle.pm_types.proofs.Lent.{on_err}
use Rattle.pm_types.proofs.numbered.Numbered.insert.Goals as goal
use Rattle.pm_types.proofs.numbered.Numbered.insert.Goals.{then-goes_near, else-goes_near+in_ok-insert_far}

pub returns-in_err-insert_far-clause-err : goal.returns-in_err-insert_far-clause-err
returns-in_err-insert_far-clause-err g c =
    let reached = added_nothing c.self.inside.near.places.items (seen_far c.self.inside.far) c.args.self.now c.self.view_is c.goes_near.new.near.places.items c.goes_near.ensures.values in
    on_err c.from_residual.result (ap (filled c.goes_near.new.near.places.items 0) c.in_err-insert_far.ensures.err ∙ reached)

pub returns-clause-ok : goal.returns-clause-ok
returns-clause-ok g c =
    let ys = c.goes_near.new.near.places.items in
    let far = seen_far c.self.inside.far in
    let reached = added_nothing c.self.inside.near.places.items far c.args.self.now c.self.view_is ys c.goes_near.ensures.values in
    elim c.if-goes_near.branch [
      | then-goes_near w ↦ ap (λ s. filled s.near.places.items 0 (seen_far s.far)) w.self-inside-is ∙ ap (λ zs. filled zs 0 far) w.put.ensures
          ∙ put_near ys far c.args.self.now reached c.args.number c.args.value (c.goes_near.ensures.place w.if-goes_near.true)
      | else-goes_near+in_ok-insert_far w ↦ ap (λ s. filled s.near.places.items 0 (seen_far s.far)) w.self-inside-is ∙ ap (filled ys 0) w.in_ok-insert_far.ensures.ok
          ∙ put_far ys far c.args.self.now reached c.args.number c.args.value (c.goes_near.ensures.none w.if-goes_near.false)
    ]
