use Rattle.std.proofs.Common.{refl, ap, sym, subst, ◌∙◌, IsSome, Option}
use Rattle.std.specs.FinMap.{insert}
use Rattle.pm_view.specs.View.{Sources}
use Rattle.pm_types.proofs.Lent.{found_in, written_in}
use Rattle.pm_space.proofs.Linking.{on_ok}
use Rattle.pm_reopen.specs.Rebuild.Remembering.{with_named}
use Rattle.pm_reopen.proofs.rebuild.gatherings.Gatherings.remember.Goals as goal

pub returns-in_default : goal.returns-in_default
returns-in_default c =
    let v = c.args.self.now in
    let none = found_in c.self.inside.sets v c.self.view_is c.args.car _ c.in_default.ensures.value in
    let same = c.get_mut.follows.holds-at-none ∙ c.self.view_is in
    same ∙ ap (λ (o : Option Sources). with_named v c.args.car o c.args.source c.args.slot) none

pub returns : goal.returns
returns c =
    let v = c.args.self.now in
    let w = c.put.new.self in
    let found = found_in c.self.inside.sets v c.self.view_is c.args.car _ c.in-Some.ensures.value in
    let new = written_in c.self.inside.sets v c.self.view_is c.args.car c.get_mut.result (c.get_mut.follows.lender w) w (c.get_mut.follows.holds w) (subst IsSome (sym c.in-Some.is) refl) in
    on_ok c.put.result (λ put. new ∙ ap (insert v c.args.car) put ∙ ap (λ (o : Option Sources). with_named v c.args.car o c.args.source c.args.slot) found) c.put.ensures.ok
