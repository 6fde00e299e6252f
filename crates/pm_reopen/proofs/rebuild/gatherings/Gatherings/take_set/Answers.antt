use Rattle.std.proofs.Common.{◌≡◌, ◌∙◌, ap, Option}
use Rattle.std.specs.Option.{unwrap_or}
use Rattle.std.specs.FinMap.{get, empty, remove}
use Rattle.std.proofs.lemmas.Result.{IfOk-weaker}
use Rattle.pm_view.specs.View.{Sources}
use Rattle.pm_types.proofs.Lent.{found_in}
use Rattle.pm_reopen.proofs.rebuild.gatherings.Gatherings.take_set.Goals as goal

pub returns-in_default-clause-set : goal.returns-in_default-clause-set
returns-in_default-clause-set c =
    c.new.ensures ∙ ap (λ (o : Option Sources). unwrap_or o empty) (found_in c.self.inside.sets c.args.self.now c.self.view_is c.args.car _ c.in_default.ensures.value)

pub returns-in_default-clause-left : goal.returns-in_default-clause-left
returns-in_default-clause-left c = c.remove.ensures.after ∙ ap (λ v. remove v c.args.car) c.self.view_is

pub returns-clause-set : goal.returns-clause-set
returns-clause-set c =
    let found = found_in c.self.inside.sets c.args.self.now c.self.view_is c.args.car _ c.in-Some.ensures.value in
    IfOk-weaker c.into_set.result (λ (set : Sources). set ≡ c.in-Some.gathering) (λ (set : Sources). set ≡ unwrap_or (get c.args.self.now c.args.car) empty)
    (λ set same. same ∙ ap (λ (o : Option Sources). unwrap_or o empty) found) c.into_set.ensures

pub returns-clause-left : goal.returns-clause-left
returns-clause-left c = c.remove.ensures.after ∙ ap (λ v. remove v c.args.car) c.self.view_is
