use Rattle.std.proofs.Common.{◌∙◌, ap}
use Rattle.std.specs.FinMap.{insert}
use Rattle.pm_reopen.proofs.rebuild.gatherings.Gatherings.begin.Goals as goal

pub returns : goal.returns
returns c =
    c.in_ok-insert.ensures.ok ∙ ap (λ v. insert v c.args.car c.new.result) c.self.view_is
    ∙ ap (insert c.args.self.now c.args.car) c.new.ensures
