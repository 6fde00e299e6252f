use Rattle.std.proofs.Common.{sym, ap, ◌∙◌}
use Rattle.std.proofs.lemmas.Bool.{cond-false}
use Rattle.pm_view.specs.Counts.{live_in}
use Rattle.pm_space.proofs.HeldCars.{get_car}
use Rattle.pm_space.proofs.counting.in_car.Goals as goal

pub returns-in-Some : goal.returns-in-Some
returns-in-Some g c =
    c.live.ensures.count
    ∙ sym (cond-false _ _ _ (sym c.is_aside.ensures ∙ c.if-is_aside.false) ∙ ap live_in (get_car c.args.parts.now.cars c.args.car _ c.in-Some.ensures))

pub returns-in-None : goal.returns-in-None
returns-in-None g c =
    sym (cond-false _ _ _ (sym c.is_aside.ensures ∙ c.if-is_aside.false) ∙ ap live_in (get_car c.args.parts.now.cars c.args.car _ c.in-None.ensures))
