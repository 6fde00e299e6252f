use Rattle.std.proofs.Common.{◌+◌, ap, ◌∙◌}
use Rattle.pm_trains.specs.Trains.{Trains, train_of, youngest, rotated}
use Rattle.pm_trains.proofs.Cars.{home_kept, home_rotated}
use Rattle.pm_value_cases.proofs.containers.trains.put.Goals as goal
use Rattle.pm_value_cases.proofs.containers.trains.put.Goals.{then-full+then-open-lt-MOST_TRAINS+in_ok-append_new, else-full+in_ok-append_car}

pub returns : goal.returns
returns c other apart still =
    let car = c.args.car in
    let ts = c.args.trains.now.trains in
    elim c.if-full.branch [
      | then-full+then-open-lt-MOST_TRAINS+in_ok-append_new w ↦
          ap (λ (t : Trains). train_of t.trains other) (w.trains-is ∙ w.in_ok-append_new.ensures.ok) ∙ home_kept other (youngest ts + 1) car (rotated ts) apart ∙ home_rotated other (youngest ts + 1) ts ∙ still
      | else-full+in_ok-append_car w ↦
          ap (λ (t : Trains). train_of t.trains other) (w.trains-is ∙ w.in_ok-append_car.ensures.ok) ∙ home_kept other c.youngest-open.result car ts apart ∙ still
    ]
