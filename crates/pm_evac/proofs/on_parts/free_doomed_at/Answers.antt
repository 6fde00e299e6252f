use Rattle.std.proofs.Common.{◌≡◌, ◌==◌, [], length, ap, sym, is_some, ◌∙◌}
use Rattle.std.specs.Option.{unwrap_or}
use Rattle.pm_types.specs.declared.event.Step.TheVariants.{Freed}
use Rattle.pm_trains.specs.Trains.{cars_at}
use Rattle.pm_view.specs.Reading.{cars_of}
use Rattle.pm_view.specs.Events.{free_doomed}
use Rattle.pm_law_commands.proofs.RowLemmas.OpenTrain.{first_home}
use Rattle.pm_law_collect.proofs.PhasesLemmas.Comes.{comes_where}
use Rattle.pm_law_collect.proofs.PhasesLemmas.Fronts.{first_cars}
use Rattle.pm_space.specs.Shown.{view}
use Rattle.pm_evac.specs.Relocate.Changed.{freed}
use Rattle.pm_evac.proofs.Chosen.{made}
use Rattle.pm_evac.proofs.Lawful.{car_stands}
use Rattle.pm_evac.proofs.on_parts.free_doomed_at.Goals as goal

pub cars-requires : goal.cars-requires
cars-requires g c =
    let v = view c.args.parts.now in
    let is = comes_where v (free_doomed c.args.train c.args.car) c.requires.row in
    ap is_some (first_cars (cars_at v.trains.trains c.args.train) c.args.car is.doomed.first).1

pub free-requires-clause-there : goal.free-requires-clause-there
free-requires-clause-there g c =
    let v = view c.args.parts.now in
    let is = comes_where v (free_doomed c.args.train c.args.car) c.requires.row in
    car_stands v c.requires.law c.args.car (ap is_some (first_home v.trains.trains c.args.train c.args.car c.requires.law.built.trains.single is.doomed.first))

pub returns : goal.returns
returns g c =
    let v = view c.args.parts.now in
    let last : (length c.cars.result.now == 1) ≡ (length (cars_of v.trains.trains c.args.train) == 1) = ap (λ o. length (unwrap_or o []) == 1) (sym c.cars.ensures) in record {
      row = record {
        ok = made g.F.Fn c.args.parts.now.place v 0 (view c.free.new.parts) (Freed c.args.car (length c.cars.result.now == 1)) (free_doomed c.args.train c.args.car) 0 c.requires.row tt tt
            (c.in_ok-free.ensures.ok ∙ ap (freed v c.args.train c.args.car) last) (ap (Freed c.args.car) last);
        err = tt;
        rest = c.in_ok-free.ensures.rest;
      };
    }
