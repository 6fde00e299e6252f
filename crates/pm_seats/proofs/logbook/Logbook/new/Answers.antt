use Rattle.std.proofs.Common.{ap, refl, arith}
use Rattle.pm_engine.specs.Shown.{disk_in}
use Rattle.pm_engine.proofs.EventsLemmas.Going.{goes_first}
use Rattle.pm_seats.specs.Shown.{struck_of}
use Rattle.pm_seats.proofs.Keeping.{kept_begun}
use Rattle.pm_seats.proofs.Telling.{numbers_are}
use Rattle.pm_seats.proofs.logbook.Logbook.new.Goals as goal

pub invariant_of-result : goal.invariant_of-result
invariant_of-result g c =
    let engine = c.args.engine in
    let law = c.keep_their_images.ensures in
    let none = c.requires.fresh.stopped in
    record { kept = kept_begun engine c.of-first.result.value c.of-first.ensures c.requires.fresh (goes_first engine none law.legal (law.settled none) (g.met.D.Disk.only_now (disk_in engine))) }

pub returns : goal.returns
returns g c =
    let fresh = c.requires.fresh in
    let events = fresh.events in
    record {
      begins = record {
        engine_is = refl;
        first = c.of-first.ensures;
        log = refl;
        next = refl;
        numbers = numbers_are _ 0 0 0 (g.D.Disk.count (disk_in c.args.engine)) 0 fresh.steps (omega (arith, events)) (ap struck_of fresh.stopped) refl events;
      };
    }
