use Rattle.std.proofs.Common.{rules, ◌≤◌, refl, arith}
use Rattle.pm_saving.specs.Progress.{cars_or_none}
use Rattle.pm_engine.specs.Works.Working.{disk_at, frozen_in, room_in, saving_in, state_in}
use Rattle.pm_engine.proofs.works.works.Works.settle.Goals as goal
use Rattle.pm_engine.proofs.WorksLemmas.Kept.{either_of, lasts_so, pages_last, rests_on, spares_still}

pub returns-in_err-reserve-clause-fails : goal.returns-in_err-reserve-clause-fails
returns-in_err-reserve-clause-fails g c =
    let old = c.args.self.now in
    let so = lasts_so old (record old { journal = c.reserve.new.self }) (g.met.D.Disk.only_now (disk_at old)) c.requires.tied c.requires.tied refl (pages_last old (record old { journal = c.reserve.new.self }) refl) in
    record { rests = search rules; memory = search (rules, so); fault = search rules }

pub returns-in_err-reserve-clause-leaves : goal.returns-in_err-reserve-clause-leaves
returns-in_err-reserve-clause-leaves g c =
    let old = c.args.self.now in
    record {
      leaves = record {
        either = either_of g.D.Disk.contents g.D.Disk.moment g.D.Disk.since (saving_in old).progress (cars_or_none (frozen_in old)) (state_in old) (disk_at old) (disk_at old)
            (spares_still old old (g.met.D.Disk.only_now (disk_at old)) refl c.requires.tied.sound);
        none = λ none. refl;
      };
      short = search rules;
    }

pub returns-in_err-number-clause-fails : goal.returns-in_err-number-clause-fails
returns-in_err-number-clause-fails g c =
    let old = c.args.self.now in
    let new = record old { pages = c.settle.new.pages; space = c.settle.new.space; saver = c.settle.new.self; journal = c.reserve.new.self } in
    let grown = c.reserve.ensures in
    let room : room_in old ≤ room_in new = first_of (search rules, omega (arith, grown)) in
    let rests = rests_on old new refl c.reserve.ensures.items refl refl refl refl room c.settle.ensures.space.view c.in_err-number.ensures.space.frozen c.in_err-number.ensures.goes in
    record { rests = search (rules, rests); memory = search rules; fault = search rules }
