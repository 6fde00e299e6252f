use Rattle.std.proofs.Common.{rules}
use Rattle.pm_save.specs.Writer.Settling.{settling_syncs, settling_writes}
use Rattle.pm_engine.specs.Works.Working.{disk_at, saving_in, state_in}
use Rattle.pm_engine.proofs.works.works.Works.answer.Goals as goal
use Rattle.pm_engine.proofs.WorksLemmas.Kept.{lasts_so, still_made, still_told}

pub returns-in_err-answer_still-in_default-clause-fails : goal.returns-in_err-answer_still-in_default-clause-fails
returns-in_err-answer_still-in_default-clause-fails g c =
    let old = c.args.self.now in
    let still = c.answer_still.ensures.still in
    let so = lasts_so old c.answer_still.new.self (g.met.D.Disk.only_now (disk_at old)) c.requires.tied c.answer_still.ensures.tied still.disk still.lasts in
    record { rests = search rules; memory = search (rules, so); fault = search rules }

pub returns-in_err-answer_still-in_default-clause-causes : goal.returns-in_err-answer_still-in_default-clause-causes
returns-in_err-answer_still-in_default-clause-causes g c =
    let old = c.args.self.now in
    let new = c.answer_still.new.self in
    let same = c.answer_still.ensures.still.disk in
    record {
      cause = search rules;
      made = still_made g.D.Disk (settling_writes (saving_in old) (state_in old)) (settling_syncs (state_in old)) (disk_at old) (disk_at new) same;
      told = still_told g.D.Disk (settling_writes (saving_in old) (state_in old)) (settling_syncs (state_in old)) (disk_at old) (disk_at new) same;
    }

pub returns-in_ok-answer_still-in_default-clause-causes : goal.returns-in_ok-answer_still-in_default-clause-causes
returns-in_ok-answer_still-in_default-clause-causes g c =
    let old = c.args.self.now in
    let new = c.answer_still.new.self in
    let same = c.answer_still.ensures.still.disk in
    record {
      cause = search rules;
      made = still_made g.D.Disk (settling_writes (saving_in old) (state_in old)) (settling_syncs (state_in old)) (disk_at old) (disk_at new) same;
      told = still_told g.D.Disk (settling_writes (saving_in old) (state_in old)) (settling_syncs (state_in old)) (disk_at old) (disk_at new) same;
    }
