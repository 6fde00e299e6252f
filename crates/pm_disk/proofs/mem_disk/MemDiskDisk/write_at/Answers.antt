use Rattle.pm_disk.proofs.DiskSteps.{write_done, write_undone, write_torn, only_torn, all_torn, none_lost}
use Rattle.pm_disk.proofs.mem_disk.MemDiskDisk.write_at.Goals as goal

pub returns-clause-written : goal.returns-clause-written
returns-clause-written c = write_done c.args.self.now c.put.new.self c.args.at c.args.from.now c.put.result c.put.ensures.exact

pub returns-clause-unwritten : goal.returns-clause-unwritten
returns-clause-unwritten c = write_undone c.args.self.now c.put.new.self c.args.at c.args.from.now c.put.result c.put.ensures.exact

pub returns-clause-torn : goal.returns-clause-torn
returns-clause-torn c = write_torn c.args.self.now c.put.new.self c.args.at c.args.from.now c.put.result c.put.ensures.exact

pub returns-clause-only_torn : goal.returns-clause-only_torn
returns-clause-only_torn c = only_torn c.args.self.now c.put.new.self c.args.at c.args.from.now c.put.result c.put.ensures.exact

pub returns-clause-all_torn : goal.returns-clause-all_torn
returns-clause-all_torn c = all_torn c.args.self.now c.put.new.self c.args.at c.args.from.now c.put.result c.put.ensures.exact

pub returns-clause-none_lost : goal.returns-clause-none_lost
returns-clause-none_lost c = none_lost c.args.self.now c.put.new.self c.args.at c.args.from.now c.put.result c.put.ensures.exact
