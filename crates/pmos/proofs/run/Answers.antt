use denote.Param.Send.{arg_send, param_send}
use denote.Exit.{no}
use Rattle.pm_file.proofs.Crossing.{real_disk_send}
use Rattle.pmos.proofs.run.Goals as goal

pub program-requires-send-D : goal.program-requires-send-D
program-requires-send-D g c κs lives = param_send 1 _ (arg_send _ no _ real_disk_send)

pub program-requires-send-E : goal.program-requires-send-E
program-requires-send-E g c κs lives = param_send 2 _ (arg_send _ no _ real_disk_send)

-- what stands at the start is what was lent
pub returns-clause-performs : goal.returns-clause-performs
returns-clause-performs g c = record {
  disk = c.args.disk;
  other = c.args.other;
  path_is = c.requires.path;
  other_path_is = c.requires.other_path;
  count = c.requires.count;
  uncalled = c.requires.uncalled;
  other_count = c.requires.other_count;
  other_uncalled = c.requires.other_uncalled;
  chosen = c.args._chosen;
  places = c.requires.places;
  place = c.args.place;
  chooses = c.requires.chooses;
  performs = rw c.new-source.ensures at rw c.new-sink.ensures at c.program.ensures.performs;
}
