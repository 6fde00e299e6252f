use Rattle.std.proofs.Common.{refl}
use Rattle.pm_serial.proofs.Journals.{pushed_last}
use Rattle.pm_talk.proofs.command.last_of.Goals as goal

pub returns : goal.returns
returns c = λ first last pushed. pushed_last first c.args.entries.now last c.index-entries-last.result _ pushed refl c.index-entries-last.is
