use Rattle.pm_script.specs.Lines.{parts_in}
use Rattle.pm_script.specs.Values.{name_of}
use Rattle.pm_script.specs.declared.fault.Cause.TheVariants as cause
use Rattle.pm_script.proofs.TakingLaws.{takes}
use Rattle.pm_script.proofs.command.name.Goals as goal

pub returns : goal.returns
returns c = takes c.name_word.result name_of cause.Name (parts_in 32 c.args.words.now) c.in_ok-word.word.now (parts_in 32 c.next_word.new.words) c.in_ok-word.ensures c.name_word.ensures
