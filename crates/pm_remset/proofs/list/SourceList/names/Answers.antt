use Rattle.std.proofs.Common.{sym}
use Rattle.pm_remset.proofs.Naming.{names_it, names_none}
use Rattle.pm_remset.proofs.list.SourceList.names.Goals as goal

pub returns-in-Some : goal.returns-in-Some
returns-in-Some c = sym (names_it c.args.slot c.args.self.now c.in-Some.field-0 c.in-Some.ensures.there)

pub returns-in-None : goal.returns-in-None
returns-in-None c = sym (names_none c.args.slot c.args.self.now c.in-None.ensures)
