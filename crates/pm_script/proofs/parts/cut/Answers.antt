use Rattle.std.proofs.Common.{subst}
use Rattle.memchr.specs.Find.{IsFirstByte, is_byte}
use Rattle.pm_script.proofs.CutLemmas.{cut_at, cut_none}
use Rattle.pm_script.proofs.parts.cut.Goals as goal

pub returns-in-Some-clause-parts : goal.returns-in-Some-clause-parts
returns-in-Some-clause-parts c = cut_at c.args.mark c.args.text.now c.in-Some.at (subst (λ r. IsFirstByte (is_byte c.args.mark) c.args.text.now r) c.in-Some.is c.memchr.ensures)

pub returns-in-None-clause-parts : goal.returns-in-None-clause-parts
returns-in-None-clause-parts c = cut_none c.args.mark c.args.text.now (subst (λ r. IsFirstByte (is_byte c.args.mark) c.args.text.now r) c.in-None.is c.memchr.ensures)
