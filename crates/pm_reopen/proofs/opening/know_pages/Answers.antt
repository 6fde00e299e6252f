use Rattle.pm_shadow.specs.Pages.{state}
use Rattle.pm_shadow.proofs.CopyLemmas.{listed_idle}
use Rattle.pm_reopen.proofs.opening.know_pages.Goals as goal

pub returns-clause-state : goal.returns-clause-state
returns-clause-state g c = record {
  again = λ known. (let no = c.is_known.ensures in let not = c.if-is_known.false in absurd (cc (known, no, not)));
  first = λ unknown. c.in_ok-commit_list.ensures.state;
  idle = λ unknown. listed_idle c.args.used.now (state c.commit_list.new.self).uses c.in_ok-commit_list.ensures.listed;
}
