use Rattle.pm_save.proofs.progress.next.linked.Goals as goal

pub returns-clause-next : goal.returns-clause-next
returns-clause-next c = c.first_part.ensures
