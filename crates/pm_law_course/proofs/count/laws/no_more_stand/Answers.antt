use Rattle.pm_law_course.proofs.CountLemmas.Spaces as spaces
use Rattle.pm_law_course.proofs.count.laws.no_more_stand.Goals as goal

pub returns-clause-no_more : goal.returns-clause-no_more
returns-clause-no_more c = λ view t cs ds law then once comes. spaces.no_more_stand view t law then cs ds once comes

pub returns-clause-fewer : goal.returns-clause-fewer
returns-clause-fewer c = λ view t cs ds left from law then once comes stood among gone. spaces.one_fewer_stands view t law then cs ds once comes left from stood among gone

pub returns-clause-one : goal.returns-clause-one
returns-clause-one c = λ view t cs ds new law then once comes. spaces.one_more_stands view t law then cs ds once new comes
