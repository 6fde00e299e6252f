use Rattle.std.proofs.Common.{refl}
use Rattle.pm_law_collect.proofs.TracesLemmas.Futile.{noted, one_way, goes_on, new_last_car, slot_tells, anchor_leaves, without_anchor}
use Rattle.pm_law_collect.proofs.traces.traces.an_anchor_ends_futile_passes.Goals as goal

pub returns-clause-noted : goal.returns-clause-noted
returns-clause-noted c = noted

pub returns-clause-way : goal.returns-clause-way
returns-clause-way c = one_way

pub returns-clause-anchor : goal.returns-clause-anchor
returns-clause-anchor c = λ bytes. refl

pub returns-clause-own : goal.returns-clause-own
returns-clause-own c = goes_on

pub returns-clause-new_car : goal.returns-clause-new_car
returns-clause-new_car c = new_last_car

pub returns-clause-moved : goal.returns-clause-moved
returns-clause-moved c = slot_tells

pub returns-clause-leaves : goal.returns-clause-leaves
returns-clause-leaves c = anchor_leaves

pub returns-clause-futile : goal.returns-clause-futile
returns-clause-futile c = without_anchor
