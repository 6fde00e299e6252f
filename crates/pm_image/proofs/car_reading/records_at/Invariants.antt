use Rattle.std.proofs.Common.{◌≡◌, ◌+◌, ◌-◌, ◌≤◌}
use Rattle.std.specs.Prelude.{None}
use Rattle.pm_types.specs.declared.limits.TheConstants.{PAGE_BYTES, CAR_HEAD_BYTES, LAST_SLOT}
use Rattle.pm_image.specs.CarPages.{records_at}
use Rattle.pm_image.specs.CarAnswers.{a_car}
use Rattle.pm_image.specs.Graphs.{with_identities}
use Rattle.pm_types.proofs.Fronts.{with_front_of}
use Rattle.pm_image.proofs.car_reading.records_at.Given as goal

abbrev pub invariant-loop : goal.invariant-loop
invariant-loop l = record {
  so_far : with_front_of l.records.items (records_at (a_car l.most l.next None) l.met l.least l.page (l.count - l.counter) l.place) ≡ records_at (a_car l.most l.next None) l.fn.met 0 l.page l.count CAR_HEAD_BYTES;
  known : l.met ≡ with_identities l.fn.met l.records.items;
  inside : l.place ≤ PAGE_BYTES;
  last : l.least ≤ LAST_SLOT + 1;
}
