use Rattle.std.proofs.Common.{map, refl}
use Rattle.pm_copies.specs.Plans.{root_entry}
use Rattle.pm_ship.specs.Stores.{offered}
use Rattle.pm_ship.proofs.BeginLemmas.{begins_offered, frozen_offered, planned_offered, same_offered, within_offered}
use Rattle.pm_ship.proofs.CarLemmas.{found_alone}
use Rattle.pm_ship.proofs.next_copy.begin.Goals as goal

pub new-requires : goal.new-requires
new-requires c =
    let first = c.args.first in
    found_alone (offered first).list first.cars c.requires.may.listed
    (c.a_listed_copy_begins_beside_the_settled_one.ensures.found (offered first).list (map root_entry first.roots.items) first.next c.requires.may.accepted)

pub begin_listed-requires-clause-within : goal.begin_listed-requires-clause-within
begin_listed-requires-clause-within c =
    let first = c.args.first in
    within_offered c.args.standby.settled _ (offered first).list c.in_ok-placed.placed.items c.new-writer.ensures
    (planned_offered first c.args.standby.settled c.as_slice-settled.result.now c.deref.result.now c.as_slice.result.now c.in_ok-placed.placed.items
    c.as_slice-settled.ensures c.deref.ensures.value c.as_slice.ensures c.in_ok-placed.ensures)

pub returns : goal.returns
returns c =
    let first = c.args.first in
    let planned = planned_offered first c.args.standby.settled c.as_slice-settled.result.now c.deref.result.now c.as_slice.result.now c.in_ok-placed.placed.items
    c.as_slice-settled.ensures c.deref.ensures.value c.as_slice.ensures c.in_ok-placed.ensures in
    let frozen = frozen_offered first c.in_ok-listed.listed c.requires.may c.in_ok-listed.ensures
    (c.a_listed_copy_begins_beside_the_settled_one.ensures.found (offered first).list (map root_entry first.roots.items) first.next c.requires.may.accepted) in
    record {
      begun = begins_offered (offered first) c.args.standby.settled c.in_ok-listed.listed _ _ c.in_ok-placed.placed.items first.roots.items first.next first.epoch
          c.new-writer.ensures planned refl refl refl c.requires.differ frozen
          (same_offered first c.in_ok-listed.listed c.requires.may c.in_ok-listed.ensures) c.requires.may.accepted
          c.in_ok-begin_listed.ensures.begun c.in_ok-begin_listed.ensures.copy c.in_ok-begin_listed.ensures.tied;
    }
