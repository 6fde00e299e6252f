use Rattle.std.proofs.Common.{◌≤◌, arith, ℕ, sym, subst, List, [], length, None}
use Rattle.std.specs.FinMap.{entries, len-entries}
use Rattle.pm_types.specs.declared.address.Addr.{Addr}
use Rattle.pm_space.specs.Shown.{view}
use Rattle.pm_walk.specs.declared.walk.Found.{Found}
use Rattle.pm_walk.specs.Walked.{AreFoundBy}
use Rattle.pm_walk.proofs.Growing.{found_not, found_twice}
use Rattle.pm_walk.proofs.Steps.{nothing_found, no_names_met, one_more_name, name_bound, name_leads_to, all_names_met}
use Rattle.pm_walk.proofs.walk.begin.Goals as goal

pub loop-place-init : goal.loop-place-init
loop-place-init g c =
    let v = view c.args.space.now.parts in
    let walk = c.new_walk-walk.result in
    record { sound = nothing_found v walk c.new_walk-walk.ensures.found c.new_walk-walk.ensures.met; by = subst (λ (xs : List Found). AreFoundBy [] xs None) (sym c.new_walk-walk.ensures.found) (found_not [] None); met = no_names_met v walk }

pub meet-requires-clause-kept : goal.meet-requires-clause-kept
meet-requires-clause-kept g c =
    let v = view c.args.space.now.parts in
    let e : List ℕ × (ℕ × Addr) = (c.nth.result.0.now, (c.nth.result.1, c.nth.result.2)) in
    c.a_copy_is_walked_by_addresses.ensures.root v e.0 e.1 c.args.space.now.kept (name_bound v.roots c.loop-place.place e c.nth.ensures)

pub meet-requires-clause-led : goal.meet-requires-clause-led
meet-requires-clause-led g c =
    let v = view c.args.space.now.parts in
    let e : List ℕ × (ℕ × Addr) = (c.nth.result.0.now, (c.nth.result.1, c.nth.result.2)) in
    name_leads_to v c.loop-place.walk.found.items c.loop-place.place e c.nth.ensures

pub loop-place-preserved : goal.loop-place-preserved
loop-place-preserved g c =
    let v = view c.args.space.now.parts in
    let e : List ℕ × (ℕ × Addr) = (c.nth.result.0.now, (c.nth.result.1, c.nth.result.2)) in
    let step = c.in_ok-meet.ensures in
    record { sound = step.sound; by = found_twice [] c.loop-place.walk c.meet.new.walk None step.grows c.loop-place.invariant.by step.by; met = one_more_name v c.loop-place.walk c.meet.new.walk c.loop-place.place e step.grows c.loop-place.invariant.met c.nth.ensures step.met }

pub returns-clause-begun : goal.returns-clause-begun
returns-clause-begun g c =
    let v = view c.args.space.now.parts in
    let all : length (entries v.roots) ≤ c.loop-place.place = omega (arith, c.loop-place-test.false, c.len-place-end.ensures, len-entries v.roots) in
    all_names_met v c.loop-place.walk c.loop-place.place all c.loop-place.invariant.met
