use Rattle.std.proofs.Common.{ℕ, ◌-◌, ◌≤◌, rules, List, [], ◌∷◌, ◌++◌, ap, sym, ◌∙◌}
use Rattle.pm_types.specs.declared.object.Slot.{Slot}
use Rattle.pm_restore.specs.Packing.Packing.{address_of}
use Rattle.pm_restore.proofs.PartLemmas.{slots_more}
use Rattle.pm_restore.proofs.slots.slots_between.Goals as goal

pub loop-place-preserved : goal.loop-place-preserved
loop-place-preserved c =
    let objects = c.args.dump.now.objects in
    let l = c.loop-place in
    let behind : c.args.from ≤ l.place = search rules in
    c.in_ok-push.ensures.items
    ∙ ap (λ (slots : List (ℕ × Slot)). slots ++ (l.place - c.args.from, c.in_ok-slot.slot) ∷ []) l.invariant
    ∙ sym (slots_more (address_of objects) objects c.args.from l.place c.in_ok-slot.slot behind c.in_ok-slot.ensures)
