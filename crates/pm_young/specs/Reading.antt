-- What registers hold and fields name on both sides.
use Rattle.std.specs.Prelude.{ℕ, Option, Some, None, slice_get}
use Rattle.std.specs.Option.{option_map}
use Rattle.std.specs.FinMap.{get}
use Rattle.pm_model.specs.Heap.{Object}
use Rattle.pm_view.specs.View.{SpaceView}
use Rattle.pm_view.specs.Represents.{names}
use Rattle.pm_view.specs.Commands.{field_at, object_held, register}
use Rattle.pm_nursery.specs.Young.{NurseryView, or_else}

-- what a register holds in the space
abbrev pub held_in_space : SpaceView → ℕ → ℕ → Option ℕ
held_in_space view client reg = names view (register view client reg)

-- what a field holds of the object that a register holds in the space
abbrev pub field_in_space : SpaceView → ℕ → ℕ → ℕ → Option (Option ℕ)
field_in_space view client reg index = option_map (names view) (field_at (object_held view (register view client reg)) index)

-- what a register holds in the nursery, or else in the space
abbrev pub held_here : SpaceView → NurseryView → ℕ → ℕ → Option ℕ
held_here view nursery client reg = or_else (get nursery.registers (client, reg)) (held_in_space view client reg)

-- what a field of this young object holds, or else that of the object that the register holds in the space
abbrev pub field_or_else : Option Object → ℕ → Option (Option ℕ) → Option (Option ℕ)
field_or_else None index other = other
field_or_else (Some object) index other = slice_get object.fields index

abbrev pub field_here : SpaceView → NurseryView → ℕ → ℕ → ℕ → ℕ → Option (Option ℕ)
field_here view nursery client reg id index = field_or_else (get nursery.objects id) index (field_in_space view client reg index)
