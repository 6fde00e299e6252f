use Rattle.std.proofs.Common.{◌≡◌, ◌++◌, ◌∷◌, Option, take}
use Rattle.std.specs.List.{flat_map}
use Rattle.pm_types.specs.declared.address.Addr.{Addr}
use Rattle.pm_dump.specs.Dump.{field_word}
use Rattle.pm_view.specs.Represents.{names}
use Rattle.pm_space.specs.Shown.{view}
use Rattle.pm_walk.proofs.text.append_fields.Given as goal

-- the fields so far
abbrev pub invariant-loop-field : goal.invariant-loop-field
invariant-loop-field g l = l.out.items ≡ l.initial.out.items ++ flat_map (λ (field : Option Addr). 32 ∷ field_word (names (view l.parts) field)) (take l.field-index l.fields)
