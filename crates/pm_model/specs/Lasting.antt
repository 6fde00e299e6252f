-- What fields and bytes hold, and keep while commands pass.
use Rattle.std.specs.Prelude.{ℕ, List, [], ◌∷◌, Option, Some, None, slice_get}
use Rattle.std.specs.FinMap.{get}
use Rattle.pm_types.specs.declared.entry.Entry.{Entry}
use Rattle.pm_types.specs.declared.reply.Reply.{Reply}
use Rattle.pm_types.specs.declared.reply.Reply.TheVariants.{Ident, Null}
use Rattle.pm_model.specs.Heap.{field_of}
use Rattle.pm_model.specs.World.{World}
use Rattle.pm_model.specs.Answer.{answer, bytes_of}
use Rattle.pm_model.specs.Frames.{MayChangeField}

-- what a field of an object holds in a world, null or an identity; nothing where there is no such field
abbrev pub field_at : World → ℕ → ℕ → Option (Option ℕ)
field_at world id index = field_of (get world.heap id) index

-- a byte of an object in a world; nothing where there is no such byte
abbrev pub byte_at : World → ℕ → ℕ → Option ℕ
byte_at world id place = slice_get (bytes_of (get world.heap id)) place

-- no entry of the journal changes this field of this object
abbrev pub IsUntouched : World → List Entry → ℕ → ℕ → Type 0
IsUntouched world [] id index = Unit {0}
IsUntouched world (entry ∷ rest) id index = (MayChangeField world entry.client entry.cmd id index → ⊥) × IsUntouched (answer world entry.client entry.cmd).1 rest id index

-- what `load` says of a field that holds this
abbrev pub loaded : Option ℕ → Reply
loaded None = Null
loaded (Some id) = Ident id
