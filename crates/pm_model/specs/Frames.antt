-- What each command may change. All else it leaves as it is.
use Rattle.std.specs.Prelude.{◌≡◌, ℕ, Bool, true, false, nat_eq, List, Option, Some, None, IsSomeAnd}
use Rattle.pm_types.specs.declared.command.Cmd.{Cmd}
use Rattle.pm_types.specs.declared.command.Cmd.TheVariants.{New, Load, Store, Clear, Put, Copy, Forget, Bind, Unbind, Find, Save, Settle, Watch, Close, Swap, Unsave}
use Rattle.pm_model.specs.World.{World, held}

-- the command makes an object
abbrev pub makes_object : Cmd → Bool
makes_object (New reg count bytes) = true
makes_object cmd = false

-- the register whose object the command changes, if it changes one
abbrev pub changed_object : Cmd → Option ℕ
changed_object (Store reg index value) = Some reg
changed_object (Clear reg index) = Some reg
changed_object (Put reg at bytes) = Some reg
changed_object (Swap reg index old value) = Some reg
changed_object cmd = None

-- the register whose object's field the command changes, and the field, if it changes one
abbrev pub changed_field : Cmd → Option (ℕ × ℕ)
changed_field (Store reg index value) = Some (reg, index)
changed_field (Clear reg index) = Some (reg, index)
changed_field (Swap reg index old value) = Some (reg, index)
changed_field cmd = None

-- the name that the command binds or unbinds, if it does
abbrev pub changed_name : Cmd → Option (List ℕ)
changed_name (Bind name reg) = Some name
changed_name (Unbind name) = Some name
changed_name cmd = None

-- the command sets or empties this register
abbrev pub sets_register : Cmd → ℕ → Bool
sets_register (New reg count bytes) register = nat_eq reg register
sets_register (Load to reg index) register = nat_eq to register
sets_register (Copy to reg) register = nat_eq to register
sets_register (Forget reg) register = nat_eq reg register
sets_register (Find to name) register = nat_eq to register
sets_register Close register = true
sets_register cmd register = false

-- the command begins, settles or drops a copy
abbrev pub saves : Cmd → Bool
saves Save = true
saves Settle = true
saves Unsave = true
saves cmd = false

-- the command is `settle`
abbrev pub is_settle : Cmd → Bool
is_settle Settle = true
is_settle cmd = false

-- the command sets a watch
abbrev pub sets_watch : Cmd → Bool
sets_watch Watch = true
sets_watch cmd = false

-- the command may make an object under this identity, the next one
abbrev pub Makes : World → Cmd → ℕ → Type 0
Makes world cmd id = (makes_object cmd ≡ true) × (id ≡ world.next)

-- the client's command may change this object
abbrev pub MayChange : World → ℕ → Cmd → ℕ → Type 0
MayChange world client cmd id = IsSomeAnd (changed_object cmd) (λ reg. held world client reg ≡ Some id)

-- the client's command may change this field of this object
abbrev pub MayChangeField : World → ℕ → Cmd → ℕ → ℕ → Type 0
MayChangeField world client cmd id index = IsSomeAnd (changed_field cmd) (λ place. (held world client place.0 ≡ Some id) × (place.1 ≡ index))
