-- Places that store addresses, and the addresses that they store.
use Rattle.std.specs.Prelude.{ℕ, Bool, false, cond, not, ◌&&◌, ◌==◌, Option, Some, None}
use Rattle.pm_types.specs.declared.address.Addr.{Addr}
use Rattle.pm_types.specs.declared.source.RefSource.{RefSource}
use Rattle.pm_types.specs.declared.source.RefSource.TheVariants.{Root, Handle, Field}

-- whether two addresses are one
abbrev pub same_address : Addr → Addr → Bool
same_address a b = (a.car == b.car) && (a.slot == b.slot)

-- whether two sources are one
abbrev pub same_source : RefSource → RefSource → Bool
same_source (Root m) (Root n) = m == n
same_source (Root m) (Handle d s) = false
same_source (Root m) (Field b j) = false
same_source (Handle c r) (Root n) = false
same_source (Handle c r) (Handle d s) = (c == d) && (r == s)
same_source (Handle c r) (Field b j) = false
same_source (Field a i) (Root n) = false
same_source (Field a i) (Handle d s) = false
same_source (Field a i) (Field b j) = same_address a b && (i == j)

-- whether the source is a field of an object that lies in a car that passes
abbrev pub lies_in : (ℕ → Bool) → RefSource → Bool
lies_in passes (Root n) = false
lies_in passes (Handle c r) = false
lies_in passes (Field a i) = passes a.car

-- whether the source lies outside the car
abbrev pub outside : ℕ → RefSource → Bool
outside car source = not (lies_in (λ c. c == car) source)

-- whether the source is a field of the object at this address
abbrev pub is_field_at : Addr → RefSource → Bool
is_field_at a (Root n) = false
is_field_at a (Handle c r) = false
is_field_at a (Field b i) = same_address a b

-- the slot of the car that the address names, or none where it is null or names another car
abbrev pub slot_in : ℕ → Option Addr → Option ℕ
slot_in car None = None
slot_in car (Some a) = cond (a.car == car) (Some a.slot) None
