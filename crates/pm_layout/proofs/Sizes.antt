-- How long the spellings are.
use Rattle.std.proofs.Common.{◌≡◌, ℕ, ◌*◌, List, [], ◌∷◌, ◌++◌, length, Option, Some, None, refl, ap, ◌∙◌, append_assoc, arith, length-append}
use Rattle.std.specs.Global.{Vec}
use Rattle.std.specs.List.{flat_map}
use Rattle.pm_types.specs.declared.address.Addr.{Addr}
use Rattle.pm_types.specs.declared.object.Slot.{Slot}
use Rattle.pm_types.specs.declared.object.Slot.TheVariants.{Live, Moved}
use Rattle.pm_layout.specs.Room.{Appends}
use Rattle.pm_layout.specs.Spelling.{address, field, spelling, slot_size}

-- a field has 12 bytes
pub field_length : (f : Option Addr) → length (field f) ≡ 12
unfolding field address
field_length None = refl
field_length (Some a) = refl

-- fields have 12 bytes each
pub fields_length : (fs : List (Option Addr)) → length (flat_map field fs) ≡ 12 * length fs
fields_length [] = refl
fields_length (f ∷ fs) = omega (arith, length-append (field f) (flat_map field fs), field_length f, fields_length fs)

-- a slot has its size
pub spelling_length : (slot : Slot) → length (spelling slot) ≡ slot_size slot
unfolding spelling address
spelling_length (Live o) = omega (arith, length-append (flat_map field o.fields) o.bytes, fields_length o.fields)
spelling_length (Moved to) = refl

-- one text was written after the other
pub Appends-then : (a b c : Vec ℕ) (x y : List ℕ) → Appends a b x → Appends b c y → Appends a c (x ++ y)
Appends-then a b c x y first second = record {
  items = second.items ∙ ap (λ (t : List ℕ). t ++ y) first.items ∙ append_assoc a.items x y;
  len = omega (arith, first.len, second.len, length-append x y);
  capacity = omega (arith, first.capacity, second.capacity);
}
