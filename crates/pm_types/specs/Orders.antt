-- The orders of names, of places of registers, of addresses, and of what stores an address.
use Rattle.std.specs.Prelude.{ℕ, List}
use Rattle.std.specs.declared.cmp.Ordering.{Ordering}
use Rattle.std.specs.declared.cmp.Ordering.TheVariants.{Less, Greater}
use Rattle.std.specs.Ordering.{nat_cmp, ordering_then}
use Rattle.std.specs.Cmp.Lexicographic.{slice_cmp}
use Rattle.pm_types.specs.declared.address.Addr.{Addr}
use Rattle.pm_types.specs.declared.source.RefSource.{RefSource}
use Rattle.pm_types.specs.declared.source.RefSource.TheVariants.{Root, Handle, Field}

-- names are ordered by their bytes
abbrev pub name_cmp : List ℕ → List ℕ → Ordering
name_cmp = slice_cmp nat_cmp

-- places of registers are ordered by the client, and then by the register
abbrev pub place_cmp : ℕ × ℕ → ℕ × ℕ → Ordering
place_cmp a b = ordering_then (nat_cmp a.0 b.0) (nat_cmp a.1 b.1)

-- addresses are ordered by the car, and then by the slot
abbrev pub address_cmp : Addr → Addr → Ordering
address_cmp a b = ordering_then (nat_cmp a.car b.car) (nat_cmp a.slot b.slot)

-- sources are ordered by their kinds, roots before registers before fields, and then by their numbers from left to right
abbrev pub source_cmp : RefSource → RefSource → Ordering
source_cmp (Root m) (Root n) = nat_cmp m n
source_cmp (Root m) (Handle d s) = Less
source_cmp (Root m) (Field b j) = Less
source_cmp (Handle c r) (Root n) = Greater
source_cmp (Handle c r) (Handle d s) = ordering_then (nat_cmp c d) (nat_cmp r s)
source_cmp (Handle c r) (Field b j) = Less
source_cmp (Field a i) (Root n) = Greater
source_cmp (Field a i) (Handle d s) = Greater
source_cmp (Field a i) (Field b j) = ordering_then (address_cmp a b) (nat_cmp i j)
