-- The sources of two spaces in which the same names have the same addresses, whatever numbers their roots have.
use Rattle.std.proofs.Common.{◌≡◌, ℕ, ◌≤◌, Bool, true, false, cond, refl, sym, ap, ◌∙◌, List, [], ◌∷◌, map, Option, Some, None, is_some}
use Rattle.std.specs.Prelude.{option_map}
use Rattle.std.specs.Ordering.{eq_by_cmp}
use Rattle.std.specs.FinMap.{get, entries, get-entries, contains_key, len}
use Rattle.std.specs.FinMap.Entries.{find}
use Rattle.pm_types.specs.declared.address.Addr.{Addr}
use Rattle.pm_types.specs.declared.source.RefSource.{RefSource}
use Rattle.pm_types.specs.declared.source.RefSource.TheVariants.{Root, Handle, Field}
use Rattle.pm_types.specs.Orders.{name_cmp}
use Rattle.pm_types.proofs.Orders.{sources_total, sources_antisymmetric}
use Rattle.pm_roots.specs.Bindings.{Bindings, address_at, AllNumbersDiffer}
use Rattle.pm_view.specs.View.{SpaceView, Sources}
use Rattle.pm_view.specs.Sources.{outside, slot_in}
use Rattle.pm_view.specs.Reading.{object_at, field_of, stored}
use Rattle.pm_copies.specs.Opened.{unnumbered}
use Rattle.pm_law_commands.proofs.RowLemmas.Numbers.{owner, found_by_number}
use Rattle.pm_inspect.proofs.TellLemmas.Counted.{no_fewer}

-- ---- roots

-- the address that a name has
pub address_of : Option (ℕ × Addr) → Option Addr
address_of = option_map (λ bound. bound.1)

abbrev Rows : Type 0
Rows = List (List ℕ × (ℕ × Addr))

found_unnumbered : (name : List ℕ) (es : Rows) → find name_cmp name (map unnumbered es) ≡ address_of (find name_cmp name es)
unfolding address_of
found_unnumbered name [] = refl
found_unnumbered name (e ∷ es) =
    elim (eq_by_cmp name_cmp name e.0) as (λ b. cond b (Some e.1.1) (find name_cmp name (map unnumbered es)) ≡ option_map (λ (bound : ℕ × Addr). bound.1) (cond b (Some e.1) (find name_cmp name es))) [
      | true ↦ refl
      | false ↦ found_unnumbered name es
    ]

-- the same names have the same addresses
pub AreNamedAlike : Bindings → Bindings → Type 0
AreNamedAlike v w = (name : List ℕ) → address_of (get v name) ≡ address_of (get w name)

pub named_alike : (v w : Bindings) → map unnumbered (entries v) ≡ map unnumbered (entries w) → AreNamedAlike v w
unfolding AreNamedAlike
named_alike v w same name =
    ap address_of (get-entries v name) ∙ sym (found_unnumbered name (entries v)) ∙ ap (find name_cmp name) same ∙ found_unnumbered name (entries w) ∙ ap address_of (sym (get-entries w name))

number_or : ℕ → Option (ℕ × Addr) → ℕ
number_or number None = number
number_or number (Some bound) = bound.0

some_same : (x y : Addr) → Some x ≡ Some y → x ≡ y
some_same x y is = cc

with_number : (bound : Option (ℕ × Addr)) (a : Addr) → address_of bound ≡ Some a → (number : ℕ) × (bound ≡ Some (number, a))
unfolding address_of
with_number None a is = cc
with_number (Some bound) a is = (bound.0, ap (λ (at : Addr). Some (bound.0, at)) (some_same bound.1 a is))

module _ (v w : Bindings) where
  name_by : (number : ℕ) (at : Option Addr) → address_at v number ≡ at → Option (List ℕ)
  name_by number None is = None
  name_by number (Some a) is = Some (owner v number a is).0

  number_by : ℕ → Option (List ℕ) → ℕ
  number_by number None = number
  number_by number (Some name) = number_or number (get w name)

  -- the number that the name of a root has in the other space
  renumbered : ℕ → ℕ
  renumbered number = number_by number (name_by number (address_at v number) refl)

  pub renamed : RefSource → RefSource
  renamed (Root number) = Root (renumbered number)
  renamed (Handle client register) = Handle client register
  renamed (Field a index) = Field a index

  -- a name has this number and address, and in the other space that number, and the address too
  record HasNumbers (number renumbered : ℕ) (a : Addr) : Type 0 where
    name : List ℕ
    other : ℕ
    here : get v name ≡ Some (number, a)
    there : get w name ≡ Some (other, a)
    is : renumbered ≡ other

  has_numbers : AreNamedAlike v w → (number : ℕ) (a : Addr) → address_at v number ≡ Some a → HasNumbers number (renumbered number) a
  unfolding AreNamedAlike renumbered name_by number_by number_or address_of
  has_numbers alike number a is = by (address_at v number) refl is
    where
      by : (found : Option Addr) (at : address_at v number ≡ found) → found ≡ Some a → HasNumbers number (number_by number (name_by number found at)) a
      by None at some = cc
      by (Some b) at some =
          let own = owner v number b at in
          let here : get v own.0 ≡ Some (number, a) = own.1 ∙ ap (λ (x : Addr). Some (number, x)) (some_same b a some) in
          let there = with_number (get w own.0) a (sym (alike own.0) ∙ ap address_of here) in
          record { name = own.0; other = there.0; here = here; there = there.1; is = ap (number_or number) there.1 }

-- ---- sources

root_same : (m n : ℕ) → Root m ≡ Root n → m ≡ n
root_same m n is = cc

number_same : (p q : ℕ × Addr) → Some p ≡ Some q → p.0 ≡ q.0
unfolding number_or
number_same p q is = ap (number_or p.0) is

module _ (view other : SpaceView) (alike : AreNamedAlike view.roots other.roots) (differ : AllNumbersDiffer other.roots) (cars : view.cars ≡ other.cars) (registers : view.registers ≡ other.registers) where
  stores : (x : RefSource) (a : Addr) → stored view x ≡ Some a → stored other (renamed view.roots other.roots x) ≡ Some a
  unfolding renamed
  stores (Root number) a is =
      let has = has_numbers view.roots other.roots alike number a is in
      ap (address_at other.roots) has.is ∙ found_by_number other.roots differ has.name (has.other, a) has.there
  stores (Handle client register) a is = ap (λ held. get held (client, register)) (sym registers) ∙ is
  stores (Field b index) a is = ap (λ cars. field_of (object_at cars b) index) (sym cars) ∙ is

  outside_too : (car : ℕ) (x : RefSource) → outside car (renamed view.roots other.roots x) ≡ outside car x
  unfolding renamed
  outside_too car (Root number) = refl
  outside_too car (Handle client register) = refl
  outside_too car (Field a index) = refl

  module _ (car : ℕ) (s t : Sources) (here : (x : RefSource) → get s x ≡ cond (outside car x) (slot_in car (stored view x)) None) (there : (x : RefSource) → get t x ≡ cond (outside car x) (slot_in car (stored other x)) None) where
    some_stored : (x : RefSource) → contains_key s x ≡ true → (a : Addr) × (stored view x ≡ Some a)
    some_stored x is_in = by (outside car x) (stored view x) refl (sym (ap is_some (here x)) ∙ is_in)
      where
        by : (b : Bool) (o : Option Addr) → stored view x ≡ o → is_some (cond b (slot_in car o) None) ≡ true → (a : Addr) × (stored view x ≡ Some a)
        by b (Some a) is some = (a, is)
        by true None is some = cc
        by false None is some = cc

    goes : (x : RefSource) → contains_key s x ≡ true → contains_key t (renamed view.roots other.roots x) ≡ true
    goes x is_in =
        let at = some_stored x is_in in
        let y = renamed view.roots other.roots x in
        ap is_some (there y)
        ∙ ap (λ (b : Bool). is_some (cond b (slot_in car (stored other y)) None)) (outside_too car x)
        ∙ ap (λ (o : Option Addr). is_some (cond (outside car x) (slot_in car o) None)) (stores x at.0 at.1 ∙ sym at.1)
        ∙ sym (ap is_some (here x)) ∙ is_in

    one : (x y : RefSource) → contains_key s x ≡ true → contains_key s y ≡ true → renamed view.roots other.roots x ≡ renamed view.roots other.roots y → x ≡ y
    unfolding renamed
    one (Root m) (Root n) in_m in_n is =
        let a = some_stored (Root m) in_m in
        let b = some_stored (Root n) in_n in
        let p = has_numbers view.roots other.roots alike m a.0 a.1 in
        let q = has_numbers view.roots other.roots alike n b.0 b.1 in
        let numbers : q.other ≡ p.other = sym q.is ∙ sym (root_same _ _ is) ∙ p.is in
        let names = differ p.name q.name p.other a.0 b.0 p.there (q.there ∙ ap (λ (k : ℕ). Some (k, b.0)) numbers) in
        ap Root (number_same (m, a.0) (n, b.0) (sym p.here ∙ ap (get view.roots) names ∙ q.here))
    one (Root m) (Handle d r) in_m in_n is = cc
    one (Root m) (Field b j) in_m in_n is = cc
    one (Handle c r) (Root n) in_m in_n is = cc
    one (Handle c r) (Handle d k) in_m in_n is = is
    one (Handle c r) (Field b j) in_m in_n is = cc
    one (Field a i) (Root n) in_m in_n is = cc
    one (Field a i) (Handle d r) in_m in_n is = cc
    one (Field a i) (Field b j) in_m in_n is = is

    -- the other set has no fewer sources
    pub sources_no_fewer : len s ≤ len t
    sources_no_fewer = no_fewer sources_total sources_antisymmetric (renamed view.roots other.roots) s t one goes
