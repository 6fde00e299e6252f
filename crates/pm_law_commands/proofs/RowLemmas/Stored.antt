-- What each source stores once one was set.
use Rattle.std.proofs.Common.{◌≡◌, ℕ, ◌==◌, ◌&&◌, Bool, true, false, cond, refl, ap, sym, ◌∙◌, List, [], ◌∷◌, Option, Some, None, arith, is_some}
use Rattle.std.specs.Option.{IsSome, option_map}
use Rattle.std.specs.Cmp.{eq_by_cmp_equiv}
use Rattle.std.specs.FinMap.{get, entries, get-insert, get-remove}
use Rattle.std.proofs.lemmas.Bool.{eqb-true, true≢false}
use Rattle.std.proofs.lemmas.Bool.Decides.{nat_tests}
use Rattle.pm_types.specs.Mapped.{mapped, mapped_entries}
use Rattle.pm_types.proofs.Mapped.{entries-mapped}
use Rattle.pm_types.specs.Orders.{name_cmp}
use Rattle.pm_types.proofs.Orders.{places_total}
use Rattle.pm_types.specs.declared.address.Addr.{Addr}
use Rattle.pm_types.specs.declared.object.Object.{Object}
use Rattle.pm_types.specs.declared.source.RefSource.{RefSource}
use Rattle.pm_types.specs.declared.source.RefSource.TheVariants.{Root, Handle, Field}
use Rattle.pm_cars.specs.Cars.{with_field}
use Rattle.pm_roots.specs.Bindings.{Bindings, address_in, address_at}
use Rattle.pm_handles.specs.Handles.{with_register}
use Rattle.pm_view.specs.Sources.{same_source, same_address}
use Rattle.pm_view.specs.View.{Registers, SpaceView}
use Rattle.pm_view.specs.Reading.{object_at, field_of, stored, SourceStands}
use Rattle.pm_view.specs.Rows.{readdressed, with_stored, HasValue}
use Rattle.pm_law_commands.proofs.RowLemmas.SameSource.{place_ties, same_address-true}
use Rattle.pm_law_commands.proofs.RowLemmas.Places.{object_after, field_set}

-- ---- roots

turned : (k n : ℕ) → (k == n) ≡ (n == k)
turned k n = grind (arith, nat_tests)

head_readdressed : (n : ℕ) (a : Addr) (k m : ℕ) (b : Addr) (rest : Option Addr) (here there : Bool) → (m == k) ≡ here → (m == n) ≡ there
    → cond here (Some (cond there a b)) (option_map (λ c. cond (n == k) a c) rest) ≡ option_map (λ c. cond (n == k) a c) (cond here (Some b) rest)
head_readdressed n a k m b rest true there is what =
    ap (λ t. Some (cond t a b)) (sym what ∙ ap (λ m. m == n) (eqb-true m k is) ∙ turned k n)
head_readdressed n a k m b rest false there is what = refl

in_readdressed : (n : ℕ) (a : Addr) (k : ℕ) (es : List (List ℕ × (ℕ × Addr))) → address_in k (mapped_entries (readdressed n a) es) ≡ option_map (λ c. cond (n == k) a c) (address_in k es)
in_readdressed n a k [] = refl
in_readdressed n a k (e ∷ es) =
    ap (cond (e.1.0 == k) (Some (cond (e.1.0 == n) a e.1.1))) (in_readdressed n a k es)
    ∙ head_readdressed n a k e.1.0 e.1.1 (address_in k es) (e.1.0 == k) (e.1.0 == n) refl refl

chosen : (b : Bool) (a : Addr) (o : Option Addr) → (b ≡ true → IsSome o) → option_map (λ c. cond b a c) o ≡ cond b (Some a) o
chosen true a None some = absurd (true≢false (sym (some refl)))
chosen true a (Some c) some = refl
chosen false a None some = refl
chosen false a (Some c) some = refl

-- the address under a number, once this number has another one
pub address_after : (roots : Bindings) (n : ℕ) (a : Addr) → IsSome (address_at roots n) → (k : ℕ) → address_at (mapped (readdressed n a) roots) k ≡ cond (n == k) (Some a) (address_at roots k)
address_after roots n a some k =
    ap (address_in k) (entries-mapped name_cmp (readdressed n a) roots)
    ∙ in_readdressed n a k (entries roots)
    ∙ chosen (n == k) a (address_at roots k) (λ is. ap (λ n. is_some (address_at roots n)) (sym (eqb-true n k is)) ∙ some)

-- ---- registers

-- what a register holds once one was set
pub register_after : (registers : Registers) (c r : ℕ) (to : Option Addr) (d s : ℕ) → get (with_register registers (c, r) to) (d, s) ≡ cond ((c == d) && (r == s)) to (get registers (d, s))
register_after registers c r None d s = get-remove places_total registers (c, r) (d, s) ∙ ap (λ b. cond b None (get registers (d, s))) ((eq_by_cmp_equiv places_total).symm (d, s) (c, r) ∙ place_ties c r d s)
register_after registers c r (Some a) d s = get-insert places_total registers (c, r) a (d, s) ∙ ap (λ b. cond b (Some a) (get registers (d, s))) ((eq_by_cmp_equiv places_total).symm (d, s) (c, r) ∙ place_ties c r d s)

-- ---- fields

one_within : (b d : Bool) (x y z : Option Addr) → (b ≡ true → z ≡ y) → cond b (cond d x y) z ≡ cond (b && d) x z
one_within true true x y z h = refl
one_within true false x y z h = sym (h refl)
one_within false d x y z h = refl

of_either : (b : Bool) (o p : Option Object) (j : ℕ) → field_of (cond b o p) j ≡ cond b (field_of o j) (field_of p j)
of_either true o p j = refl
of_either false o p j = refl

-- what each source stores, once one was set
pub stored_after : (view : SpaceView) (x : RefSource) (to : Option Addr) → SourceStands view x → HasValue x to → (y : RefSource) → stored (with_stored view x to) y ≡ cond (same_source x y) to (stored view y)
stored_after view (Root n) None at some y = absurd (true≢false (sym some))
stored_after view (Root n) (Some a) at some (Root k) = address_after view.roots n a at k
stored_after view (Root n) (Some a) at some (Handle d s) = refl
stored_after view (Root n) (Some a) at some (Field b j) = refl
stored_after view (Handle c r) to at some (Root k) = refl
stored_after view (Handle c r) to at some (Handle d s) = register_after view.registers c r to d s
stored_after view (Handle c r) to at some (Field b j) = refl
stored_after view (Field a i) to at some (Root k) = refl
stored_after view (Field a i) to at some (Handle d s) = refl
stored_after view (Field a i) to at some (Field b j) =
    ap (λ o. field_of o j) (object_after view.cars a (λ object. with_field object i to) b)
    ∙ of_either (same_address a b) (option_map (λ object. with_field object i to) (object_at view.cars a)) (object_at view.cars b) j
    ∙ ap (λ f. cond (same_address a b) f (field_of (object_at view.cars b) j)) (field_set (object_at view.cars a) i to at.1 j)
    ∙ one_within (same_address a b) (i == j) to (field_of (object_at view.cars a) j) (field_of (object_at view.cars b) j)
    (λ is. ap (λ a. field_of (object_at view.cars a) j) (sym (same_address-true a b is)))
