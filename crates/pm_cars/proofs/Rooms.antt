-- What is summed over all slots, after one slot was filled or emptied.
use Rattle.std.proofs.Common.{◌≡◌, ℕ, ◌+◌, ◌==◌, Bool, true, false, ◌&&◌, cond, refl, ap, sym, subst, ◌∙◌, arith, List, [], ◌∷◌, length, Option, Some, None, unwrap_or, option_map}
use Rattle.std.specs.Prelude.{T}
use Rattle.std.specs.declared.cmp.Ordering.{Ordering}
use Rattle.std.specs.declared.cmp.Ordering.TheVariants.{Less, Equal, Greater}
use Rattle.std.specs.Cmp.{nat_cmp_total, unsigned_tied}
use Rattle.std.specs.Ordering.{nat_cmp, is_lt, eq_by_cmp, match_ordering}
use Rattle.std.specs.List.{AllByRecursion, sum_by}
use Rattle.std.specs.List.Sorted.{IsStrictlySortedBy}
use Rattle.std.specs.Map.{lookup, keys_of, values_of}
use Rattle.std.specs.BTreeMap.{insert_entry, is_at}
use Rattle.std.specs.FinMap.{put, is_sorted, entries, entries_sorted, entries-insert, get, get-entries, get-insert, get-remove, insert, remove, empty, len-empty, len-entries, same_map, nat_cmp-IsAntisymmetric}
use Rattle.std.specs.FinMap.Entries.{below_all, by_order}
use Rattle.std.proofs.lemmas.Bool.{eqb-true}
use Rattle.std.proofs.lemmas.Bool.Decides.{nat_tests}
use Rattle.std.proofs.lemmas.Map.Entries.{sum_by-insert_entry}
use Rattle.pm_types.specs.declared.object.Slot.{Slot}
use Rattle.pm_types.specs.declared.object.Object.{Object}
use Rattle.pm_types.specs.declared.object.Slot.TheVariants.{Live, Moved}
use Rattle.pm_cars.specs.Cars.{Slots, total, object_of}
use Rattle.pm_types.proofs.Shown.{find-lookup}

both_of : (a b : Bool) → T (a && b) → T a × T b
both_of true b h = (tt, h)
both_of false b h = absurd h

less_of : (r : Ordering) → T (is_lt r) → r ≡ Less
less_of Less h = refl
less_of Equal h = absurd h
less_of Greater h = absurd h

module _ {K X : Type 0} (R : K → K → Ordering) where
  all_below : (x : K) (es : List (K × X)) → T (below_all R x es) → AllByRecursion (λ y. R x y ≡ Less) (keys_of es)
  all_below x [] h = tt
  all_below x (e ∷ es) h = let both = both_of _ _ h in (less_of _ both.0, all_below x es both.1)

  keys_sorted : (es : List (K × X)) → T (is_sorted R es) → IsStrictlySortedBy R (keys_of es)
  unfolding IsStrictlySortedBy
  keys_sorted [] h = tt
  keys_sorted (e ∷ es) h = let both = both_of _ _ h in (all_below e.0 es both.0, keys_sorted es both.1)

  put_is : (k : K) (v : X) (es : List (K × X)) → put R k v es ≡ insert_entry R es k v
  put_is k v [] = refl
  put_is k v (e ∷ es) =
      elim (R k e.0) as (λ r. ◌≡◌ {A = List (K × X)} (by_order r ((k, v) ∷ e ∷ es) ((e.0, v) ∷ es) (e ∷ put R k v es)) (match_ordering r ((k, v) ∷ e ∷ es) ((e.0, v) ∷ es) (e ∷ insert_entry R es k v))) [
        | Less ↦ refl
        | Equal ↦ refl
        | Greater ↦ ap (λ rest. e ∷ rest) (put_is k v es)
      ]

no_length : {A : Type 0} (xs : List A) → length xs ≡ 0 → xs ≡ []
no_length [] is = refl
no_length (x ∷ xs) is = absurd (omega arith)

refilled : {X : Type 0} (b : Bool) (content : X) (old : Option X) → (b ≡ true → old ≡ Some content) → cond b (Some content) (cond b None old) ≡ old
refilled true content old is = sym (is refl)
refilled false content old is = refl

emptied : {X : Type 0} (b : Bool) (old : Option X) → (b ≡ true → old ≡ None) → cond b None old ≡ old
emptied true old is = sym (is refl)
emptied false old is = refl

-- the keys tie where they are equal
same_key : (slots : Slots) (q k : ℕ) → eq_by_cmp nat_cmp q k ≡ true → get slots q ≡ get slots k
same_key slots q k tied = ap (get slots) (eqb-true q k (sym (unsigned_tied q k) ∙ tied))

eqb_same : (k : ℕ) → (k == k) ≡ true
eqb_same k = grind (arith, nat_tests)

gone_at_itself : (slots : Slots) (k : ℕ) → get (remove slots k) k ≡ None
gone_at_itself slots k = get-remove nat_cmp_total slots k k ∙ ap (λ b. cond b None (get slots k)) (unsigned_tied k k ∙ eqb_same k)

module _ (f : Slot → ℕ) where
  -- what counts for what may stand in a slot
  abbrev pub counted : Option Slot → ℕ
  counted None = 0
  counted (Some content) = f content

  -- where an object stands, the object counts
  pub counted_live : (o : Option Slot) (object : Object) → object_of o ≡ Some object → counted o ≡ f (Live object)
  counted_live None object is = cc
  counted_live (Some (Live it)) object is = ap some_counted is
    where
      some_counted : Option Object → ℕ
      some_counted None = 0
      some_counted (Some object) = f (Live object)
  counted_live (Some (Moved to)) object is = cc

  counted_is : (o : Option Slot) → unwrap_or (option_map f o) 0 ≡ counted o
  counted_is None = refl
  counted_is (Some content) = refl

  -- over no slot the sum is nothing
  pub total_empty : total f empty ≡ 0
  total_empty =
      let none : entries (empty {X = Slot} {R = nat_cmp}) ≡ [] = no_length _ (sym (len-entries (empty {X = Slot} {R = nat_cmp})) ∙ len-empty nat_cmp Slot) in
      ap (λ es. sum_by f (values_of es)) none

  -- what a slot is filled with is added, and what it held goes
  pub total_insert : (slots : Slots) (k : ℕ) (content : Slot) → total f (insert slots k content) + counted (get slots k) ≡ total f slots + f content
  total_insert slots k content =
      let es = entries slots in
      let filled : entries (insert slots k content) ≡ insert_entry nat_cmp es k content = entries-insert nat_cmp_total slots k content ∙ put_is nat_cmp k content es in
      let held : counted (get slots k) ≡ unwrap_or (option_map f (lookup (is_at (nat_cmp k)) es)) 0 =
      sym (counted_is (get slots k)) ∙ ap (λ (o : Option Slot). unwrap_or (option_map f o) 0) (get-entries slots k ∙ find-lookup nat_cmp_total k es) in
      (λ i. sum_by f (values_of (filled i)) + held i) ∙ sum_by-insert_entry f nat_cmp_total es k content (keys_sorted nat_cmp es (entries_sorted slots))

  total_remove_of : (slots : Slots) (k : ℕ) (o : Option Slot) → get slots k ≡ o → total f (remove slots k) + counted o ≡ total f slots
  total_remove_of slots k None is =
      let stays : remove slots k ≡ slots =
      same_map nat_cmp_total nat_cmp-IsAntisymmetric _ _ (λ q. get-remove nat_cmp_total slots k q ∙ emptied (eq_by_cmp nat_cmp q k) (get slots q) (λ tied. same_key slots q k tied ∙ is)) in
      let same : total f (remove slots k) ≡ total f slots = ap (total f) stays in
      omega arith
  total_remove_of slots k (Some content) is =
      let rest = remove slots k in
      let back : insert rest k content ≡ slots =
      same_map nat_cmp_total nat_cmp-IsAntisymmetric _ _ (λ q.
      get-insert nat_cmp_total rest k content q ∙ ap (cond (eq_by_cmp nat_cmp q k) (Some content)) (get-remove nat_cmp_total slots k q)
      ∙ refilled (eq_by_cmp nat_cmp q k) content (get slots q) (λ tied. same_key slots q k tied ∙ is)) in
      let same : total f (insert rest k content) ≡ total f slots = ap (total f) back in
      let law : total f (insert rest k content) + 0 ≡ total f rest + f content =
      subst (λ (o : Option Slot). total f (insert rest k content) + counted o ≡ total f rest + f content) (gone_at_itself slots k) (total_insert rest k content) in
      omega arith

  -- what a slot that is emptied held goes
  pub total_remove : (slots : Slots) (k : ℕ) → total f (remove slots k) + counted (get slots k) ≡ total f slots
  total_remove slots k = total_remove_of slots k (get slots k) refl
