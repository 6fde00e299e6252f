-- The index of who holds which identity, where a register is set, emptied, or all of a client are.
use Rattle.std.proofs.Common.{◌≡◌, ⊎_elim, ℕ, ◌&&◌, nat_eq, not, Bool, true, false, cond, List, [], Option, Some, None, refl, sym, ap, subst, ◌∙◌, arith}
use Rattle.std.specs.List.{list_any, filter}
use Rattle.std.specs.List.Sorted.{IsStrictlySortedBy}
use Rattle.std.specs.Ordering.{is_eq, nat_cmp, eq_by_cmp}
use Rattle.std.specs.Cmp.{eq_by_cmp_equiv, tied_then}
use Rattle.std.specs.FinMap.{get, empty, insert, remove, retain_keys, get-empty, get-insert, get-remove}
use Rattle.std.specs.BTreeMap.{is_at}
use Rattle.std.proofs.lemmas.Bool.Decides.{nat_tests}
use Rattle.std.proofs.lemmas.List.Kept.{IsStrictlySortedBy-filter}
use Rattle.std.proofs.lemmas.Map.Views.{any-filter_same}
use Rattle.pm_types.specs.Orders.{place_cmp}
use Rattle.pm_types.proofs.Orders.{places_total, places_antisymmetric}
use Rattle.pm_types.proofs.Shown.{tied}
use Rattle.pm_model.specs.World.{Registers}
use Rattle.pm_model.proofs.Maps.{insert_cases, remove_cases, retain_cases, retain_get}
use Rattle.pm_nursery.specs.Young.{IsRegister}
use Rattle.pm_nursery.specs.Turned.{Adds, Exchanges, Pair, Rise, Takes, has, holder_cmp}
use Rattle.pm_nursery.specs.Holding.{IsTurned, is_id}

tied_number : (m n : ℕ) → is_eq (nat_cmp m n) ≡ nat_eq m n
tied_number m n = grind (arith, nat_tests)

-- pairs tie where both parts do
pub at_holder : (id s : ℕ) (place q : ℕ × ℕ) → is_at (holder_cmp (id, place)) (s, q) ≡ (nat_eq id s && eq_by_cmp place_cmp q place)
at_holder id s place q =
    sym (tied_then (nat_cmp id s) (place_cmp place q))
    ∙ (λ i. tied_number id s i && sym ((eq_by_cmp_equiv places_total).symm q place) i)

-- whether an identity was found where a register was set, or emptied
is_id_given : (t : Bool) (id s : ℕ) (found : Option ℕ) → is_id (cond t (Some id) found) s ≡ cond t (nat_eq id s) (is_id found s)
is_id_given true id s found = refl
is_id_given false id s found = refl

is_id_gone : (t : Bool) (s : ℕ) (found : Option ℕ) → is_id (cond t None found) s ≡ cond t false (is_id found s)
is_id_gone true s found = refl
is_id_gone false s found = refl

is_id_kept : (t : Bool) (s : ℕ) (found : Option ℕ) → is_id (cond t found None) s ≡ (t && is_id found s)
is_id_kept true s found = refl
is_id_kept false s found = refl

-- t tells whether a register is the one that is set or emptied, b whether an identity is the new one, o whether it is the old one, and w what the index answered
given : (t b w : Bool) → (t ≡ true → w ≡ false) → cond (b && t) true w ≡ cond t b w
given true true w h = refl
given true false w h = h refl
given false true w h = refl
given false false w h = refl

moved : (t b o w : Bool) → (t ≡ true → w ≡ o) → cond (b && t) true (cond (o && t) false w) ≡ cond t b w
moved true true o w h = refl
moved true false true w h = refl
moved true false false w h = h refl
moved false true true w h = refl
moved false true false w h = refl
moved false false true w h = refl
moved false false false w h = refl

gone : (t o w : Bool) → (t ≡ true → w ≡ o) → cond (o && t) false w ≡ cond t false w
gone true true w h = refl
gone true false w h = h refl
gone false true w h = refl
gone false false w h = refl

module _ (registers : Registers) (turned : List Pair) (kept : IsTurned registers turned) (place : ℕ × ℕ) where
  -- what the index answers at the register, by what it holds
  index_at : (found : Option ℕ) → get registers place ≡ found → (q : ℕ × ℕ) (s : ℕ) → eq_by_cmp place_cmp q place ≡ true → has turned (s, q) ≡ is_id found s
  index_at found is q s tie = kept.same s q ∙ ap (λ (x : ℕ × ℕ). is_id (get registers x) s) (places_antisymmetric q place (tied (place_cmp q place) tie)) ∙ ap (λ f. is_id f s) is

  -- what the register holds stands in it, and nothing else does
  pub there : (old : ℕ) → get registers place ≡ Some old → has turned (old, place) ≡ true
  there old is = kept.same old place ∙ ap (λ f. is_id f old) is ∙ grind (arith, nat_tests)

  pub not_there : (found : Option ℕ) → get registers place ≡ found → (id : ℕ) → is_id found id ≡ false → has turned (id, place) ≡ false
  not_there found is id other = kept.same id place ∙ ap (λ f. is_id f id) is ∙ other

  module _ (id : ℕ) (is_register : IsRegister place) where
    -- what is found once the register was set
    set_now : (s : ℕ) (q : ℕ × ℕ) → cond (eq_by_cmp place_cmp q place) (nat_eq id s) (has turned (s, q)) ≡ is_id (get (insert registers place id) q) s
    set_now s q =
        ap (cond (eq_by_cmp place_cmp q place) (nat_eq id s)) (kept.same s q)
        ∙ sym (is_id_given (eq_by_cmp place_cmp q place) id s (get registers q))
        ∙ ap (λ f. is_id f s) (sym (get-insert places_total registers place id q))

    places_now : (q : ℕ × ℕ) (x : ℕ) → get (insert registers place id) q ≡ Some x → IsRegister q
    places_now q x here =
        ⊎_elim
        (λ (it : (q ≡ place) × (id ≡ x)). subst IsRegister (sym it.0) is_register)
        (λ (it : (q ≡ place → ⊥) × (get registers q ≡ Some x)). kept.places q x it.1)
        (insert_cases places_total places_antisymmetric registers place id q x here)

    -- it held nothing
    pub put_turned : get registers place ≡ None → (after : List Pair) → Adds turned (id, place) after → IsTurned (insert registers place id) after
    put_turned is after adds = record {
      rise = adds.rise;
      same = λ s q. adds.each (s, q)
          ∙ ap (λ b. cond b true (has turned (s, q))) (at_holder id s place q)
          ∙ given (eq_by_cmp place_cmp q place) (nat_eq id s) (has turned (s, q)) (index_at None is q s)
          ∙ set_now s q;
      places = places_now;
    }

    -- it held another
    pub moved_turned : (old : ℕ) → get registers place ≡ Some old → (after : List Pair) → Exchanges turned (old, place) (id, place) after → IsTurned (insert registers place id) after
    moved_turned old is after exchanges = record {
      rise = exchanges.rise;
      same = λ s q. exchanges.each (s, q)
          ∙ (λ i. cond (at_holder id s place q i) true (cond (at_holder old s place q i) false (has turned (s, q))))
          ∙ moved (eq_by_cmp place_cmp q place) (nat_eq id s) (nat_eq old s) (has turned (s, q)) (index_at (Some old) is q s)
          ∙ set_now s q;
      places = places_now;
    }

  -- it was emptied
  pub taken_turned : (old : ℕ) → get registers place ≡ Some old → (after : List Pair) → Takes turned (old, place) after → IsTurned (remove registers place) after
  taken_turned old is after takes = record {
    rise = takes.rise;
    same = λ s q. takes.each (s, q)
        ∙ ap (λ b. cond b false (has turned (s, q))) (at_holder old s place q)
        ∙ gone (eq_by_cmp place_cmp q place) (nat_eq old s) (has turned (s, q)) (index_at (Some old) is q s)
        ∙ ap (cond (eq_by_cmp place_cmp q place) false) (kept.same s q)
        ∙ sym (is_id_gone (eq_by_cmp place_cmp q place) s (get registers q))
        ∙ ap (λ f. is_id f s) (sym (get-remove places_total registers place q));
    places = λ q x here. kept.places q x (remove_cases places_total places_antisymmetric registers place q x here);
  }

-- none of a client is left
same_client : (client s d r : ℕ) (p : ℕ × (ℕ × ℕ)) → is_at (holder_cmp (s, (d, r))) p ≡ true → not (nat_eq p.1.0 client) ≡ not (nat_eq d client)
same_client client s d r p at = ap (λ (x : ℕ). not (nat_eq x client)) (first (sym (at_holder s p.0 (d, r) p.1) ∙ at))
  where
    second : (a b : Bool) → (a && b) ≡ true → b ≡ true
    second true b is = is
    second false b is = cc is

    first : (nat_eq s p.0 && eq_by_cmp place_cmp p.1 (d, r)) ≡ true → p.1.0 ≡ d
    first both = ap (λ (x : ℕ × ℕ). x.0) (places_antisymmetric p.1 (d, r) (tied (place_cmp p.1 (d, r)) (second (nat_eq s p.0) (eq_by_cmp place_cmp p.1 (d, r)) both)))

pub closed_turned : (registers : Registers) (turned : List Pair) → IsTurned registers turned → (client : ℕ) (n : List Pair) → n ≡ filter (λ p. not (nat_eq p.1.0 client)) turned
    → IsTurned (retain_keys registers (λ place. not (nat_eq place.0 client))) n
closed_turned registers turned kept client n keys = record {
  rise = subst Rise (sym keys) (IsStrictlySortedBy-filter holder_cmp (λ p. not (nat_eq p.1.0 client)) turned kept.rise);
  same = λ s q.
      ap (λ (ks : List (ℕ × (ℕ × ℕ))). list_any (is_at (holder_cmp (s, q))) ks) keys
      ∙ any-filter_same (is_at (holder_cmp (s, q))) (λ p. not (nat_eq p.1.0 client)) (not (nat_eq q.0 client)) (same_client client s q.0 q.1) turned
      ∙ ap (λ b. not (nat_eq q.0 client) && b) (kept.same s q)
      ∙ sym (is_id_kept (not (nat_eq q.0 client)) s (get registers q))
      ∙ ap (λ f. is_id f s) (sym (retain_get places_total places_antisymmetric registers (λ place. not (nat_eq place.0 client)) q));
  places = λ q x here. kept.places q x (retain_cases places_total places_antisymmetric registers (λ place. not (nat_eq place.0 client)) q x here);
}

none_rise : Rise []
unfolding IsStrictlySortedBy
none_rise = tt

-- nothing is held
pub none_turned : (registers : Registers) (n : List Pair) → registers ≡ empty → n ≡ [] → IsTurned registers n
none_turned registers n none keys = record {
  rise = subst Rise (sym keys) none_rise;
  same = λ s q. ap (λ (ks : List (ℕ × (ℕ × ℕ))). list_any (is_at (holder_cmp (s, q))) ks) keys ∙ ap (λ f. is_id f s) (sym (ap (λ (r : Registers). get r q) none ∙ get-empty place_cmp q));
  places = λ q x here. absurd (let gone : get registers q ≡ None = ap (λ (r : Registers). get r q) none ∙ get-empty place_cmp q in cc (gone, here));
}
