-- Young objects that are written in place, or taken away.
use Rattle.std.proofs.Common.{◌≡◌, ℕ, ◌+◌, ◌<◌, Bool, true, false, cond, not, if◌then◌else◌, ◌||◌, nat_eq, List, [], ◌∷◌, ◌++◌, length, take, get_or, set, Option, Some, None, refl, sym, ap, subst, ◌∙◌, arith}
use Rattle.std.specs.Option.{IsSomeAnd}
use Rattle.std.specs.List.{filter, list_any}
use Rattle.std.specs.List.Sorted.{IsStrictlySortedBy}
use Rattle.std.specs.Map.{keys_of}
use Rattle.std.specs.Ordering.{nat_cmp, eq_by_cmp}
use Rattle.std.specs.Cmp.{nat_cmp_total}
use Rattle.std.specs.FinMap.{from_entries, get, insert, remove, get-remove, nat_cmp-IsAntisymmetric}
use Rattle.std.proofs.lemmas.Bool.Decides.{nat_tests}
use Rattle.std.proofs.lemmas.List.{take_more}
use Rattle.pm_model.specs.Heap.{Object, Heap}
use Rattle.pm_model.proofs.Maps.{retain_get}
use Rattle.pm_model.proofs.Retained.{retained}
use Rattle.pm_nursery.specs.Rows.{IsAt, IsGap}
use Rattle.pm_nursery.specs.Sweeping.{among}
use Rattle.pm_nursery.specs.Walking.{AreGone}
use Rattle.pm_nursery.proofs.Rows.{entry_key, found, missed, put_old, sorted_old}

-- ---- one that is written in place

module _ (es : List (ℕ × Object)) (v : Heap) (seen : from_entries {R = nat_cmp} es ≡ v) (rise : IsStrictlySortedBy nat_cmp (keys_of es)) (id at : ℕ) where
  module _ (e : ℕ × Object) (is : IsAt (keys_of es) id at) (read : e ≡ get_or es at e) where
    pub found_there : get v id ≡ Some e.1
    found_there = ap (λ (heap : Heap). get heap id) (sym seen) ∙ found nat_cmp_total nat_cmp-IsAntisymmetric es rise id at e is ∙ ap (λ (x : ℕ × Object). Some x.1) (sym read)

    pub same_young : (object : Object) → get v id ≡ Some object → e.1 ≡ object
    same_young object there = cc (found_there, there)

    -- what was asked of the object holds of the one that was lent
    pub asked : (P : Object → Type 0) → IsSomeAnd (get v id) P → P e.1
    asked P holds = let at : IsSomeAnd (Some e.1) P = subst (λ (o : Option Object). IsSomeAnd o P) found_there holds in at

    same_key : e.0 ≡ id
    same_key = ap (λ (x : ℕ × Object). x.0) read ∙ entry_key nat_cmp_total nat_cmp-IsAntisymmetric es id at e is

    -- the entries once it was written
    set_entry : (w : Object) → set es at (e.0, w) ≡ set es at ((get_or es at e).0, w)
    set_entry w = ap (λ (x : ℕ × Object). set es at (x.0, w)) read

    pub written : (w : Object) → from_entries {R = nat_cmp} (set es at (e.0, w)) ≡ insert v id w
    written w = ap (λ (xs : List (ℕ × Object)). from_entries {R = nat_cmp} xs) (set_entry w) ∙ put_old nat_cmp_total nat_cmp-IsAntisymmetric es rise id at e is w ∙ ap (λ (heap : Heap). insert heap id w) seen

    pub still_rise : (w : Object) → IsStrictlySortedBy nat_cmp (keys_of (set es at (e.0, w)))
    still_rise w = subst (λ (xs : List (ℕ × Object)). IsStrictlySortedBy nat_cmp (keys_of xs)) (sym (set_entry w)) (sorted_old nat_cmp_total nat_cmp-IsAntisymmetric es rise id at e is w)

  -- an object is there, and none was found
  pub none_there : IsGap nat_cmp (keys_of es) id at → (object : Object) → get v id ≡ Some object → ⊥
  none_there gap object there =
      let gone : get v id ≡ None = ap (λ (heap : Heap). get heap id) (sym seen) ∙ missed nat_cmp_total nat_cmp-IsAntisymmetric es rise id at gap in cc (gone, there)

-- ---- those that are taken away

pub among-push : (ids : List ℕ) (last id : ℕ) → among (ids ++ last ∷ []) id ≡ (among ids id || nat_eq last id)
among-push [] last id = or_false (nat_eq last id)
  where
    or_false : (b : Bool) → (b || false) ≡ b
    or_false true = refl
    or_false false = refl
among-push (first ∷ ids) last id = ap (λ b. nat_eq first id || b) (among-push ids last id) ∙ or_assoc (nat_eq first id) (among ids id) (nat_eq last id)
  where
    or_assoc : (a b c : Bool) → (a || (b || c)) ≡ ((a || b) || c)
    or_assoc true b c = refl
    or_assoc false b c = refl

pub among-more : (ids : List ℕ) (i id : ℕ) → i < length ids → among (take (i + 1) ids) id ≡ (among (take i ids) id || nat_eq (get_or ids i 0) id)
among-more ids i id inside = ap (λ (xs : List ℕ). among xs id) (take_more ids i 0 inside) ∙ among-push (take i ids) (get_or ids i 0) id

tied_id : (q k : ℕ) → eq_by_cmp nat_cmp q k ≡ nat_eq k q
tied_id q k = grind (arith, nat_tests)

gone_step : (b c : Bool) (old : Option Object) → cond c None (if b then None else old) ≡ (if b || c then None else old)
gone_step true true old = refl
gone_step true false old = refl
gone_step false true old = refl
gone_step false false old = refl

pub gone_more : (objects before after : Heap) (ids : List ℕ) (i : ℕ) → i < length ids → AreGone objects (take i ids) before → after ≡ remove before (get_or ids i 0) → AreGone objects (take (i + 1) ids) after
gone_more objects before after ids i inside gone is id =
    ap (λ (heap : Heap). get heap id) is
    ∙ get-remove nat_cmp_total before (get_or ids i 0) id
    ∙ (λ j. cond (tied_id id (get_or ids i 0) j) None (gone id j))
    ∙ gone_step (among (take i ids) id) (nat_eq (get_or ids i 0) id) (get objects id)
    ∙ ap (λ b. if b then None else get objects id) (sym (among-more ids i id inside))

-- a test lets the others stay
among_any : (ids : List ℕ) (id : ℕ) → list_any (λ other. nat_eq other id) ids ≡ among ids id
among_any [] id = refl
among_any (first ∷ ids) id = ap (λ b. nat_eq first id || b) (among_any ids id)

pub others_left : (old new : List (ℕ × Object)) (v : Heap) (ids : List ℕ) → from_entries {R = nat_cmp} old ≡ v → new ≡ filter (λ (e : ℕ × Object). not (list_any (λ other. nat_eq other e.0) ids)) old → AreGone v ids (from_entries {R = nat_cmp} new)
others_left old new v ids is left id =
    ap (λ (heap : Heap). get heap id) (retained nat_cmp_total nat_cmp-IsAntisymmetric (λ k. not (list_any (λ other. nat_eq other k) ids)) old new v is left)
    ∙ retain_get nat_cmp_total nat_cmp-IsAntisymmetric v (λ k. not (list_any (λ other. nat_eq other k) ids)) id
    ∙ by (list_any (λ other. nat_eq other id) ids) (get v id)
    ∙ ap (λ b. if b then None else get v id) (among_any ids id)
  where
    by : (b : Bool) (o : Option Object) → cond (not b) o None ≡ (if b then None else o)
    by true o = refl
    by false o = refl
