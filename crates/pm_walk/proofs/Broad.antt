-- A walk goes breadth first.
use Rattle.std.proofs.Common.{◌≡◌, ◌⊎◌, inl, inr, ℕ, ◌<◌, ◌≤◌, ◌+◌, true, false, nat_eq, eq-eqb, get_or, refl, ap, sym, subst, ◌∙◌, List, [], length, Option, Some, None, arith}
use Rattle.std.specs.List.{slice_get}
use Rattle.std.specs.Option.{IsSome, IsSomeAnd, IfSome}
use Rattle.std.specs.FinMap.{get}
use Rattle.std.proofs.lemmas.Bool.{cases_lt}
use Rattle.std.proofs.lemmas.Option.{same_Some, slice_get_within, slice_get-get_or}
use Rattle.pm_types.specs.declared.address.Addr.{Addr}
use Rattle.pm_types.specs.declared.source.RefSource.TheVariants.{Field}
use Rattle.pm_view.specs.View.{SpaceView}
use Rattle.pm_view.specs.Reading.{stored, named_by}
use Rattle.pm_view.specs.Law.{HeapLaw}
use Rattle.pm_copies.specs.Listed.{copy_in}
use Rattle.pm_model.specs.Heap.{Object}
use Rattle.pm_walk.specs.declared.walk.Found.{Found}
use Rattle.pm_walk.specs.declared.walk.Walk.{Walk}
use Rattle.pm_walk.specs.Walked.{met_in, IsMet, IsSoundWalk, Grows, AreFoundBy, IsBegun, IsDoneAt, IsWholeWalk, turn, IsMetBy, IsBroadWalk}
use Rattle.pm_walk.proofs.Lists.{known}
use Rattle.pm_walk.proofs.Steps.{split_lt}
use Rattle.pm_walk.proofs.Heaps.{all_met}

-- no object was found later than when so many were looked at
abbrev pub AreTurns : Walk → ℕ → Type 0
AreTurns walk count = (place : ℕ) (one : Found) → slice_get walk.found.items place ≡ Some one → turn one.from ≤ count

-- the first so many objects have another identity
abbrev pub ArePassed : Walk → ℕ → ℕ → Type 0
ArePassed walk id count = (place : ℕ) (one : Found) → place < count → slice_get walk.found.items place ≡ Some one → one.id ≡ id → ⊥

-- what was met was found by now
met_by_now : (view : SpaceView) (walk : Walk) (count : ℕ) (to : Addr) → IsSoundWalk view walk → AreTurns walk count → IsMet view walk to → IsMetBy view walk.found.items count to
met_by_now view walk count to sound turns met = of (named_by view to) met
  where
    of : (o : Option ℕ) → IfSome o (λ id. IsSome (get (met_in walk) id)) → IfSome o (λ id. (place : ℕ) × IsSomeAnd (slice_get walk.found.items place) (λ one. (one.id ≡ id) × (turn one.from ≤ count)))
    of None met = tt
    of (Some id) met =
        let there = known (get (met_in walk) id) met in
        let it = sound.only id there.0 there.1 in
        (it.0, subst (λ (o : Option Found). IsSomeAnd o (λ one. (one.id ≡ id) × (turn one.from ≤ count))) (sym it.2) (it.3, turns it.0 it.1 it.2))

-- the one of this identity, found by then
abbrev IsBy : ℕ → ℕ → Found → Type 0
IsBy count id one = (one.id ≡ id) × (turn one.from ≤ count)

-- and stays so
still_met : (view : SpaceView) (old new : Walk) (count : ℕ) (to : Addr) → Grows old new → IsMetBy view old.found.items count to → IsMetBy view new.found.items count to
still_met view old new count to grows met = of (named_by view to) met
  where
    there : (id place : ℕ) (o : Option Found) → slice_get old.found.items place ≡ o → IsSomeAnd o (IsBy count id) → IsSomeAnd (slice_get new.found.items place) (IsBy count id)
    there id place None is and = absurd and
    there id place (Some one) is and = subst (λ (o : Option Found). IsSomeAnd o (IsBy count id)) (sym (grows.found place one is)) and

    of : (o : Option ℕ) → IfSome o (λ id. (place : ℕ) × IsSomeAnd (slice_get old.found.items place) (IsBy count id)) → IfSome o (λ id. (place : ℕ) × IsSomeAnd (slice_get new.found.items place) (IsBy count id))
    of None met = tt
    of (Some id) met = (met.0, there id met.0 (slice_get old.found.items met.0) refl met.1)

no_turn : (from : Option ℕ) → from ≡ None → turn from ≤ 0
no_turn from is = subst (λ (o : Option ℕ). turn o ≤ 0) (sym is) (omega arith)

module _ (view : SpaceView) (walk : Walk) (sound : IsSoundWalk view walk) (begun : IsBegun view walk) (by : AreFoundBy [] walk.found.items None) where
  pub begun_turns : AreTurns walk 0
  begun_turns place one is = no_turn one.from (by place one (omega arith) is)

  pub begun_broad : IsBroadWalk view walk 0
  begun_broad = record {
    rise = λ place later one two before is are. zero_least one.from (turn two.from) (begun_turns place one is);
    names = λ name bound is. met_by_now view walk 0 bound.1 sound begun_turns (begun name bound is);
    fields = λ place one index to below. absurd (none_below place below);
  }
    where
      zero_least : (from : Option ℕ) (n : ℕ) → turn from ≤ 0 → turn from ≤ n
      zero_least from n small = omega (arith, small)

      none_below : (n : ℕ) → n < 0 → ⊥
      none_below n below = omega (arith, below)

-- an element of the longer list is one of the shorter, or stands behind it
old_or_new : (old new : Walk) (place : ℕ) (one : Found) → Grows old new → slice_get new.found.items place ≡ Some one → (slice_get old.found.items place ≡ Some one) ⊎ (length old.found.items ≤ place)
old_or_new old new place one grows is = elim (cases_lt place (length old.found.items)) [
  | inl before ↦
      let there = slice_get-get_or old.found.items place one before in
      inl (there ∙ sym (grows.found place (get_or old.found.items place one) there) ∙ is)
  | inr behind ↦ inr behind
]

le_next : (a b : ℕ) → a ≤ b → a ≤ b + 1
le_next a b small = omega (arith, small)

le_through : (a b c d : ℕ) → a ≤ b → b + 1 ≡ c → c ≡ d → a ≤ d
le_through a b c d small next same = omega (arith, small, next, same)

same_turn : (place : ℕ) (from : Option ℕ) → from ≡ Some place → place + 1 ≡ turn from
same_turn place from is = sym (ap turn is)

module _ (view : SpaceView) (old new : Walk) (count : ℕ) (within : count < length old.found.items) (sound : IsSoundWalk view new) (grows : Grows old new) (done : IsDoneAt view new count) (by : AreFoundBy old.found.items new.found.items (Some count))
    (turns : AreTurns old count) where
  pub more_turns : AreTurns new (count + 1)
  more_turns place one is = elim (old_or_new old new place one grows is) [
    | inl there ↦ le_next (turn one.from) count (turns place one there)
    | inr behind ↦ subst (λ n. turn one.from ≤ n) (sym (same_turn count one.from (by place one behind is))) (omega arith)
  ]

  more_rise : IsBroadWalk view old count → (place later : ℕ) (one two : Found) → place ≤ later → slice_get new.found.items place ≡ Some one → slice_get new.found.items later ≡ Some two → turn one.from ≤ turn two.from
  more_rise broad place later one two before is are = elim (old_or_new old new later two grows are) [
    | inl there ↦ elim (old_or_new old new place one grows is) [
      | inl here ↦ broad.rise place later one two before here there
      | inr behind ↦ absurd (apart (slice_get_within old.found.items later two there) behind)
    ]
    | inr last ↦ subst (λ n. turn one.from ≤ n) (same_turn count two.from (by later two last are)) (more_turns place one is)
  ]
    where
      apart : later < length old.found.items → length old.found.items ≤ place → ⊥
      apart small large = omega (arith, before, small, large)

  more_fields : IsBroadWalk view old count → (place : ℕ) (one : Found) (index : ℕ) (to : Addr) → place < count + 1 → slice_get new.found.items place ≡ Some one → stored view (Field one.at index) ≡ Some to → IsMetBy view new.found.items (place + 1) to
  more_fields broad place one index to below is holds = elim (split_lt count place below) [
    | inl before ↦ elim (old_or_new old new place one grows is) [
      | inl there ↦ still_met view old new (place + 1) to grows (broad.fields place one index to before there holds)
      | inr behind ↦ absurd (apart before behind)
    ]
    | inr last ↦ subst (λ n. IsMetBy view new.found.items (n + 1) to) (sym last) (met_by_now view new (count + 1) to sound more_turns (done one index to (subst (λ n. slice_get new.found.items n ≡ Some one) last is) holds))
  ]
    where
      apart : place < count → length old.found.items ≤ place → ⊥
      apart small large = omega (arith, within, small, large)

  pub more_broad : IsBroadWalk view old count → IsBroadWalk view new (count + 1)
  more_broad broad = record {
    rise = more_rise broad;
    names = λ name bound is. still_met view old new 0 bound.1 grows (broad.names name bound is);
    fields = more_fields broad;
  }

  pub more_passed : (id : ℕ) → ((one : Found) → slice_get old.found.items count ≡ Some one → one.id ≡ id → ⊥) → ArePassed old id count → ArePassed new id (count + 1)
  more_passed id other passed place one below are = elim (split_lt count place below) [
    | inl before ↦ elim (old_or_new old new place one grows are) [
      | inl there ↦ passed place one before there
      | inr behind ↦ absurd (apart place before behind)
    ]
    | inr last ↦
        let there = slice_get-get_or old.found.items count one within in
        let here : slice_get old.found.items count ≡ Some one = there ∙ sym (grows.found count (get_or old.found.items count one) there) ∙ subst (λ n. slice_get new.found.items n ≡ Some one) last are in
        other one here
  ]
    where
      apart : (place : ℕ) → place < count → length old.found.items ≤ place → ⊥
      apart place small large = omega (arith, within, small, large)

-- what stands at a place is one
pub other_one : (xs : List Found) (place id : ℕ) (here one : Found) → slice_get xs place ≡ Some here → nat_eq here.id id ≡ false → slice_get xs place ≡ Some one → one.id ≡ id → ⊥
other_one xs place id here one is other are same = true_false (sym (eq-eqb here.id id (ap (λ (f : Found). f.id) (same_Some here one (sym is ∙ are)) ∙ same)) ∙ other)
  where
    true_false : true ≡ false → ⊥
    true_false is = cc is

pub none_passed : (walk : Walk) (id : ℕ) → ArePassed walk id 0
none_passed walk id place one below = absurd (no place below)
  where
    no : (n : ℕ) → n < 0 → ⊥
    no n below = omega (arith, below)

-- what a whole walk did not find is not in the copy
pub not_found : (view : SpaceView) → HeapLaw view → (walk : Walk) → IsSoundWalk view walk → IsWholeWalk view walk → (id count : ℕ) → length walk.found.items ≤ count → ArePassed walk id count → get (copy_in view).heap id ≡ None
not_found view law walk sound whole id count all passed = none (get (copy_in view).heap id) (λ some. all_met view law walk sound whole id some)
  where
    within : (place : ℕ) → place < length walk.found.items → place < count
    within place below = omega (arith, all, below)

    unmet : IsSome (get (met_in walk) id) → ⊥
    unmet met =
        let there = known (get (met_in walk) id) met in
        let it = sound.only id there.0 there.1 in
        passed it.0 it.1 (within it.0 (slice_get_within walk.found.items it.0 it.1 it.2)) it.2 it.3

    none : (o : Option Object) → (IsSome o → IsSome (get (met_in walk) id)) → o ≡ None
    none None met = refl
    none (Some x) met = absurd (unmet (met refl))
