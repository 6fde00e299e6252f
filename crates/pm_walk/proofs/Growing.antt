-- One more object is found.
use Rattle.std.proofs.Common.{◌≡◌, ◌⊎◌, inl, inr, ℕ, ◌<◌, ◌≤◌, get_or, arith, refl, ap, sym, subst, ◌∙◌, cond, Bool, true, false, List, [], ◌∷◌, ◌++◌, length, Option, Some, None, is_some}
use Rattle.std.specs.List.{slice_get}
use Rattle.std.specs.Option.{IsSome, IsSomeAnd, IfSome}
use Rattle.std.specs.Cmp.{nat_cmp_total, eq_by_cmp_equiv}
use Rattle.std.specs.Ordering.{nat_cmp, eq_by_cmp}
use Rattle.std.specs.FinMap.{get, insert, get-insert, nat_cmp-IsAntisymmetric}
use Rattle.std.proofs.lemmas.Bool.{cases_lt}
use Rattle.std.proofs.lemmas.Option.{same_Some, slice_get_within, slice_get-get_or}
use Rattle.std.proofs.lemmas.Map.Views.{tells_apart}
use Rattle.pm_types.specs.declared.address.Addr.{Addr}
use Rattle.pm_types.specs.declared.source.RefSource.TheVariants.{Field}
use Rattle.pm_view.specs.View.{SpaceView}
use Rattle.pm_view.specs.Reading.{stored, resolve, named_by}
use Rattle.pm_walk.specs.declared.walk.Found.{Found}
use Rattle.pm_walk.specs.declared.walk.Walk.{Walk}
use Rattle.pm_walk.specs.Walked.{met_in, IsMet, LeadsTo, IsFoundAt, IsSoundWalk, Grows, AreFoundBy}
use Rattle.pm_walk.proofs.Lists.{not_none, in_front, at_end, front_or_end}

-- what leads to an address still does when more was found
some_more : (xs ys : List Found) (place : ℕ) (P : Found → Type 0) (o : Option Found) → slice_get xs place ≡ o → IsSomeAnd o P → IsSomeAnd (slice_get (xs ++ ys) place) P
some_more xs ys place P None is and = absurd and
some_more xs ys place P (Some x) is and = subst (λ (o : Option Found). IsSomeAnd o P) (sym (in_front xs ys place x is)) and

leads_more : (view : SpaceView) (xs ys : List Found) (place : ℕ) (from : Option ℕ) (index : ℕ) (at : Addr) → LeadsTo view xs place from index at → LeadsTo view (xs ++ ys) place from index at
leads_more view xs ys place None index at led = led
leads_more view xs ys place (Some from) index at led =
    (led.0, some_more xs ys from (λ holder. IsSomeAnd (stored view (Field holder.at index)) (λ to. resolve view to ≡ at)) (slice_get xs from) refl led.1)

found_more : (view : SpaceView) (xs ys : List Found) (place : ℕ) (one : Found) → IsFoundAt view xs place one → IsFoundAt view (xs ++ ys) place one
found_more view xs ys place one is = record { object = is.object; kept = is.kept; identity = is.identity; led = leads_more view xs ys place one.from one.index one.at is.led }

-- what was met stays so
pub met_grows : (view : SpaceView) (old new : Walk) (to : Addr) → Grows old new → IsMet view old to → IsMet view new to
met_grows view old new to grows is = of (named_by view to) is
  where
    of : (o : Option ℕ) → IfSome o (λ id. IsSome (get (met_in old) id)) → IfSome o (λ id. IsSome (get (met_in new) id))
    of None is = tt
    of (Some id) is = grows.met id is

pub grows_twice : (old between new : Walk) → Grows old between → Grows between new → Grows old new
grows_twice old between new first second = record {
  found = λ place one is. second.found place one (first.found place one is);
  met = λ id is. second.met id (first.met id is);
}

-- nothing stands behind a list
past_end : {A : Type 0} (xs : List A) (place : ℕ) (x : A) → length xs ≤ place → slice_get xs place ≡ Some x → ⊥
past_end xs place x behind is = no (slice_get_within xs place x is)
  where
    no : place < length xs → ⊥
    no within = omega (arith, behind, within)

pub found_not : (xs : List Found) (from : Option ℕ) → AreFoundBy xs xs from
found_not xs from place one behind is = absurd (past_end xs place one behind is)

pub found_one : (xs : List Found) (one : Found) → AreFoundBy xs (xs ++ one ∷ []) one.from
found_one xs one place other behind is = elim (front_or_end xs one place other is) [
  | inl there ↦ absurd (past_end xs place other behind there)
  | inr last ↦ ap (λ (f : Found). f.from) (sym last.1)
]

pub found_twice : (old : List Found) (between new : Walk) (from : Option ℕ) → Grows between new → AreFoundBy old between.found.items from → AreFoundBy between.found.items new.found.items from → AreFoundBy old new.found.items from
found_twice old between new from grows first second place one behind is = elim (cases_lt place (length between.found.items)) [
  | inl before ↦
      let there = slice_get-get_or between.found.items place one before in
      let other = get_or between.found.items place one in
      let same : other ≡ one = same_Some other one (sym (grows.found place other there) ∙ is) in
      ap (λ (f : Found). f.from) (sym same) ∙ first place other behind there
  | inr later ↦ second place one later is
]

module _ (old new : Walk) (one : Found) (found : new.found.items ≡ old.found.items ++ one ∷ []) (met : met_in new ≡ insert (met_in old) one.id one.at) where
  answer : (id : ℕ) → get (met_in new) id ≡ cond (eq_by_cmp nat_cmp id one.id) (Some one.at) (get (met_in old) id)
  answer id = ap (λ m. get m id) met ∙ get-insert nat_cmp_total (met_in old) one.id one.at id

  newest : get (met_in new) one.id ≡ Some one.at
  newest = answer one.id ∙ ap (λ b. cond b (Some one.at) (get (met_in old) one.id)) ((eq_by_cmp_equiv nat_cmp_total).refl one.id)

  either : (id : ℕ) (a : Addr) → get (met_in new) id ≡ Some a → (one.id ≡ id) ⊎ (get (met_in old) id ≡ Some a)
  either id a is = elim (eq_by_cmp nat_cmp id one.id) as (λ b. eq_by_cmp nat_cmp id one.id ≡ b → cond b (Some one.at) (get (met_in old) id) ≡ Some a → (one.id ≡ id) ⊎ (get (met_in old) id ≡ Some a)) [
    | true ↦ λ tied is. inl (sym (tells_apart nat_cmp-IsAntisymmetric id one.id tied))
    | false ↦ λ apart is. inr is
  ] refl (sym (answer id) ∙ is)

  some_either : (id : ℕ) (b : Bool) → IsSome (get (met_in old) id) → IsSome (cond b (Some one.at) (get (met_in old) id))
  some_either id true some = refl
  some_either id false some = some

  pub grows_by : Grows old new
  grows_by = record {
    found = λ place other is. ap (λ xs. slice_get xs place) found ∙ in_front old.found.items (one ∷ []) place other is;
    met = λ id some. subst (λ (o : Option Addr). IsSome o) (sym (answer id)) (some_either id (eq_by_cmp nat_cmp id one.id) some);
  }

  module _ (fresh : get (met_in old) one.id ≡ None) where
    -- an identity that was met has kept its address
    kept_address : (id : ℕ) (a : Addr) → get (met_in old) id ≡ Some a → get (met_in new) id ≡ Some a
    kept_address id a is = elim (eq_by_cmp nat_cmp id one.id) as (λ b. eq_by_cmp nat_cmp id one.id ≡ b → get (met_in new) id ≡ Some a) [
      | true ↦ λ tied. absurd (not_none a (sym fresh ∙ ap (get (met_in old)) (sym (tells_apart nat_cmp-IsAntisymmetric id one.id tied)) ∙ is))
      | false ↦ λ apart. answer id ∙ ap (λ b. cond b (Some one.at) (get (met_in old) id)) apart ∙ is
    ] refl

    module _ (view : SpaceView) (sound : IsSoundWalk view old) (is_found : IsFoundAt view old.found.items (length old.found.items) one) where
      place_of : (place : ℕ) (other : Found) → slice_get new.found.items place ≡ Some other → (slice_get old.found.items place ≡ Some other) ⊎ ((place ≡ length old.found.items) × (one ≡ other))
      place_of place other is = front_or_end old.found.items one place other (sym (ap (λ xs. slice_get xs place) found) ∙ is)

      each : (place : ℕ) (other : Found) → slice_get new.found.items place ≡ Some other → IsFoundAt view new.found.items place other
      each place other is =
          subst (λ xs. IsFoundAt view xs place other) (sym found)
          (found_more view old.found.items (one ∷ []) place other (elim (place_of place other is) [
            | inl there ↦ sound.each place other there
            | inr last ↦ subst (λ n. IsFoundAt view old.found.items n other) (sym last.0) (subst (IsFoundAt view old.found.items (length old.found.items)) last.1 is_found)
          ]))

      each_met : (place : ℕ) (other : Found) → slice_get new.found.items place ≡ Some other → get (met_in new) other.id ≡ Some other.at
      each_met place other is = elim (place_of place other is) [
        | inl there ↦ kept_address other.id other.at (sound.met place other there)
        | inr last ↦ subst (λ (f : Found). get (met_in new) f.id ≡ Some f.at) last.1 newest
      ]

      only : (id : ℕ) (a : Addr) → get (met_in new) id ≡ Some a → (place : ℕ) × (other : Found) × (slice_get new.found.items place ≡ Some other) × (other.id ≡ id)
      only id a is = elim (either id a is) [
        | inl same ↦ (length old.found.items, one, ap (λ xs. slice_get xs (length old.found.items)) found ∙ at_end old.found.items one, same)
        | inr there ↦ let it = sound.only id a there in (it.0, it.1, grows_by.found it.0 it.1 it.2, it.3)
      ]

      -- what was found before has another identity
      other_identity : (place : ℕ) (other : Found) → slice_get old.found.items place ≡ Some other → one.id ≡ other.id → ⊥
      other_identity place other is same = not_none other.at (sym fresh ∙ ap (get (met_in old)) same ∙ sound.met place other is)

      once : (place another : ℕ) (first second : Found) → slice_get new.found.items place ≡ Some first → slice_get new.found.items another ≡ Some second → first.id ≡ second.id → place ≡ another
      once place another first second is are same = elim (place_of place first is) [
        | inl here ↦ elim (place_of another second are) [
          | inl there ↦ sound.once place another first second here there same
          | inr last ↦ absurd (other_identity place first here (ap (λ (f : Found). f.id) last.1 ∙ sym same))
        ]
        | inr last ↦ elim (place_of another second are) [
          | inl there ↦ absurd (other_identity another second there (ap (λ (f : Found). f.id) last.1 ∙ same))
          | inr end ↦ last.0 ∙ sym end.0
        ]
      ]

      pub sound_by : IsSoundWalk view new
      sound_by = record { each = each; met = each_met; only = only; once = once }

      pub met_by : (to : Addr) → named_by view to ≡ Some one.id → IsMet view new to
      met_by to named = subst (λ (o : Option ℕ). IfSome o (λ id. IsSome (get (met_in new) id))) (sym named) (ap is_some newest)
