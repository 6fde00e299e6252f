-- What is found to be fixed, and whether a change waits.
use Rattle.std.proofs.Common.{◌≡◌, ℕ, ◌==◌, Bool, true, false, refl, ap, sym, ◌∙◌, List, [], ◌∷◌, Option, Some, None}
use Rattle.std.specs.Option.{option_map, option_and_then, unwrap_or}
use Rattle.std.specs.List.{slice_get}
use Rattle.std.specs.List as list
use Rattle.std.specs.FinMap.{get, entries, empty}
use Rattle.std.proofs.lemmas.Bool.{eqb-true, eq-eqb, both_ways}
use Rattle.pm_types.specs.declared.address.Addr.{Addr}
use Rattle.pm_types.specs.declared.object.Slot.{Slot}
use Rattle.pm_types.specs.declared.object.Slot.TheVariants.{Live, Moved}
use Rattle.pm_types.specs.declared.source.RefSource.{RefSource}
use Rattle.pm_types.specs.declared.source.Change.{Change}
use Rattle.pm_cars.specs.declared.look.Look.TheVariants as looks
use Rattle.pm_cars.specs.Cars.{Slots, look_of}
use Rattle.pm_remset.specs.Remembered.{FindsFirstThat, FindsLeastOf, first_that}
use Rattle.pm_remset.proofs.First.{first_found, found_once}
use Rattle.pm_view.specs.declared.phase.Phase.TheVariants.{Moving}
use Rattle.pm_view.specs.View.{Sources, SpaceView}
use Rattle.pm_view.specs.Reading.{slot_at}
use Rattle.pm_view.specs.Candidates.{set_of}
use Rattle.pm_view.specs.Events.{went, has_gone, has_change, first_of, named_in, least_stale, to_fix, least}
use Rattle.pm_view.specs.Stale.{NamesOnly}
use Rattle.pm_law_collect.proofs.PhasesLemmas.Small.{some_same}
use Rattle.pm_law_collect.specs.Work.Names.{names_gone, front_names_gone}
use Rattle.pm_next.specs.Sought.{is_moved}
use Rattle.pm_next.proofs.Searches.{same_search, none_found, empty_finds, moved_at}

-- whether a queue has a front
pub has_front : (q : List Change) (change : Change) → Some change ≡ slice_get q 0 → true ≡ has_change q
has_front [] change is = absurd cc
has_front (c ∷ cs) change is = refl

pub no_front : (q : List Change) → None ≡ slice_get q 0 → false ≡ has_change q
no_front [] is = refl
no_front (c ∷ cs) is = absurd cc

-- whether the front change of a queue names a slot whose object moved away
pub no_front_gone : (v : SpaceView) (car : ℕ) (q : List Change) → None ≡ slice_get q 0 → false ≡ front_names_gone v car q
no_front_gone v car [] is = refl
no_front_gone v car (c ∷ cs) is = absurd cc

pub front_gone : (v : SpaceView) (car : ℕ) (q : List Change) (change : Change) (b : Bool) → Some change ≡ slice_get q 0 → b ≡ names_gone v car change.slot → b ≡ front_names_gone v car q
front_gone v car [] change b is gone = absurd cc
front_gone v car (c ∷ cs) change b is gone = gone ∙ ap (λ (d : Change). names_gone v car d.slot) (some_same change c is)

-- where a slot says that its object went
pub went_moved : (o : Option Slot) (to : Addr) → looks.Moved to ≡ look_of o → went o ≡ Some to
went_moved None to is = absurd cc
went_moved (Some (Live object)) to is = absurd cc
went_moved (Some (Moved b)) to is = cc

pub went_live : (o : Option Slot) → looks.Live ≡ look_of o → went o ≡ None
went_live None is = refl
went_live (Some (Live object)) is = refl
went_live (Some (Moved b)) is = absurd cc

pub went_gone : (o : Option Slot) → looks.Gone ≡ look_of o → went o ≡ None
went_gone None is = refl
went_gone (Some (Live object)) is = refl
went_gone (Some (Moved b)) is = absurd cc

-- tests that answer alike at each entry of a set find the same
finds_too : (f g : RefSource → ℕ → Bool) (set : Sources) → ((source : RefSource) (at : ℕ) → get set source ≡ Some at → f source at ≡ g source at) → (o : Option (RefSource × ℕ)) → FindsFirstThat f set o → FindsFirstThat g set o
finds_too f g set alike None finds = λ source at is. sym (alike source at is) ∙ finds source at is
finds_too f g set alike (Some e) finds = record {
  there = finds.there;
  passed = sym (alike e.0 e.1 finds.there) ∙ finds.passed;
  lower_failed = λ source at is less. sym (alike source at is) ∙ finds.lower_failed source at is less;
}

module _ (v : SpaceView) (car : ℕ) where
  abbrev goes : RefSource × ℕ → Option (RefSource × Addr)
  goes e = option_map {U = RefSource × Addr} (λ to. (e.0, to)) (went (slot_at v.cars (named_in car e)))

  -- a car that remembers nothing
  pub no_set : get v.sets car ≡ None → None ≡ to_fix v car
  no_set none =
      sym (ap (option_and_then goes)
      (ap (λ (o : Option Sources). first_that (λ source slot. has_gone (went (slot_at v.cars (named_in car (source, slot))))) (unwrap_or o empty)) none
      ∙ empty_finds (λ source slot. has_gone (went (slot_at v.cars (named_in car (source, slot)))))))

  pub no_least : get v.sets car ≡ None → None ≡ least v car
  no_least none = sym (ap (λ (o : Option Sources). first_of (entries (unwrap_or o empty))) none ∙ sym (any_is (entries empty)) ∙ empty_finds (λ source slot. true))
    where
      any_is : (es : List (RefSource × ℕ)) → list.find (λ e. true) es ≡ first_of es
      any_is [] = refl
      any_is (e ∷ es) = refl

  -- a car that is not there
  pub no_car : ((slot : ℕ) → slot_at v.cars (record { car = car; slot = slot }) ≡ None) → None ≡ to_fix v car
  no_car none = sym (ap (option_and_then goes) (none_found (entries (set_of v car)) (λ e. has_gone (went (slot_at v.cars (named_in car e)))) (λ e. ap (λ o. has_gone (went o)) (none e.1))))

  -- the least source of a slot that is Moved
  module _ (set : Sources) (slots : Slots) (held : get v.sets car ≡ Some set) (there : (slot : ℕ) → slot_at v.cars (record { car = car; slot = slot }) ≡ get slots slot) where
    stale_is : first_that (λ _ slot. is_moved (entries slots) slot) set ≡ least_stale v car
    stale_is =
        same_search _ _ (entries set) (λ e. moved_at slots e.1 ∙ sym (ap (λ o. has_gone (went o)) (there e.1)))
        ∙ sym (ap (λ (o : Option Sources). first_that (λ source slot. has_gone (went (slot_at v.cars (named_in car (source, slot))))) (unwrap_or o empty)) held)

    pub fix_none : None ≡ first_that (λ _ slot. is_moved (entries slots) slot) set → None ≡ to_fix v car
    fix_none is = ap (option_and_then goes) (is ∙ stale_is)

    pub fix_some : (e : RefSource × ℕ) (o : Option Addr) → Some e ≡ first_that (λ _ slot. is_moved (entries slots) slot) set → went (get slots e.1) ≡ o → option_map {U = RefSource × Addr} (λ to. (e.0, to)) o ≡ to_fix v car
    fix_some e o is goes_to =
        sym (ap (option_map {U = RefSource × Addr} (λ to. (e.0, to))) (ap went (there e.1) ∙ goes_to)) ∙ ap (option_and_then goes) (is ∙ stale_is)

    -- ---- where stale sources name one slot only

    abbrev is_stale : RefSource → ℕ → Bool
    is_stale source at = has_gone (went (slot_at v.cars (named_in car (source, at))))

    found_stale : (o : Option (RefSource × ℕ)) → FindsFirstThat is_stale set o → o ≡ least_stale v car
    found_stale o finds =
        found_once is_stale set _ _ finds (first_found is_stale set)
        ∙ sym (ap (λ (o : Option Sources). first_that is_stale (unwrap_or o empty)) held)

    module _ (slot : ℕ) (moving : v.phase ≡ Moving car) (sole : NamesOnly v slot) where
      names_slot : (source : RefSource) (at : ℕ) → get set source ≡ Some at → is_stale source at ≡ true → at ≡ slot
      names_slot source at is gone = sole car moving source at (ap (λ (o : Option Sources). get (unwrap_or o empty) source) held ∙ is) gone

      -- its object moved away: the least source that names it
      pub fix_sole : (to : Addr) (found : Option RefSource) → went (get slots slot) ≡ Some to → FindsLeastOf set slot found → option_map {U = RefSource × Addr} (λ source. (source, to)) found ≡ to_fix v car
      fix_sole to found is finds =
          by_found found ∙ ap (option_and_then goes) (found_stale (option_map (λ source. (source, slot)) found) (finds_too (λ _ at. at == slot) is_stale set alike _ finds))
        where
          here : went (slot_at v.cars (record { car = car; slot = slot })) ≡ Some to
          here = ap went (there slot) ∙ is

          alike : (source : RefSource) (at : ℕ) → get set source ≡ Some at → (at == slot) ≡ is_stale source at
          alike source at held_at = by_tests (at == slot) (is_stale source at) refl refl
            where
              by_tests : (b d : Bool) → (at == slot) ≡ b → is_stale source at ≡ d → b ≡ d
              by_tests true d same gone = sym (ap has_gone here) ∙ ap (λ at. is_stale source at) (sym (eqb-true at slot same)) ∙ gone
              by_tests false true apart gone = absurd (both_ways (at == slot) apart (eq-eqb at slot (names_slot source at held_at gone)))
              by_tests false false apart gone = refl

          by_found : (found : Option RefSource) → option_map {U = RefSource × Addr} (λ source. (source, to)) found ≡ option_and_then goes (option_map (λ source. (source, slot)) found)
          by_found None = refl
          by_found (Some source) = sym (ap (option_map {U = RefSource × Addr} (λ to. (source, to))) here)

      -- it did not: none is stale
      pub fix_sole_none : went (get slots slot) ≡ None → None ≡ to_fix v car
      fix_sole_none is = ap (option_and_then goes) (found_stale None (λ source at held_at. by_test source at held_at (is_stale source at) refl))
        where
          by_test : (source : RefSource) (at : ℕ) → get set source ≡ Some at → (b : Bool) → is_stale source at ≡ b → b ≡ false
          by_test source at held_at true gone =
              sym gone ∙ ap (λ at. is_stale source at) (names_slot source at held_at gone) ∙ ap (λ o. has_gone (went o)) (there slot) ∙ ap has_gone is
          by_test source at held_at false gone = refl
