-- Where all sources that lead to a train lead to the same, the object may go to that train alone.
use Rattle.std.proofs.Common.{◌≡◌, ℕ, ◌==◌, ◌&&◌, ◌||◌, arith, Bool, true, false, not, if◌then◌else◌, refl, ap, sym, subst, ◌∙◌, List, [], ◌∷◌, ◌++◌, Option, Some, None}
use Rattle.std.specs.List.{list_any}
use Rattle.std.specs.List.Sorted.{IsStrictlySortedBy}
use Rattle.std.specs.Ordering.{nat_cmp}
use Rattle.std.specs.BTreeSet as sorted
use Rattle.std.proofs.lemmas.Bool.{true≢false, eqb-true}
use Rattle.std.proofs.lemmas.Bool.Decides.{nat_tests}
use Rattle.pm_types.specs.declared.address.Addr.{Addr}
use Rattle.pm_types.specs.declared.source.RefSource.{RefSource}
use Rattle.pm_types.specs.declared.source.RefSource.TheVariants.{Root, Handle, Field}
use Rattle.pm_trains.specs.Trains.{Train, is_among, youngest}
use Rattle.pm_remset.specs.Remembered.{AppendsSources}
use Rattle.pm_view.specs.View.{SpaceView}
use Rattle.pm_view.specs.Law.{HeapLaw}
use Rattle.pm_view.specs.Candidates.{set_of, is_bare, naming_trains, candidates}
use Rattle.pm_next.specs.Ways.Ways.{naming_train, is_train, is_other, leads_to, leads_elsewhere, IsOnlyWay, AreHomes}
use Rattle.pm_next.proofs.WaysLemmas.Choices.{naming_is, ways_are}
use Rattle.pm_next.proofs.WaysLemmas.Homes.{keys_are}

-- ---- what one source says

or_false : (a b : Bool) → (a || b) ≡ false → (a ≡ false) × (b ≡ false)
or_false true b is = absurd (true≢false is)
or_false false b is = (refl, is)

-- where a train is not another one than the way, it is no third
no_third : (o : Option ℕ) (way n : ℕ) → (way == n) ≡ false → is_other o way ≡ false → is_train o n ≡ false
no_third None way n apart none = refl
no_third (Some home) way n apart none = grind (arith, nat_tests, apart, none)

module _ (ts : List Train) (train way : ℕ) where
  abbrev names : ℕ → RefSource → Bool
  names n source = is_train (naming_train ts train source) n

  none_names : (n : ℕ) → (way == n) ≡ false → (sources : List RefSource) → list_any (leads_elsewhere ts train way) sources ≡ false → list_any (names n) sources ≡ false
  none_names n apart [] none = refl
  none_names n apart (Root m ∷ xs) none = none_names n apart xs (or_false (is_other (Some (youngest ts)) way) (list_any (leads_elsewhere ts train way) xs) none).1
  none_names n apart (Handle m r ∷ xs) none = none_names n apart xs (or_false (is_other (Some (youngest ts)) way) (list_any (leads_elsewhere ts train way) xs) none).1
  none_names n apart (Field a f ∷ xs) none =
      let both = or_false (is_other (naming_train ts train (Field a f)) way) (list_any (leads_elsewhere ts train way) xs) none in
      (λ i. no_third (naming_train ts train (Field a f)) way n apart both.0 i || none_names n apart xs both.1 i)

  -- a root or a register leads to the open train
  bare_way : (sources : List RefSource) → list_any (leads_elsewhere ts train way) sources ≡ false → list_any is_bare sources ≡ true → (youngest ts == way) ≡ true
  bare_way [] none bare = absurd (true≢false (sym bare))
  bare_way (Root m ∷ xs) none bare = same (youngest ts == way) (or_false (is_other (Some (youngest ts)) way) (list_any (leads_elsewhere ts train way) xs) none).0
    where
      same : (b : Bool) → not b ≡ false → b ≡ true
      same true is = refl
      same false is = absurd (true≢false is)
  bare_way (Handle m r ∷ xs) none bare = same (youngest ts == way) (or_false (is_other (Some (youngest ts)) way) (list_any (leads_elsewhere ts train way) xs) none).0
    where
      same : (b : Bool) → not b ≡ false → b ≡ true
      same true is = refl
      same false is = absurd (true≢false is)
  bare_way (Field a f ∷ xs) none bare = bare_way xs (or_false (is_other (naming_train ts train (Field a f)) way) (list_any (leads_elsewhere ts train way) xs) none).1 bare

  -- a source that leads to the way, where no object of that train names, is a root or a register
  leads_bare : (sources : List RefSource) → list_any (leads_to ts train way) sources ≡ true → list_any (names way) sources ≡ false → list_any is_bare sources ≡ true
  leads_bare [] leads none = leads
  leads_bare (Root m ∷ xs) leads none = refl
  leads_bare (Handle m r ∷ xs) leads none = refl
  leads_bare (Field a f ∷ xs) leads none =
      let both = or_false (names way (Field a f)) (list_any (names way) xs) none in
      leads_bare xs (ap (λ b. b || list_any (leads_to ts train way) xs) (sym both.0) ∙ leads) both.1

-- ---- the set of the trains that have an object that names it

abbrev only : ℕ → Bool → sorted.BTreeSet ℕ
only way true = record { keys = way ∷ [] }
only way false = record { keys = [] }

only_ordered : (way : ℕ) (b : Bool) → sorted.IsOrdered nat_cmp (only way b)
unfolding IsStrictlySortedBy
only_ordered way true = (tt, tt)
only_ordered way false = tt

has_way : (way : ℕ) (b : Bool) → sorted.contains nat_cmp (only way b) way ≡ b
has_way way true = grind (arith, nat_tests)
has_way way false = refl

has_no_other : (way n : ℕ) (b : Bool) → (way == n) ≡ false → sorted.contains nat_cmp (only way b) n ≡ false
has_no_other way n true apart = grind (arith, nat_tests, apart)
has_no_other way n false apart = refl

module _ (v : SpaceView) (law : HeapLaw v) (train : ℕ) (a : Addr) (sources : List RefSource) (given : AppendsSources (set_of v a.car) a.slot [] sources) (way : ℕ)
    (is : IsOnlyWay v.trains.trains train sources way) where
  abbrev ts : List Train
  ts = v.trains.trains

  abbrev named : ℕ → Bool
  named n = list_any (names ts train way n) sources

  homes_are : (b : Bool) → named way ≡ b → AreHomes ts train sources (only way b)
  homes_are b found n = by_test (way == n) refl
    where
      by_test : (d : Bool) → (way == n) ≡ d → sorted.contains nat_cmp (only way b) n ≡ named n
      by_test true same = subst (λ n. sorted.contains nat_cmp (only way b) n ≡ named n) (eqb-true way n same) (has_way way b ∙ sym found)
      by_test false apart = has_no_other way n b apart ∙ sym (none_names ts train way n apart sources is.no_other)

  naming : (b : Bool) → named way ≡ b → (only way b).keys ≡ naming_trains v train a
  naming b found =
      keys_are ts law.built.trains.rising train sources (only way b) (only_ordered way b) (homes_are b found)
      ∙ naming_is v law train a sources given (sorted.contains nat_cmp (only way b)) (homes_are b found)

  abbrev ended : Bool → List ℕ → List ℕ
  ended bare ways = if bare && not (is_among (youngest ts) ways) then ways ++ youngest ts ∷ [] else ways

  all_are : (bare b : Bool) → list_any is_bare sources ≡ bare → named way ≡ b → ended bare (only way b).keys ≡ candidates v train a
  all_are bare b bares found = ways_are v law train a sources given (only way b).keys bare (is_among (youngest ts) (only way b).keys) (naming b found) (sym bares) refl

  open_is : list_any is_bare sources ≡ true → youngest ts ≡ way
  open_is bare = eqb-true (youngest ts) way (bare_way ts train way sources is.no_other bare)

  ends_there : (last : ℕ) → last ≡ way → (if true && not (is_among last (way ∷ [])) then (way ∷ []) ++ last ∷ [] else way ∷ []) ≡ way ∷ []
  ends_there last same = ap (λ b. if b then (way ∷ []) ++ last ∷ [] else way ∷ []) out
    where
      out : (true && not (is_among last (way ∷ []))) ≡ false
      out = grind (arith, nat_tests, same)

  -- the trains to which it may go
  pub only_is : way ∷ [] ≡ candidates v train a
  only_is = by_both (named way) refl (list_any is_bare sources) refl
    where
      by_both : (b : Bool) → named way ≡ b → (bare : Bool) → list_any is_bare sources ≡ bare → way ∷ [] ≡ candidates v train a
      by_both true found true bare = sym (ends_there (youngest ts) (open_is bare)) ∙ all_are true true bare found
      by_both true found false bare = all_are false true bare found
      by_both false found true bare = ap (λ n. n ∷ []) (sym (open_is bare)) ∙ all_are true false bare found
      by_both false found false bare = absurd (true≢false (sym (leads_bare ts train way sources is.leads found) ∙ bare))
