-- Which trains have an object that names another, sought source by source.
use Rattle.std.proofs.Common.{◌≡◌, ℕ, zero, suc, ◌<◌, ◌≤◌, ◌==◌, ◌&&◌, ◌||◌, arith, Bool, true, false, cond, not, if◌then◌else◌, refl, ap, sym, ◌∙◌, List, [], ◌∷◌, ◌++◌, length, get_or, map, Option, Some, None, is_some}
use Rattle.std.specs.Option.{option_and_then, unwrap_or}
use Rattle.std.specs.List.{AllByRecursion, filter, list_any}
use Rattle.std.specs.List as list
use Rattle.std.specs.List.Sorted.{IsStrictlySortedBy}
use Rattle.std.specs.FinMap.{get, entries, empty, get-empty}
use Rattle.std.proofs.lemmas.Bool.{true≢false, false_from_ne_true, eqb-true}
use Rattle.std.proofs.lemmas.Bool.Decides.{nat_tests}
use Rattle.std.proofs.lemmas.List.Folds.{list_any_at}
use Rattle.pm_types.specs.Orders.{source_cmp}
use Rattle.pm_types.specs.declared.address.Addr.{Addr}
use Rattle.pm_types.specs.declared.source.RefSource.{RefSource}
use Rattle.pm_types.specs.declared.source.RefSource.TheVariants.{Root, Handle, Field}
use Rattle.pm_trains.specs.Trains.{Train, train_of, is_among, youngest}
use Rattle.pm_trains.specs.Sound as line
use Rattle.pm_trains.proofs.Numbers.{cars_there}
use Rattle.pm_remset.specs.Remembered.{Remembered, FindsFirstThat, AppendsSources, first_that}
use Rattle.pm_remset.proofs.First.{first_found}
use Rattle.pm_law_commands.proofs.RowLemmas.Born.{home_among}
use Rattle.pm_law_commands.proofs.RowLemmas.OpenTrain.{among_home}
use Rattle.pm_view.specs.View.{SpaceView}
use Rattle.pm_view.specs.Reading.{cars_of}
use Rattle.pm_view.specs.Sources.{lies_in}
use Rattle.pm_view.specs.Law.{HeapLaw}
use Rattle.pm_view.specs.Candidates.{set_of, is_bare, is_named_by, is_named_from, naming_trains, candidates}
use Rattle.pm_next.specs.Ways.Ways.{naming_train, is_train, numbered}

-- ---- lists

none_of : {X : Type 0} (test : X → Bool) (xs : List X) → ((x : X) → test x ≡ false) → list_any test xs ≡ false
none_of test [] fails = refl
none_of test (x ∷ xs) fails = ap (λ b. b || list_any test xs) (fails x) ∙ none_of test xs fails

any_none : {X : Type 0} (P : X → Type 0) (test : X → Bool) (xs : List X) → AllByRecursion P xs → ((x : X) → P x → test x ≡ false) → list_any test xs ≡ false
any_none P test [] all fails = refl
any_none P test (x ∷ xs) all fails = ap (λ b. b || list_any test xs) (fails x all.0) ∙ any_none P test xs all.1 fails

any_find : {X : Type 0} (test : X → Bool) (xs : List X) → list_any test xs ≡ is_some (list.find test xs)
any_find test [] = refl
any_find test (x ∷ xs) = by_case (test x) (any_find test xs)
  where
    by_case : (b : Bool) → list_any test xs ≡ is_some (list.find test xs) → (b || list_any test xs) ≡ is_some (cond b (Some x) (list.find test xs))
    by_case true later = refl
    by_case false later = later

both : (a b : Bool) → (a && b) ≡ true → (a ≡ true) × (b ≡ true)
both true b is = (refl, is)
both false b is = absurd (true≢false (sym is))

itself : (n : ℕ) → (n == n) ≡ true
itself n = grind (arith, nat_tests)

-- the sources of a slot have one that passes just where some entry of the slot does
pub any_sources : (set : Remembered) (slot : ℕ) (sources : List RefSource) (test : RefSource → Bool) → AppendsSources set slot [] sources → list_any test sources ≡ list_any (λ e. (e.1 == slot) && test e.0) (entries set)
any_sources set slot sources test given =
    ap (list_any test) given.appended
    ∙ by_case (first_that (λ source at. (at == slot) && test source) set) (first_found (λ source at. (at == slot) && test source) set)
    ∙ sym (any_find (λ e. (e.1 == slot) && test e.0) (entries set))
  where
    by_case : (o : Option (RefSource × ℕ)) → FindsFirstThat (λ source at. (at == slot) && test source) set o → list_any test given.sources ≡ is_some o
    by_case None none =
        any_none (λ source. get set source ≡ Some slot) test given.sources given.each_names (λ source there. sym (ap (λ b. b && test source) (itself slot)) ∙ none source slot there)
    by_case (Some e) finds =
        let passes = both (e.1 == slot) (test e.0) finds.passed in
        let there = given.all e.0 (finds.there ∙ ap Some (eqb-true e.1 slot passes.0)) in
        list_any_at test given.sources there.0 e.0 there.1 (ap test there.2 ∙ passes.1)

none_sorted : IsStrictlySortedBy source_cmp []
unfolding IsStrictlySortedBy
none_sorted = tt

-- no source is remembered by a car that has no set
pub none_appended : (slot : ℕ) → AppendsSources empty slot [] []
none_appended slot = record {
  sources = [];
  appended = refl;
  in_order = none_sorted;
  each_names = tt;
  all = λ source is. absurd (let none : ◌≡◌ {A = Option ℕ} None (Some slot) = sym (get-empty source_cmp source) ∙ is in cc);
}

-- ---- the trains that stand

same_default : {X : Type 0} (xs : List X) (k : ℕ) (d e : X) → k < length xs → get_or xs k d ≡ get_or xs k e
same_default [] k d e inside = absurd (omega arith)
same_default (x ∷ xs) zero d e inside = refl
same_default (x ∷ xs) (suc k) d e inside = same_default xs k d e (omega (arith, inside))

filter_same : (p q : Train → Bool) (ts : List Train) → ((k : ℕ) (d : Train) → k < length ts → p (get_or ts k d) ≡ q (get_or ts k d)) → filter p ts ≡ filter q ts
filter_same p q [] same = refl
filter_same p q (t ∷ ts) same =
    let first = same 0 t (omega arith) in
    let rest = filter_same p q ts (λ k d inside. same (suc k) d (omega (arith, inside))) in
    λ i. cond (first i) (t ∷ rest i) (rest i)

-- ---- which train a source is of

no_train : (n train : ℕ) → false ≡ (not (n == train) && false)
no_train n train = by_case (not (n == train))
  where
    by_case : (b : Bool) → false ≡ (b && false)
    by_case true = refl
    by_case false = refl

of_home : (h n train : ℕ) → is_train (cond (h == train) None (Some h)) n ≡ (not (n == train) && (h == n))
of_home h n train = by_case (h == train) refl (h == n) refl (n == train) refl
  where
    same : (m k : ℕ) → (m == k) ≡ true → m ≡ k
    same m k is = grind (arith, nat_tests, is)

    apart : (m k : ℕ) → (m == k) ≡ false → m ≡ k → ⊥
    apart m k is one = true≢false (sym (ap (λ j. m == j) (sym one) ∙ itself m) ∙ is)

    by_case : (a : Bool) → (h == train) ≡ a → (b : Bool) → (h == n) ≡ b → (c : Bool) → (n == train) ≡ c → is_train (cond a None (Some h)) n ≡ (not c && (h == n))
    by_case true at true on true is = refl
    by_case true at true on false is = absurd (apart n train is (sym (same h n on) ∙ same h train at))
    by_case true at false on true is = refl
    by_case true at false on false is = sym on
    by_case false at true on true is = absurd (apart h train at (same h n on ∙ same n train is))
    by_case false at true on false is = refl
    by_case false at false on true is = on
    by_case false at false on false is = refl

module _ (ts : List Train) (rising : line.Rise 0 ts) (single : (q : ℕ) → line.places q ts ≤ 1) (train : ℕ) where
  -- a car is one of a train's just where the train is its own
  home_is : (c n : ℕ) (o : Option ℕ) → train_of ts c ≡ o → is_train o n ≡ is_among c (cars_of ts n)
  home_is c n None none = sym (false_from_ne_true (is_among c (cars_of ts n)) (λ among. let some : ◌≡◌ {A = Option ℕ} None (Some n) = sym none ∙ among_home ts n c single among in absurd_none some))
    where
      absurd_none : ◌≡◌ {A = Option ℕ} None (Some n) → ⊥
      absurd_none is = let wrong : false ≡ true = ap is_some is in true≢false (sym wrong)
  home_is c n (Some h) home = by_case (h == n) refl
    where
      by_case : (b : Bool) → (h == n) ≡ b → b ≡ is_among c (cars_of ts n)
      by_case true is = sym (home_among ts n c rising (home ∙ ap Some (eqb-true h n is)))
      by_case false is =
          sym (false_from_ne_true (is_among c (cars_of ts n)) (λ among.
          let both : Some h ≡ Some n = sym home ∙ among_home ts n c single among in
          let one : h ≡ n = cc in true≢false (sym (ap (λ j. h == j) (sym one) ∙ itself h) ∙ is)))

  source_is : (n : ℕ) (source : RefSource) → is_train (naming_train ts train source) n ≡ (not (n == train) && lies_in (λ c. is_among c (cars_of ts n)) source)
  source_is n (Root m) = no_train n train
  source_is n (Handle c r) = no_train n train
  source_is n (Field a i) = by_case (train_of ts a.car) refl
    where
      by_case : (o : Option ℕ) → train_of ts a.car ≡ o → is_train (option_and_then (λ home. cond (home == train) None (Some home)) o) n ≡ (not (n == train) && is_among a.car (cars_of ts n))
      by_case None none = no_train n train ∙ ap (λ b. not (n == train) && b) (home_is a.car n None none)
      by_case (Some h) home = of_home h n train ∙ ap (λ b. not (n == train) && b) (home_is a.car n (Some h) home)

  pull : (es : List (RefSource × ℕ)) (slot : ℕ) (f : RefSource → Bool) (b : Bool) → list_any (λ (e : RefSource × ℕ). (e.1 == slot) && (b && f e.0)) es ≡ (b && list_any (λ (e : RefSource × ℕ). (e.1 == slot) && f e.0) es)
  pull es slot f true = refl
  pull es slot f false = none_of (λ (e : RefSource × ℕ). (e.1 == slot) && false) es (λ e. by_case (e.1 == slot))
    where
      by_case : (b : Bool) → (b && false) ≡ false
      by_case true = refl
      by_case false = refl

  -- the cars of a train that stands at a place
  cars_are : (k : ℕ) (d : Train) → k < length ts → cars_of ts (get_or ts k d).number ≡ (get_or ts k d).cars
  cars_are k d inside =
      ap (λ o. unwrap_or o [])
      (cars_there 0 ts (get_or ts k d).number k d rising (record { inside = inside; named = λ e. ap (λ (t : Train). t.number) (same_default ts k e d inside) }))

module _ (v : SpaceView) (law : HeapLaw v) (train : ℕ) (a : Addr) (sources : List RefSource) (given : AppendsSources (set_of v a.car) a.slot [] sources) where
  -- the trains that were found are those that name the object
  pub naming_is : (homes : ℕ → Bool) → ((n : ℕ) → homes n ≡ list_any (λ source. is_train (naming_train v.trains.trains train source) n) sources) → numbered homes v.trains.trains ≡ naming_trains v train a
  naming_is homes found =
      ap (map (λ (t : Train). t.number)) (filter_same (λ (t : Train). homes t.number) (is_named_from v train a) v.trains.trains (λ k d inside. one (get_or v.trains.trains k d) (cars_are v.trains.trains law.built.trains.rising law.built.trains.single train k d inside)))
    where
      one : (t : Train) → cars_of v.trains.trains t.number ≡ t.cars → homes t.number ≡ is_named_from v train a t
      one t cars =
          found t.number
          ∙ any_sources (set_of v a.car) a.slot sources (λ source. is_train (naming_train v.trains.trains train source) t.number) given
          ∙ (λ i. list_any (λ (e : RefSource × ℕ). (e.1 == a.slot) && source_is v.trains.trains law.built.trains.rising law.built.trains.single train t.number e.0 i) (entries (set_of v a.car)))
          ∙ pull v.trains.trains law.built.trains.rising law.built.trains.single train (entries (set_of v a.car)) a.slot (λ source. lies_in (λ c. is_among c (cars_of v.trains.trains t.number)) source) (not (t.number == train))
          ∙ ap (λ cs. not (t.number == train) && is_named_by v a (λ source. lies_in (λ c. is_among c cs) source)) cars

  -- a root or a register names it
  pub bare_is : (bare : Bool) → bare ≡ list_any is_bare sources → bare ≡ is_named_by v a is_bare
  bare_is bare is = is ∙ any_sources (set_of v a.car) a.slot sources is_bare given

  -- the trains to which it may go
  pub ways_are : (ways : List ℕ) (bare listed : Bool) → ways ≡ naming_trains v train a → bare ≡ list_any is_bare sources → listed ≡ is_among (youngest v.trains.trains) ways
      → (if bare && not listed then ways ++ youngest v.trains.trains ∷ [] else ways) ≡ candidates v train a
  ways_are ways bare listed naming is among =
      let bares = bare_is bare is in
      let lists = among ∙ ap (is_among (youngest v.trains.trains)) naming in
      λ i. cond (bares i && not (lists i)) (naming i ++ youngest v.trains.trains ∷ []) (naming i)

-- a field of an object in a car that is in no train names none
pub none_named : (ts : List Train) (train : ℕ) (at : Addr) (index : ℕ) → is_some (train_of ts at.car) ≡ false → None ≡ naming_train ts train (Field at index)
none_named ts train at index none = by_case (train_of ts at.car) none
  where
    by_case : (o : Option ℕ) → is_some o ≡ false → None ≡ option_and_then (λ home. cond (home == train) None (Some home)) o
    by_case None none = refl
    by_case (Some home) none = absurd (true≢false none)

-- a car that is in no train has none
pub none_home : (o : Option ℕ) → is_some o ≡ false → 0 ≡ unwrap_or o 0
none_home None none = refl
none_home (Some home) none = absurd (true≢false none)
