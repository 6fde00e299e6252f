-- The trains to which an object may go are those that are spoken of, and they ascend.
use Rattle.std.proofs.Common.{◌≡◌, ◌⊎◌, ⊎_elim, inl, inr, ℕ, ◌<◌, ◌≤◌, ◌==◌, ◌&&◌, ◌||◌, ◌↔◌, if◌then◌else◌, Bool, true, false, cond, not, refl, ap, sym, subst, ◌∙◌, List, [], ◌∷◌, ◌++◌, map, length, Option, Some, None, arith}
use Rattle.std.specs.Option.{unwrap_or}
use Rattle.std.specs.List.{find, filter, list_any}
use Rattle.std.specs.FinMap.{entries}
use Rattle.std.proofs.lemmas.Bool.{eqb-true, eq-eqb, and_from, both_ways, true≢false}
use Rattle.std.proofs.lemmas.Bool.Decides.{nat_tests}
use Rattle.pm_types.proofs.Orders.{sources_total, sources_antisymmetric}
use Rattle.pm_types.specs.declared.address.Addr.{Addr}
use Rattle.pm_types.specs.declared.source.RefSource.{RefSource}
use Rattle.pm_types.specs.declared.source.RefSource.TheVariants.{Root, Handle, Field}
use Rattle.pm_trains.specs.Trains.{Train, cars_at, is_among, train_of, youngest, last_number}
use Rattle.pm_trains.specs.Sound.{Rise}
use Rattle.pm_trains.proofs.Found.{last_least, stands_over}
use Rattle.pm_view.specs.Sources.{lies_in}
use Rattle.pm_view.specs.View.{SpaceView}
use Rattle.pm_view.specs.Law.{HeapLaw}
use Rattle.pm_view.specs.Candidates.{set_of, is_bare, is_named_by, is_named_from, naming_trains}
use Rattle.pm_view.specs.Events.{home, ways_out}
use Rattle.pm_law_commands.proofs.RowLemmas.OpenTrain.{among_home}
use Rattle.pm_law_collect.proofs.PhasesLemmas.Small.{some_same, none_some, or_left, or_right}
use Rattle.pm_law_collect.proofs.PhasesLemmas.Finds.{found_entry, no_entry}
use Rattle.pm_law_collect.specs.Ways.{IsRemembered, IsNamedFromTrain, IsRootOrRegister, IsOpenToHeld, Ascend}
use Rattle.pm_law_collect.proofs.Picks.{any_found}

both_true : (b c : Bool) → (b && c) ≡ true → (b ≡ true) × (c ≡ true)
both_true true c is = (refl, is)
both_true false c is = absurd (true≢false (sym is))

both_false : (b c : Bool) → (b || c) ≡ false → (b ≡ false) × (c ≡ false)
both_false true c is = absurd (true≢false is)
both_false false c is = (refl, is)

not_true : (b : Bool) → not b ≡ true → b ≡ false
not_true true is = absurd (true≢false (sym is))
not_true false is = refl

not_false : (b : Bool) → b ≡ false → not b ≡ true
not_false true is = absurd (true≢false is)
not_false false is = refl

-- ---- sources that are remembered

-- where one of a list passes it is found
found_of : {X : Type 0} (p : X → Bool) (xs : List X) → list_any p xs ≡ true → (x : X) × (find p xs ≡ Some x)
found_of p [] some = absurd (true≢false (sym some))
found_of {X = X} p (x ∷ xs) some = by_case (p x) some (found_of p xs)
  where
    by_case : (b : Bool) → (b || list_any p xs) ≡ true → (list_any p xs ≡ true → (y : X) × (find p xs ≡ Some y)) → (y : X) × (cond b (Some x) (find p xs) ≡ Some y)
    by_case true some later = (x, refl)
    by_case false some later = later some

-- the test of roots and registers
told_bare : (x : RefSource) → is_bare x ≡ true → IsRootOrRegister x
told_bare (Root n) bare = tt
told_bare (Handle c r) bare = tt
told_bare (Field b i) bare = absurd (true≢false (sym bare))

bare_told : (x : RefSource) → IsRootOrRegister x → is_bare x ≡ true
bare_told (Root n) bare = refl
bare_told (Handle c r) bare = refl
bare_told (Field b i) bare = absurd bare

-- a source that passes is remembered, and names the object at an address
record IsNamer (view : SpaceView) (a : Addr) (passes : RefSource → Bool) : Type 0 where
  source : RefSource
  passing : passes source ≡ true
  names : IsRemembered view a source

module _ (view : SpaceView) (a : Addr) where
  abbrev test : (RefSource → Bool) → RefSource × ℕ → Bool
  test passes e = (e.1 == a.slot) && passes e.0

  namer : (passes : RefSource → Bool) → is_named_by view a passes ≡ true → IsNamer view a passes
  namer passes named =
      let found = found_of (test passes) (entries (set_of view a.car)) named in
      let held = found_entry sources_total sources_antisymmetric (test passes) (set_of view a.car) found.0 found.1 in
      let both = both_true (found.0.1 == a.slot) (passes found.0.0) held.1 in
      record { source = found.0.0; passing = both.1; names = held.0 ∙ ap Some (eqb-true found.0.1 a.slot both.0) }

  named_so : (passes : RefSource → Bool) → IsNamer view a passes → is_named_by view a passes ≡ true
  named_so passes it = by_case (find (test passes) (entries (set_of view a.car))) refl
    where
      by_case : (o : Option (RefSource × ℕ)) → find (test passes) (entries (set_of view a.car)) ≡ o → list_any (test passes) (entries (set_of view a.car)) ≡ true
      by_case None none =
          absurd (both_ways (test passes (it.source, a.slot)) (no_entry sources_total sources_antisymmetric (test passes) (set_of view a.car) none it.source a.slot it.names) (and_from _ _ (eq-eqb a.slot a.slot refl) it.passing))
      by_case (Some e) found = any_found (test passes) (test passes) (entries (set_of view a.car)) e found (found_entry sources_total sources_antisymmetric (test passes) (set_of view a.car) e found).1

-- ---- trains that pass

abbrev numbers : List Train → List ℕ
numbers ts = map (λ (t : Train). t.number) ts

-- a train that passes, with the cars that it has among these
record IsPassing (passes : Train → Bool) (ts : List Train) (n : ℕ) : Type 0 where
  train : Train
  number : train.number ≡ n
  passing : passes train ≡ true
  cars : cars_at ts n ≡ Some train.cars

passing_of : (passes : Train → Bool) (low : ℕ) (ts : List Train) (n : ℕ) → Rise low ts → is_among n (numbers (filter passes ts)) ≡ true → IsPassing passes ts n
passing_of passes low [] n rising among = absurd (true≢false (sym among))
passing_of passes low (t ∷ ts) n rising among = by_case (passes t) refl among (passing_of passes t.number ts n rising.1)
  where
    behind : (b : Bool) → (t.number == n) ≡ b → (it : IsPassing passes ts n) → cond b (Some t.cars) (cars_at ts n) ≡ Some it.train.cars
    behind true same it =
        let over = stands_over t.number n it.train.cars ts rising.1 it.cars in
        let one = eqb-true t.number n same in
        absurd (omega (arith, over, one))
    behind false apart it = it.cars

    later_is : IsPassing passes ts n → IsPassing passes (t ∷ ts) n
    later_is it = record { train = it.train; number = it.number; passing = it.passing; cars = behind (t.number == n) refl it }

    here : (b : Bool) → (t.number == n) ≡ b → b ≡ true → cond b (Some t.cars) (cars_at ts n) ≡ Some t.cars
    here true same is = refl
    here false same is = absurd (true≢false (sym is))

    either : (c : Bool) → (t.number == n) ≡ c → passes t ≡ true → (c || is_among n (numbers (filter passes ts))) ≡ true → (is_among n (numbers (filter passes ts)) ≡ true → IsPassing passes ts n) → IsPassing passes (t ∷ ts) n
    either true same is among later = record { train = t; number = eqb-true t.number n same; passing = is; cars = here (t.number == n) refl same }
    either false apart is among later = later_is (later among)

    by_case : (b : Bool) → passes t ≡ b → is_among n (numbers (cond b (t ∷ filter passes ts) (filter passes ts))) ≡ true → (is_among n (numbers (filter passes ts)) ≡ true → IsPassing passes ts n) → IsPassing passes (t ∷ ts) n
    by_case true is among later = either (t.number == n) refl is among later
    by_case false fails among later = later_is (later among)

-- the number of a train that has a car and passes is among them
left_in : (passes : Train → Bool) (ts : List Train) (n c : ℕ) → train_of ts c ≡ Some n → ((t : Train) → t.number ≡ n → is_among c t.cars ≡ true → passes t ≡ true) → is_among n (numbers (filter passes ts)) ≡ true
left_in passes [] n c home all = absurd (none_some n home)
left_in passes (t ∷ ts) n c home all = by_case (is_among c t.cars) refl (passes t) refl home (λ later. left_in passes ts n c later all)
  where
    by_case : (b : Bool) → is_among c t.cars ≡ b → (d : Bool) → passes t ≡ d → (if b then Some t.number else train_of ts c) ≡ Some n → (train_of ts c ≡ Some n → is_among n (numbers (filter passes ts)) ≡ true)
        → is_among n (numbers (cond d (t ∷ filter passes ts) (filter passes ts))) ≡ true
    by_case true among true holds home later = or_left (t.number == n) _ (eq-eqb t.number n (some_same t.number n home))
    by_case true among false fails home later = absurd (both_ways (passes t) fails (all t (some_same t.number n home) among))
    by_case false among true holds home later = or_right (t.number == n) (later home)
    by_case false among false fails home later = later home

-- ---- numbers that ascend

lower : (low m : ℕ) (ns : List ℕ) → low ≤ m → Ascend m ns → Ascend low ns
lower low m [] below rising = tt
lower low m (n ∷ ns) below rising = let first = rising.0 in (omega (arith, below, first), rising.1)

numbers_ascend : (passes : Train → Bool) (low : ℕ) (ts : List Train) → Rise low ts → Ascend low (numbers (filter passes ts))
numbers_ascend passes low [] rising = tt
numbers_ascend passes low (t ∷ ts) rising = by_case (passes t) (numbers_ascend passes t.number ts rising.1)
  where
    by_case : (b : Bool) → Ascend t.number (numbers (filter passes ts)) → Ascend low (numbers (cond b (t ∷ filter passes ts) (filter passes ts)))
    by_case true later = (rising.0, later)
    by_case false later = let first = rising.0 in lower low t.number (numbers (filter passes ts)) (omega (arith, first)) later

pushed_ascend : (passes : Train → Bool) (low : ℕ) (ts : List Train) → Rise low ts → low < last_number low ts → is_among (last_number low ts) (numbers (filter passes ts)) ≡ false
    → Ascend low (numbers (filter passes ts) ++ last_number low ts ∷ [])
pushed_ascend passes low [] rising less apart = absurd (omega (arith, less))
pushed_ascend passes low (t ∷ ts) rising less apart = by_case (passes t) apart (pushed_ascend passes t.number ts rising.1)
  where
    skipped : (us : List Train) → Rise t.number us → (t.number < last_number t.number us → Ascend t.number (numbers (filter passes us) ++ last_number t.number us ∷ [])) → low < t.number
        → Ascend low (numbers (filter passes us) ++ last_number t.number us ∷ [])
    skipped [] rise later below = (below, tt)
    skipped (u ∷ us) rise later below =
        let first = rise.0 in
        let last = last_least u.number us rise.1 in
        lower low t.number (numbers (filter passes (u ∷ us)) ++ last_number u.number us ∷ []) (omega (arith, below)) (later (omega (arith, first, last)))

    by_case : (b : Bool) → is_among (last_number t.number ts) (numbers (cond b (t ∷ filter passes ts) (filter passes ts))) ≡ false
        → (t.number < last_number t.number ts → is_among (last_number t.number ts) (numbers (filter passes ts)) ≡ false → Ascend t.number (numbers (filter passes ts) ++ last_number t.number ts ∷ []))
        → Ascend low (numbers (cond b (t ∷ filter passes ts) (filter passes ts)) ++ last_number t.number ts ∷ [])
    by_case true apart later =
        let both = both_false (t.number == last_number t.number ts) _ apart in
        let least = last_least t.number ts rising.1 in
        (rising.0, later (below_of t.number (last_number t.number ts) least both.0) both.1)
      where
        below_of : (m n : ℕ) → m ≤ n → (m == n) ≡ false → m < n
        below_of m n least apart = grind (arith, nat_tests, least, apart)
    by_case false apart later = skipped ts rising.1 (λ below. later below apart) rising.0

-- ---- the trains to which an object may go

module _ (view : SpaceView) (a : Addr) (law : HeapLaw view) where
  abbrev own : ℕ
  own = home view a.car

  abbrev open_number : ℕ
  open_number = youngest view.trains.trains

  abbrev naming : List ℕ
  naming = naming_trains view own a

  named_train : (n : ℕ) → is_among n naming ≡ true → IsNamedFromTrain view a n
  named_train n among =
      let it = passing_of (is_named_from view own a) 0 view.trains.trains n law.built.trains.rising among in
      let both = both_true (not (it.train.number == own)) (is_named_by view a (λ source. lies_in (λ car. is_among car it.train.cars) source)) it.passing in
      let from = namer view a (λ source. lies_in (λ car. is_among car it.train.cars) source) both.1 in
      by_source it.train it.number it.cars (not_true (it.train.number == own) both.0) from.source from.passing from.names
    where
      by_source : (t : Train) → t.number ≡ n → cars_at view.trains.trains n ≡ Some t.cars → (t.number == own) ≡ false → (x : RefSource) → lies_in (λ car. is_among car t.cars) x ≡ true → IsRemembered view a x → IsNamedFromTrain view a n
      by_source t number cars other (Root k) passing names = absurd (true≢false (sym passing))
      by_source t number cars other (Handle c r) passing names = absurd (true≢false (sym passing))
      by_source t number cars other (Field b i) passing names = record {
        other = subst (λ m. (m == own) ≡ false) number other;
        holder = b;
        index = i;
        lies = among_home view.trains.trains n b.car law.built.trains.single (subst (λ o. is_among b.car (unwrap_or o []) ≡ true) (sym cars) passing);
        names = names;
      }

  train_named : (n : ℕ) → IsNamedFromTrain view a n → is_among n naming ≡ true
  train_named n it =
      left_in (is_named_from view own a) view.trains.trains n it.holder.car it.lies
      (λ t number among.
      and_from _ _ (not_false (t.number == own) (subst (λ m. (m == own) ≡ false) (sym number) it.other))
      (named_so view a (λ source. lies_in (λ car. is_among car t.cars) source) (record { source = Field it.holder it.index; passing = among; names = it.names })))

  -- ---- which they are

  abbrev Spoken : ℕ → Type 0
  Spoken n = IsNamedFromTrain view a n ⊎ IsOpenToHeld view a n

  among_last : (n m : ℕ) (xs : List ℕ) → is_among n (xs ++ m ∷ []) ≡ true → (is_among n xs || (m == n)) ≡ true
  among_last n m [] among = or_false (m == n) among
    where
      or_false : (b : Bool) → (b || false) ≡ true → b ≡ true
      or_false true is = refl
      or_false false is = is
  among_last n m (x ∷ xs) among = by_case (x == n) among (among_last n m xs)
    where
      by_case : (b : Bool) → (b || is_among n (xs ++ m ∷ [])) ≡ true → (is_among n (xs ++ m ∷ []) ≡ true → (is_among n xs || (m == n)) ≡ true) → ((b || is_among n xs) || (m == n)) ≡ true
      by_case true among later = refl
      by_case false among later = later among

  among_front : (n m : ℕ) (xs : List ℕ) → is_among n xs ≡ true → is_among n (xs ++ m ∷ []) ≡ true
  among_front n m [] among = absurd (true≢false (sym among))
  among_front n m (x ∷ xs) among = by_case (x == n) among (among_front n m xs)
    where
      by_case : (b : Bool) → (b || is_among n xs) ≡ true → (is_among n xs ≡ true → is_among n (xs ++ m ∷ []) ≡ true) → (b || is_among n (xs ++ m ∷ [])) ≡ true
      by_case true among later = refl
      by_case false among later = later among

  among_end : (m : ℕ) (xs : List ℕ) → is_among m (xs ++ m ∷ []) ≡ true
  among_end m [] = or_left (m == m) false (eq-eqb m m refl)
  among_end m (x ∷ xs) = or_right (x == m) (among_end m xs)

  spoken : (n : ℕ) → is_among n (ways_out view a) ≡ true → Spoken n
  spoken n among = by_case (is_named_by view a is_bare && not (is_among open_number naming)) refl among
    where
      either : (b c : Bool) → is_among n naming ≡ b → (open_number == n) ≡ c → (b || c) ≡ true → is_named_by view a is_bare ≡ true → Spoken n
      either true c there same is bare = inl (named_train n there)
      either false true there same is bare =
          let it = namer view a is_bare bare in
          inr (record { open_train = sym (eqb-true open_number n same); source = it.source; bare = told_bare it.source it.passing; names = it.names })
      either false false there same is bare = absurd (true≢false (sym is))

      by_case : (b : Bool) → (is_named_by view a is_bare && not (is_among open_number naming)) ≡ b → is_among n (if b then naming ++ open_number ∷ [] else naming) ≡ true → Spoken n
      by_case true is among = either (is_among n naming) (open_number == n) refl refl (among_last n open_number naming among) (both_true (is_named_by view a is_bare) _ is).0
      by_case false is among = inl (named_train n among)

  may_go : (n : ℕ) → Spoken n → is_among n (ways_out view a) ≡ true
  may_go n is =
      ⊎_elim
      (λ (named : IsNamedFromTrain view a n). in_either (is_named_by view a is_bare && not (is_among open_number naming)) (train_named n named))
      (λ (held : IsOpenToHeld view a n).
      subst (λ m. is_among m (ways_out view a) ≡ true) (sym held.open_train)
      (in_open (is_named_by view a is_bare) (is_among open_number naming) (named_so view a is_bare (record { source = held.source; passing = bare_told held.source held.bare; names = held.names })) refl))
      is
    where
      in_either : (b : Bool) → is_among n naming ≡ true → is_among n (if b then naming ++ open_number ∷ [] else naming) ≡ true
      in_either true among = among_front n open_number naming among
      in_either false among = among

      in_open : (b c : Bool) → b ≡ true → is_among open_number naming ≡ c → is_among open_number (if b && not c then naming ++ open_number ∷ [] else naming) ≡ true
      in_open true true bare there = there
      in_open true false bare there = among_end open_number naming
      in_open false c bare there = absurd (true≢false (sym bare))

  pub ways_are : (n : ℕ) → (is_among n (ways_out view a) ≡ true) ↔ Spoken n
  ways_are n = (spoken n, may_go n)

  -- ---- and that they ascend

  below_youngest : (ts : List Train) → Rise 0 ts → is_among (last_number 0 ts) (numbers (filter (is_named_from view own a) ts)) ≡ false → 0 < last_number 0 ts → Ascend 0 (numbers (filter (is_named_from view own a) ts) ++ last_number 0 ts ∷ [])
  below_youngest ts rising apart some = pushed_ascend (is_named_from view own a) 0 ts rising some apart

  pub ways_ascend : Ascend 0 (ways_out view a)
  ways_ascend = by_case (is_named_by view a is_bare) (is_among open_number naming) refl
    where
      some_last : (ts : List Train) → Rise 0 ts → 0 < length ts → 0 < last_number 0 ts
      some_last [] rising some = absurd (omega (arith, some))
      some_last (t ∷ ts) rising some = let first = rising.0 in let last = last_least t.number ts rising.1 in omega (arith, first, last)

      by_case : (b c : Bool) → is_among open_number naming ≡ c → Ascend 0 (if b && not c then naming ++ open_number ∷ [] else naming)
      by_case true true there = numbers_ascend (is_named_from view own a) 0 view.trains.trains law.built.trains.rising
      by_case true false apart = below_youngest view.trains.trains law.built.trains.rising apart (some_last view.trains.trains law.built.trains.rising law.built.trains.standing)
      by_case false c there = numbers_ascend (is_named_from view own a) 0 view.trains.trains law.built.trains.rising
