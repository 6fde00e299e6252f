-- Sources that are no fields of objects in a train.
use Rattle.std.proofs.Common.{◌≡◌, ℕ, ◌≤◌, Bool, true, false, cond, not, refl, ap, sym, ◌∙◌, List, Option, Some, None, is_some}
use Rattle.std.proofs.lemmas.Bool.{true≢false, false_from_ne_true}
use Rattle.pm_types.specs.declared.source.RefSource.{RefSource}
use Rattle.pm_types.specs.declared.source.RefSource.TheVariants.{Root, Handle, Field}
use Rattle.pm_trains.specs.Trains.{Train, train_of, is_among}
use Rattle.pm_trains.specs.Sound as line
use Rattle.pm_remset.specs.Remembered.{Fact, Remembered, FindsFirst}
use Rattle.pm_law_commands.proofs.RowLemmas.OpenTrain.{among_home}
use Rattle.pm_view.specs.Reading.{cars_of}
use Rattle.pm_view.specs.Candidates.{is_beyond}
use Rattle.pm_next.specs.Sought.{inside_car}

-- a car that has none is not one of a train
pub no_links : (ts : List Train) (car train : ℕ) → ((q : ℕ) → line.places q ts ≤ 1) → is_some (train_of ts car) ≡ false → false ≡ is_among car (cars_of ts train)
no_links ts car train single none = sym (false_from_ne_true (is_among car (cars_of ts train)) (λ among. true≢false (sym (ap is_some (among_home ts train car single among)) ∙ none)))

-- a source is beyond the train just where no car of it is inside
pub beyond_is : (ts : List Train) (train : ℕ) (source : RefSource) → not (is_some (inside_car ts train source)) ≡ is_beyond ts train source
beyond_is ts train (Root n) = refl
beyond_is ts train (Handle c r) = refl
beyond_is ts train (Field a i) = by_case (is_among a.car (cars_of ts train))
  where
    by_case : (b : Bool) → not (is_some (cond b (Some a.car) None)) ≡ not b
    by_case true = refl
    by_case false = refl

-- what finds the first entry by two facts finds it by two that follow from them
pub finds_through : (passes fails passes_then fails_then : Fact) → ((source : RefSource) (slot : ℕ) → passes source slot → passes_then source slot) → ((source : RefSource) (slot : ℕ) → fails source slot → fails_then source slot)
    → (set : Remembered) (found : Option (RefSource × ℕ)) → FindsFirst passes fails set found → FindsFirst passes_then fails_then set found
finds_through passes fails passes_then fails_then pass fail set None finds = λ source slot is. fail source slot (finds source slot is)
finds_through passes fails passes_then fails_then pass fail set (Some e) finds =
    record { there = finds.there; passed = pass e.0 e.1 finds.passed; lower_failed = λ other at is less. fail other at (finds.lower_failed other at is less) }
