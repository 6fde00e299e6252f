-- Trains to which an object may go, sought source by source.
use Rattle.std.specs.Prelude.{◌≡◌, ℕ, Bool, true, false, not, ◌==◌, cond, List, map, Option, Some, None}
use Rattle.std.specs.Option.{option_and_then}
use Rattle.std.specs.List.{filter, list_any}
use Rattle.std.specs.Ordering.{nat_cmp}
use Rattle.std.specs.BTreeSet as sorted
use Rattle.pm_types.specs.declared.source.RefSource.{RefSource}
use Rattle.pm_types.specs.declared.source.RefSource.TheVariants.{Root, Handle, Field}
use Rattle.pm_trains.specs.Trains.{Train, train_of, youngest}

-- the train of a source that is a field of an object in another train than this one, none for any other source
abbrev pub naming_train : List Train → ℕ → RefSource → Option ℕ
naming_train trains train (Root number) = None
naming_train trains train (Handle client register) = None
naming_train trains train (Field a index) = option_and_then (λ home. cond (home == train) None (Some home)) (train_of trains a.car)

-- it is this train
abbrev pub is_train : Option ℕ → ℕ → Bool
is_train None number = false
is_train (Some home) number = home == number

-- the numbers of the trains whose numbers pass
abbrev pub numbered : (ℕ → Bool) → List Train → List ℕ
numbered passes trains = map (λ (t : Train). t.number) (filter (λ (t : Train). passes t.number) trains)

-- these are the other trains that have an object with one of these sources
abbrev pub AreHomes : List Train → ℕ → List RefSource → sorted.BTreeSet ℕ → Type 0
AreHomes trains train sources homes = (n : ℕ) → sorted.contains nat_cmp homes n ≡ list_any (λ source. is_train (naming_train trains train source) n) sources

-- their numbers, in the order of the trains
abbrev pub numbers_in : sorted.BTreeSet ℕ → List Train → List ℕ
numbers_in homes trains = numbered (sorted.contains nat_cmp homes) trains

-- the train to which a source leads an object of this train: the open train where it is a root or a register
abbrev pub way_of : List Train → ℕ → RefSource → Option ℕ
way_of trains train (Root number) = Some (youngest trains)
way_of trains train (Handle client register) = Some (youngest trains)
way_of trains train (Field a index) = naming_train trains train (Field a index)

-- it is a train, and not this one
abbrev pub is_other : Option ℕ → ℕ → Bool
is_other None number = false
is_other (Some home) number = not (home == number)

-- the source leads to this train
abbrev pub leads_to : List Train → ℕ → ℕ → RefSource → Bool
leads_to trains train way source = is_train (way_of trains train source) way

-- the source leads to another train than this one
abbrev pub leads_elsewhere : List Train → ℕ → ℕ → RefSource → Bool
leads_elsewhere trains train way source = is_other (way_of trains train source) way

-- these sources lead to this train, and to no other
pub record IsOnlyWay (trains : List Train) (train : ℕ) (sources : List RefSource) (way : ℕ) : Type 0 where
  pub leads : list_any (leads_to trains train way) sources ≡ true
  pub no_other : list_any (leads_elsewhere trains train way) sources ≡ false
