-- What `main` takes from its words, and what a run of the program from it leaves.
use Rattle.std.specs.Prelude.{◌≡◌, ◌⊎◌, ℕ, ◌-◌, ◌/◌, List, [], ◌∷◌, codes, length, Result, Ok, Err}
use Rattle.std.specs.Borrow.{Bor}
use Rattle.std.specs.Fn.{Shared}
use Rattle.pm_disk.specs.declared.disk.Disk as disk
use Rattle.pm_io.specs.declared.source.Source as source
use Rattle.pm_io.specs.declared.sink.Sink as sink
use Rattle.pm_place.specs.Choosers.{IsAsked, IsChooser}
use Rattle.pm_words.specs.Words.{Places}
use Rattle.pm_words.specs.declared.chosen.Chosen.{Chosen}
use Rattle.pm_words.specs.declared.chosen.Chosen.TheVariants.{First, Last, Middle}
use Rattle.pm_runs.specs.declared.ends.ended.Ended.{Ended}
use Rattle.pm_top.specs.Program.{Performs}

-- the file's name: the second word, or nothing where there is none
abbrev pub path_in : List (List ℕ) → List ℕ
path_in (verb ∷ file ∷ rest) = file
path_in words = []

-- the other file's name: the third word where the first is `ship`, or nothing
abbrev pub IsOtherPath : List (List ℕ) → List ℕ → Type 0
IsOtherPath (verb ∷ file ∷ other ∷ rest) path = ((verb ≡ codes "ship") × (path ≡ other)) ⊎ ((verb ≡ codes "ship" → ⊥) × (path ≡ []))
IsOtherPath words path = path ≡ []

-- which place of a list of so many trains is chosen: the first, the last, or the middle one, the later of two
abbrev pub place_in : Chosen → ℕ → ℕ
place_in First many = 0
place_in Last many = many - 1
place_in Middle many = many / 2

-- the words that std gave, or none where it gave none
abbrev pub words_in : {A E : Type 0} → (A → List (List ℕ)) → Result A E → List (List ℕ)
words_in items (Ok all) = items all
words_in items (Err error) = []

module _ {F : Type 0} (calls : Shared F (Bor (List ℕ) × Unit {0}) ℕ) (choose : F) where
  -- whatever it answers of a list of trains is the place that is chosen
  abbrev pub Chooses : Chosen → Type 0
  Chooses chosen = (trains : Bor (List ℕ)) (index : ℕ) → IsAsked trains.now → calls.post choose (trains, tt) index → index ≡ place_in chosen (length trains.now)

module _ {F M : Type 0} (calls : Shared F (Bor (List ℕ) × Unit {0}) ℕ) (makes : Shared M (Chosen × Unit {0}) F) (make : M) where
  -- It may be asked for a chooser of this place, and whatever it makes is one.
  pub record MakesChooser (chosen : Chosen) : Type 0 where
    pub may_call : makes.pre make (chosen, tt)
    pub is_chooser : (place : F) → makes.post make (chosen, tt) place → IsChooser calls place
    pub chooses : (place : F) → makes.post make (chosen, tt) place → Chooses calls place chosen

module _ {D F S K : Type 0} (d : disk.Ghosts D) (s : source.Ghosts S) (k : sink.Ghosts K) (calls : Shared F (Bor (List ℕ) × Unit {0}) ℕ) (path : D → List ℕ) where
  -- There are the disks of the two files that the words name, of which no call was made yet, and the chooser of the place that
  -- they choose, with which, and over this source and this sink, the program performed what the words ask for, and ended so.
  pub record PerformsFrom (source : S) (sink : K) (words : List (List ℕ)) (ended : Ended D D S K) : Type 0 where
    pub disk : D
    pub other : D
    pub path_is : path disk ≡ path_in words
    pub other_path_is : IsOtherPath words (path other)
    pub count : d.count disk ≡ 0
    pub uncalled : d.moment disk ≡ 0
    pub other_count : d.count other ≡ 0
    pub other_uncalled : d.moment other ≡ 0
    pub chosen : Chosen
    pub places : Places words chosen
    pub place : F
    pub chooses : Chooses calls place chosen
    pub performs : Performs d d s k place words disk other source sink ended
