-- The words of the command line.
use Rattle.std.specs.Prelude.{◌≡◌, ◌⊎◌, ℕ, ◌^◌, ◌<◌, ◌≤◌, List, [], ◌∷◌, codes, decimal}
use Rattle.pm_types.specs.declared.limits.TheConstants.{MOST_TURNS}
use Rattle.pm_words.specs.declared.asked.Asked.{Asked}
use Rattle.pm_words.specs.declared.asked.Asked.TheVariants.{Alone, Ship}
use Rattle.pm_words.specs.declared.chosen.Chosen.{Chosen}
use Rattle.pm_words.specs.declared.chosen.Chosen.TheVariants.{First, Last, Middle}
use Rattle.pm_words.specs.declared.command.Command.{Command}
use Rattle.pm_words.specs.declared.command.Command.TheVariants.{Init, Run, RunThreads, RunSeats, RunYoung, Inspect, Dump, Restore, Why, Make, Trial}

-- a file's name: it is not empty, and does not begin with a dash, which is 45
pub record IsFile (word : List ℕ) : Type 0 where
  pub first : ℕ
  pub rest : List ℕ
  pub is_word : word ≡ first ∷ rest
  pub no_dash : first ≡ 45 → ⊥

-- the word is this number of 32 bits in decimal digits, without a sign or a leading zero
pub record IsNumber (word : List ℕ) (number : ℕ) : Type 0 where
  pub small : number < 2 ^ 32
  pub spelled : word ≡ decimal number

-- the word is this number of turns, spelled so
pub record IsTurns (word : List ℕ) (turns : ℕ) : Type 0 where
  pub few : turns ≤ MOST_TURNS
  pub spelled : word ≡ decimal turns

-- the word is this identity of an object, spelled so
pub record IsIdentity (word : List ℕ) (id : ℕ) : Type 0 where
  pub some : 0 < id
  pub is_number : IsNumber word id

-- `init FILE`
pub record AreInit (words : List (List ℕ)) : Type 0 where
  pub file : List ℕ
  pub is_file : IsFile file
  pub are : words ≡ codes "init" ∷ file ∷ []

-- the word is a MODE
abbrev pub IsMode : List ℕ → Type 0
IsMode word = (word ≡ codes "serial") ⊎ ((word ≡ codes "threads") ⊎ ((word ≡ codes "seats") ⊎ (word ≡ codes "young")))

-- the word is the PLACE of this choice
abbrev pub IsPlace : List ℕ → Chosen → Type 0
IsPlace word First = word ≡ codes "first"
IsPlace word Last = word ≡ codes "last"
IsPlace word Middle = word ≡ codes "middle"

-- the word is a PLACE
pub record IsSomePlace (word : List ℕ) : Type 0 where
  pub chosen : Chosen
  pub is_place : IsPlace word chosen

-- what may stand behind FILE and MODE of a run: no word, or one PLACE
abbrev pub EndsRun : List (List ℕ) → Type 0
EndsRun [] = Unit {0}
EndsRun (word ∷ []) = IsSomePlace word
EndsRun words = ⊥

-- `run FILE` and this MODE, or with a PLACE behind it
pub record AreRunIn (mode : List ℕ) (words : List (List ℕ)) : Type 0 where
  pub file : List ℕ
  pub rest : List (List ℕ)
  pub is_file : IsFile file
  pub ends : EndsRun rest
  pub are : words ≡ codes "run" ∷ file ∷ mode ∷ rest

-- `run FILE serial`
abbrev pub AreRun : List (List ℕ) → Type 0
AreRun words = AreRunIn (codes "serial") words

-- `run FILE threads`
abbrev pub AreRunThreads : List (List ℕ) → Type 0
AreRunThreads words = AreRunIn (codes "threads") words

-- `run FILE seats`
abbrev pub AreRunSeats : List (List ℕ) → Type 0
AreRunSeats words = AreRunIn (codes "seats") words

-- `run FILE young`
abbrev pub AreRunYoung : List (List ℕ) → Type 0
AreRunYoung words = AreRunIn (codes "young") words

-- `inspect FILE`
pub record AreInspect (words : List (List ℕ)) : Type 0 where
  pub file : List ℕ
  pub is_file : IsFile file
  pub are : words ≡ codes "inspect" ∷ file ∷ []

-- `dump FILE`
pub record AreDump (words : List (List ℕ)) : Type 0 where
  pub file : List ℕ
  pub is_file : IsFile file
  pub are : words ≡ codes "dump" ∷ file ∷ []

-- `restore FILE`
pub record AreRestore (words : List (List ℕ)) : Type 0 where
  pub file : List ℕ
  pub is_file : IsFile file
  pub are : words ≡ codes "restore" ∷ file ∷ []

-- `why FILE ID`
pub record AreWhy (words : List (List ℕ)) (id : ℕ) : Type 0 where
  pub file : List ℕ
  pub word : List ℕ
  pub is_file : IsFile file
  pub is_identity : IsIdentity word id
  pub are : words ≡ codes "why" ∷ file ∷ word ∷ []

-- `make SEED N`
pub record AreMake (words : List (List ℕ)) (seed turns : ℕ) : Type 0 where
  pub first : List ℕ
  pub second : List ℕ
  pub is_seed : IsNumber first seed
  pub is_turns : IsTurns second turns
  pub are : words ≡ codes "make" ∷ first ∷ second ∷ []

-- `trial FILE SEED N`
pub record AreTrial (words : List (List ℕ)) (seed turns : ℕ) : Type 0 where
  pub file : List ℕ
  pub first : List ℕ
  pub second : List ℕ
  pub is_file : IsFile file
  pub is_seed : IsNumber first seed
  pub is_turns : IsTurns second turns
  pub are : words ≡ codes "trial" ∷ file ∷ first ∷ second ∷ []

-- these are the words of this command
abbrev pub SpellsAlone : List (List ℕ) → Command → Type 0
SpellsAlone words Init = AreInit words
SpellsAlone words Run = AreRun words
SpellsAlone words RunThreads = AreRunThreads words
SpellsAlone words RunSeats = AreRunSeats words
SpellsAlone words RunYoung = AreRunYoung words
SpellsAlone words Inspect = AreInspect words
SpellsAlone words Dump = AreDump words
SpellsAlone words Restore = AreRestore words
SpellsAlone words (Why id) = AreWhy words id
SpellsAlone words (Make seed turns) = AreMake words seed turns
SpellsAlone words (Trial seed turns) = AreTrial words seed turns

-- these are the words of no command
abbrev pub SpellsNoneAlone : List (List ℕ) → Type 0
SpellsNoneAlone words = (command : Command) → SpellsAlone words command → ⊥

-- `ship FILE OTHER`
pub record AreShip (words : List (List ℕ)) : Type 0 where
  pub file : List ℕ
  pub other : List ℕ
  pub is_file : IsFile file
  pub is_other : IsFile other
  pub are : words ≡ codes "ship" ∷ file ∷ other ∷ []

-- these are the words of what is asked
abbrev pub Spells : List (List ℕ) → Asked → Type 0
Spells words (Alone command) = SpellsAlone words command
Spells words Ship = AreShip words

-- these words ask for nothing
abbrev pub SpellsNothing : List (List ℕ) → Type 0
SpellsNothing words = (asked : Asked) → Spells words asked → ⊥

-- `run FILE MODE PLACE`, with the PLACE of this choice
pub record HasPlace (words : List (List ℕ)) (chosen : Chosen) : Type 0 where
  pub file : List ℕ
  pub mode : List ℕ
  pub place : List ℕ
  pub is_file : IsFile file
  pub is_mode : IsMode mode
  pub is_place : IsPlace place chosen
  pub are : words ≡ codes "run" ∷ file ∷ mode ∷ place ∷ []

-- these are not the words of a run with a PLACE
abbrev pub HasNoPlace : List (List ℕ) → Type 0
HasNoPlace words = (chosen : Chosen) → HasPlace words chosen → ⊥

-- the words choose so: by their PLACE, or the first if they have none
abbrev pub Places : List (List ℕ) → Chosen → Type 0
Places words chosen = HasPlace words chosen ⊎ ((chosen ≡ First) × HasNoPlace words)
