-- The rule of the table in which the value lies between turns, and what its steps tell: it has one word and one slot.
use Rattle.std.specs.Prelude.{◌≡◌, ◌≢◌, ◌⊎◌, ℕ, ◌+◌, ◌<◌, ◌≤◌, List, [], ◌∷◌, Some, Option as Opt}
use mathlib.Core.Option.{Option, some, none}
use Rattle.atomic_table.specs.Table.{State, Me, Step}
use Rattle.pm_turns.specs.declared.rule.View.{View}
use Rattle.pm_turns.specs.declared.turn.Turn.{Turn}
use Rattle.pm_turns.specs.Views.{AllKnow, Speaks}

module _ {B : Type 0} where
  -- the word is 0, and the value is out with a seat
  pub record IsOut (words : List ℕ) (homes : List (Option (Opt B))) : Type 0 where
    pub word : words ≡ 0 ∷ []
    pub away : homes ≡ none ∷ []

module _ {B T : Type 0} where
  -- the seat knows a tie and holds nothing
  pub record IsIdle (me : Me (Opt B) (View T)) : Type 0 where
    pub speaks : Speaks me.0
    pub empty : me.1 ≡ []

  -- the seat holds a value, sound and with the tie that it knows, and nothing else
  pub record Holds (tie : B → T) (sound : B → Type 0) (me : Me (Opt B) (View T)) : Type 0 where
    pub value : B
    pub held : me.1 ≡ (0, Some value) ∷ []
    pub tied : me.0.tie ≡ Some (tie value)
    pub is_sound : sound value

  -- the word is 1, and a value with this tie is at home and sound
  pub record IsAtHome (tie : B → T) (sound : B → Type 0) (t : T) (words : List ℕ) (homes : List (Option (Opt B)))
      : Type 0 where
    pub value : B
    pub word : words ≡ 1 ∷ []
    pub here : homes ≡ some (Some value) ∷ []
    pub tied : tie value ≡ t
    pub is_sound : sound value

  -- all seats know one tie, and the word is 1 just while a value with that tie is at home
  pub record IsKept (tie : B → T) (sound : B → Type 0) (t : T) (s : State (Opt B) (View T)) : Type 0 where
    pub know : AllKnow t s.views
    pub place : IsAtHome tie sound t s.words s.homes ⊎ IsOut s.words s.homes

  -- where the word was 1, the seat holds the value; else it holds nothing
  pub record TakesOut (tie : B → T) (sound : B → Type 0)
      (s : Step (Opt B)) (old : Me (Opt B) (View T)) (found : ℕ) (new : Me (Opt B) (View T)) : Type 0 where
    pub view : new.0 ≡ old.0
    pub out : found ≡ 1 → Holds tie sound new
    pub missed : found ≢ 1 → new.1 ≡ []

  -- the seat holds nothing any more
  abbrev pub PutsBack : Step (Opt B) → Me (Opt B) (View T) → ℕ → Me (Opt B) (View T) → Type 0
  PutsBack s old stored new = new ≡ (old.0, [])

  -- A turn of this worker said so. The seat holds what the turn made of the value that it held.
  pub record MakesTurn (turn : B → B → ℕ → Turn → Type 0) (who : ℕ) (old new : Me (Opt B) (View T)) (said : Turn)
      : Type 0 where
    pub before : B
    pub after : B
    pub held : old.1 ≡ (0, Some before) ∷ []
    pub holds : new.1 ≡ (0, Some after) ∷ []
    pub does : turn before after who said

  -- A turn of this worker said so: one at a sound value with the tie that the seat knows, which it left sound.
  pub record TakesTurn (tie : B → T) (sound : B → Type 0) (turn : B → B → ℕ → Turn → Type 0) (who : ℕ) (view : View T)
      (said : Turn) : Type 0 where
    pub before : B
    pub after : B
    pub tied : view.tie ≡ Some (tie before)
    pub was_sound : sound before
    pub is_sound : sound after
    pub does : turn before after who said

  -- some turn of this worker was made
  pub record HasTurn (tie : B → T) (sound : B → Type 0) (turn : B → B → ℕ → Turn → Type 0) (who : ℕ) (view : View T) : Type 0 where
    pub said : Turn
    pub takes : TakesTurn tie sound turn who view said

  -- each of so many workers from this one on has had one
  abbrev pub HaveTurns : (B → T) → (B → Type 0) → (B → B → ℕ → Turn → Type 0) → ℕ → ℕ → View T → Type 0
  HaveTurns tie sound turn first count view = (who : ℕ) → first ≤ who → who < first + count → HasTurn tie sound turn who view
