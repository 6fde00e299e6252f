-- The rule of the table in which the value lies between calls: it has two words and one slot.
use Rattle.std.specs.Prelude.{◌≡◌, ◌≢◌, ◌⊎◌, ℕ, ◌<◌, ◌≤◌, true, false, List, [], ◌∷◌, Some, Option as Opt, length}
use Rattle.std.specs.List.{AllByRecursion}
use mathlib.Core.Option.{some}
use lib.ListN.{get_elem?}
use base.Stored.{Gv}
use Rattle.atomic_table.specs.Table.{State}
use Rattle.pm_passes.specs.declared.value.Logged.{Ghosts}
use Rattle.pm_passes.specs.declared.view.Numbers.{Numbers}
use Rattle.pm_passes.specs.declared.view.View.{View}
use Rattle.pm_passes.specs.Numbering.{every, total}
use Rattle.pm_passes.specs.Views.{StartsWith, AreApart, IsOf, calls_by, spent}

-- the log as it stands, the number of the next pass, and what is counted
pub record Standing (E : Type 0) : Type 0 where
  pub all : List (ℕ × E)
  pub next : ℕ
  pub numbers : Numbers

module _ {E : Type 0} where
  -- what the rule says of a pass that was met into the pass i
  pub record IsGone (st : Standing E) (owner : ℕ → ℕ) (i : ℕ) (v : View E) (x : ℕ × List E) : Type 0 where
    pub below : x.0 < st.next
    pub owned : owner x.0 ≡ i
    pub other : x.0 ≢ v.number
    pub calls : calls_by x.0 st.all ≡ x.1
    pub seen : (calls_by x.0 v.front ≡ x.1) ⊎ (calls_by x.0 v.also ≡ x.1)

  -- what it says of a pass that has the value
  pub record HoldsAll (st : Standing E) (v : View E) : Type 0 where
    pub all_is : v.all ≡ st.all
    pub next : v.next ≡ st.next
    pub was : v.was ≡ st.numbers

  -- what it says of the pass i, which speaks
  pub record Fits (st : Standing E) (origin : Gv) (owner : ℕ → ℕ) (i : ℕ) (v : View E) : Type 0 where
    pub below : v.number < st.next
    pub owned : owner v.number ≡ i
    pub part : 0 < v.shares
    pub faults : v.faults ≤ st.numbers.faults
    pub events : v.events ≤ st.numbers.events
    pub tied : v.origin ≡ origin
    pub front : StartsWith st.all v.front
    pub also : StartsWith st.all v.also
    pub mine : calls_by v.number st.all ≡ v.mine
    pub own : calls_by v.number v.front ≡ v.mine
    pub ended : AllByRecursion (IsGone st owner i v) v.ended
    pub apart : AreApart v.ended
    pub whole : v.holds ≡ true → HoldsAll st v

  -- a number that was drawn belongs to a pass that speaks
  pub record IsCovered (views : List (View E)) (i n : ℕ) : Type 0 where
    pub view : View E
    pub at : get_elem? views i ≡ some view
    pub speaks : view.speaks ≡ true
    pub is_of : IsOf view n

  -- what it says of all passes: one at most has the value, no number but those that were drawn has entries, and shares
  -- and counts add up
  pub record AreViews (st : Standing E) (origin : Gv) (owner : ℕ → ℕ) (views : List (View E)) : Type 0 where
    pub knows : (i : ℕ) (v : View E) → get_elem? views i ≡ some v → v.speaks ≡ true → Fits st origin owner i v
    pub quiet : (i : ℕ) (v : View E) → get_elem? views i ≡ some v → v.speaks ≡ false → v ≡ spent
    pub one : (i j : ℕ) (v w : View E) → get_elem? views i ≡ some v → get_elem? views j ≡ some w → i ≢ j
        → v.holds ≡ true → w.holds ≡ true → ⊥
    pub covered : (n : ℕ) → n < st.next → IsCovered views (owner n) n
    pub unused : (n : ℕ) → st.next ≤ n → calls_by n st.all ≡ []
    pub shares : total (λ v. v.shares) views ≡ every
    pub made : total (λ v. v.made) views ≡ st.numbers.made
    pub flushed : total (λ v. v.flushed) views ≡ st.numbers.flushed
    pub struck : total (λ v. v.struck) views ≡ st.numbers.struck

module _ {B E T : Type 0} (shows : Ghosts B E T) (code : T → Gv) where
  -- the value is this, as it stands
  pub record IsValue (st : Standing E) (origin : Gv) (b : B) : Type 0 where
    pub log_is : shows.log b ≡ st.all
    pub next_is : shows.next b ≡ st.next
    pub numbers_are : shows.numbers b ≡ st.numbers
    pub tied : code (shows.tie b) ≡ origin
    pub is_sound : shows.sound b

  -- the value is at home, and no pass has it
  pub record IsHome (st : Standing E) (origin : Gv) (s : State (Opt B) (View E)) : Type 0 where
    pub value : B
    pub here : get_elem? s.homes 0 ≡ some (some (Some value))
    pub is_value : IsValue st origin value
    pub free : (i : ℕ) (v : View E) → get_elem? s.views i ≡ some v → v.holds ≡ false

  -- There is one log, of which all passes know a beginning. The first word is the turn: the value is at home where it
  -- is 1. The second is the log's length. `owner` has the place of the pass to which a number belongs.
  pub record Kept (origin : Gv) (s : State (Opt B) (View E)) : Type 0 where
    pub st : Standing E
    pub owner : ℕ → ℕ
    pub turn : ℕ
    pub words : s.words ≡ turn ∷ length st.all ∷ []
    pub views : AreViews st origin owner s.views
    pub home : turn ≡ 1 → IsHome st origin s
