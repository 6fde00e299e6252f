-- What a pass has before a step, and what the step tells it.
use Rattle.std.specs.Prelude.{◌≡◌, ◌≢◌, ◌⊎◌, ℕ, suc, ◌<◌, ◌≤◌, true, false, [], ◌∷◌, Some, Option as Opt}
use base.Stored.{Gv}
use Rattle.atomic_table.specs.Table.{Me, Step}
use Rattle.pm_passes.specs.declared.value.Logged.{Ghosts}
use Rattle.pm_passes.specs.declared.view.View.{View}
use Rattle.pm_passes.specs.Numbering.{NotLess, every}
use Rattle.pm_passes.specs.Views.{StartsWith, IsOf, HasOwn, HasOwnIn, calls_by, entered, given, given_telling, given_unseen, logged}

module _ {B E : Type 0} where
  -- the pass is of use, has not the value, and no front waits
  pub record IsIdle (me : Me (Opt B) (View E)) : Type 0 where
    pub speaks : me.0.speaks ≡ true
    pub free : me.0.holds ≡ false
    pub still : me.0.also ≡ []
    pub empty : me.1 ≡ []

  -- the pass is of use, and is noted as the one that has the value
  pub record IsHolding (me : Me (Opt B) (View E)) : Type 0 where
    pub speaks : me.0.speaks ≡ true
    pub holds : me.0.holds ≡ true

module _ {B E T : Type 0} (shows : Ghosts B E T) where
  -- the log is empty, the next pass is number 1, and no pass has counted anything yet
  pub record IsNew (b : B) : Type 0 where
    pub log_is : shows.log b ≡ []
    pub next_is : shows.next b ≡ 1
    pub made : (shows.numbers b).made ≡ 0
    pub flushed : (shows.numbers b).flushed ≡ 0
    pub struck : (shows.numbers b).struck ≡ 0
    pub is_sound : shows.sound b

module _ {B E T : Type 0} (shows : Ghosts B E T) (code : T → Gv) where
  -- the pass has the value, and knows all of its log
  pub record HasLog (me : Me (Opt B) (View E)) : Type 0 where
    pub value : B
    pub held : me.1 ≡ (0, Some value) ∷ []
    pub log_is : shows.log value ≡ me.0.all
    pub next_is : shows.next value ≡ me.0.next
    pub was : shows.numbers value ≡ me.0.was
    pub tied : code (shows.tie value) ≡ me.0.origin
    pub is_sound : shows.sound value

  -- the same, once the next number was drawn
  pub record HasDrawn (me : Me (Opt B) (View E)) : Type 0 where
    pub value : B
    pub held : me.1 ≡ (0, Some value) ∷ []
    pub log_is : shows.log value ≡ me.0.all
    pub next_is : shows.next value ≡ suc me.0.next
    pub was : shows.numbers value ≡ me.0.was
    pub tied : code (shows.tie value) ≡ me.0.origin
    pub is_sound : shows.sound value

  -- the pass has the value, which may be put back: its log is the one that all know, and nothing that is counted fell
  pub record IsReady (me : Me (Opt B) (View E)) : Type 0 where
    pub value : B
    pub held : me.1 ≡ (0, Some value) ∷ []
    pub log_is : shows.log value ≡ me.0.all
    pub next_is : shows.next value ≡ me.0.next
    pub more : NotLess me.0.was (shows.numbers value)
    pub tied : code (shows.tie value) ≡ me.0.origin
    pub is_sound : shows.sound value

module _ {E : Type 0} where
  -- the pass has all shares: nothing of the log is another's, and what is counted is its own
  pub record HasAll (v w : View E) : Type 0 where
    pub front : w.all ≡ v.front
    pub made : w.was.made ≡ v.made
    pub flushed : w.was.flushed ≡ v.flushed
    pub struck : w.was.struck ≡ v.struck
    pub covers : (n : ℕ) → (calls_by n v.front ≡ []) ⊎ IsOf v n

  -- what a pass knows once it has the value
  pub record Sees (v w : View E) : Type 0 where
    pub view : w ≡ record v { holds = true; all = w.all; next = w.next; was = w.was }
    pub starts : StartsWith w.all v.front
    pub own : HasOwnIn w w.all
    -- its front has its own entries still, and none of the next number
    pub kept : HasOwn w
    pub unused : calls_by w.next w.front ≡ []
    pub drawn : (n : ℕ) → IsOf v n → n < w.next
    pub faults : v.faults ≤ w.was.faults
    pub events : v.events ≤ w.was.events
    pub whole : v.shares ≡ every → HasAll v w

  -- the longer of the two fronts is the front: it begins with both
  pub record SeesLonger {B : Type 0} (v w : Me (Opt B) (View E)) : Type 0 where
    pub view : w ≡ (record v.0 { front = w.0.front; also = [] }, v.1)
    pub front : StartsWith w.0.front v.0.front
    pub also : StartsWith w.0.front v.0.also
    pub one : (w.0.front ≡ v.0.front) ⊎ (w.0.front ≡ v.0.also)
    pub own : HasOwn w.0
    pub few : w.0.shares ≤ every

  abbrev pub Looks : {B : Type 0} → Step (Opt B) → Me (Opt B) (View E) → ℕ → Me (Opt B) (View E) → Type 0
  Looks s v found w = SeesLonger v w

module _ {B E T : Type 0} (shows : Ghosts B E T) (code : T → Gv) where
  -- where the word was 1 the pass has the value, and has seen all of its log; else nothing changed
  pub record TakesOut (s : Step (Opt B)) (v : Me (Opt B) (View E)) (found : ℕ) (w : Me (Opt B) (View E))
      : Type 0 where
    pub missed : found ≢ 1 → w ≡ v
    pub out : found ≡ 1 → HasLog shows code w
    pub sees : found ≡ 1 → Sees v.0 w.0

module _ {B E T : Type 0} (shows : Ghosts B E T) where
  -- the pass has made one entry more, which all see: the last of the log of the value that it has
  pub record EntersHeld (v w : Me (Opt B) (View E)) : Type 0 where
    pub value : B
    pub entry : E
    pub held : v.1 ≡ (0, Some value) ∷ []
    pub last : shows.log value ≡ logged v.0 entry
    pub after : w ≡ (entered v.0 entry, v.1)
    pub own : HasOwn (entered v.0 entry)

  abbrev pub Enters : Step (Opt B) → Me (Opt B) (View E) → ℕ → Me (Opt B) (View E) → Type 0
  Enters s v stored w = EntersHeld v w

  -- the value is back, and what the pass has counted rose as the value's numbers did meanwhile
  abbrev pub PutsBack : Step (Opt B) → Me (Opt B) (View E) → ℕ → Me (Opt B) (View E) → Type 0
  PutsBack s v stored w = (b : B) × (v.1 ≡ (0, Some b) ∷ []) × (w ≡ (given v.0 (shows.numbers b), []))

  -- the same of a pass that has not looked at the log
  abbrev pub PutsBackUnseen : Step (Opt B) → Me (Opt B) (View E) → ℕ → Me (Opt B) (View E) → Type 0
  PutsBackUnseen s v stored w = (b : B) × (v.1 ≡ (0, Some b) ∷ []) × (w ≡ (given_unseen v.0 (shows.numbers b), []))

  -- the same of a pass that is told of all faults and events
  abbrev pub PutsBackTelling : Step (Opt B) → Me (Opt B) (View E) → ℕ → Me (Opt B) (View E) → Type 0
  PutsBackTelling s v stored w = (b : B) × (v.1 ≡ (0, Some b) ∷ []) × (w ≡ (given_telling v.0 (shows.numbers b), []))
