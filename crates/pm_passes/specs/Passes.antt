-- What contracts see of a pass, and what happens to passes.
use Rattle.std.specs.Prelude.{◌≡◌, ◌⊎◌, ℕ, ◌-◌, ◌/◌, true, List, [], ◌∷◌, ◌++◌, Some, None, Option as Opt, length}
use base.Stored.{Gv}
use Rattle.atomic_table.specs.Table.{Me}
use Rattle.atomic_table.specs.Seated.{TableId}
use Rattle.pm_passes.specs.declared.value.Logged.{Ghosts}
use Rattle.pm_passes.specs.declared.view.View.{View}
use Rattle.pm_passes.specs.declared.pass.Pass.{Pass}
use Rattle.pm_passes.specs.Numbering.{KeepsCounts, last_number}
use Rattle.pm_passes.specs.Views.{StartsWith, AddsEntry, HasOwn, IsOf, calls_by, met, seated, view_in}
use Rattle.pm_passes.specs.Steps.{EntersHeld, IsIdle}

module _ {E : Type 0} where
  -- what a pass knows
  abbrev pub view_of : Pass E → View E
  view_of pass = view_in pass.badge.views

  -- the pass is one of the home with this table, and knows this code of its first tie
  pub record IsAmong (home : TableId) (origin : Gv) (pass : Pass E) : Type 0 where
    pub table_is : pass.badge.table_id ≡ home
    pub origin_is : (view_of pass).origin ≡ origin

  -- the pass may be kept for the next call: it is idle, and its front has its own entries
  pub record IsReadyPass {B : Type 0} (me : Me (Opt B) (View E)) : Type 0 where
    pub idle : IsIdle me
    pub own : HasOwn me.0

  -- A pass was split off: it has a number that none had, has seen as much and made nothing, and has half of the shares,
  -- rounded down. The first keeps the others, and is else as it was.
  pub record SplitsPass (v w other : View E) : Type 0 where
    pub first : w ≡ record v { shares = v.shares - v.shares / 2; all = w.all; next = w.next; was = w.was }
    pub second : other ≡ seated true other.number v.front (v.shares / 2) v.faults v.events v.origin
    pub fresh : IsOf v other.number → ⊥
    pub unused : calls_by other.number v.front ≡ []

  -- the pass has found that all numbers were drawn, and is else as it was
  pub record FindsNoNumber (v w : View E) : Type 0 where
    pub view : w ≡ record v { all = w.all; next = w.next; was = w.was }
    pub last : w.next ≡ last_number

  -- a pass was met into another: the longer front, which begins with both, is its front
  pub record MeetsPass (v w u : View E) : Type 0 where
    pub view : u ≡ record (met v w) { front = u.front; also = [] }
    pub front : StartsWith u.front v.front
    pub also : StartsWith u.front w.front
    pub one : (u.front ≡ v.front) ⊎ (u.front ≡ w.front)

  -- a call came to this entry: the pass has seen all that it had, entries of others, and its own one, which is the last
  -- of so many
  pub record CallsPass (v : View E) (count : ℕ) (w : View E) : Type 0 where
    pub entry : E
    pub before : List (ℕ × E)
    pub view : w ≡ record v { front = w.front; mine = v.mine ++ entry ∷ []; all = w.all; next = w.next; was = w.was }
    pub starts : StartsWith before v.front
    pub front : w.front ≡ before ++ (v.number, entry) ∷ []
    pub counted : length w.front ≡ count

module _ {B E T : Type 0} (shows : Ghosts B E T) (refuses : B → Type 0) where
  -- a call was refused by a value with this log, all of which the pass has seen
  pub record RefusesPass (v w : View E) : Type 0 where
    pub view : w ≡ record v { front = w.front; all = w.all; next = w.next; was = w.was }
    pub starts : StartsWith w.front v.front
    pub value : B
    pub log_is : shows.log value ≡ w.front
    pub refused : refuses value

  -- what a call did: it came to an entry, or was refused
  abbrev pub Serves : Opt ℕ → View E → View E → Type 0
  Serves (Some count) v w = CallsPass v count w
  Serves None v w = RefusesPass v w

  -- the value has one entry more of this pass, and so many then, or it refuses
  abbrev pub HasMore : View E → B → Opt ℕ → Type 0
  HasMore v b (Some count) = AddsEntry v.number v.all (shows.log b) count
  HasMore v b None = (shows.log b ≡ v.all) × refuses b

  -- a call was made of the value that this pass has
  pub record HasServed (code : T → Gv) (made : Opt ℕ) (me : Me (Opt B) (View E)) : Type 0 where
    pub value : B
    pub held : me.1 ≡ (0, Some value) ∷ []
    pub more : HasMore me.0 value made
    pub next_is : shows.next value ≡ me.0.next
    pub counts : KeepsCounts me.0.was (shows.numbers value)
    pub tied : code (shows.tie value) ≡ me.0.origin
    pub is_sound : shows.sound value

module _ {B E T : Type 0} (shows : Ghosts B E T) where
  -- the entry was told to all, or there is none
  abbrev pub EntersIf : Opt ℕ → Me (Opt B) (View E) → Me (Opt B) (View E) → Type 0
  EntersIf (Some count) v w = EntersHeld shows v w
  EntersIf None v w = w ≡ v

  -- nothing of the value is another's: its log is the front, and what is counted of it is the pass's own
  pub record IsWhole (v : View E) (b : B) : Type 0 where
    pub log_is : shows.log b ≡ v.front
    pub made : (shows.numbers b).made ≡ v.made
    pub flushed : (shows.numbers b).flushed ≡ v.flushed
    pub struck : (shows.numbers b).struck ≡ v.struck
    pub covers : (n : ℕ) → (calls_by n v.front ≡ []) ⊎ IsOf v n
