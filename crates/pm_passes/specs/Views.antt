-- What passes know of one log.
use Rattle.std.specs.Prelude.{◌≡◌, ◌⊎◌, ℕ, suc, ◌+◌, ◌-◌, ◌/◌, max, Bool, true, false, List, [], ◌∷◌, ◌++◌, map, filter, length, nat_eq}
use Rattle.std.specs.List.{AllByRecursion}
use base.Stored.{Gv, gnil}
use Rattle.pm_passes.specs.declared.view.Numbers.{Numbers}
use Rattle.pm_passes.specs.declared.view.View.{View}
use Rattle.pm_passes.specs.Numbering.{every, nothing}

module _ {E : Type 0} where
  -- the log begins with these entries
  abbrev pub StartsWith : List (ℕ × E) → List (ℕ × E) → Type 0
  StartsWith log first = (rest : List (ℕ × E)) × (log ≡ first ++ rest)

  -- the entries with this number, in order
  abbrev pub calls_by : ℕ → List (ℕ × E) → List E
  calls_by number log = map (λ x. x.1) (filter (λ x. nat_eq x.0 number) log)

  -- this number is that of a pass that was met
  abbrev pub Has : List (ℕ × List E) → ℕ → Type 0
  Has [] n = ⊥
  Has (x ∷ xs) n = (x.0 ≡ n) ⊎ Has xs n

  -- this number is the pass's own, or that of one that was met into it
  abbrev pub IsOf : View E → ℕ → Type 0
  IsOf v n = (v.number ≡ n) ⊎ Has v.ended n

  -- all these numbers differ
  abbrev pub AreApart : List (ℕ × List E) → Type 0
  AreApart [] = Unit {0}
  AreApart (x ∷ xs) = (Has xs x.0 → ⊥) × AreApart xs

  -- the log has just these entries of the pass, and of those that were met into it, and all their numbers differ
  pub record HasOwnIn (v : View E) (log : List (ℕ × E)) : Type 0 where
    pub mine : calls_by v.number log ≡ v.mine
    pub ended : AllByRecursion (λ x. calls_by x.0 log ≡ x.1) v.ended
    pub other : Has v.ended v.number → ⊥
    pub apart : AreApart v.ended

  -- its front has
  abbrev pub HasOwn : View E → Type 0
  HasOwn v = HasOwnIn v v.front

  -- a pass that has made no entry, with so many shares: it was told of so many faults and events
  abbrev pub seated : Bool → ℕ → List (ℕ × E) → ℕ → ℕ → ℕ → Gv → View E
  seated speaks number front shares faults events origin = record {
    speaks = speaks;
    holds = false;
    number = number;
    front = front;
    also = [];
    mine = [];
    ended = [];
    shares = shares;
    made = 0;
    flushed = 0;
    struck = 0;
    faults = faults;
    events = events;
    all = [];
    next = 0;
    was = nothing;
    origin = origin;
  }

  -- the first pass, which is told of the faults and events of the value as it was laid down
  abbrev pub first_pass : Numbers → Gv → View E
  first_pass now origin = seated true 0 [] every now.faults now.events origin

  -- a pass that was met into another
  abbrev pub spent : View E
  spent = seated false 0 [] 0 0 0 gnil

  -- a pass from which another was split, and that other
  abbrev pub parted : View E → View E
  parted v = record v { next = suc v.next; shares = v.shares - v.shares / 2 }

  abbrev pub other_part : View E → View E
  other_part v = seated true v.next v.front (v.shares / 2) v.faults v.events v.origin

  -- a pass into which another was met
  abbrev pub met : View E → View E → View E
  met v w = record v {
    also = w.front;
    ended = v.ended ++ (w.ended ++ (w.number, w.mine) ∷ []);
    shares = v.shares + w.shares;
    made = v.made + w.made;
    flushed = v.flushed + w.flushed;
    struck = v.struck + w.struck;
    faults = max v.faults w.faults;
    events = max v.events w.events;
  }

  -- the log, with one entry more of the pass
  abbrev pub logged : View E → E → List (ℕ × E)
  logged v e = v.all ++ (v.number, e) ∷ []

  -- a pass that made an entry
  abbrev pub entered : View E → E → View E
  entered v e = record v { all = logged v e; front = logged v e; mine = v.mine ++ e ∷ [] }

  -- a pass that gave the value back, of which these numbers are counted now, and has not looked at its log
  abbrev pub given_unseen : View E → Numbers → View E
  given_unseen v now = record v {
    holds = false;
    made = v.made + (now.made - v.was.made);
    flushed = v.flushed + (now.flushed - v.was.flushed);
    struck = v.struck + (now.struck - v.was.struck);
  }

  -- the same of one that has seen all of the log
  abbrev pub given : View E → Numbers → View E
  given v now = record (given_unseen v now) { front = v.all }

  -- the same of one that is told of all faults and events
  abbrev pub given_telling : View E → Numbers → View E
  given_telling v now = record (given v now) { faults = now.faults; events = now.events }

  -- one entry more of this number, and so many then
  pub record AddsEntry (number : ℕ) (old new : List (ℕ × E)) (count : ℕ) : Type 0 where
    pub entry : E
    pub last : new ≡ old ++ (number, entry) ∷ []
    pub counted : count ≡ length new

  -- what a pass knows, by its badge
  abbrev pub view_in : List (View E) → View E
  view_in [] = spent
  view_in (v ∷ vs) = v
