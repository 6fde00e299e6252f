-- How a table keeps its values, what they were when it was frozen, and the keys that are not used. No
-- public clause cites this module.
use Rattle.std.specs.Prelude.{◌≡◌, ◌≢◌, ℕ, ◌<◌, ◌≤◌, true, is_some, List, [], ◌∷◌, Option, Some, None}
use Rattle.std.specs.Ordering.{nat_cmp}
use Rattle.std.specs.FinMap.{FinMap, insert, remove}
use Rattle.std.specs.FinMap as map
use Rattle.std.specs.FinSet.{FinSet}
use Rattle.std.specs.FinSet as set
use Rattle.std.specs.BTreeMap.{BTreeMap, keys}
use Rattle.std.specs.BTreeMap as tree
use Rattle.pm_snap.specs.Freed.{FreedKeys}
use Rattle.pm_snap.specs.Snapped.{Snapped}

module _ {T : Type 0} where
  -- the map where the key has a value, or none
  abbrev pub put : FinMap nat_cmp T → ℕ → Option T → FinMap nat_cmp T
  put values key None = remove values key
  put values key (Some value) = insert values key value

  -- the values where those of the entries stand in place of their own
  abbrev pub overlay : FinMap nat_cmp T → List (ℕ × Option T) → FinMap nat_cmp T
  overlay values [] = values
  overlay values (e ∷ es) = put (overlay values es) e.0 e.1

  -- the keys for which an old value is kept
  abbrev pub seen_changed : Option (BTreeMap ℕ (Option T)) → FinSet nat_cmp
  seen_changed None = set.empty
  seen_changed (Some kept) = set.from_list (keys kept)

  -- the old value that is kept for a key
  abbrev pub noted : Option (BTreeMap ℕ (Option T)) → ℕ → Option (Option T)
  noted None key = None
  noted (Some kept) key = tree.get nat_cmp kept key

  -- the old value where one is kept, and else the one now
  abbrev pub or_now : Option (Option T) → Option T → Option T
  or_now None now = now
  or_now (Some old) now = old

  -- the old values are the same
  pub record KeepsNotes (old new : Option (BTreeMap ℕ (Option T))) : Type 0 where
    pub frozen : is_some new ≡ is_some old
    pub same : (k : ℕ) → noted new k ≡ noted old k

  -- where the table is frozen, this value is kept for the key unless one was, and for another key what was
  pub record Notes (old new : Option (BTreeMap ℕ (Option T))) (key : ℕ) (value : Option T) : Type 0 where
    pub frozen : is_some new ≡ is_some old
    pub here : is_some old ≡ true → noted new key ≡ Some (or_now (noted old key) value)
    pub others : (k : ℕ) → k ≢ key → noted new k ≡ noted old k

  -- what was frozen: the values now, with the old ones where one is kept
  abbrev pub seen_frozen : FinMap nat_cmp T → Option (BTreeMap ℕ (Option T)) → Option (FinMap nat_cmp T)
  seen_frozen values None = None
  seen_frozen values (Some kept) = Some (overlay values kept.entries)

  -- what a table is seen as
  abbrev pub table_of : FinMap nat_cmp T → Option (BTreeMap ℕ (Option T)) → Snapped T
  table_of values kept = record { current = values; frozen = seen_frozen values kept; changed = seen_changed kept }

  -- Keys from 1 to below the next one are used or freed, no other key is freed, the next one is not used,
  -- the used ones are counted, and there is room to free every key that is used.
  pub record IsKept (values : FinMap nat_cmp T) (used : ℕ) (freed : FreedKeys) (next : ℕ) : Type 0 where
    pub from_one : 0 < next
    pub zero_unused : map.get values 0 ≡ None
    pub next_unused : map.get values next ≡ None
    pub passed : (k : ℕ) → 0 < k → k < next → map.get values k ≡ None → set.contains freed.keys k ≡ true
    pub freed_unused : (k : ℕ) → set.contains freed.keys k ≡ true → map.get values k ≡ None
    pub freed_from_one : (k : ℕ) → set.contains freed.keys k ≡ true → 0 < k
    pub freed_below : (k : ℕ) → set.contains freed.keys k ≡ true → k < next
    pub counted : used ≡ map.len values
    pub room : used ≤ freed.room

  -- the key is the next one once this key is used: it is another one and not used, and those between are
  pub record IsNext (values : FinMap nat_cmp T) (next key after : ℕ) : Type 0 where
    pub other : after ≢ key
    pub unused : map.get values after ≡ None
    pub rises : next ≤ after
    pub passed : (k : ℕ) → next ≤ k → k < after → k ≢ key → is_some (map.get values k) ≡ true

  -- the keys are kept so, and no old value is kept for the key 0
  pub record AreKeysWhole (values : FinMap nat_cmp T) (used : ℕ) (freed : FreedKeys) (next : ℕ) (kept : Option (BTreeMap ℕ (Option T))) : Type 0 where
    pub keys : IsKept values used freed next
    pub zero_unnoted : noted kept 0 ≡ None
