-- A table of values by key, the table as it was when it was frozen, and which keys were changed since.
use Rattle.std.specs.Prelude.{◌≡◌, ℕ, ◌<◌, Bool, false, not, ◌||◌, is_some, Option, Some, None, IsSome, refl}
use Rattle.std.specs.Ordering.{nat_cmp}
use Rattle.std.specs.FinMap.{FinMap, get, insert, remove, code}
use Rattle.std.specs.FinSet.{FinSet}
use Rattle.std.specs.FinSet as set
use Rattle.std.specs.Coded.{Coded, code_by, coded×, coded_ℕ, coded_option}

-- the values now; the frozen ones where the table is frozen; and the keys that were changed, added or taken since
pub record Snapped (T : Type 0) : Type 0 where
  pub current : FinMap nat_cmp T
  pub frozen : Option (FinMap nat_cmp T)
  pub changed : FinSet nat_cmp

-- a table is stored as its parts
abbrev pub snapped_code : {T : Type 0} → Coded T → Coded (Snapped T)
snapped_code {T} value =
    code_by (FinMap nat_cmp T × (Option (FinMap nat_cmp T) × FinSet nat_cmp)) (coded× (code coded_ℕ value) (coded× (coded_option (code coded_ℕ value)) (set.code coded_ℕ)))
    (λ s. (s.current, (s.frozen, s.changed))) (λ p. record { current = p.0; frozen = p.1.0; changed = p.1.1 }) (λ _. refl)

module _ {T : Type 0} where
  -- what a map that may be missing has at a key
  abbrev pub at_key : Option (FinMap nat_cmp T) → ℕ → Option T
  at_key None key = None
  at_key (Some values) key = get values key

  -- whether the key is ready: the table is not frozen, or the key was changed, added or taken since
  abbrev pub is_ready : Snapped T → ℕ → Bool
  is_ready s key = not (is_some s.frozen) || set.contains s.changed key

  -- the changed keys with one more, where the table is frozen; else there are none
  abbrev pub mark : Option (FinMap nat_cmp T) → FinSet nat_cmp → ℕ → FinSet nat_cmp
  mark None changed key = changed
  mark (Some values) changed key = set.insert changed key

  -- the table in which the key has this value now and is ready; what is frozen stays
  abbrev pub with_value : Snapped T → ℕ → T → Snapped T
  with_value s key value = record s { current = insert s.current key value; changed = mark s.frozen s.changed key }

  -- the table in which the key is not used now and is ready; what is frozen stays
  abbrev pub without : Snapped T → ℕ → Snapped T
  without s key = record s { current = remove s.current key; changed = mark s.frozen s.changed key }

  -- the key is the lowest from 1 on that is not used
  pub record IsLowestUnused (values : FinMap nat_cmp T) (key : ℕ) : Type 0 where
    pub from_one : 0 < key
    pub unused : get values key ≡ None
    pub lower_used : (k : ℕ) → 0 < k → k < key → IsSome (get values k)

  -- Keys are at least 1, now and in what is frozen; a key that is not changed has what it had; and none is
  -- changed where the table is not frozen.
  pub record IsSound (s : Snapped T) : Type 0 where
    pub from_one : (key : ℕ) → IsSome (get s.current key) → 0 < key
    pub frozen_from_one : (key : ℕ) → IsSome (at_key s.frozen key) → 0 < key
    pub unchanged : (k : ℕ) → IsSome s.frozen → set.contains s.changed k ≡ false → at_key s.frozen k ≡ get s.current k
    pub none_changed : s.frozen ≡ None → s.changed ≡ set.empty
