-- Keys that were given back, as a finite set with room for more.
use Rattle.std.specs.Prelude.{◌≡◌, ℕ, ◌==◌, ◌≤◌, true, List, [], ◌∷◌, refl}
use Rattle.std.specs.declared.cmp.Ordering.{Ordering}
use Rattle.std.specs.declared.cmp.Reverse.{Reverse}
use Rattle.std.specs.Ordering.{nat_cmp}
use Rattle.std.specs.List.{count_by}
use Rattle.std.specs.FinSet.{FinSet, empty, insert, contains, code}
use Rattle.std.specs.BinaryHeap.{IsHeap}
use Rattle.std.specs.Coded.{Coded, code_by, coded×, coded_ℕ}

-- the keys, and for how many more there is room
pub record FreedKeys : Type 0 where
  pub keys : FinSet nat_cmp
  pub room : ℕ

-- they are stored as their parts
abbrev pub freed_code : Coded FreedKeys
freed_code = code_by (FinSet nat_cmp × ℕ) (coded× (code coded_ℕ) coded_ℕ) (λ f. (f.keys, f.room)) (λ p. record { keys = p.0; room = p.1 }) (λ _. refl)

-- the set of the keys in a list
abbrev pub key_set : List (Reverse ℕ) → FinSet nat_cmp
key_set [] = empty
key_set (r ∷ rs) = insert (key_set rs) r.0

-- how often a key stands in a list
abbrev pub times : ℕ → List (Reverse ℕ) → ℕ
times key rs = count_by (λ r. r.0 == key) rs

-- the order in which the least key is the greatest
abbrev pub by_least : Reverse ℕ → Reverse ℕ → Ordering
by_least x y = nat_cmp y.0 x.0

-- the list is a heap, and no key stands in it twice
pub record IsFreed (rs : List (Reverse ℕ)) : Type 0 where
  pub heap : IsHeap by_least rs
  pub single : (key : ℕ) → times key rs ≤ 1

-- the key is the least of the set
pub record IsLeastOf (keys : FinSet nat_cmp) (key : ℕ) : Type 0 where
  pub among : contains keys key ≡ true
  pub least : (k : ℕ) → contains keys k ≡ true → key ≤ k
