-- Queues beside one another, of which one was changed.
use Rattle.std.proofs.Common.{◌≡◌, ◌≢◌, ℕ, suc, zero, ◌+◌, ◌<◌, List, [], ◌∷◌, ◌++◌, ◌↔◌, length, map, get_or, arith, Option, Some, None, IsSome, IfSome, IfNone, OnSome, refl, ap, sym, ◌∙◌, get_or-set_same, get_or-set_other}
use Rattle.std.specs.Option.{option_to_list}
use Rattle.std.specs.VecDeque.{deque_items}
use Rattle.std.specs.declared.collections.VecDeque.{VecDeque}
use Rattle.std.proofs.Math.ListN.{set}
use Rattle.std.proofs.lemmas.List.{length-map, map-set, set-get_or}
use Rattle.std.proofs.lemmas.List.Sums.{sum_by-set}
use Rattle.pm_types.specs.declared.command.Cmd.{Cmd}
use Rattle.pm_script.specs.Parted.Lists.{count_left, list_of}

add_one : (n : ℕ) → suc n ≡ n + 1
add_one n = omega arith

-- the first of one queue
pub queue_first : {R : Type 0} (now : R → Cmd) (list items : List Cmd) (n : ℕ) (result : Option R) → list ≡ items → n ≡ length items → (IsSome result ↔ (0 < n)) → IfSome result (λ x. now x ≡ get_or items 0 (now x)) → IfSome result (λ x. (rest : List Cmd) × (list ≡ now x ∷ rest))
queue_first now list items n None is long variant lookup = tt
queue_first now list [] n (Some x) is long variant lookup = absurd (let more = variant.0 refl in omega (arith, more, long))
queue_first now list (y ∷ items) n (Some x) is long variant lookup = (items, is ∙ ap (λ (c : Cmd). c ∷ items) (sym lookup))

module _ {A : Type 0} where
  -- the list of one queue
  pub queue_read : (queues : List (VecDeque Cmd A)) (i : ℕ) (d : VecDeque Cmd A) → i < length queues → list_of (map deque_items queues) i ≡ (get_or queues i d).items
  queue_read [] i d lt = absurd (omega arith)
  queue_read (q ∷ queues) zero d lt = refl
  queue_read (q ∷ queues) (suc i) d lt = queue_read queues i d (omega arith)

  -- of the one that was changed, and of the others
  pub queue_here : (queues : List (VecDeque Cmd A)) (i : ℕ) (q : VecDeque Cmd A) → i < length queues → list_of (map deque_items (set queues i q)) i ≡ q.items
  queue_here queues i q lt =
      let long = length-map queues (deque_items {X = Cmd} {Z = A}) in
      ap (λ (lists : List (List Cmd)). get_or lists i []) (map-set deque_items queues i q) ∙ get_or-set_same (map deque_items queues) i (deque_items q) [] (omega (arith, long, lt))

  pub queue_there : (queues : List (VecDeque Cmd A)) (i : ℕ) (q : VecDeque Cmd A) (other : ℕ) → other ≢ i → list_of (map deque_items (set queues i q)) other ≡ list_of (map deque_items queues) other
  queue_there queues i q other apart =
      ap (λ (lists : List (List Cmd)). get_or lists other []) (map-set deque_items queues i q) ∙ get_or-set_other (map deque_items queues) i other (deque_items q) [] apart

  -- how many commands there are
  pub queue_count : (queues : List (VecDeque Cmd A)) (i : ℕ) (d q : VecDeque Cmd A) → i < length queues → count_left (map deque_items (set queues i q)) + length (get_or queues i d).items ≡ count_left (map deque_items queues) + length q.items
  queue_count queues i d q lt =
      let long = length-map queues (deque_items {X = Cmd} {Z = A}) in
      let changed = sum_by-set (length {A = Cmd}) (map deque_items queues) i (deque_items q) [] (omega (arith, long, lt)) in
      let same = ap count_left (map-set deque_items queues i q) in
      let here = ap (length {A = Cmd}) (queue_read queues i d lt) in
      omega (arith, changed, same, here)

  -- the first of one queue was taken, if there is one
  module _ (queues : List (VecDeque Cmd A)) (i : ℕ) (d q : VecDeque Cmd A) (lt : i < length queues) where
    pub took_none : (result : Option Cmd) → (get_or queues i d).items ≡ option_to_list result ++ q.items → IfNone result (map deque_items (set queues i q) ≡ map deque_items queues)
    took_none (Some cmd) took = tt
    took_none None took =
        map-set deque_items queues i q ∙ ap (set (map deque_items queues) i) (sym took ∙ sym (queue_read queues i d lt)) ∙ set-get_or (map deque_items queues) i []

    pub took_first : (result : Option Cmd) → (get_or queues i d).items ≡ option_to_list result ++ q.items → IfSome result (λ cmd. list_of (map deque_items queues) i ≡ cmd ∷ list_of (map deque_items (set queues i q)) i)
    took_first None took = tt
    took_first (Some cmd) took = queue_read queues i d lt ∙ took ∙ ap (λ (cmds : List Cmd). cmd ∷ cmds) (sym (queue_here queues i q lt))

    pub took_one : (result : Option Cmd) → (get_or queues i d).items ≡ option_to_list result ++ q.items → OnSome result (count_left (map deque_items (set queues i q)) + 1 ≡ count_left (map deque_items queues))
    took_one None took = tt
    took_one (Some cmd) took =
        let counts = queue_count queues i d q lt in
        let fewer : length (get_or queues i d).items ≡ length q.items + 1 = ap (length {A = Cmd}) took ∙ add_one (length q.items) in
        omega (arith, counts, fewer)
