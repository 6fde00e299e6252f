-- What a reply tells was done.
use Rattle.std.proofs.Common.{◌≡◌, ◌≤◌, ◌<◌, ℕ, zero, suc, ◌+◌, ◌-◌, Bool, true, false, cond, not, nat_eq, ltb, ◌||◌, List, [], ◌∷◌, ◌++◌, length, take, drop, slice_get, ◌⊎◌, inl, inr, Option, Some, None, refl, ap, sym, ◌∙◌, if◌then◌else◌, arith}
use Rattle.std.specs.Option.{IsSomeAnd}
use Rattle.std.specs.Cmp.{nat_cmp_total}
use Rattle.std.specs.FinMap.{get, nat_cmp-IsAntisymmetric}
use Rattle.std.proofs.lemmas.Bool.{ltb-true, ltb-false}
use Rattle.std.proofs.lemmas.Bool.Decides.{nat_tests}
use Rattle.pm_types.specs.declared.limits.TheConstants.{FIELDS, OBJECT_BYTES, LAST_ID, WATCHES}
use Rattle.pm_types.specs.declared.command.Cmd.TheVariants.{New, Put, IdOf, Forget, Find, Watch, Close}
use Rattle.pm_types.specs.declared.command.Cmd.TheVariants as commands
use Rattle.pm_types.specs.declared.reply.Reply.TheVariants.{Done, Ident, Watching, TooLarge, IdsSpent, OutOfRange, TooManyWatches}
use Rattle.pm_types.proofs.Orders.{places_total, places_antisymmetric}
use Rattle.pm_model.specs.Heap.{Object, with_bytes}
use Rattle.pm_model.specs.World.{World, held, holding, with_object, changing, watching}
use Rattle.pm_model.specs.Answer.{answer, refused, fresh, bytes_of, putting, answer_put, answer_copy, answer_id, answer_drop, answer_find}
use Rattle.pm_model.specs.Lasting.{byte_at}
use Rattle.pm_model.proofs.Maps.{insert_here, remove_here, retain_get}

made_one : (large spent : Bool) (world made : World) (id : ℕ) → (if large then refused world TooLarge else if spent then refused world IdsSpent else (Ident world.next, made)).0 ≡ Ident id
    → (id ≡ world.next) × ((if large then refused world TooLarge else if spent then refused world IdsSpent else (Ident world.next, made)).1 ≡ made)
made_one true spent world made id is = absurd (cc (is))
made_one false true world made id is = absurd (cc (is))
made_one false false world made id is = (cc, refl)

pub new_told : (world : World) (client reg count id : ℕ) (bytes : List ℕ) → (answer world client (New reg count bytes)).0 ≡ Ident id
    → (id ≡ world.next) × ((answer world client (New reg count bytes)).1.next ≡ id + 1) × (held (answer world client (New reg count bytes)).1 client reg ≡ Some id)
    × (get (answer world client (New reg count bytes)).1.heap id ≡ Some (fresh count bytes))
unfolding answer
new_told world client reg count id bytes is =
    let made = holding (with_object world (fresh count bytes)) client reg world.next in
    let one = made_one (ltb FIELDS count || ltb OBJECT_BYTES (length bytes)) (ltb LAST_ID world.next) world made id is in (
      one.0,
      ap (λ (w : World). w.next) one.1 ∙ ap (λ n. n + 1) (sym one.0),
      ap (λ (w : World). held w client reg) one.1 ∙ insert_here places_total places_antisymmetric world.registers (client, reg) world.next ∙ ap Some (sym one.0),
      ap (λ (w : World). get w.heap id) one.1 ∙ ap (get made.heap) one.0 ∙ insert_here nat_cmp_total nat_cmp-IsAntisymmetric world.heap world.next (fresh count bytes),
    )

copied_one : (world : World) (client to id : ℕ) (from : Option ℕ) → (answer_copy world client to from).0 ≡ Ident id → (from ≡ Some id) × (held (answer_copy world client to from).1 client to ≡ Some id)
copied_one world client to id None is = absurd (cc (is))
copied_one world client to id (Some from) is =
    let same : from ≡ id = cc in (ap Some same, insert_here places_total places_antisymmetric world.registers (client, to) from ∙ ap Some same)

pub copy_told : (world : World) (client to reg id : ℕ) → (answer world client (commands.Copy to reg)).0 ≡ Ident id → (held world client reg ≡ Some id) × (held (answer world client (commands.Copy to reg)).1 client to ≡ Some id)
unfolding answer
copy_told world client to reg id is = copied_one world client to id (held world client reg) is

found_one : (world : World) (client to id : ℕ) (found : Option ℕ) → (answer_find world client to found).0 ≡ Ident id → (found ≡ Some id) × (held (answer_find world client to found).1 client to ≡ Some id)
found_one world client to id None is = absurd (cc (is))
found_one world client to id (Some from) is =
    let same : from ≡ id = cc in (ap Some same, insert_here places_total places_antisymmetric world.registers (client, to) from ∙ ap Some same)

pub find_told : (world : World) (client to id : ℕ) (name : List ℕ) → (answer world client (Find to name)).0 ≡ Ident id → (get world.roots name ≡ Some id) × (held (answer world client (Find to name)).1 client to ≡ Some id)
unfolding answer
find_told world client to id name is = found_one world client to id (get world.roots name) is

told_one : (world : World) (id : ℕ) (from : Option ℕ) → (answer_id world from).0 ≡ Ident id → from ≡ Some id
told_one world id None is = cc
told_one world id (Some from) is = let same : from ≡ id = cc in ap Some same

pub id_told : (world : World) (client reg id : ℕ) → (answer world client (IdOf reg)).0 ≡ Ident id → held world client reg ≡ Some id
unfolding answer
id_told world client reg id is = told_one world id (held world client reg) is

dropped_one : (world : World) (client reg : ℕ) (from : Option ℕ) → (answer_drop world client reg from).0 ≡ Done → held (answer_drop world client reg from).1 client reg ≡ None
dropped_one world client reg None is = cc
dropped_one world client reg (Some id) is = remove_here places_total places_antisymmetric world.registers (client, reg)

pub drop_told : (world : World) (client reg : ℕ) → (answer world client (Forget reg)).0 ≡ Done → held (answer world client (Forget reg)).1 client reg ≡ None
unfolding answer
drop_told world client reg is = dropped_one world client reg (held world client reg) is

closed_one : (client : ℕ) (old : Option ℕ) → cond (not (nat_eq client client)) old None ≡ None
closed_one client old = grind (arith, nat_tests)

pub close_told : (world : World) (client register : ℕ) → held (answer world client Close).1 client register ≡ None
unfolding answer
close_told world client register = retain_get places_total places_antisymmetric world.registers (λ place. not (nat_eq place.0 client)) (client, register) ∙ closed_one client (held world client register)

watched_one : (more : Bool) (world : World) (number : ℕ) → (more ≡ true → world.watches < WATCHES) → (if more then (Watching (world.watches + 1), watching world) else refused world TooManyWatches).0 ≡ Watching number
    → (number ≡ world.watches + 1) × (number ≤ WATCHES) × ((if more then (Watching (world.watches + 1), watching world) else refused world TooManyWatches).1.watches ≡ number)
watched_one true world number less is = let same : world.watches + 1 ≡ number = cc in let small = less refl in (sym same, omega (arith, same, small), same)
watched_one false world number less is = absurd (cc (is))

pub watch_told : (world : World) (client number : ℕ) → (answer world client Watch).0 ≡ Watching number → (number ≡ world.watches + 1) × (number ≤ WATCHES) × ((answer world client Watch).1.watches ≡ number)
unfolding answer
watch_told world client number is = watched_one (ltb world.watches WATCHES) world number (ltb-true world.watches WATCHES) is

-- ---- bytes

-- the front of a list stays before what is put behind it
front_stays : (at : ℕ) (xs rest : List ℕ) (k : ℕ) → k < at → at ≤ length xs → slice_get (take at xs ++ rest) k ≡ slice_get xs k
front_stays zero xs rest k before within = absurd (omega arith)
front_stays (suc at) [] rest k before within = absurd (omega arith)
front_stays (suc at) (x ∷ xs) rest zero before within = refl
front_stays (suc at) (x ∷ xs) rest (suc k) before within = front_stays at xs rest k (omega arith) (omega arith)

-- and what is put behind the front begins where it ends
rest_begins : (at : ℕ) (xs rest : List ℕ) (k j : ℕ) → k ≡ at + j → at ≤ length xs → slice_get (take at xs ++ rest) k ≡ slice_get rest j
rest_begins zero xs rest k j is within = let same : k ≡ j = omega (arith, is) in ap (slice_get rest) same
rest_begins (suc at) [] rest k j is within = absurd (omega arith)
rest_begins (suc at) (x ∷ xs) rest zero j is within = absurd (omega (arith, is))
rest_begins (suc at) (x ∷ xs) rest (suc k) j is within = rest_begins at xs rest k j (omega (arith, is)) (omega arith)

joined_front : (xs ys : List ℕ) (j : ℕ) → j < length xs → slice_get (xs ++ ys) j ≡ slice_get xs j
joined_front [] ys j within = absurd (omega arith)
joined_front (x ∷ xs) ys zero within = refl
joined_front (x ∷ xs) ys (suc j) within = joined_front xs ys j (omega arith)

joined_rest : (xs ys : List ℕ) (k j : ℕ) → k ≡ length xs + j → slice_get (xs ++ ys) k ≡ slice_get ys j
joined_rest [] ys k j is = let same : k ≡ j = omega (arith, is) in ap (slice_get ys) same
joined_rest (x ∷ xs) ys zero j is = absurd (omega (arith, is))
joined_rest (x ∷ xs) ys (suc k) j is = joined_rest xs ys k j (omega (arith, is))

dropped_front : (m : ℕ) (xs : List ℕ) (j k : ℕ) → k ≡ m + j → slice_get (drop m xs) j ≡ slice_get xs k
dropped_front zero xs j k is = let same : j ≡ k = omega (arith, is) in ap (slice_get xs) same
dropped_front (suc m) [] j k is = refl
dropped_front (suc m) (x ∷ xs) j zero is = absurd (omega (arith, is))
dropped_front (suc m) (x ∷ xs) j (suc k) is = dropped_front m xs j k (omega (arith, is))

over : (at : ℕ) (xs from : List ℕ) → List ℕ
over at xs from = take at xs ++ (from ++ drop (at + length from) xs)

over_inside : (at : ℕ) (xs from : List ℕ) (j : ℕ) → at + length from ≤ length xs → j < length from → slice_get (over at xs from) (at + j) ≡ slice_get from j
unfolding over
over_inside at xs from j within inside = rest_begins at xs (from ++ drop (at + length from) xs) (at + j) j refl (omega arith) ∙ joined_front from (drop (at + length from) xs) j inside

over_outside : (at : ℕ) (xs from : List ℕ) (k : ℕ) → at + length from ≤ length xs → (k < at) ⊎ (at + length from ≤ k) → slice_get (over at xs from) k ≡ slice_get xs k
unfolding over
over_outside at xs from k within (inl before) = front_stays at xs (from ++ drop (at + length from) xs) k before (omega arith)
over_outside at xs from k within (inr behind) =
    let left = k - (at + length from) in
    rest_begins at xs (from ++ drop (at + length from) xs) k (length from + left) (omega arith) (omega arith)
    ∙ joined_rest from (drop (at + length from) xs) (length from + left) left refl
    ∙ dropped_front (at + length from) xs left k (omega arith)

-- the bytes that were put are there, and all others are as before
IsOver : World → World → ℕ → ℕ → List ℕ → Type 0
IsOver world next id at bytes =
    ((j : ℕ) → j < length bytes → byte_at next id (at + j) ≡ slice_get bytes j) × ((k : ℕ) → (k < at) ⊎ (at + length bytes ≤ k) → byte_at next id k ≡ byte_at world id k)

put_over : (world : World) (id at : ℕ) (bytes : List ℕ) (object : Object) (past : Bool) → get world.heap id ≡ Some object → (past ≡ false → at + length bytes ≤ length object.bytes)
    → (if past then refused world OutOfRange else (Done, changing world id (with_bytes object at bytes))).0 ≡ Done
    → IsOver world (if past then refused world OutOfRange else (Done, changing world id (with_bytes object at bytes))).1 id at bytes
unfolding IsOver over
put_over world id at bytes object true there within is = absurd (cc (is))
put_over world id at bytes object false there within is =
    let here = insert_here nat_cmp_total nat_cmp-IsAntisymmetric world.heap id (with_bytes object at bytes) in
    let small = within refl in (
      λ j inside. ap (λ found. slice_get (bytes_of found) (at + j)) here ∙ over_inside at object.bytes bytes j small inside,
      λ k outside. ap (λ found. slice_get (bytes_of found) k) here ∙ over_outside at object.bytes bytes k small outside ∙ ap (λ found. slice_get (bytes_of found) k) (sym there),
    )

putting_over : (world : World) (id at : ℕ) (bytes : List ℕ) (found : Option Object) → get world.heap id ≡ found → (putting world id at bytes found).0 ≡ Done → IsOver world (putting world id at bytes found).1 id at bytes
putting_over world id at bytes None there is = absurd (cc (is))
putting_over world id at bytes (Some object) there is = put_over world id at bytes object (ltb (length object.bytes) (at + length bytes)) there (ltb-false (length object.bytes) (at + length bytes)) is

put_one : (world : World) (at : ℕ) (bytes : List ℕ) (from : Option ℕ) → (answer_put world at bytes from).0 ≡ Done → IsSomeAnd from (λ id. IsOver world (answer_put world at bytes from).1 id at bytes)
put_one world at bytes None is = cc
put_one world at bytes (Some id) is = putting_over world id at bytes _ refl is

pub put_told : (world : World) (client reg at : ℕ) (bytes : List ℕ) → (answer world client (Put reg at bytes)).0 ≡ Done
    → IsSomeAnd (held world client reg) (λ id. ((j : ℕ) → j < length bytes → byte_at (answer world client (Put reg at bytes)).1 id (at + j) ≡ slice_get bytes j)
    × ((k : ℕ) → (k < at) ⊎ (at + length bytes ≤ k) → byte_at (answer world client (Put reg at bytes)).1 id k ≡ byte_at world id k))
unfolding answer IsOver
put_told world client reg at bytes is = put_one world at bytes (held world client reg) is
