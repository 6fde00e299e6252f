-- A command whose registers are all within is answered by the world within.
use Rattle.std.proofs.Common.{◌≡◌, ℕ, ◌+◌, Bool, true, false, if◌then◌else◌, not, ◌&&◌, ◌||◌, nat_eq, nat_lt, nat_le, is_some, List, length, Option, Some, None, refl, sym, ap, subst, ◌∙◌, arith}
use Rattle.std.specs.Option.{IsSome, IsSomeAnd}
use Rattle.std.specs.List.{Contains}
use Rattle.std.specs.FinMap.{get, len, remove, retain_keys}
use Rattle.std.proofs.lemmas.Bool.Decides.{nat_tests}
use Rattle.pm_types.specs.declared.limits.TheConstants.{LAST_COPY, ROOTS, WATCHES}
use Rattle.pm_types.specs.declared.command.Cmd.{Cmd}
use Rattle.pm_types.specs.declared.command.Cmd.TheVariants.{New, Load, Store, Clear, Show, Put, Copy, IdOf, Forget, Bind, Unbind, Find, Save, Settle, Watch, Close, Swap, Unsave}
use Rattle.pm_types.specs.declared.reply.Reply.{Reply}
use Rattle.pm_types.specs.declared.reply.Reply.TheVariants.{Done, NoField, OutOfRange, Held, TooManyRoots, TooManyWatches, Watching, Begun, SavesSpent, Shown}
use Rattle.pm_model.specs.Heap.{Object, field_of, with_field, with_bytes}
use Rattle.pm_model.specs.World.{World, Registers, Roots, Saving, held, changing, naming, closing, beginning, watching}
use Rattle.pm_model.specs.World.{Copy as Kept}
use Rattle.pm_model.specs.Copying.{copy}
use Rattle.pm_model.specs.Frames.{makes_object}
use Rattle.pm_model.specs.Answer.{answer, refused, loading, writing, swapping, putting, bytes_of, answer_load, answer_store, answer_clear, answer_data, answer_put, answer_copy, answer_id, answer_drop, answer_root, answer_unroot, answer_find, answer_save, answer_settle, answer_watch, answer_swap, answer_unsave}
use Rattle.pm_nursery.specs.Young.{NurseryView, IsYoung, or_else}
use Rattle.pm_nursery.specs.Answering.{reads_register, unset}
use Rattle.pm_nursery.proofs.Parts.{found_of}
use Rattle.pm_law_young.proofs.Copied.{same_copy}
use Rattle.pm_law_young.proofs.Moves.{old_changed, held_old, emptied, closed, unnamed, begun, settled, dropped, watched}
use Rattle.pm_law_young.proofs.Moves.{named as bound}
use Rattle.pm_nursery.proofs.Named.{set_named, field_named}
use Rattle.pm_law_young.proofs.Unsetting.{unset_none, unset_one}

-- a register is one of those that are read
pub itself : (n : ℕ) → nat_eq n n ≡ true
itself n = grind (arith, nat_tests)

pub one_of : (m n : ℕ) → (nat_eq m m || nat_eq n m) ≡ true
one_of m n = ap (λ b. b || nat_eq n m) (itself m)

or_true : (b : Bool) → (b || true) ≡ true
or_true true = refl
or_true false = refl

pub other_of : (m n : ℕ) → (nat_eq m n || nat_eq n n) ≡ true
other_of m n = ap (λ b. nat_eq m n || b) (itself n) ∙ or_true (nat_eq m n)

pub first_of_three : (l m n : ℕ) → (nat_eq l l || (nat_eq m l || nat_eq n l)) ≡ true
first_of_three l m n = ap (λ b. b || (nat_eq m l || nat_eq n l)) (itself l)

pub second_of_three : (l m n : ℕ) → (nat_eq l m || (nat_eq m m || nat_eq n m)) ≡ true
second_of_three l m n = ap (λ b. nat_eq l m || b) (one_of m n) ∙ or_true (nat_eq l m)

pub third_of_three : (l m n : ℕ) → (nat_eq l n || (nat_eq m n || nat_eq n n)) ≡ true
third_of_three l m n = ap (λ b. nat_eq l n || b) (other_of m n) ∙ or_true (nat_eq l n)

-- what the world within and the world answer: the same, and the nursery without the registers that were set goes on
pub record Answered (nursery : NurseryView) (client : ℕ) (cmd : Cmd) (one other : Reply × World) : Type 0 where
  pub reply : one.0 ≡ other.0
  pub world : IsYoung one.1 (record nursery { registers = unset nursery.registers client cmd one.0 }) other.1

module _ (within world : World) (nursery : NurseryView) (is : IsYoung within nursery world) where
  -- the same nursery, and the same registers said otherwise
  as_said : (one other : World) (said known : Registers) → said ≡ known → IsYoung one (record nursery { registers = known }) other → IsYoung one (record nursery { registers = said }) other
  as_said one other said known same young = subst (λ (r : Registers). IsYoung one (record nursery { registers = r }) other) (sym same) young

  none_set : (one other : World) → IsYoung one nursery other → IsYoung one (record nursery { registers = retain_keys nursery.registers (λ place. true) }) other
  none_set one other young = as_said one other (retain_keys nursery.registers (λ place. true)) nursery.registers (unset_none nursery.registers) young

  one_set : (one other : World) (client reg : ℕ) → IsYoung one (record nursery { registers = remove nursery.registers (client, reg) }) other
      → IsYoung one (record nursery { registers = retain_keys nursery.registers (λ place. not (nat_eq reg place.1 && nat_eq place.0 client)) }) other
  one_set one other client reg young = as_said one other _ (remove nursery.registers (client, reg)) (unset_one nursery.registers client reg) young

  -- the object within is the world's
  same_object : (id : ℕ) → IsSome (get within.heap id) → get within.heap id ≡ get world.heap id
  same_object id there = let object = found_of (get within.heap id) there in object.1 ∙ sym (is.inside id object.0 object.1)

  module _ (client : ℕ) where
    -- ---- fields

    loaded : (to reg index : ℕ) (field : Option (Option ℕ)) → ((id : ℕ) → field ≡ Some (Some id) → IsSome (get within.heap id)) → Answered nursery client (Load to reg index) (loading within client to field) (loading world client to field)
    loaded to reg index None there = record { reply = refl; world = is }
    loaded to reg index (Some None) there = record { reply = refl; world = one_set _ _ client to (emptied within world nursery is client to) }
    loaded to reg index (Some (Some id)) there = record { reply = refl; world = one_set _ _ client to (held_old within world nursery is client to id (there id refl)) }

    load_there : (to reg index : ℕ) (h : Option ℕ) → ((id : ℕ) → h ≡ Some id → IsSome (get within.heap id)) → Answered nursery client (Load to reg index) (answer_load within client to index h) (answer_load world client to index h)
    load_there to reg index None inside = record { reply = refl; world = is }
    load_there to reg index (Some id) inside =
        subst (λ (o : Option Object). Answered nursery client (Load to reg index) (loading within client to (field_of (get within.heap id) index)) (loading world client to (field_of o index))) (same_object id (inside id refl))
        (loaded to reg index (field_of (get within.heap id) index) (λ to here. is.fields id to (field_named (get within.heap id) index to here)))

    -- a command that sets no register writes a field of an object within
    wrote : (cmd : Cmd) (id index : ℕ) (value : Option ℕ) → ((reply : Reply) → unset nursery.registers client cmd reply ≡ nursery.registers) → IsSome (get within.heap id)
        → ((to : ℕ) → value ≡ Some to → IsSome (get within.heap to)) → (o : Option Object) → get within.heap id ≡ o → Answered nursery client cmd (writing within id index value o) (writing world id index value o)
    wrote cmd id index value sets there names None is_none = record { reply = refl; world = as_said _ _ (unset nursery.registers client cmd NoField) nursery.registers (sets NoField) is }
    wrote cmd id index value sets there names (Some object) here = by (nat_lt index (length object.fields))
      where
        by : (b : Bool)
            → Answered nursery client cmd (if b then (Done, changing within id (with_field object index value)) else refused within NoField) (if b then (Done, changing world id (with_field object index value)) else refused world NoField)
        by true = record {
          reply = refl;
          world = as_said _ _ (unset nursery.registers client cmd Done) nursery.registers (sets Done)
              (old_changed within world nursery is id (with_field object index value) there (set_named within.heap is.fields id object here index value names));
        }
        by false = record { reply = refl; world = as_said _ _ (unset nursery.registers client cmd NoField) nursery.registers (sets NoField) is }

    write_there : (cmd : Cmd) (id index : ℕ) (value : Option ℕ) → ((reply : Reply) → unset nursery.registers client cmd reply ≡ nursery.registers) → IsSome (get within.heap id)
        → ((to : ℕ) → value ≡ Some to → IsSome (get within.heap to)) → Answered nursery client cmd (writing within id index value (get within.heap id)) (writing world id index value (get world.heap id))
    write_there cmd id index value sets there names =
        subst (λ (o : Option Object). Answered nursery client cmd (writing within id index value (get within.heap id)) (writing world id index value o)) (same_object id there)
        (wrote cmd id index value sets there names (get within.heap id) refl)

    sets_none : (b : Bool) → (if b then nursery.registers else retain_keys nursery.registers (λ place. true)) ≡ nursery.registers
    sets_none true = refl
    sets_none false = unset_none nursery.registers

    store_there : (reg index value : ℕ) (h v : Option ℕ) → ((id : ℕ) → h ≡ Some id → IsSome (get within.heap id)) → ((id : ℕ) → v ≡ Some id → IsSome (get within.heap id))
        → Answered nursery client (Store reg index value) (answer_store within index h v) (answer_store world index h v)
    store_there reg index value None v inside named = record { reply = refl; world = is }
    store_there reg index value (Some id) None inside named = record { reply = refl; world = is }
    store_there reg index value (Some id) (Some other) inside named =
        write_there (Store reg index value) id index (Some other) (λ reply. sets_none _) (inside id refl) named

    clear_there : (reg index : ℕ) (h : Option ℕ) → ((id : ℕ) → h ≡ Some id → IsSome (get within.heap id)) → Answered nursery client (Clear reg index) (answer_clear within index h) (answer_clear world index h)
    clear_there reg index None inside = record { reply = refl; world = is }
    clear_there reg index (Some id) inside = write_there (Clear reg index) id index None (λ reply. sets_none _) (inside id refl) (λ to never. cc never)

    swapped : (reg index old value : ℕ) (id was other : ℕ) → IsSome (get within.heap id) → IsSome (get within.heap other) → (field : Option (Option ℕ))
        → Answered nursery client (Swap reg index old value) (swapping within id index was other field) (swapping world id index was other field)
    swapped reg index old value id was other there names None = record { reply = refl; world = is }
    swapped reg index old value id was other there names (Some None) = record { reply = refl; world = is }
    swapped reg index old value id was other there names (Some (Some found)) = by (nat_eq found was)
      where
        by : (b : Bool)
            → Answered nursery client (Swap reg index old value) (if b then writing within id index (Some other) (get within.heap id) else refused within (Held found)) (if b then writing world id index (Some other) (get world.heap id) else refused world (Held found))
        by true = write_there (Swap reg index old value) id index (Some other) (λ reply. sets_none _) there (λ to same. let is_it : other ≡ to = cc same in subst (λ x. IsSome (get within.heap x)) is_it names)
        by false = record { reply = refl; world = is }

    swap_there : (reg index old value : ℕ) (h o v : Option ℕ) → ((id : ℕ) → h ≡ Some id → IsSome (get within.heap id)) → ((id : ℕ) → v ≡ Some id → IsSome (get within.heap id))
        → Answered nursery client (Swap reg index old value) (answer_swap within index h o v) (answer_swap world index h o v)
    swap_there reg index old value None o v inside named = record { reply = refl; world = is }
    swap_there reg index old value (Some id) None v inside named = record { reply = refl; world = is }
    swap_there reg index old value (Some id) (Some was) None inside named = record { reply = refl; world = is }
    swap_there reg index old value (Some id) (Some was) (Some other) inside named =
        subst (λ (x : Option Object). Answered nursery client (Swap reg index old value) (swapping within id index was other (field_of (get within.heap id) index)) (swapping world id index was other (field_of x index))) (same_object id (inside id refl))
        (swapped reg index old value id was other (inside id refl) (named other refl) (field_of (get within.heap id) index))

    -- ---- bytes

    shown_there : (reg : ℕ) (h : Option ℕ) → ((id : ℕ) → h ≡ Some id → IsSome (get within.heap id)) → Answered nursery client (Show reg) (answer_data within h) (answer_data world h)
    shown_there reg None inside = record { reply = refl; world = is }
    shown_there reg (Some id) inside = record { reply = ap (λ (o : Option Object). (answer_data_reply o)) (same_object id (inside id refl)); world = none_set within world is }
      where
        answer_data_reply : Option Object → Reply
        answer_data_reply o = Shown (bytes_of o)

    put_object : (reg at : ℕ) (bytes : List ℕ) (id : ℕ) → IsSome (get within.heap id) → (o : Option Object) → get within.heap id ≡ o → Answered nursery client (Put reg at bytes) (putting within id at bytes o) (putting world id at bytes o)
    put_object reg at bytes id there None is_none = record { reply = refl; world = is }
    put_object reg at bytes id there (Some object) here = by (nat_lt (length object.bytes) (at + length bytes))
      where
        by : (b : Bool)
            → Answered nursery client (Put reg at bytes) (if b then refused within OutOfRange else (Done, changing within id (with_bytes object at bytes))) (if b then refused world OutOfRange else (Done, changing world id (with_bytes object at bytes)))
        by true = record { reply = refl; world = is }
        by false = record {
          reply = refl;
          world = none_set _ _ (old_changed within world nursery is id (with_bytes object at bytes) there
              (λ to names. is.fields id to (subst (λ (o : Option Object). IsSomeAnd o (λ object. Contains object.fields (Some to))) (sym here) names)));
        }

    put_there : (reg at : ℕ) (bytes : List ℕ) (h : Option ℕ) → ((id : ℕ) → h ≡ Some id → IsSome (get within.heap id)) → Answered nursery client (Put reg at bytes) (answer_put within at bytes h) (answer_put world at bytes h)
    put_there reg at bytes None inside = record { reply = refl; world = is }
    put_there reg at bytes (Some id) inside =
        subst (λ (o : Option Object). Answered nursery client (Put reg at bytes) (putting within id at bytes (get within.heap id)) (putting world id at bytes o)) (same_object id (inside id refl))
        (put_object reg at bytes id (inside id refl) (get within.heap id) refl)

    -- ---- registers and names

    copy_there : (to reg : ℕ) (h : Option ℕ) → ((id : ℕ) → h ≡ Some id → IsSome (get within.heap id)) → Answered nursery client (Copy to reg) (answer_copy within client to h) (answer_copy world client to h)
    copy_there to reg None inside = record { reply = refl; world = is }
    copy_there to reg (Some id) inside = record { reply = refl; world = one_set _ _ client to (held_old within world nursery is client to id (inside id refl)) }

    id_there : (reg : ℕ) (h : Option ℕ) → Answered nursery client (IdOf reg) (answer_id within h) (answer_id world h)
    id_there reg None = record { reply = refl; world = is }
    id_there reg (Some id) = record { reply = refl; world = none_set within world is }

    drop_there : (reg : ℕ) (h : Option ℕ) → Answered nursery client (Forget reg) (answer_drop within client reg h) (answer_drop world client reg h)
    drop_there reg None = record { reply = refl; world = is }
    drop_there reg (Some id) = record { reply = refl; world = one_set _ _ client reg (emptied within world nursery is client reg) }

    same_roots : within.roots ≡ world.roots
    same_roots = ap (λ (w : World). w.roots) is.rest

    bound_there : (name : List ℕ) (reg : ℕ) (h : Option ℕ) → ((id : ℕ) → h ≡ Some id → IsSome (get within.heap id)) → Answered nursery client (Bind name reg) (answer_root within name h) (answer_root world name h)
    bound_there name reg None inside = record { reply = refl; world = is }
    bound_there name reg (Some id) inside =
        subst (λ (r : Roots). Answered nursery client (Bind name reg) (if room within.roots then refused within TooManyRoots else (Done, naming within name id)) (if room r then refused world TooManyRoots else (Done, naming world name id))) same_roots
        (by (room within.roots))
      where
        room : Roots → Bool
        room roots = not (is_some (get roots name)) && nat_le ROOTS (len roots)

        by : (b : Bool)
            → Answered nursery client (Bind name reg) (if b then refused within TooManyRoots else (Done, naming within name id)) (if b then refused world TooManyRoots else (Done, naming world name id))
        by true = record { reply = refl; world = is }
        by false = record { reply = refl; world = none_set _ _ (bound within world nursery is name id (inside id refl)) }

    unbound_there : (name : List ℕ) (found : Option ℕ) → Answered nursery client (Unbind name) (answer_unroot within name found) (answer_unroot world name found)
    unbound_there name None = record { reply = refl; world = is }
    unbound_there name (Some id) = record { reply = refl; world = none_set _ _ (unnamed within world nursery is name) }

    found_there : (to : ℕ) (name : List ℕ) (found : Option ℕ) → ((id : ℕ) → found ≡ Some id → IsSome (get within.heap id)) → Answered nursery client (Find to name) (answer_find within client to found) (answer_find world client to found)
    found_there to name None there = record { reply = refl; world = is }
    found_there to name (Some id) there = record { reply = refl; world = one_set _ _ client to (held_old within world nursery is client to id (there id refl)) }

    -- ---- copies and watches

    save_there : (saving : Saving) → Answered nursery client Save (answer_save within saving) (answer_save world saving)
    save_there None =
        subst (λ (n : ℕ). Answered nursery client Save (answer_save within None) (if nat_lt n LAST_COPY then (Begun (n + 1), beginning world (n + 1) (copy world)) else refused world SavesSpent)) (ap (λ (w : World). w.settled) is.rest)
        (subst (λ (c : Kept). Answered nursery client Save (answer_save within None) (if nat_lt within.settled LAST_COPY then (Begun (within.settled + 1), beginning world (within.settled + 1) c) else refused world SavesSpent)) (same_copy within world nursery is)
        (by (nat_lt within.settled LAST_COPY)))
      where
        by : (b : Bool)
            → Answered nursery client Save (if b then (Begun (within.settled + 1), beginning within (within.settled + 1) (copy within)) else refused within SavesSpent)
            (if b then (Begun (within.settled + 1), beginning world (within.settled + 1) (copy within)) else refused world SavesSpent)
        by true = record { reply = refl; world = none_set _ _ (begun within world nursery is (within.settled + 1) (copy within)) }
        by false = record { reply = refl; world = is }
    save_there (Some saving) = record { reply = refl; world = is }

    settle_there : (saving : Saving) → Answered nursery client Settle (answer_settle within saving) (answer_settle world saving)
    settle_there None = record { reply = refl; world = is }
    settle_there (Some saving) = record { reply = refl; world = none_set _ _ (settled within world nursery is saving.0 saving.1) }

    unsave_there : (saving : Saving) → Answered nursery client Unsave (answer_unsave within saving) (answer_unsave world saving)
    unsave_there None = record { reply = refl; world = is }
    unsave_there (Some saving) = record { reply = refl; world = none_set _ _ (dropped within world nursery is) }

    watch_there : Answered nursery client Watch (answer_watch within) (answer_watch world)
    watch_there =
        subst (λ (n : ℕ). Answered nursery client Watch (answer_watch within) (if nat_lt n WATCHES then (Watching (n + 1), watching world) else refused world TooManyWatches)) (ap (λ (w : World). w.watches) is.rest)
        (by (nat_lt within.watches WATCHES))
      where
        by : (b : Bool)
            → Answered nursery client Watch (if b then (Watching (within.watches + 1), watching within) else refused within TooManyWatches) (if b then (Watching (within.watches + 1), watching world) else refused world TooManyWatches)
        by true = record { reply = refl; world = none_set _ _ (watched within world nursery is) }
        by false = record { reply = refl; world = is }

    closed_there : Answered nursery client Close (Done, closing within client) (Done, closing world client)
    closed_there = record { reply = refl; world = closed within world nursery is client }

    -- ---- any of them

    abbrev Reads : Cmd → Type 0
    Reads cmd = (register : ℕ) → reads_register cmd register ≡ true → get nursery.registers (client, register) ≡ None

    same_held : (reg : ℕ) → get nursery.registers (client, reg) ≡ None → held within client reg ≡ held world client reg
    same_held reg none = sym (is.registers (client, reg) ∙ ap (λ (n : Option ℕ). or_else n (get within.registers (client, reg))) none)

    inside : (reg id : ℕ) → held within client reg ≡ Some id → IsSome (get within.heap id)
    inside reg id here = is.held (client, reg) id here

    pub answered_within : (cmd : Cmd) → makes_object cmd ≡ false → Reads cmd → Answered nursery client cmd (answer within client cmd) (answer world client cmd)
    unfolding answer
    answered_within (New reg count bytes) none reads = cc none
    answered_within (Load to reg index) none reads =
        subst (λ (h : Option ℕ). Answered nursery client (Load to reg index) (answer_load within client to index (held within client reg)) (answer_load world client to index h)) (same_held reg (reads reg (itself reg)))
        (load_there to reg index (held within client reg) (inside reg))
    answered_within (Store reg index value) none reads =
        subst (λ (h : Option ℕ). Answered nursery client (Store reg index value) (answer_store within index (held within client reg) (held within client value)) (answer_store world index h (held world client value))) (same_held reg (reads reg (one_of reg value)))
        (subst (λ (v : Option ℕ). Answered nursery client (Store reg index value) (answer_store within index (held within client reg) (held within client value)) (answer_store world index (held within client reg) v)) (same_held value (reads value (other_of reg value)))
        (store_there reg index value (held within client reg) (held within client value) (inside reg) (inside value)))
    answered_within (Clear reg index) none reads =
        subst (λ (h : Option ℕ). Answered nursery client (Clear reg index) (answer_clear within index (held within client reg)) (answer_clear world index h)) (same_held reg (reads reg (itself reg)))
        (clear_there reg index (held within client reg) (inside reg))
    answered_within (Show reg) none reads =
        subst (λ (h : Option ℕ). Answered nursery client (Show reg) (answer_data within (held within client reg)) (answer_data world h)) (same_held reg (reads reg (itself reg)))
        (shown_there reg (held within client reg) (inside reg))
    answered_within (Put reg at bytes) none reads =
        subst (λ (h : Option ℕ). Answered nursery client (Put reg at bytes) (answer_put within at bytes (held within client reg)) (answer_put world at bytes h)) (same_held reg (reads reg (itself reg)))
        (put_there reg at bytes (held within client reg) (inside reg))
    answered_within (Copy to reg) none reads =
        subst (λ (h : Option ℕ). Answered nursery client (Copy to reg) (answer_copy within client to (held within client reg)) (answer_copy world client to h)) (same_held reg (reads reg (itself reg)))
        (copy_there to reg (held within client reg) (inside reg))
    answered_within (IdOf reg) none reads =
        subst (λ (h : Option ℕ). Answered nursery client (IdOf reg) (answer_id within (held within client reg)) (answer_id world h)) (same_held reg (reads reg (itself reg)))
        (id_there reg (held within client reg))
    answered_within (Forget reg) none reads =
        subst (λ (h : Option ℕ). Answered nursery client (Forget reg) (answer_drop within client reg (held within client reg)) (answer_drop world client reg h)) (same_held reg (reads reg (itself reg)))
        (drop_there reg (held within client reg))
    answered_within (Bind name reg) none reads =
        subst (λ (h : Option ℕ). Answered nursery client (Bind name reg) (answer_root within name (held within client reg)) (answer_root world name h)) (same_held reg (reads reg (itself reg)))
        (bound_there name reg (held within client reg) (inside reg))
    answered_within (Unbind name) none reads =
        subst (λ (r : Roots). Answered nursery client (Unbind name) (answer_unroot within name (get within.roots name)) (answer_unroot world name (get r name))) same_roots
        (unbound_there name (get within.roots name))
    answered_within (Find to name) none reads =
        subst (λ (r : Roots). Answered nursery client (Find to name) (answer_find within client to (get within.roots name)) (answer_find world client to (get r name))) same_roots
        (found_there to name (get within.roots name) (is.roots name))
    answered_within Save none reads =
        subst (λ (s : Saving). Answered nursery client Save (answer_save within within.saving) (answer_save world s)) (ap (λ (w : World). w.saving) is.rest) (save_there within.saving)
    answered_within Settle none reads =
        subst (λ (s : Saving). Answered nursery client Settle (answer_settle within within.saving) (answer_settle world s)) (ap (λ (w : World). w.saving) is.rest) (settle_there within.saving)
    answered_within Watch none reads = watch_there
    answered_within Close none reads = closed_there
    answered_within (Swap reg index old value) none reads =
        subst (λ (h : Option ℕ). Answered nursery client (Swap reg index old value) (answer_swap within index (held within client reg) (held within client old) (held within client value)) (answer_swap world index h (held world client old) (held world client value))) (same_held reg (reads reg (first_of_three reg old value)))
        (subst (λ (o : Option ℕ). Answered nursery client (Swap reg index old value) (answer_swap within index (held within client reg) (held within client old) (held within client value)) (answer_swap world index (held within client reg) o (held world client value))) (same_held old (reads old (second_of_three reg old value)))
        (subst (λ (v : Option ℕ). Answered nursery client (Swap reg index old value) (answer_swap within index (held within client reg) (held within client old) (held within client value)) (answer_swap world index (held within client reg) (held within client old) v)) (same_held value (reads value (third_of_three reg old value)))
        (swap_there reg index old value (held within client reg) (held within client old) (held within client value) (inside reg) (inside value))))
    answered_within Unsave none reads =
        subst (λ (s : Saving). Answered nursery client Unsave (answer_unsave within within.saving) (answer_unsave world s)) (ap (λ (w : World). w.saving) is.rest) (unsave_there within.saving)
