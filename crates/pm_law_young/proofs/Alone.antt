-- A command whose registers are all young is answered by the young objects alone.
use Rattle.std.proofs.Common.{◌≡◌, ℕ, ◌+◌, Bool, true, false, if◌then◌else◌, not, ◌&&◌, ◌||◌, nat_eq, nat_lt, List, length, Option, Some, None, refl, sym, ap, subst, ◌∙◌}
use Rattle.std.specs.Option.{IsSome}
use Rattle.std.specs.FinMap.{get, remove, retain_keys}
use Rattle.pm_types.specs.declared.limits.TheConstants.{FIELDS, OBJECT_BYTES, LAST_ID}
use Rattle.pm_types.specs.declared.command.Cmd.{Cmd}
use Rattle.pm_types.specs.declared.command.Cmd.TheVariants.{New, Load, Store, Clear, Show, Put, Copy, IdOf, Forget, Bind, Unbind, Find, Save, Settle, Watch, Close, Swap, Unsave}
use Rattle.pm_types.specs.declared.reply.Reply.{Reply}
use Rattle.pm_types.specs.declared.reply.Reply.TheVariants.{Done, Ident, IdsSpent, TooLarge, NoField, OutOfRange, Held, Shown}
use Rattle.pm_model.specs.Heap.{Object, field_of, with_field, with_bytes}
use Rattle.pm_model.specs.World.{World, Registers, held, changing, holding, with_object}
use Rattle.pm_model.specs.Answer.{answer, refused, fresh, loading, writing, swapping, putting, bytes_of, answer_new, answer_load, answer_store, answer_clear, answer_data, answer_put, answer_copy, answer_id, answer_drop, answer_swap}
use Rattle.pm_nursery.specs.Young.{NurseryView, IsNursery, IsYoung, or_else}
use Rattle.pm_nursery.specs.Moving.{young_changing}
use Rattle.pm_nursery.specs.Answering.{is_of_objects, nursery_of, reads_register, unset, young_alone}
use Rattle.pm_nursery.proofs.Parts.{found_of}
use Rattle.pm_law_young.proofs.Moves.{born, closed, emptied, held_young, young_changed}
use Rattle.pm_law_young.proofs.Unsetting.{unset_none, unset_one}
use Rattle.pm_law_young.proofs.Within.{itself, one_of, other_of, first_of_three, second_of_three, third_of_three}

-- what the young objects alone and the world answer: the same, and the world within goes on without the registers that were set
pub record AnsweredYoung (within : World) (client : ℕ) (cmd : Cmd) (one other : Reply × World) : Type 0 where
  pub reply : one.0 ≡ other.0
  pub world : IsYoung (record within { registers = unset within.registers client cmd one.0; next = other.1.next }) (nursery_of one.1) other.1

module _ (within world : World) (nursery : NurseryView) (is : IsYoung within nursery world) (sound : IsNursery nursery) where
  abbrev alone : World
  alone = young_alone world nursery

  same_next : within.next ≡ world.next
  same_next = ap (λ (w : World). w.next) is.rest

  -- the same world within, and the same registers and the next identity said otherwise
  as_said : (one : NurseryView) (other : World) (said known : Registers) (next before : ℕ) → said ≡ known → before ≡ next
      → IsYoung (record within { registers = known; next = before }) one other → IsYoung (record within { registers = said; next = next }) one other
  as_said one other said known next before same later young = subst (λ (n : ℕ). IsYoung (record within { registers = said; next = n }) one other) later (subst (λ (r : Registers). IsYoung (record within { registers = r; next = before }) one other) (sym same) young)

  stays : (one : NurseryView) (other : World) → IsYoung within one other → IsYoung (record within { registers = within.registers; next = world.next }) one other
  stays one other young = as_said one other within.registers within.registers world.next within.next refl same_next young

  none_set : (one : NurseryView) (other : World) → IsYoung within one other → IsYoung (record within { registers = retain_keys within.registers (λ place. true); next = world.next }) one other
  none_set one other young = as_said one other (retain_keys within.registers (λ place. true)) within.registers world.next within.next (unset_none within.registers) same_next young

  one_set : (one : NurseryView) (other : World) (client reg : ℕ) → IsYoung (record within { registers = remove within.registers (client, reg) }) one other
      → IsYoung (record within { registers = retain_keys within.registers (λ place. not (nat_eq reg place.1 && nat_eq place.0 client)); next = world.next }) one other
  one_set one other client reg young = as_said one other _ (remove within.registers (client, reg)) world.next within.next (unset_one within.registers client reg) same_next young

  -- the young object is the world's
  same_object : (id : ℕ) → IsSome (get nursery.objects id) → get nursery.objects id ≡ get world.heap id
  same_object id there = let object = found_of (get nursery.objects id) there in object.1 ∙ sym (is.young id object.0 object.1)

  module _ (client : ℕ) where
    -- ---- fields

    loaded : (to reg index : ℕ) (field : Option (Option ℕ)) → AnsweredYoung within client (Load to reg index) (loading alone client to field) (loading world client to field)
    loaded to reg index None = record { reply = refl; world = stays nursery world is }
    loaded to reg index (Some None) = record { reply = refl; world = one_set _ _ client to (emptied within world nursery is client to) }
    loaded to reg index (Some (Some id)) = record { reply = refl; world = one_set _ _ client to (held_young within world nursery is client to id) }

    load_there : (to reg index : ℕ) (h : Option ℕ) → ((id : ℕ) → h ≡ Some id → IsSome (get nursery.objects id)) → AnsweredYoung within client (Load to reg index) (answer_load alone client to index h) (answer_load world client to index h)
    load_there to reg index None young = record { reply = refl; world = stays nursery world is }
    load_there to reg index (Some id) young =
        subst (λ (o : Option Object). AnsweredYoung within client (Load to reg index) (loading alone client to (field_of (get nursery.objects id) index)) (loading world client to (field_of o index))) (same_object id (young id refl))
        (loaded to reg index (field_of (get nursery.objects id) index))

    -- a command that sets no register writes a field of a young object
    wrote : (cmd : Cmd) (id index : ℕ) (value : Option ℕ) → ((reply : Reply) → unset within.registers client cmd reply ≡ within.registers) → IsSome (get nursery.objects id)
        → (o : Option Object) → AnsweredYoung within client cmd (writing alone id index value o) (writing world id index value o)
    wrote cmd id index value sets there None = record { reply = refl; world = as_said _ _ (unset within.registers client cmd NoField) within.registers _ within.next (sets NoField) same_next is }
    wrote cmd id index value sets there (Some object) = by (nat_lt index (length object.fields))
      where
        by : (b : Bool)
            → AnsweredYoung within client cmd (if b then (Done, changing alone id (with_field object index value)) else refused alone NoField) (if b then (Done, changing world id (with_field object index value)) else refused world NoField)
        by true = record {
          reply = refl;
          world = as_said _ _ (unset within.registers client cmd Done) within.registers _ within.next (sets Done) same_next (young_changed within world nursery is id (with_field object index value) there);
        }
        by false = record { reply = refl; world = as_said _ _ (unset within.registers client cmd NoField) within.registers _ within.next (sets NoField) same_next is }

    write_there : (cmd : Cmd) (id index : ℕ) (value : Option ℕ) → ((reply : Reply) → unset within.registers client cmd reply ≡ within.registers) → IsSome (get nursery.objects id)
        → AnsweredYoung within client cmd (writing alone id index value (get nursery.objects id)) (writing world id index value (get world.heap id))
    write_there cmd id index value sets there =
        subst (λ (o : Option Object). AnsweredYoung within client cmd (writing alone id index value (get nursery.objects id)) (writing world id index value o)) (same_object id there)
        (wrote cmd id index value sets there (get nursery.objects id))

    sets_none : (b : Bool) → (if b then within.registers else retain_keys within.registers (λ place. true)) ≡ within.registers
    sets_none true = refl
    sets_none false = unset_none within.registers

    store_there : (reg index value : ℕ) (h v : Option ℕ) → ((id : ℕ) → h ≡ Some id → IsSome (get nursery.objects id)) → AnsweredYoung within client (Store reg index value) (answer_store alone index h v) (answer_store world index h v)
    store_there reg index value None v young = record { reply = refl; world = stays nursery world is }
    store_there reg index value (Some id) None young = record { reply = refl; world = stays nursery world is }
    store_there reg index value (Some id) (Some other) young = write_there (Store reg index value) id index (Some other) (λ reply. sets_none _) (young id refl)

    clear_there : (reg index : ℕ) (h : Option ℕ) → ((id : ℕ) → h ≡ Some id → IsSome (get nursery.objects id)) → AnsweredYoung within client (Clear reg index) (answer_clear alone index h) (answer_clear world index h)
    clear_there reg index None young = record { reply = refl; world = stays nursery world is }
    clear_there reg index (Some id) young = write_there (Clear reg index) id index None (λ reply. sets_none _) (young id refl)

    swapped : (reg index old value : ℕ) (id was other : ℕ) → IsSome (get nursery.objects id) → (field : Option (Option ℕ))
        → AnsweredYoung within client (Swap reg index old value) (swapping alone id index was other field) (swapping world id index was other field)
    swapped reg index old value id was other there None = record { reply = refl; world = stays nursery world is }
    swapped reg index old value id was other there (Some None) = record { reply = refl; world = stays nursery world is }
    swapped reg index old value id was other there (Some (Some found)) = by (nat_eq found was)
      where
        by : (b : Bool)
            → AnsweredYoung within client (Swap reg index old value) (if b then writing alone id index (Some other) (get nursery.objects id) else refused alone (Held found)) (if b then writing world id index (Some other) (get world.heap id) else refused world (Held found))
        by true = write_there (Swap reg index old value) id index (Some other) (λ reply. sets_none _) there
        by false = record { reply = refl; world = stays nursery world is }

    swap_there : (reg index old value : ℕ) (h o v : Option ℕ) → ((id : ℕ) → h ≡ Some id → IsSome (get nursery.objects id)) → AnsweredYoung within client (Swap reg index old value) (answer_swap alone index h o v) (answer_swap world index h o v)
    swap_there reg index old value None o v young = record { reply = refl; world = stays nursery world is }
    swap_there reg index old value (Some id) None v young = record { reply = refl; world = stays nursery world is }
    swap_there reg index old value (Some id) (Some was) None young = record { reply = refl; world = stays nursery world is }
    swap_there reg index old value (Some id) (Some was) (Some other) young =
        subst (λ (x : Option Object). AnsweredYoung within client (Swap reg index old value) (swapping alone id index was other (field_of (get nursery.objects id) index)) (swapping world id index was other (field_of x index))) (same_object id (young id refl))
        (swapped reg index old value id was other (young id refl) (field_of (get nursery.objects id) index))

    -- ---- bytes

    shown_there : (reg : ℕ) (h : Option ℕ) → ((id : ℕ) → h ≡ Some id → IsSome (get nursery.objects id)) → AnsweredYoung within client (Show reg) (answer_data alone h) (answer_data world h)
    shown_there reg None young = record { reply = refl; world = stays nursery world is }
    shown_there reg (Some id) young = record { reply = ap (λ (o : Option Object). shown o) (same_object id (young id refl)); world = none_set nursery world is }
      where
        shown : Option Object → Reply
        shown o = Shown (bytes_of o)

    put_object : (reg at : ℕ) (bytes : List ℕ) (id : ℕ) → IsSome (get nursery.objects id) → (o : Option Object) → AnsweredYoung within client (Put reg at bytes) (putting alone id at bytes o) (putting world id at bytes o)
    put_object reg at bytes id there None = record { reply = refl; world = stays nursery world is }
    put_object reg at bytes id there (Some object) = by (nat_lt (length object.bytes) (at + length bytes))
      where
        by : (b : Bool)
            → AnsweredYoung within client (Put reg at bytes) (if b then refused alone OutOfRange else (Done, changing alone id (with_bytes object at bytes))) (if b then refused world OutOfRange else (Done, changing world id (with_bytes object at bytes)))
        by true = record { reply = refl; world = stays nursery world is }
        by false = record { reply = refl; world = none_set _ _ (young_changed within world nursery is id (with_bytes object at bytes) there) }

    put_there : (reg at : ℕ) (bytes : List ℕ) (h : Option ℕ) → ((id : ℕ) → h ≡ Some id → IsSome (get nursery.objects id)) → AnsweredYoung within client (Put reg at bytes) (answer_put alone at bytes h) (answer_put world at bytes h)
    put_there reg at bytes None young = record { reply = refl; world = stays nursery world is }
    put_there reg at bytes (Some id) young =
        subst (λ (o : Option Object). AnsweredYoung within client (Put reg at bytes) (putting alone id at bytes (get nursery.objects id)) (putting world id at bytes o)) (same_object id (young id refl))
        (put_object reg at bytes id (young id refl) (get nursery.objects id))

    -- ---- registers

    copy_there : (to reg : ℕ) (h : Option ℕ) → AnsweredYoung within client (Copy to reg) (answer_copy alone client to h) (answer_copy world client to h)
    copy_there to reg None = record { reply = refl; world = stays nursery world is }
    copy_there to reg (Some id) = record { reply = refl; world = one_set _ _ client to (held_young within world nursery is client to id) }

    id_there : (reg : ℕ) (h : Option ℕ) → AnsweredYoung within client (IdOf reg) (answer_id alone h) (answer_id world h)
    id_there reg None = record { reply = refl; world = stays nursery world is }
    id_there reg (Some id) = record { reply = refl; world = none_set nursery world is }

    drop_there : (reg : ℕ) (h : Option ℕ) → AnsweredYoung within client (Forget reg) (answer_drop alone client reg h) (answer_drop world client reg h)
    drop_there reg None = record { reply = refl; world = stays nursery world is }
    drop_there reg (Some id) = record { reply = refl; world = one_set _ _ client reg (emptied within world nursery is client reg) }

    closed_there : AnsweredYoung within client Close (answer alone client Close) (answer world client Close)
    unfolding answer
    closed_there = record { reply = refl; world = as_said _ _ _ _ world.next within.next refl same_next (closed within world nursery is client) }

    -- ---- births

    new_there : (reg count : ℕ) (bytes : List ℕ) → get world.heap world.next ≡ None → AnsweredYoung within client (New reg count bytes) (answer_new alone client reg count bytes) (answer_new world client reg count bytes)
    new_there reg count bytes none = by (nat_lt FIELDS count || nat_lt OBJECT_BYTES (length bytes)) (nat_lt LAST_ID world.next)
      where
        by : (large spent : Bool)
            → AnsweredYoung within client (New reg count bytes)
            (if large then refused alone TooLarge else if spent then refused alone IdsSpent else (Ident world.next, holding (with_object alone (fresh count bytes)) client reg world.next))
            (if large then refused world TooLarge else if spent then refused world IdsSpent else (Ident world.next, holding (with_object world (fresh count bytes)) client reg world.next))
        by true spent = record { reply = refl; world = stays nursery world is }
        by false true = record { reply = refl; world = stays nursery world is }
        by false false = record {
          reply = refl;
          world = as_said _ _ _ (remove within.registers (client, reg)) (world.next + 1) (within.next + 1) (unset_one within.registers client reg) (ap (λ n. n + 1) same_next)
              (held_young (record within { next = within.next + 1 }) (with_object world (fresh count bytes)) (young_changing nursery world.next (fresh count bytes))
              (born within world nursery is (fresh count bytes) none) client reg world.next);
        }

    -- ---- any of them

    abbrev Reads : Cmd → Type 0
    Reads cmd = (register : ℕ) → reads_register cmd register ≡ true → IsSome (get nursery.registers (client, register))

    same_held : (reg : ℕ) → IsSome (get nursery.registers (client, reg)) → held alone client reg ≡ held world client reg
    same_held reg there =
        let id = found_of (get nursery.registers (client, reg)) there in
        id.1 ∙ sym (is.registers (client, reg) ∙ ap (λ (n : Option ℕ). or_else n (get within.registers (client, reg))) id.1)

    young : (reg id : ℕ) → held alone client reg ≡ Some id → IsSome (get nursery.objects id)
    young reg id here = sound.held id ((client, reg), here)

    pub answered_young : (cmd : Cmd) → is_of_objects cmd ≡ true → get world.heap world.next ≡ None → Reads cmd → AnsweredYoung within client cmd (answer alone client cmd) (answer world client cmd)
    unfolding answer
    answered_young (New reg count bytes) of none reads = new_there reg count bytes none
    answered_young (Load to reg index) of none reads =
        subst (λ (h : Option ℕ). AnsweredYoung within client (Load to reg index) (answer_load alone client to index (held alone client reg)) (answer_load world client to index h)) (same_held reg (reads reg (itself reg)))
        (load_there to reg index (held alone client reg) (young reg))
    answered_young (Store reg index value) of none reads =
        subst (λ (h : Option ℕ). AnsweredYoung within client (Store reg index value) (answer_store alone index (held alone client reg) (held alone client value)) (answer_store world index h (held world client value))) (same_held reg (reads reg (one_of reg value)))
        (subst (λ (v : Option ℕ). AnsweredYoung within client (Store reg index value) (answer_store alone index (held alone client reg) (held alone client value)) (answer_store world index (held alone client reg) v)) (same_held value (reads value (other_of reg value)))
        (store_there reg index value (held alone client reg) (held alone client value) (young reg)))
    answered_young (Clear reg index) of none reads =
        subst (λ (h : Option ℕ). AnsweredYoung within client (Clear reg index) (answer_clear alone index (held alone client reg)) (answer_clear world index h)) (same_held reg (reads reg (itself reg)))
        (clear_there reg index (held alone client reg) (young reg))
    answered_young (Show reg) of none reads =
        subst (λ (h : Option ℕ). AnsweredYoung within client (Show reg) (answer_data alone (held alone client reg)) (answer_data world h)) (same_held reg (reads reg (itself reg)))
        (shown_there reg (held alone client reg) (young reg))
    answered_young (Put reg at bytes) of none reads =
        subst (λ (h : Option ℕ). AnsweredYoung within client (Put reg at bytes) (answer_put alone at bytes (held alone client reg)) (answer_put world at bytes h)) (same_held reg (reads reg (itself reg)))
        (put_there reg at bytes (held alone client reg) (young reg))
    answered_young (Copy to reg) of none reads =
        subst (λ (h : Option ℕ). AnsweredYoung within client (Copy to reg) (answer_copy alone client to (held alone client reg)) (answer_copy world client to h)) (same_held reg (reads reg (itself reg)))
        (copy_there to reg (held alone client reg))
    answered_young (IdOf reg) of none reads =
        subst (λ (h : Option ℕ). AnsweredYoung within client (IdOf reg) (answer_id alone (held alone client reg)) (answer_id world h)) (same_held reg (reads reg (itself reg)))
        (id_there reg (held alone client reg))
    answered_young (Forget reg) of none reads =
        subst (λ (h : Option ℕ). AnsweredYoung within client (Forget reg) (answer_drop alone client reg (held alone client reg)) (answer_drop world client reg h)) (same_held reg (reads reg (itself reg)))
        (drop_there reg (held alone client reg))
    answered_young (Bind name reg) of none reads = cc of
    answered_young (Unbind name) of none reads = cc of
    answered_young (Find to name) of none reads = cc of
    answered_young Save of none reads = cc of
    answered_young Settle of none reads = cc of
    answered_young Watch of none reads = cc of
    answered_young Close of none reads = closed_there
    answered_young (Swap reg index old value) of none reads =
        subst (λ (h : Option ℕ). AnsweredYoung within client (Swap reg index old value) (answer_swap alone index (held alone client reg) (held alone client old) (held alone client value)) (answer_swap world index h (held world client old) (held world client value))) (same_held reg (reads reg (first_of_three reg old value)))
        (subst (λ (o : Option ℕ). AnsweredYoung within client (Swap reg index old value) (answer_swap alone index (held alone client reg) (held alone client old) (held alone client value)) (answer_swap world index (held alone client reg) o (held world client value))) (same_held old (reads old (second_of_three reg old value)))
        (subst (λ (v : Option ℕ). AnsweredYoung within client (Swap reg index old value) (answer_swap alone index (held alone client reg) (held alone client old) (held alone client value)) (answer_swap world index (held alone client reg) (held alone client old) v)) (same_held value (reads value (third_of_three reg old value)))
        (swap_there reg index old value (held alone client reg) (held alone client old) (held alone client value) (young reg))))
    answered_young Unsave of none reads = cc of
