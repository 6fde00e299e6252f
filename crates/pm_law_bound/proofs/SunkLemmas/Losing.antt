-- What a world has lost stays lost, whatever is asked of the world.
use Rattle.std.proofs.Common.{◌≡◌, inl, inr, ⊎_elim, ℕ, zero, suc, ◌+◌, ◌<◌, ◌==◌, ◌||◌, nat_lt, nat_eq, if◌then◌else◌, Bool, true, false, cond, not, refl, ap, sym, subst, ◌∙◌, List, [], ◌∷◌, length, get_or, replicate, Option, Some, None, arith}
use Rattle.std.specs.Option.{IsSomeAnd}
use Rattle.std.specs.List.{slice_get, Contains}
use Rattle.std.specs.FinMap.{get, insert, nat_cmp-IsAntisymmetric}
use Rattle.std.specs.Cmp.{nat_cmp_total}
use Rattle.std.proofs.lemmas.Bool.{ltb-true}
use Rattle.pm_types.proofs.Orders.{names_total, names_antisymmetric, places_total, places_antisymmetric}
use Rattle.pm_types.specs.declared.limits.TheConstants.{FIELDS, OBJECT_BYTES, LAST_ID, LAST_COPY, WATCHES}
use Rattle.pm_types.specs.declared.command.Cmd.{Cmd}
use Rattle.pm_types.specs.declared.command.Cmd.TheVariants.{New, Load, Store, Clear, Show, Put, IdOf, Forget, Bind, Unbind, Find, Save, Settle, Watch, Close, Swap, Unsave}
use Rattle.pm_types.specs.declared.command.Cmd.TheVariants as commands
use Rattle.pm_types.specs.declared.reply.Reply.{Reply}
use Rattle.pm_model.specs.Heap.{Object, Holds, field_of, with_field, with_bytes}
use Rattle.pm_model.specs.World.{World, Saving, held, holding, emptying, closing, changing, naming, unbinding}
use Rattle.pm_model.specs.Reachability.{IsReachable}
use Rattle.pm_model.specs.Closed.{IsClosed}
use Rattle.pm_model.specs.Answer.{answer, fresh, has_no_room, answer_new, loading, answer_load, writing, answer_store, answer_clear, answer_data, putting, answer_put, answer_copy, answer_id, answer_drop, answer_root, answer_unroot, answer_find, answer_save, answer_settle, answer_watch, swapping, answer_swap, answer_unsave}
use Rattle.pm_model.proofs.Maps.{insert_cases, remove_cases, retain_cases}
use Rattle.pm_model.proofs.Reaching.{reachable_next, along}
use Rattle.pm_view.specs.Represents.{IsHeld}
use Rattle.pm_law_commands.proofs.RowLemmas.Places.{item_set}
use Rattle.pm_view.specs.Sinking.{IsLost}
use Rattle.pm_law_bound.proofs.SunkLemmas.Lost.{at_item, holds_at}

at_place : {X : Type 0} (xs : List X) (k : ℕ) (x : X) → k < length xs → get_or xs k x ≡ x → slice_get xs k ≡ Some x
at_place [] k x within is = absurd (omega arith)
at_place (y ∷ ys) zero x within is = ap Some is
at_place (y ∷ ys) (suc k) x within is = at_place ys k x (omega arith) is

-- the field in which an object holds an identity
held_field : (o : Option Object) (to : ℕ) → IsSomeAnd o (λ object. Contains object.fields (Some to)) → (object : Object) × (o ≡ Some object) × ((k : ℕ) × (slice_get object.fields k ≡ Some (Some to)))
held_field None to holds = absurd holds
held_field (Some object) to holds = (object, refl, (holds.0, at_place object.fields holds.0 (Some to) holds.1 holds.2))

field_holds : (o : Option Object) (index to : ℕ) → field_of o index ≡ Some (Some to) → IsSomeAnd o (λ object. Contains object.fields (Some to))
field_holds None index to is = cc
field_holds (Some object) index to is = at_item object.fields index (Some to) is

all_null : (count index to : ℕ) → slice_get {X = Option ℕ} (replicate count None) index ≡ Some (Some to) → ⊥
all_null zero index to is = cc
all_null (suc count) zero to is = cc
all_null (suc count) (suc index) to is = all_null count index to is

-- what a field holds once one was set
set_either : (b : Bool) (value : Option ℕ) (o : Option (Option ℕ)) (to : ℕ) (A : Type 0) → cond b (Some value) o ≡ Some (Some to) → (value ≡ Some to → A) → (o ≡ Some (Some to) → A) → A
set_either true value o to A is new old = new (let same : value ≡ Some to = cc in same)
set_either false value o to A is new old = old is

-- no name and no register leads to the set, and what holds a member is a member
record IsApart (world : World) (Of : ℕ → Type 0) : Type 0 where
  pub given : (id : ℕ) → Of id → id < world.next
  pub root : (name : List ℕ) (id : ℕ) → get world.roots name ≡ Some id → Of id → ⊥
  pub register : (place : ℕ × ℕ) (id : ℕ) → get world.registers place ≡ Some id → Of id → ⊥
  pub field : (from to : ℕ) → Holds world.heap from to → Of to → Of from

module _ (world : World) (Of : ℕ → Type 0) (apart : IsApart world Of) where
  held_none : (id : ℕ) → IsHeld world id → Of id → ⊥
  held_none id is = ⊎_elim (λ (by : (name : List ℕ) × (get world.roots name ≡ Some id)). apart.root by.0 id by.1) (λ (by : (place : ℕ × ℕ) × (get world.registers place ≡ Some id)). apart.register by.0 id by.1) is

  -- so no member is reached
  not_reached : (id : ℕ) → IsReachable world.heap (IsHeld world) id → Of id → ⊥
  not_reached id reached = along world.heap (λ x. Of x → ⊥) (λ from to other holds of. other (apart.field from to holds of)) reached.0 reached.1 id (held_none reached.0 reached.2) reached.3

  -- ---- what answers are made of

  hold_apart : (client reg id : ℕ) → (Of id → ⊥) → IsApart (holding world client reg id) Of
  hold_apart client reg id other = record {
    given = apart.given;
    root = apart.root;
    register = λ place q is of.
        ⊎_elim (λ (here : (place ≡ (client, reg)) × (id ≡ q)). other (subst Of (sym here.1) of)) (λ (there : (place ≡ (client, reg) → ⊥) × (get world.registers place ≡ Some q)). apart.register place q there.1 of)
        (insert_cases places_total places_antisymmetric world.registers (client, reg) id place q is);
    field = apart.field;
  }

  empty_apart : (client reg : ℕ) → IsApart (emptying world client reg) Of
  empty_apart client reg = record {
    given = apart.given;
    root = apart.root;
    register = λ place q is of. apart.register place q (remove_cases places_total places_antisymmetric world.registers (client, reg) place q is) of;
    field = apart.field;
  }

  name_apart : (name : List ℕ) (id : ℕ) → (Of id → ⊥) → IsApart (naming world name id) Of
  name_apart name id other = record {
    given = apart.given;
    root = λ one q is of.
        ⊎_elim (λ (here : (one ≡ name) × (id ≡ q)). other (subst Of (sym here.1) of)) (λ (there : (one ≡ name → ⊥) × (get world.roots one ≡ Some q)). apart.root one q there.1 of)
        (insert_cases names_total names_antisymmetric world.roots name id one q is);
    register = apart.register;
    field = apart.field;
  }

  unbind_apart : (name : List ℕ) → IsApart (unbinding world name) Of
  unbind_apart name = record {
    given = apart.given;
    root = λ one q is of. apart.root one q (remove_cases names_total names_antisymmetric world.roots name one q is) of;
    register = apart.register;
    field = apart.field;
  }

  field_then : (at : ℕ) (new : Object) → ((k to : ℕ) → slice_get new.fields k ≡ Some (Some to) → Of to → Of at) → (from to : ℕ) → Holds (insert world.heap at new) from to → Of to → Of from
  field_then at new may from to holds of =
      let it = held_field (get (insert world.heap at new) from) to holds in
      ⊎_elim
      (λ (here : (from ≡ at) × (new ≡ it.0)). subst Of (sym here.0) (may it.2.0 to (ap (λ (o : Object). slice_get o.fields it.2.0) here.1 ∙ it.2.1) of))
      (λ (there : (from ≡ at → ⊥) × (get world.heap from ≡ Some it.0)). apart.field from to (holds_at (get world.heap from) it.0 it.2.0 to there.1 it.2.1) of)
      (insert_cases nat_cmp_total nat_cmp-IsAntisymmetric world.heap at new from it.0 it.1)

  change_apart : (at : ℕ) (new : Object) → ((k to : ℕ) → slice_get new.fields k ≡ Some (Some to) → Of to → Of at) → IsApart (changing world at new) Of
  change_apart at new may = record { given = apart.given; root = apart.root; register = apart.register; field = field_then at new may }

  was_field : (at : ℕ) (object : Object) → get world.heap at ≡ Some object → (k to : ℕ) → slice_get object.fields k ≡ Some (Some to) → Of to → Of at
  was_field at object there k to is of = apart.field at to (holds_at (get world.heap at) object k to there is) of

  -- ---- answers

  -- the world beside a reply
  abbrev Then : Reply × World → Type 0
  Then given = IsApart given.1 Of

  if_then : (b : Bool) (one two : Reply × World) → (b ≡ true → Then one) → (b ≡ false → Then two) → Then (if b then one else two)
  if_then true one two first second = first refl
  if_then false one two first second = second refl

  new_apart : (client reg count : ℕ) (bytes : List ℕ) → Then (answer_new world client reg count bytes)
  new_apart client reg count bytes =
      if_then (nat_lt FIELDS count || nat_lt OBJECT_BYTES (length bytes)) _ _ (λ large. apart) (λ small. if_then (nat_lt LAST_ID world.next) _ _ (λ spent. apart) (λ left.
      record {
        given = λ id of. let below = apart.given id of in omega (arith, below);
        root = apart.root;
        register = λ place q is of.
            ⊎_elim (λ (here : (place ≡ (client, reg)) × (world.next ≡ q)). not_next (subst Of (sym here.1) of)) (λ (there : (place ≡ (client, reg) → ⊥) × (get world.registers place ≡ Some q)). apart.register place q there.1 of)
            (insert_cases places_total places_antisymmetric world.registers (client, reg) world.next place q is);
        field = field_then world.next (fresh count bytes) (λ k to is of. absurd (all_null count k to is));
      }))
    where
      not_next : Of world.next → ⊥
      not_next of = let below = apart.given world.next of in omega (arith, below)

  load_apart : (client to index : ℕ) (from : Option ℕ) → ((id : ℕ) → from ≡ Some id → Of id → ⊥) → Then (answer_load world client to index from)
  load_apart client to index None clean = apart
  load_apart client to index (Some id) clean = by_field (field_of (get world.heap id) index) refl
    where
      by_field : (f : Option (Option ℕ)) → field_of (get world.heap id) index ≡ f → Then (loading world client to f)
      by_field None is = apart
      by_field (Some None) is = empty_apart client to
      by_field (Some (Some found)) is = hold_apart client to found (λ of. clean id refl (apart.field id found (field_holds (get world.heap id) index found is) of))

  write_apart : (id index : ℕ) (value : Option ℕ) → ((to : ℕ) → value ≡ Some to → Of to → ⊥) → (o : Option Object) → get world.heap id ≡ o → Then (writing world id index value o)
  write_apart id index value clean None there = apart
  write_apart id index value clean (Some object) there =
      if_then (nat_lt index (length object.fields)) _ _ (λ less.
      change_apart id (with_field object index value) (λ k to is of.
      set_either (index == k) value (slice_get object.fields k) to (Of id) (sym (item_set object.fields index k value (ltb-true index (length object.fields) less)) ∙ is)
      (λ new. absurd (clean to new of)) (λ old. was_field id object there k to old of)))
      (λ more. apart)

  store_apart : (index : ℕ) (from to : Option ℕ) → ((id : ℕ) → to ≡ Some id → Of id → ⊥) → Then (answer_store world index from to)
  store_apart index None to clean = apart
  store_apart index (Some id) None clean = apart
  store_apart index (Some id) (Some value) clean = write_apart id index (Some value) clean (get world.heap id) refl

  clear_apart : (index : ℕ) (from : Option ℕ) → Then (answer_clear world index from)
  clear_apart index None = apart
  clear_apart index (Some id) = write_apart id index None (λ to is of. cc) (get world.heap id) refl

  data_apart : (from : Option ℕ) → Then (answer_data world from)
  data_apart None = apart
  data_apart (Some id) = apart

  id_apart : (from : Option ℕ) → Then (answer_id world from)
  id_apart None = apart
  id_apart (Some id) = apart

  put_apart : (at : ℕ) (bytes : List ℕ) (from : Option ℕ) → Then (answer_put world at bytes from)
  put_apart at bytes None = apart
  put_apart at bytes (Some id) = by_object (get world.heap id) refl
    where
      by_object : (o : Option Object) → get world.heap id ≡ o → Then (putting world id at bytes o)
      by_object None there = apart
      by_object (Some object) there = if_then (nat_lt (length object.bytes) (at + length bytes)) _ _ (λ past. apart) (λ within. change_apart id (with_bytes object at bytes) (was_field id object there))

  copy_apart : (client to : ℕ) (from : Option ℕ) → ((id : ℕ) → from ≡ Some id → Of id → ⊥) → Then (answer_copy world client to from)
  copy_apart client to None clean = apart
  copy_apart client to (Some id) clean = hold_apart client to id (clean id refl)

  drop_apart : (client reg : ℕ) (from : Option ℕ) → Then (answer_drop world client reg from)
  drop_apart client reg None = apart
  drop_apart client reg (Some id) = empty_apart client reg

  root_apart : (name : List ℕ) (from : Option ℕ) → ((id : ℕ) → from ≡ Some id → Of id → ⊥) → Then (answer_root world name from)
  root_apart name None clean = apart
  root_apart name (Some id) clean = if_then (has_no_room world name) _ _ (λ full. apart) (λ room. name_apart name id (clean id refl))

  unroot_apart : (name : List ℕ) (to : Option ℕ) → Then (answer_unroot world name to)
  unroot_apart name None = apart
  unroot_apart name (Some id) = unbind_apart name

  find_apart : (client to : ℕ) (found : Option ℕ) → ((id : ℕ) → found ≡ Some id → Of id → ⊥) → Then (answer_find world client to found)
  find_apart client to None clean = apart
  find_apart client to (Some id) clean = hold_apart client to id (clean id refl)

  swap_apart : (index : ℕ) (from old to : Option ℕ) → ((id : ℕ) → to ≡ Some id → Of id → ⊥) → Then (answer_swap world index from old to)
  swap_apart index None old to clean = apart
  swap_apart index (Some id) None to clean = apart
  swap_apart index (Some id) (Some old) None clean = apart
  swap_apart index (Some id) (Some old) (Some value) clean = by_field (field_of (get world.heap id) index)
    where
      by_field : (f : Option (Option ℕ)) → Then (swapping world id index old value f)
      by_field None = apart
      by_field (Some None) = apart
      by_field (Some (Some found)) = if_then (nat_eq found old) _ _ (λ same. write_apart id index (Some value) clean (get world.heap id) refl) (λ other. apart)

  save_apart : (saving : Saving) → Then (answer_save world saving)
  save_apart None = if_then (nat_lt world.settled LAST_COPY) _ _ (λ less. record { given = apart.given; root = apart.root; register = apart.register; field = apart.field }) (λ more. apart)
  save_apart (Some begun) = apart

  settle_apart : (saving : Saving) → Then (answer_settle world saving)
  settle_apart None = apart
  settle_apart (Some begun) = record { given = apart.given; root = apart.root; register = apart.register; field = apart.field }

  unsave_apart : (saving : Saving) → Then (answer_unsave world saving)
  unsave_apart None = apart
  unsave_apart (Some begun) = record { given = apart.given; root = apart.root; register = apart.register; field = apart.field }

  watch_apart : Then (answer_watch world)
  watch_apart = if_then (nat_lt world.watches WATCHES) _ _ (λ less. record { given = apart.given; root = apart.root; register = apart.register; field = apart.field }) (λ more. apart)

  close_apart : (client : ℕ) → IsApart (closing world client) Of
  close_apart client = record {
    given = apart.given;
    root = apart.root;
    register = λ place q is of. apart.register place q (retain_cases places_total places_antisymmetric world.registers (λ place. not (nat_eq place.0 client)) place q is) of;
    field = apart.field;
  }

  answer_apart : (client : ℕ) (cmd : Cmd) → Then (answer world client cmd)
  unfolding answer
  answer_apart client (New reg count bytes) = new_apart client reg count bytes
  answer_apart client (Load to reg index) = load_apart client to index (held world client reg) (apart.register (client, reg))
  answer_apart client (Store reg index value) = store_apart index (held world client reg) (held world client value) (apart.register (client, value))
  answer_apart client (Clear reg index) = clear_apart index (held world client reg)
  answer_apart client (Show reg) = data_apart (held world client reg)
  answer_apart client (Put reg at bytes) = put_apart at bytes (held world client reg)
  answer_apart client (commands.Copy to reg) = copy_apart client to (held world client reg) (apart.register (client, reg))
  answer_apart client (IdOf reg) = id_apart (held world client reg)
  answer_apart client (Forget reg) = drop_apart client reg (held world client reg)
  answer_apart client (Bind name reg) = root_apart name (held world client reg) (apart.register (client, reg))
  answer_apart client (Unbind name) = unroot_apart name (get world.roots name)
  answer_apart client (Find to name) = find_apart client to (get world.roots name) (apart.root name)
  answer_apart client Save = save_apart world.saving
  answer_apart client Settle = settle_apart world.saving
  answer_apart client Watch = watch_apart
  answer_apart client Close = close_apart client
  answer_apart client (Swap reg index old value) = swap_apart index (held world client reg) (held world client old) (held world client value) (apart.register (client, value))
  answer_apart client Unsave = unsave_apart world.saving

-- what a world has lost is apart
lost_apart : (world : World) → IsClosed world → IsApart world (IsLost world)
lost_apart world closed = record {
  given = λ id lost. lost.0;
  root = λ name id is lost. lost.1 (id, [], inl (name, is), refl);
  register = λ place id is lost. lost.1 (id, [], inr (place, is), refl);
  field = λ from to holds lost.
      let it = held_field (get world.heap from) to holds in
      ((closed.graph.given from it.0 it.1).1, λ reached. lost.1 (reachable_next world.heap (IsHeld world) from to reached holds));
}

-- so it stays lost
pub lost_stays : (world : World) (client : ℕ) (cmd : Cmd) (id : ℕ) → IsClosed world → IsLost world id → IsLost (answer world client cmd).1 id
lost_stays world client cmd id closed lost =
    let then_apart = answer_apart world (IsLost world) (lost_apart world closed) client cmd in
    (then_apart.given id lost, λ reached. not_reached (answer world client cmd).1 (IsLost world) then_apart id reached lost)
