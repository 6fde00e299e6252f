-- A field that was stored is loaded, until it is changed.
use Rattle.std.proofs.Common.{◌≡◌, ◌<◌, ℕ, zero, suc, Bool, true, false, nat_eq, ltb, List, [], ◌∷◌, length, set, slice_get, Option, Some, None, refl, ap, sym, subst, ◌∙◌, if◌then◌else◌, inl, inr, arith}
use Rattle.std.specs.Option.{IsSomeAnd}
use Rattle.std.specs.Cmp.{nat_cmp_total}
use Rattle.std.specs.FinMap.{get, nat_cmp-IsAntisymmetric}
use Rattle.std.proofs.lemmas.Bool.{cases_eq, ltb-true, eqb-true}
use Rattle.pm_types.specs.declared.command.Cmd.{Cmd}
use Rattle.pm_types.specs.declared.command.Cmd.TheVariants.{Load, Store, Clear, Swap}
use Rattle.pm_types.specs.declared.reply.Reply.{Reply}
use Rattle.pm_types.specs.declared.reply.Reply.TheVariants.{Done, NoField, Held}
use Rattle.pm_types.specs.declared.entry.Entry.{Entry}
use Rattle.pm_types.proofs.Orders.{places_total, places_antisymmetric}
use Rattle.pm_model.specs.Heap.{Object, field_of, with_field}
use Rattle.pm_model.specs.World.{World, held, changing}
use Rattle.pm_model.specs.Answer.{answer, refused, loading, answer_load, writing, answer_store, answer_clear, swapping, answer_swap}
use Rattle.pm_model.specs.Journal.{after}
use Rattle.pm_model.specs.Frames.{MayChangeField}
use Rattle.pm_model.specs.Closed.{IsClosed}
use Rattle.pm_model.specs.Lasting.{field_at, IsUntouched, loaded}
use Rattle.pm_model.proofs.Maps.{insert_here, insert_other, remove_here}
use Rattle.pm_model.proofs.Effects.{Effect, Nothing, Makes, Holds, Sets, Puts, Names, Closes, Begins, Settles, Drops, Watches, effected, IsOf, does}
use Rattle.pm_model.proofs.ClosedLaws.{field_cases, answer_closed}

set_same : (fields : List (Option ℕ)) (index : ℕ) (value : Option ℕ) → index < length fields → slice_get (set fields index value) index ≡ Some value
set_same [] index value within = absurd (omega arith)
set_same (field ∷ fields) zero value within = refl
set_same (field ∷ fields) (suc index) value within = set_same fields index value (omega arith)

set_other : (fields : List (Option ℕ)) (index k : ℕ) (value : Option ℕ) → (k ≡ index → ⊥) → slice_get (set fields index value) k ≡ slice_get fields k
set_other [] index k value other = refl
set_other (field ∷ fields) zero zero value other = absurd (other refl)
set_other (field ∷ fields) zero (suc k) value other = refl
set_other (field ∷ fields) (suc index) zero value other = refl
set_other (field ∷ fields) (suc index) (suc k) value other = set_other fields index k value (λ same. other (ap suc same))

-- ---- what is written is there

write_done : (world : World) (id index : ℕ) (value : Option ℕ) (object : Object) (less : Bool) → (less ≡ true → index < length object.fields)
    → (if less then (Done, changing world id (with_field object index value)) else refused world NoField).0 ≡ Done
    → field_at (if less then (Done, changing world id (with_field object index value)) else refused world NoField).1 id index ≡ Some value
write_done world id index value object true within is =
    ap (λ found. field_of found index) (insert_here nat_cmp_total nat_cmp-IsAntisymmetric world.heap id (with_field object index value)) ∙ set_same object.fields index value (within refl)
write_done world id index value object false within is = cc

writing_done : (world : World) (id index : ℕ) (value : Option ℕ) (found : Option Object) → (writing world id index value found).0 ≡ Done → field_at (writing world id index value found).1 id index ≡ Some value
writing_done world id index value None is = cc
writing_done world id index value (Some object) is = write_done world id index value object (ltb index (length object.fields)) (ltb-true index (length object.fields)) is

store_done : (world : World) (index : ℕ) (from to : Option ℕ) → (answer_store world index from to).0 ≡ Done → IsSomeAnd from (λ id. field_at (answer_store world index from to).1 id index ≡ Some to)
store_done world index None to is = cc
store_done world index (Some id) None is = cc
store_done world index (Some id) (Some to) is = writing_done world id index (Some to) _ is

clear_done : (world : World) (index : ℕ) (from : Option ℕ) → (answer_clear world index from).0 ≡ Done → IsSomeAnd from (λ id. field_at (answer_clear world index from).1 id index ≡ Some None)
clear_done world index None is = cc
clear_done world index (Some id) is = writing_done world id index None _ is

swap_picked : (world : World) (id index old found : ℕ) (value : ℕ) (same : Bool) → (same ≡ true → found ≡ old)
    → (if same then writing world id index (Some value) (get world.heap id) else refused world (Held found)).0 ≡ Done
    → (found ≡ old) × (field_at (if same then writing world id index (Some value) (get world.heap id) else refused world (Held found)).1 id index ≡ Some (Some value))
swap_picked world id index old found value true tied is = (tied refl, writing_done world id index (Some value) _ is)
swap_picked world id index old found value false tied is = cc

swapping_done : (world : World) (id index old value : ℕ) (content : Option (Option ℕ)) → (swapping world id index old value content).0 ≡ Done
    → (content ≡ Some (Some old)) × (field_at (swapping world id index old value content).1 id index ≡ Some (Some value))
swapping_done world id index old value None is = cc
swapping_done world id index old value (Some None) is = cc
swapping_done world id index old value (Some (Some found)) is =
    let both = swap_picked world id index old found value (nat_eq found old) (eqb-true found old) is in (ap (λ (x : ℕ). Some (Some x)) both.0, both.1)

swap_done : (world : World) (index : ℕ) (from one two : Option ℕ) → (answer_swap world index from one two).0 ≡ Done
    → IsSomeAnd from (λ id. (field_at world id index ≡ Some one) × (field_at (answer_swap world index from one two).1 id index ≡ Some two))
swap_done world index None one two is = cc
swap_done world index (Some id) None two is = cc
swap_done world index (Some id) (Some one) None is = cc
swap_done world index (Some id) (Some one) (Some two) is = swapping_done world id index one two _ is

pub stored_is_there : (world : World) (client reg index value : ℕ) → (answer world client (Store reg index value)).0 ≡ Done
    → IsSomeAnd (held world client reg) (λ id. field_at (answer world client (Store reg index value)).1 id index ≡ Some (held world client value))
unfolding answer
stored_is_there world client reg index value is = store_done world index (held world client reg) (held world client value) is

pub cleared_is_null : (world : World) (client reg index : ℕ) → (answer world client (Clear reg index)).0 ≡ Done
    → IsSomeAnd (held world client reg) (λ id. field_at (answer world client (Clear reg index)).1 id index ≡ Some None)
unfolding answer
cleared_is_null world client reg index is = clear_done world index (held world client reg) is

pub swapped_is_there : (world : World) (client reg index old value : ℕ) → (answer world client (Swap reg index old value)).0 ≡ Done
    → IsSomeAnd (held world client reg) (λ id. (field_at world id index ≡ Some (held world client old)) × (field_at (answer world client (Swap reg index old value)).1 id index ≡ Some (held world client value)))
unfolding answer
swapped_is_there world client reg index old value is = swap_done world index (held world client reg) (held world client old) (held world client value) is

-- ---- what is there is loaded

loading_told : (world : World) (client to : ℕ) (content : Option ℕ) → ((loading world client to (Some content)).0 ≡ loaded content) × (held (loading world client to (Some content)).1 client to ≡ content)
loading_told world client to None = (refl, remove_here places_total places_antisymmetric world.registers (client, to))
loading_told world client to (Some id) = (refl, insert_here places_total places_antisymmetric world.registers (client, to) id)

load_told : (world : World) (client to index id : ℕ) (from : Option ℕ) (content : Option ℕ) → from ≡ Some id → field_at world id index ≡ Some content
    → ((answer_load world client to index from).0 ≡ loaded content) × (held (answer_load world client to index from).1 client to ≡ content)
load_told world client to index id from content is there =
    subst (λ from. ((answer_load world client to index from).0 ≡ loaded content) × (held (answer_load world client to index from).1 client to ≡ content)) (sym is)
    (subst (λ found. ((loading world client to found).0 ≡ loaded content) × (held (loading world client to found).1 client to ≡ content)) (sym there) (loading_told world client to content))

pub loaded_is_told : (world : World) (client to reg index id : ℕ) (content : Option ℕ) → held world client reg ≡ Some id → field_at world id index ≡ Some content
    → ((answer world client (Load to reg index)).0 ≡ loaded content) × (held (answer world client (Load to reg index)).1 client to ≡ content)
unfolding answer
loaded_is_told world client to reg index id content is there = load_told world client to index id (held world client reg) content is there

-- ---- what is there stays

effect_lasts : (world : World) (client : ℕ) (cmd : Cmd) (reply : Reply) (effect : Effect) (id index : ℕ) → IsOf world client cmd reply effect → (id ≡ world.next → ⊥) → (MayChangeField world client cmd id index → ⊥)
    → field_at (effected world client effect) id index ≡ field_at world id index
effect_lasts world client cmd reply Nothing id index of new other = refl
effect_lasts world client cmd reply (Makes reg object) id index of new other = ap (λ found. field_of found index) (insert_other nat_cmp_total nat_cmp-IsAntisymmetric world.heap world.next object id new)
effect_lasts world client cmd reply (Holds reg None) id index of new other = refl
effect_lasts world client cmd reply (Holds reg (Some to)) id index of new other = refl
effect_lasts world client cmd reply (Sets at object k value) id index of new other =
    elim (cases_eq id at) [
      | inl same ↦
          let apart : index ≡ k → ⊥ = λ (e : index ≡ k).
          other (subst (λ changed. IsSomeAnd changed (λ (place : ℕ × ℕ). (held world client place.0 ≡ Some id) × (place.1 ≡ index))) (sym of.writes) (of.aims ∙ ap Some (sym same), sym e)) in
          ap (λ found. field_of found index) (ap (get (changing world at (with_field object k value)).heap) same ∙ insert_here nat_cmp_total nat_cmp-IsAntisymmetric world.heap at (with_field object k value))
          ∙ set_other object.fields k index value apart
          ∙ ap (λ found. field_of found index) (sym (ap (get world.heap) same ∙ of.there))
      | inr apart ↦ ap (λ found. field_of found index) (insert_other nat_cmp_total nat_cmp-IsAntisymmetric world.heap at (with_field object k value) id apart)
    ]
effect_lasts world client cmd reply (Puts at object from bytes) id index of new other =
    elim (cases_eq id at) [
      | inl same ↦
          ap (λ found. field_of found index) (ap (get (effected world client (Puts at object from bytes)).heap) same ∙ insert_here nat_cmp_total nat_cmp-IsAntisymmetric world.heap at _)
          ∙ ap (λ found. field_of found index) (sym (ap (get world.heap) same ∙ of.there))
      | inr apart ↦ ap (λ found. field_of found index) (insert_other nat_cmp_total nat_cmp-IsAntisymmetric world.heap at _ id apart)
    ]
effect_lasts world client cmd reply (Names name None) id index of new other = refl
effect_lasts world client cmd reply (Names name (Some to)) id index of new other = refl
effect_lasts world client cmd reply Closes id index of new other = refl
effect_lasts world client cmd reply (Begins number) id index of new other = refl
effect_lasts world client cmd reply (Settles number kept) id index of new other = refl
effect_lasts world client cmd reply Drops id index of new other = refl
effect_lasts world client cmd reply Watches id index of new other = refl

-- a field stays what it is, while nothing changes it
pub field_lasts : (world : World) (journal : List Entry) (id index : ℕ) (content : Option ℕ) → IsClosed world → field_at world id index ≡ Some content → IsUntouched world journal id index
    → field_at (after world journal) id index ≡ Some content
field_lasts world [] id index content closed is untouched = is
field_lasts world (entry ∷ journal) id index content closed is untouched =
    let d = does world entry.client entry.cmd in
    let holder = field_cases (get world.heap id) index content is in
    let given = closed.graph.given id holder.0 holder.1 in
    let stays = effect_lasts world entry.client entry.cmd _ d.effect id index d.allowed (λ same. let below = given.1 in omega (arith, same)) untouched.0 in
    field_lasts (answer world entry.client entry.cmd).1 journal id index content (answer_closed world entry.client entry.cmd closed) (ap (λ (w : World). field_at w id index) d.is ∙ stays ∙ is) untouched.1
