-- What holds of every answer: each law is one of the effects that answers have.
use Rattle.std.proofs.Common.{◌≡◌, ℕ, Bool, true, false, cond, not, nat_eq, List, Option, Some, None, refl, ap, sym, subst, ◌∙◌, if◌then◌else◌, arith}
use Rattle.std.specs.Option.{IsSomeAnd}
use Rattle.std.specs.Cmp.{nat_cmp_total}
use Rattle.std.specs.FinMap.{get, nat_cmp-IsAntisymmetric}
use Rattle.std.proofs.lemmas.Bool.Decides.{nat_tests}
use Rattle.pm_types.specs.declared.command.Cmd.{Cmd}
use Rattle.pm_types.specs.declared.command.Cmd.TheVariants.{Bind, Unbind, Find}
use Rattle.pm_types.specs.declared.reply.Reply.{Reply}
use Rattle.pm_types.specs.declared.reply.Reply.TheVariants.{Done, Ident, TooManyRoots, NoRoot}
use Rattle.pm_types.proofs.Orders.{names_total, names_antisymmetric, places_total, places_antisymmetric}
use Rattle.pm_model.specs.World.{World, held, naming, unbinding}
use Rattle.pm_model.specs.Answer.{answer, answer_root, answer_unroot, answer_find, refused, has_no_room, is_refusal}
use Rattle.pm_model.specs.Journal.{settled_in}
use Rattle.pm_model.specs.Frames.{makes_object, changed_name, sets_register, saves, is_settle, sets_watch, Makes as MakesAt, MayChange}
use Rattle.pm_model.proofs.Maps.{insert_here, insert_other, remove_here, remove_other, retain_get}
use Rattle.pm_model.proofs.Effects.{Effect, Nothing, Makes, Holds, Sets, Puts, Names, Closes, Begins, Settles, Drops, Watches, effected, IsOf, does}

refused_same : (world : World) (client : ℕ) (cmd : Cmd) (reply : Reply) (effect : Effect) → IsOf world client cmd reply effect → is_refusal cmd reply ≡ true → effected world client effect ≡ world
refused_same world client cmd reply Nothing of is = refl
refused_same world client cmd reply (Makes reg object) of is = cc
refused_same world client cmd reply (Holds reg to) of is = cc
refused_same world client cmd reply (Sets id object index value) of is = cc
refused_same world client cmd reply (Puts id object at bytes) of is = cc
refused_same world client cmd reply (Names name to) of is = cc
refused_same world client cmd reply Closes of is = cc (of.0.accepted)
refused_same world client cmd reply (Begins number) of is = cc
refused_same world client cmd reply (Settles number copy) of is = cc
refused_same world client cmd reply Drops of is = cc (of.0.accepted)
refused_same world client cmd reply Watches of is = cc

-- a refusal gives the same world back
pub refusal_keeps : (world : World) (client : ℕ) (cmd : Cmd) → is_refusal cmd (answer world client cmd).0 ≡ true → (answer world client cmd).1 ≡ world
refusal_keeps world client cmd is = let d = does world client cmd in d.is ∙ refused_same world client cmd _ d.effect d.allowed is

-- ---- what each command leaves as it is

object_stays : (world : World) (client : ℕ) (cmd : Cmd) (reply : Reply) (effect : Effect) (id : ℕ) → IsOf world client cmd reply effect → (MakesAt world cmd id → ⊥) → (MayChange world client cmd id → ⊥)
    → get (effected world client effect).heap id ≡ get world.heap id
object_stays world client cmd reply Nothing id of new other = refl
object_stays world client cmd reply (Makes reg object) id of new other = insert_other nat_cmp_total nat_cmp-IsAntisymmetric world.heap world.next object id (λ same. new (of.makes, same))
object_stays world client cmd reply (Holds reg None) id of new other = refl
object_stays world client cmd reply (Holds reg (Some to)) id of new other = refl
object_stays world client cmd reply (Sets at object index value) id of new other =
    insert_other nat_cmp_total nat_cmp-IsAntisymmetric world.heap at _ id (λ same.
    other (subst (λ changed. IsSomeAnd changed (λ reg. held world client reg ≡ Some id)) (sym of.changes) (of.aims ∙ ap Some (sym same))))
object_stays world client cmd reply (Puts at object from bytes) id of new other =
    insert_other nat_cmp_total nat_cmp-IsAntisymmetric world.heap at _ id (λ same.
    other (subst (λ changed. IsSomeAnd changed (λ reg. held world client reg ≡ Some id)) (sym of.changes) (of.aims ∙ ap Some (sym same))))
object_stays world client cmd reply (Names name None) id of new other = refl
object_stays world client cmd reply (Names name (Some to)) id of new other = refl
object_stays world client cmd reply Closes id of new other = refl
object_stays world client cmd reply (Begins number) id of new other = refl
object_stays world client cmd reply (Settles number copy) id of new other = refl
object_stays world client cmd reply Drops id of new other = refl
object_stays world client cmd reply Watches id of new other = refl

next_stays : (world : World) (client : ℕ) (cmd : Cmd) (reply : Reply) (effect : Effect) → IsOf world client cmd reply effect → makes_object cmd ≡ false → (effected world client effect).next ≡ world.next
next_stays world client cmd reply Nothing of is = refl
next_stays world client cmd reply (Makes reg object) of is = cc
next_stays world client cmd reply (Holds reg None) of is = refl
next_stays world client cmd reply (Holds reg (Some to)) of is = refl
next_stays world client cmd reply (Sets at object index value) of is = refl
next_stays world client cmd reply (Puts at object from bytes) of is = refl
next_stays world client cmd reply (Names name None) of is = refl
next_stays world client cmd reply (Names name (Some to)) of is = refl
next_stays world client cmd reply Closes of is = refl
next_stays world client cmd reply (Begins number) of is = refl
next_stays world client cmd reply (Settles number copy) of is = refl
next_stays world client cmd reply Drops of is = refl
next_stays world client cmd reply Watches of is = refl

name_stays : (world : World) (client : ℕ) (cmd : Cmd) (reply : Reply) (effect : Effect) (name : List ℕ) → IsOf world client cmd reply effect → (changed_name cmd ≡ Some name → ⊥)
    → get (effected world client effect).roots name ≡ get world.roots name
name_stays world client cmd reply Nothing name of other = refl
name_stays world client cmd reply (Makes reg object) name of other = refl
name_stays world client cmd reply (Holds reg None) name of other = refl
name_stays world client cmd reply (Holds reg (Some to)) name of other = refl
name_stays world client cmd reply (Sets at object index value) name of other = refl
name_stays world client cmd reply (Puts at object from bytes) name of other = refl
name_stays world client cmd reply (Names bound None) name of other = remove_other names_total names_antisymmetric world.roots bound name (λ same. other (of.names ∙ ap Some (sym same)))
name_stays world client cmd reply (Names bound (Some to)) name of other = insert_other names_total names_antisymmetric world.roots bound to name (λ same. other (of.names ∙ ap Some (sym same)))
name_stays world client cmd reply Closes name of other = refl
name_stays world client cmd reply (Begins number) name of other = refl
name_stays world client cmd reply (Settles number copy) name of other = refl
name_stays world client cmd reply Drops name of other = refl
name_stays world client cmd reply Watches name of other = refl

-- a place that is another client's, or another register that the command does not set
IsOther : ℕ → Cmd → ℕ → ℕ → Type 0
IsOther client cmd other register = (other ≡ client → sets_register cmd register ≡ false)

another_place : (client reg other register : ℕ) (cmd : Cmd) → sets_register cmd reg ≡ true → IsOther client cmd other register → ◌≡◌ {A = ℕ × ℕ} (other, register) (client, reg) → ⊥
unfolding IsOther
another_place client reg other register cmd sets is same =
    let one : other ≡ client = ap (λ (p : ℕ × ℕ). p.0) same in
    let two : register ≡ reg = ap (λ (p : ℕ × ℕ). p.1) same in
    let not = is one in
    let now = ap (sets_register cmd) two in
    cc (sets, not, now)

kept_open : (client other : ℕ) (held : Option ℕ) → (other ≡ client → ⊥) → cond (not (nat_eq other client)) held None ≡ held
kept_open client other held is = grind (arith, nat_tests)

register_stays : (world : World) (client : ℕ) (cmd : Cmd) (reply : Reply) (effect : Effect) (other register : ℕ) → IsOf world client cmd reply effect → IsOther client cmd other register
    → held (effected world client effect) other register ≡ held world other register
unfolding IsOther
register_stays world client cmd reply Nothing other register of is = refl
register_stays world client cmd reply (Makes reg object) other register of is =
    insert_other places_total places_antisymmetric world.registers (client, reg) world.next (other, register) (another_place client reg other register cmd of.sets is)
register_stays world client cmd reply (Holds reg None) other register of is = remove_other places_total places_antisymmetric world.registers (client, reg) (other, register) (another_place client reg other register cmd of.sets is)
register_stays world client cmd reply (Holds reg (Some to)) other register of is =
    insert_other places_total places_antisymmetric world.registers (client, reg) to (other, register) (another_place client reg other register cmd of.sets is)
register_stays world client cmd reply (Sets at object index value) other register of is = refl
register_stays world client cmd reply (Puts at object from bytes) other register of is = refl
register_stays world client cmd reply (Names name None) other register of is = refl
register_stays world client cmd reply (Names name (Some to)) other register of is = refl
register_stays world client cmd reply Closes other register of is =
    retain_get places_total places_antisymmetric world.registers (λ place. not (nat_eq place.0 client)) (other, register)
    ∙ kept_open client other (held world other register) (λ same. let set = of.1 register in let no = is same in cc)
register_stays world client cmd reply (Begins number) other register of is = refl
register_stays world client cmd reply (Settles number copy) other register of is = refl
register_stays world client cmd reply Drops other register of is = refl
register_stays world client cmd reply Watches other register of is = refl

saving_stays : (world : World) (client : ℕ) (cmd : Cmd) (reply : Reply) (effect : Effect) → IsOf world client cmd reply effect → saves cmd ≡ false
    → (effected world client effect).saving ≡ world.saving
saving_stays world client cmd reply Nothing of is = refl
saving_stays world client cmd reply (Makes reg object) of is = refl
saving_stays world client cmd reply (Holds reg None) of is = refl
saving_stays world client cmd reply (Holds reg (Some to)) of is = refl
saving_stays world client cmd reply (Sets at object index value) of is = refl
saving_stays world client cmd reply (Puts at object from bytes) of is = refl
saving_stays world client cmd reply (Names name None) of is = refl
saving_stays world client cmd reply (Names name (Some to)) of is = refl
saving_stays world client cmd reply Closes of is = refl
saving_stays world client cmd reply (Begins number) of is = cc (of.saves)
saving_stays world client cmd reply (Settles number copy) of is = cc (of.saves)
saving_stays world client cmd reply Drops of is = cc (of.1)
saving_stays world client cmd reply Watches of is = refl

settled_stays : (world : World) (client : ℕ) (cmd : Cmd) (reply : Reply) (effect : Effect) → IsOf world client cmd reply effect → is_settle cmd ≡ false
    → settled_in (effected world client effect) ≡ settled_in world
settled_stays world client cmd reply Nothing of is = refl
settled_stays world client cmd reply (Makes reg object) of is = refl
settled_stays world client cmd reply (Holds reg None) of is = refl
settled_stays world client cmd reply (Holds reg (Some to)) of is = refl
settled_stays world client cmd reply (Sets at object index value) of is = refl
settled_stays world client cmd reply (Puts at object from bytes) of is = refl
settled_stays world client cmd reply (Names name None) of is = refl
settled_stays world client cmd reply (Names name (Some to)) of is = refl
settled_stays world client cmd reply Closes of is = refl
settled_stays world client cmd reply (Begins number) of is = refl
settled_stays world client cmd reply (Settles number copy) of is = cc (of.settles)
settled_stays world client cmd reply Drops of is = refl
settled_stays world client cmd reply Watches of is = refl

watches_stay : (world : World) (client : ℕ) (cmd : Cmd) (reply : Reply) (effect : Effect) → IsOf world client cmd reply effect → sets_watch cmd ≡ false → (effected world client effect).watches ≡ world.watches
watches_stay world client cmd reply Nothing of is = refl
watches_stay world client cmd reply (Makes reg object) of is = refl
watches_stay world client cmd reply (Holds reg None) of is = refl
watches_stay world client cmd reply (Holds reg (Some to)) of is = refl
watches_stay world client cmd reply (Sets at object index value) of is = refl
watches_stay world client cmd reply (Puts at object from bytes) of is = refl
watches_stay world client cmd reply (Names name None) of is = refl
watches_stay world client cmd reply (Names name (Some to)) of is = refl
watches_stay world client cmd reply Closes of is = refl
watches_stay world client cmd reply (Begins number) of is = refl
watches_stay world client cmd reply (Settles number copy) of is = refl
watches_stay world client cmd reply Drops of is = refl
watches_stay world client cmd reply Watches of is = cc

pub leaves_object : (world : World) (client : ℕ) (cmd : Cmd) (id : ℕ) → (MakesAt world cmd id → ⊥) → (MayChange world client cmd id → ⊥) → get (answer world client cmd).1.heap id ≡ get world.heap id
leaves_object world client cmd id new other = let d = does world client cmd in ap (λ (w : World). get w.heap id) d.is ∙ object_stays world client cmd _ d.effect id d.allowed new other

pub leaves_next : (world : World) (client : ℕ) (cmd : Cmd) → makes_object cmd ≡ false → (answer world client cmd).1.next ≡ world.next
leaves_next world client cmd is = let d = does world client cmd in ap (λ (w : World). w.next) d.is ∙ next_stays world client cmd _ d.effect d.allowed is

pub leaves_name : (world : World) (client : ℕ) (cmd : Cmd) (name : List ℕ) → (changed_name cmd ≡ Some name → ⊥) → get (answer world client cmd).1.roots name ≡ get world.roots name
leaves_name world client cmd name other = let d = does world client cmd in ap (λ (w : World). get w.roots name) d.is ∙ name_stays world client cmd _ d.effect name d.allowed other

pub leaves_register : (world : World) (client : ℕ) (cmd : Cmd) (other register : ℕ) → (other ≡ client → sets_register cmd register ≡ false) → held (answer world client cmd).1 other register ≡ held world other register
unfolding IsOther
leaves_register world client cmd other register is =
    let d = does world client cmd in ap (λ (w : World). held w other register) d.is ∙ register_stays world client cmd _ d.effect other register d.allowed is

pub leaves_saving : (world : World) (client : ℕ) (cmd : Cmd) → saves cmd ≡ false → (answer world client cmd).1.saving ≡ world.saving
leaves_saving world client cmd is = let d = does world client cmd in ap (λ (w : World). w.saving) d.is ∙ saving_stays world client cmd _ d.effect d.allowed is

pub leaves_settled : (world : World) (client : ℕ) (cmd : Cmd) → is_settle cmd ≡ false → settled_in (answer world client cmd).1 ≡ settled_in world
leaves_settled world client cmd is = let d = does world client cmd in ap settled_in d.is ∙ settled_stays world client cmd _ d.effect d.allowed is

pub leaves_watches : (world : World) (client : ℕ) (cmd : Cmd) → sets_watch cmd ≡ false → (answer world client cmd).1.watches ≡ world.watches
leaves_watches world client cmd is = let d = does world client cmd in ap (λ (w : World). w.watches) d.is ∙ watches_stay world client cmd _ d.effect d.allowed is

-- ---- names

found_after : (full : Bool) (world : World) (name : List ℕ) (id other to : ℕ) → (if full then refused world TooManyRoots else (Done, naming world name id)).0 ≡ Done
    → (answer_find (if full then refused world TooManyRoots else (Done, naming world name id)).1 other to (get (if full then refused world TooManyRoots else (Done, naming world name id)).1.roots name)).0 ≡ Ident id
found_after true world name id other to is = cc
found_after false world name id other to is = ap (λ (found : Option ℕ). (answer_find (naming world name id) other to found).0) (insert_here names_total names_antisymmetric world.roots name id)

bound_found : (world : World) (name : List ℕ) (from : Option ℕ) (other to : ℕ) → (answer_root world name from).0 ≡ Done
    → IsSomeAnd from (λ id. (answer_find (answer_root world name from).1 other to (get (answer_root world name from).1.roots name)).0 ≡ Ident id)
bound_found world name None other to is = cc
bound_found world name (Some id) other to is = found_after (has_no_room world name) world name id other to is

-- what was bound is found
pub bound_is_found : (world : World) (client reg other to : ℕ) (name : List ℕ) → (answer world client (Bind name reg)).0 ≡ Done
    → IsSomeAnd (held world client reg) (λ id. (answer (answer world client (Bind name reg)).1 other (Find to name)).0 ≡ Ident id)
unfolding answer
bound_is_found world client reg other to name is = bound_found world name (held world client reg) other to is

not_found : (world : World) (name : List ℕ) (bound : Option ℕ) (other to : ℕ) → get world.roots name ≡ bound → (answer_find (answer_unroot world name bound).1 other to (get (answer_unroot world name bound).1.roots name)).0 ≡ NoRoot
not_found world name None other to is = ap (λ (found : Option ℕ). (answer_find world other to found).0) is
not_found world name (Some id) other to is = ap (λ (found : Option ℕ). (answer_find (unbinding world name) other to found).0) (remove_here names_total names_antisymmetric world.roots name)

-- what was unbound, or was not bound, is not found
pub unbound_is_not_found : (world : World) (client other to : ℕ) (name : List ℕ) → (answer (answer world client (Unbind name)).1 other (Find to name)).0 ≡ NoRoot
unfolding answer
unbound_is_not_found world client other to name = not_found world name (get world.roots name) other to refl
