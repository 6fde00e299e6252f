-- A name is bound to a young object.
use Rattle.std.proofs.Common.{◌≡◌, ℕ, Bool, true, false, not, ◌&&◌, if◌then◌else◌, nat_le, List, Option, Some, None, refl, sym, ap, subst, ◌∙◌, is_some}
use Rattle.std.specs.Option.{IsSome, option_and_then, option_map}
use Rattle.std.specs.FinMap.{get, len, same_map}
use Rattle.pm_types.specs.Mapped.{mapped}
use Rattle.pm_types.proofs.Mapped.{get-mapped, len-mapped}
use Rattle.std.proofs.lemmas.Bool.{true≢false}
use Rattle.pm_types.specs.Orders.{name_cmp}
use Rattle.pm_types.proofs.Orders.{names_antisymmetric, names_total}
use Rattle.pm_types.specs.declared.address.Addr.{Addr}
use Rattle.pm_types.specs.declared.limits.TheConstants.{ROOTS}
use Rattle.pm_types.specs.declared.source.RefSource.TheVariants.{Root}
use Rattle.pm_types.specs.declared.command.Cmd.{Cmd}
use Rattle.pm_types.specs.declared.command.Cmd.TheVariants.{Bind}
use Rattle.pm_types.specs.declared.reply.Reply.{Reply}
use Rattle.pm_types.specs.declared.reply.Reply.TheVariants.{Done, TooManyRoots}
use Rattle.pm_model.specs.World.{World, Roots, held, naming}
use Rattle.pm_model.specs.Answer.{answer, answer_root, has_no_room, is_refusal, refused}
use Rattle.pm_view.specs.View.{SpaceView}
use Rattle.pm_view.specs.Law.{HeapLaw}
use Rattle.pm_view.specs.Reading.{named_by}
use Rattle.pm_view.specs.Represents.{Represents}
use Rattle.pm_law_commands.proofs.RowLemmas.Numbers.{found_by_number}
use Rattle.pm_law_commands.proofs.Held.{leads, named}
use Rattle.pm_nursery.specs.Young.{NurseryView, IsNursery, or_else}
use Rattle.pm_nursery.specs.Escaping.{Escapes}
use Rattle.pm_nursery.specs.Joined.{IsJoined}
use Rattle.pm_law_young.proofs.Escaped.{name_back, name_to}
use Rattle.pm_young.specs.Parts.{LetsJoinedEscape, StandsFor}

module _ (view : SpaceView) (world : World) (law : HeapLaw view) (stands : Represents view world) where
  -- a name is bound in the world where it is in the space
  name_bound : (name : List ℕ) → is_some (get world.roots name) ≡ is_some (get view.roots name)
  name_bound name = ap is_some (stands.roots name) ∙ by_case (get view.roots name) refl
    where
      by_case : (o : Option (ℕ × Addr)) → get view.roots name ≡ o → is_some (option_and_then (λ (bound : ℕ × Addr). named_by view bound.1) o) ≡ is_some o
      by_case None is = refl
      by_case (Some bound) is =
          let there = leads view (Root bound.0) bound.1 law refl (found_by_number view.roots law.named.numbers name bound is) in
          ap is_some (named view bound.1 there.0 there.1)

  same_units : {X Y : Type 0} (o : Option X) (p : Option Y) → is_some o ≡ is_some p → option_map (λ _. tt) o ≡ option_map {U = Unit {0}} (λ _. tt) p
  same_units None None same = refl
  same_units None (Some y) same = absurd (true≢false (sym same))
  same_units (Some x) None same = absurd (true≢false same)
  same_units (Some x) (Some y) same = refl

  -- as many are bound
  names_counted : len world.roots ≡ len view.roots
  names_counted =
      sym (len-mapped name_cmp (λ _. tt) world.roots)
      ∙ ap len (same_map names_total names_antisymmetric (mapped {Y = Unit {0}} (λ _. tt) world.roots) (mapped (λ _. tt) view.roots)
      (λ q. get-mapped name_cmp (λ _. tt) world.roots q ∙ same_units (get world.roots q) (get view.roots q) (name_bound q) ∙ sym (get-mapped name_cmp (λ _. tt) view.roots q)))
      ∙ len-mapped name_cmp (λ _. tt) view.roots

  room_there : (name : List ℕ) → has_no_room world name ≡ (not (is_some (get view.roots name)) && nat_le ROOTS (len view.roots))
  room_there name = (λ i. not (name_bound name i) && nat_le ROOTS (names_counted i))

module _ (view : SpaceView) (law : HeapLaw view) (nursery : NurseryView) (client reg : ℕ) (name : List ℕ) (id : ℕ) (holds : get nursery.registers (client, reg) ≡ Some id) (sound : IsNursery nursery) where
  module _ (within world : World) (stands : StandsFor view nursery within world) where
    room_is : has_no_room world name ≡ (not (is_some (get view.roots name)) && nat_le ROOTS (len view.roots))
    room_is = ap (λ (r : Roots). not (is_some (get r name)) && nat_le ROOTS (len r)) (sym (ap (λ (w : World). w.roots) stands.young.rest)) ∙ room_there view within law stands.represents name

    held_is_young : held world client reg ≡ Some id
    held_is_young = stands.young.registers (client, reg) ∙ ap (λ n. or_else n (get within.registers (client, reg))) holds

    by_room : (b : Bool) → has_no_room world name ≡ b → answer world client (Bind name reg) ≡ (if b then refused world TooManyRoots else (Done, naming world name id))
    unfolding answer
    by_room b is = ap (answer_root world name) held_is_young ∙ ap (λ b. if b then refused world TooManyRoots else (Done, naming world name id)) is

  -- it is refused
  pub bind_refused : (not (is_some (get view.roots name)) && nat_le ROOTS (len view.roots)) ≡ true → (within world : World) → StandsFor view nursery within world → answer world client (Bind name reg) ≡ (TooManyRoots, world)
  bind_refused full within world stands = by_room within world stands true (room_is within world stands ∙ full)

  -- or what is joined to the object escapes
  pub bind_lets : (not (is_some (get view.roots name)) && nat_le ROOTS (len view.roots)) ≡ false → LetsJoinedEscape view nursery client (Bind name reg) id
  bind_lets room within world stands other = (
    λ escapes. name_to world nursery client name reg id (held_is_young within world stands) other escapes.1,
    λ joined. (done, name_back world nursery client name reg id (held_is_young within world stands) (sound.held id ((client, reg), holds)) other joined),
  )
    where
      done : is_refusal (Bind name reg) (answer world client (Bind name reg)).0 ≡ false
      done = ap (λ (a : Reply × World). is_refusal (Bind name reg) a.0) (by_room within world stands false (room_is within world stands ∙ room))
