-- `store` and `swap` that are accepted with registers on both sides: which of them hold young objects.
use Rattle.std.proofs.Common.{◌≡◌, ◌⊎◌, inl, inr, ⊎_elim, ℕ, Bool, true, false, nat_eq, ◌||◌, List, Option, Some, None, refl, sym, ap, subst, ◌∙◌, is_some, arith}
use Rattle.std.specs.Option.{IsSome}
use Rattle.std.specs.Coded.{Coded-set, coded_ℕ, coded_option}
use Rattle.std.specs.List.{slice_get}
use Rattle.std.specs.FinMap.{get}
use Rattle.std.proofs.Math.Logic.{∥∥₁_elim, ∥∥₁_map}
use mathlib.Core.HLevel.{⊥_prop}
use Rattle.pm_types.specs.declared.command.Cmd.{Cmd}
use Rattle.pm_types.specs.declared.command.Cmd.TheVariants.{Store, Swap}
use Rattle.pm_types.specs.declared.reply.Reply.{Reply}
use Rattle.pm_model.specs.Heap.{Object, Holds, field_of}
use Rattle.pm_model.specs.World.{World, held}
use Rattle.pm_model.specs.Answer.{answer, is_refusal}
use Rattle.pm_view.specs.View.{SpaceView}
use Rattle.pm_nursery.specs.Young.{NurseryView, IsNursery, or_else}
use Rattle.pm_nursery.specs.Answering.{reads_register}
use Rattle.pm_nursery.specs.Escaping.{Escapes, SetsField}
use Rattle.pm_nursery.specs.Joined.{IsJoined}
use Rattle.pm_nursery.proofs.Parts.{found_of, is_there, none_some}
use Rattle.pm_law_young.proofs.Escaped.{value_back, value_to}
use Rattle.pm_young.specs.Bringing.{StandsApart}
use Rattle.pm_young.specs.Parts.{IsAccepted, IsAcceptedIn, LetsJoinedEscape, ReadsNoneBut, StandsFor, StandsForSome}
use Rattle.pm_young.specs.declared.sides.Side.{Side}
use Rattle.pm_young.specs.declared.sides.Side.TheVariants.{Within, Young, Both}
use Rattle.pm_young.specs.Sides.{side_at, side_both, side_held, side_of}
use Rattle.pm_young.proofs.Answered.{old_object}
use Rattle.pm_young.proofs.Fields.{holds_field}
use Rattle.pm_young.proofs.Listed.{either_one as either_test, same_id as same_number}

-- what stands for some world has no young object within
pub stands_apart : (view : SpaceView) (nursery : NurseryView) → ∥ StandsForSome view nursery ∥₁ → ∥ StandsApart view nursery ∥₁
stands_apart view nursery known = ∥∥₁_map known (λ some. record { world = some.0; represents = some.2.represents; none = some.2.young.apart })

same_id : (m n : ℕ) → Some m ≡ Some n → m ≡ n
same_id m n same = cc same

module _ (view : SpaceView) (nursery : NurseryView) (client reg index value : ℕ) (cmd : Cmd) (sets : SetsField cmd reg index value) (accepted : IsAcceptedIn view nursery client cmd reg index value) where
  -- what is joined to a young value escapes at an object within
  pub value_lets : (id : ℕ) → get nursery.registers (client, reg) ≡ None → get nursery.registers (client, value) ≡ Some id → IsSome (get nursery.objects id) → LetsJoinedEscape view nursery client cmd id
  value_lets id none holds young within world stands one =
      let acc = accepted within world stands in
      let two : held world client value ≡ Some id = stands.young.registers (client, value) ∙ ap (λ n. or_else n (get within.registers (client, value))) holds in
      let old = old_object within world nursery stands.young client reg acc.object none acc.held_object in
      let done : is_refusal cmd (answer world client cmd).0 ≡ false = ap (λ (a : Reply × World). is_refusal cmd a.0) acc.answer_is in (
        λ escapes. value_to world nursery client cmd reg index value acc.object id sets acc.held_object two old young one escapes.1,
        λ joined. (done, value_back world nursery client cmd reg index value acc.object id sets acc.held_object two old young one joined),
      )

-- ---- `swap`: what the field holds lies on the side of its object

module _ (view : SpaceView) (nursery : NurseryView) (sound : IsNursery nursery) (client reg index old value : ℕ) (accepted : IsAcceptedIn view nursery client (Swap reg index old value) reg index value) (known : ∥ StandsForSome view nursery ∥₁) where
  young_old_in : (within world : World) → StandsFor view nursery within world → (id : ℕ) → get nursery.registers (client, reg) ≡ Some id → get nursery.registers (client, old) ≡ None → ⊥
  young_old_in within world stands id holds none =
      let acc = accepted within world stands in
      let object : acc.object ≡ id = same_id acc.object id (sym acc.held_object ∙ stands.young.registers (client, reg) ∙ ap (λ n. or_else n (get within.registers (client, reg))) holds) in
      let there = found_of (get nursery.objects id) (sound.held id ((client, reg), holds)) in
      let same : get nursery.objects id ≡ Some acc.known =
      there.1 ∙ sym (stands.young.young id there.0 there.1) ∙ sym (ap (get world.heap) object) ∙ acc.there in
      let field : field_of (get nursery.objects id) index ≡ Some (Some acc.swapped.0) = ap (λ (o : Option Object). field_of o index) same ∙ acc.swapped.2 in
      let young = found_of (get nursery.objects acc.swapped.0) (sound.closed id acc.swapped.0 (holds_field (get nursery.objects id) index acc.swapped.0 field)) in
      none_some (get nursery.objects acc.swapped.0) young.0 (old_object within world nursery stands.young client old acc.swapped.0 none acc.swapped.1) young.1

  pub young_old : (id : ℕ) → get nursery.registers (client, reg) ≡ Some id → get nursery.registers (client, old) ≡ None → ⊥
  young_old id holds none = ∥∥₁_elim known ⊥_prop (λ some. young_old_in some.0 some.1 some.2 id holds none)

  within_old_in : (within world : World) → StandsFor view nursery within world → (id : ℕ) → get nursery.registers (client, reg) ≡ None → get nursery.registers (client, old) ≡ Some id → ⊥
  within_old_in within world stands id none holds =
      let acc = accepted within world stands in
      let here : get within.registers (client, reg) ≡ Some acc.object = sym (stands.young.registers (client, reg) ∙ ap (λ n. or_else n (get within.registers (client, reg))) none) ∙ acc.held_object in
      let there = found_of (get within.heap acc.object) (stands.young.held (client, reg) acc.object here) in
      let same : get within.heap acc.object ≡ Some acc.known = there.1 ∙ sym (stands.young.inside acc.object there.0 there.1) ∙ acc.there in
      let field : field_of (get within.heap acc.object) index ≡ Some (Some acc.swapped.0) = ap (λ (o : Option Object). field_of o index) same ∙ acc.swapped.2 in
      let inside = found_of (get within.heap acc.swapped.0) (stands.young.fields acc.object acc.swapped.0 (holds_field (get within.heap acc.object) index acc.swapped.0 field)) in
      let old_is : acc.swapped.0 ≡ id = same_id acc.swapped.0 id (sym acc.swapped.1 ∙ stands.young.registers (client, old) ∙ ap (λ n. or_else n (get within.registers (client, old))) holds) in
      let apart = stands.young.apart id (sound.held id ((client, old), holds)) in
      none_some (get within.heap acc.swapped.0) inside.0 (ap (get within.heap) old_is ∙ apart) inside.1

  pub within_old : (id : ℕ) → get nursery.registers (client, reg) ≡ None → get nursery.registers (client, old) ≡ Some id → ⊥
  within_old id none holds = ∥∥₁_elim known ⊥_prop (λ some. within_old_in some.0 some.1 some.2 id none holds)

-- ---- sides

module _ (nursery : NurseryView) (client : ℕ) where
  pub store_object_old : (reg index value id : ℕ) → side_of nursery client (Store reg index value) ≡ Both → get nursery.registers (client, value) ≡ Some id → get nursery.registers (client, reg) ≡ None
  store_object_old reg index value id both holds = by (get nursery.registers (client, reg)) (get nursery.registers (client, value)) holds both
    where
      by : (r v : Option ℕ) → v ≡ Some id → side_both (side_held r) (side_held v) ≡ Both → r ≡ None
      by None v is both = refl
      by (Some x) None is both = cc is
      by (Some x) (Some y) is both = cc both

  pub store_object_young : (reg index value : ℕ) → side_of nursery client (Store reg index value) ≡ Both → get nursery.registers (client, value) ≡ None → IsSome (get nursery.registers (client, reg))
  store_object_young reg index value both none = by (get nursery.registers (client, reg)) (get nursery.registers (client, value)) none both
    where
      by : (r v : Option ℕ) → v ≡ None → side_both (side_held r) (side_held v) ≡ Both → IsSome r
      by (Some x) v is both = refl
      by None None is both = cc both
      by None (Some y) is both = cc is

  -- by the sides of all three, where the second is that of the first
  pub swap_object_old : (reg index old value id : ℕ) → side_of nursery client (Swap reg index old value) ≡ Both → get nursery.registers (client, value) ≡ Some id
      → ((id : ℕ) → get nursery.registers (client, reg) ≡ Some id → get nursery.registers (client, old) ≡ None → ⊥) → get nursery.registers (client, reg) ≡ None
  swap_object_old reg index old value id both holds never = by (get nursery.registers (client, reg)) (get nursery.registers (client, old)) (get nursery.registers (client, value)) refl refl holds both
    where
      by : (r o v : Option ℕ) → get nursery.registers (client, reg) ≡ r → get nursery.registers (client, old) ≡ o → v ≡ Some id → side_both (side_held r) (side_both (side_held o) (side_held v)) ≡ Both → r ≡ None
      by None o v r_is o_is is both = refl
      by (Some x) None v r_is o_is is both = absurd (never x r_is o_is)
      by (Some x) (Some y) None r_is o_is is both = cc is
      by (Some x) (Some y) (Some z) r_is o_is is both = cc both

  pub swap_object_young : (reg index old value : ℕ) → side_of nursery client (Swap reg index old value) ≡ Both → get nursery.registers (client, value) ≡ None
      → ((id : ℕ) → get nursery.registers (client, reg) ≡ None → get nursery.registers (client, old) ≡ Some id → ⊥) → IsSome (get nursery.registers (client, reg))
  swap_object_young reg index old value both none never = by (get nursery.registers (client, reg)) (get nursery.registers (client, old)) (get nursery.registers (client, value)) refl refl none both
    where
      by : (r o v : Option ℕ) → get nursery.registers (client, reg) ≡ r → get nursery.registers (client, old) ≡ o → v ≡ None → side_both (side_held r) (side_both (side_held o) (side_held v)) ≡ Both → IsSome r
      by (Some x) o v r_is o_is is both = refl
      by None (Some y) v r_is o_is is both = absurd (never y r_is o_is)
      by None None None r_is o_is is both = cc both
      by None None (Some z) r_is o_is is both = cc is

  -- ---- what is read

  pub store_reads : (reg index value id : ℕ) → get nursery.registers (client, reg) ≡ None → get nursery.registers (client, value) ≡ Some id → ReadsNoneBut nursery client (Store reg index value) id
  store_reads reg index value id none holds register is =
      ⊎_elim
      (λ (one : nat_eq reg register ≡ true). inl (subst (λ r. get nursery.registers (client, r) ≡ None) (same_number reg register one) none))
      (λ (two : nat_eq value register ≡ true). inr (subst (λ r. get nursery.registers (client, r) ≡ Some id) (same_number value register two) holds))
      (either_test (nat_eq reg register) (nat_eq value register) is)

  pub swap_reads : (reg index old value id : ℕ) → get nursery.registers (client, reg) ≡ None → get nursery.registers (client, old) ≡ None → get nursery.registers (client, value) ≡ Some id → ReadsNoneBut nursery client (Swap reg index old value) id
  swap_reads reg index old value id none also holds register is =
      ⊎_elim
      (λ (one : nat_eq reg register ≡ true). inl (subst (λ r. get nursery.registers (client, r) ≡ None) (same_number reg register one) none))
      (λ rest. ⊎_elim
      (λ (two : nat_eq old register ≡ true). inl (subst (λ r. get nursery.registers (client, r) ≡ None) (same_number old register two) also))
      (λ (three : nat_eq value register ≡ true). inr (subst (λ r. get nursery.registers (client, r) ≡ Some id) (same_number value register three) holds))
      (either_test (nat_eq old register) (nat_eq value register) rest))
      (either_test (nat_eq reg register) (nat_eq old register || nat_eq value register) is)

  pub old_none : (old : ℕ) → ((id : ℕ) → get nursery.registers (client, old) ≡ Some id → ⊥) → get nursery.registers (client, old) ≡ None
  old_none old never = by (get nursery.registers (client, old)) refl
    where
      by : (o : Option ℕ) → get nursery.registers (client, old) ≡ o → o ≡ None
      by None is = refl
      by (Some x) is = absurd (never x is)
