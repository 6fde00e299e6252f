-- The registers that a command sets are left by the nursery and by the space.
use Rattle.std.proofs.Common.{◌≡◌, ℕ, Bool, true, false, cond, not, ◌&&◌, if◌then◌else◌, nat_eq, Option, Some, None, Result, Ok, Err, OnOk, refl, sym, ap, subst, ◌∙◌, arith}
use Rattle.std.specs.Ordering.{eq_by_cmp}
use Rattle.std.specs.FinMap.{get, remove, retain_keys, get-remove, same_map}
use Rattle.std.proofs.lemmas.Bool.Decides.{nat_tests}
use Rattle.pm_types.specs.Orders.{place_cmp}
use Rattle.pm_types.proofs.Orders.{places_total, places_antisymmetric}
use Rattle.pm_types.specs.declared.command.Cmd.{Cmd}
use Rattle.pm_types.specs.declared.command.Cmd.TheVariants.{New, Load, Copy, Forget, Find, Close}
use Rattle.pm_types.specs.declared.reply.Reply.{Reply}
use Rattle.pm_types.specs.declared.reply.Reply.TheVariants.{Null}
use Rattle.pm_model.specs.World.{World, Registers, held, emptying}
use Rattle.pm_model.specs.Answer.{answer, answer_drop, is_refusal, is_swap}
use Rattle.pm_view.specs.View.{SpaceView}
use Rattle.pm_view.specs.Represents.{Represents}
use Rattle.pm_mutate.specs.Acts.{Serves}
use Rattle.pm_model.specs.Frames.{makes_object}
use Rattle.pm_view.specs.Commands.{is_new}
use Rattle.pm_nursery.specs.Young.{NurseryView}
use Rattle.pm_nursery.specs.Answering.{unset}
use Rattle.pm_law_young.proofs.Unsetting.{unset_none, unset_one}
use Rattle.pm_young.specs.declared.setting.Sets.{Sets}
use Rattle.pm_young.specs.declared.setting.Sets.TheVariants.{Nothing, One, All}
use Rattle.pm_young.specs.Setting.{LeavesUnset, LeavesWithout, nursery_unset, nursery_without, refuses, sets_of, without_set}

-- every command but `swap` is refused by the same replies
same_refusal : (cmd : Cmd) (reply : Reply) → is_swap cmd ≡ false → is_refusal cmd reply ≡ refuses reply
same_refusal cmd Null other = other
same_refusal cmd reply other = refl

none_either : (b c : Bool) (one other : Registers) → other ≡ one → (if b then one else other) ≡ (if c then one else one)
none_either true true one other same = refl
none_either true false one other same = refl
none_either false true one other same = same
none_either false false one other same = same

one_set : (registers : Registers) (client to : ℕ) (b c : Bool) → b ≡ c
    → (if b then registers else retain_keys registers (λ place. not (nat_eq to place.1 && nat_eq place.0 client))) ≡ (if c then registers else remove registers (client, to))
one_set registers client to b c same = (λ i. if same i then registers else unset_one registers client to i)

-- what a command leaves of the registers is what is left without those that it sets, unless it is refused
pub unset_is : (cmd : Cmd) (reply : Reply) (client : ℕ) (registers : Registers) → unset registers client cmd reply ≡ (if refuses reply then registers else without_set (sets_of cmd) client registers)
unset_is (New reg count bytes) reply client registers = one_set registers client reg _ _ (same_refusal (New reg count bytes) reply refl)
unset_is (Load to reg index) reply client registers = one_set registers client to _ _ (same_refusal (Load to reg index) reply refl)
unset_is (Copy to reg) reply client registers = one_set registers client to _ _ (same_refusal (Copy to reg) reply refl)
unset_is (Forget reg) reply client registers = one_set registers client reg _ _ (same_refusal (Forget reg) reply refl)
unset_is (Find to name) reply client registers = one_set registers client to _ _ (same_refusal (Find to name) reply refl)
unset_is Close reply client registers = refl
unset_is cmd reply client registers = none_either (is_refusal cmd reply) (refuses reply) registers (retain_keys registers (λ place. true)) (unset_none registers)

-- an empty register may be taken away
absent : (registers : Registers) (place : ℕ × ℕ) → get registers place ≡ None → remove registers place ≡ registers
absent registers place none =
    same_map places_total places_antisymmetric _ _ (λ q.
    get-remove places_total registers place q ∙ by q (eq_by_cmp place_cmp q place) refl)
  where
    same_place : (q : ℕ × ℕ) → eq_by_cmp place_cmp q place ≡ true → get registers q ≡ None
    same_place q is = subst (λ (p : ℕ × ℕ). get registers p ≡ None) (places_antisymmetric place q (grind (arith, nat_tests, is))) none

    by : (q : ℕ × ℕ) (b : Bool) → eq_by_cmp place_cmp q place ≡ b → cond b None (get registers q) ≡ get registers q
    by q true is = sym (same_place q is)
    by q false is = refl

module _ (view after : SpaceView) (client : ℕ) (reply : Reply) where
  -- `drop` leaves the register empty, also where it is refused
  pub drop_leaves : (reg : ℕ) → Serves view client (Forget reg) reply after → LeavesWithout view (One reg) client after
  unfolding answer
  drop_leaves reg served within stands = by (held within client reg) refl (served within stands).world
    where
      by : (h : Option ℕ) → held within client reg ≡ h → Represents after (answer_drop within client reg h).1 → Represents after (emptying within client reg)
      by None none is = subst (λ (r : Registers). Represents after (record within { registers = r })) (sym (absent within.registers (client, reg) none)) is
      by (Some id) here is = is

  pub close_leaves : Serves view client Close reply after → LeavesWithout view All client after
  unfolding answer
  close_leaves served within stands = (served within stands).world

-- ---- as the reply says

module _ (cmd : Cmd) (reply : Reply) (client : ℕ) where
  pub refused_unset : refuses reply ≡ true → (registers : Registers) → unset registers client cmd reply ≡ registers
  refused_unset bad registers = unset_is cmd reply client registers ∙ ap (λ b. if b then registers else without_set (sets_of cmd) client registers) bad

  pub done_unset : refuses reply ≡ false → (registers : Registers) → unset registers client cmd reply ≡ without_set (sets_of cmd) client registers
  done_unset good registers = unset_is cmd reply client registers ∙ ap (λ b. if b then registers else without_set (sets_of cmd) client registers) good

  pub refused_nursery : refuses reply ≡ true → (nursery : NurseryView) → nursery ≡ nursery_unset nursery client cmd reply
  refused_nursery bad nursery = ap (λ (r : Registers). record nursery { registers = r }) (sym (refused_unset bad nursery.registers))

  pub done_nursery : refuses reply ≡ false → (nursery after : NurseryView) (sets : Sets) → sets ≡ sets_of cmd → after ≡ nursery_without nursery sets client → after ≡ nursery_unset nursery client cmd reply
  done_nursery good nursery after sets same is =
      is ∙ ap (λ (s : Sets). nursery_without nursery s client) same ∙ ap (λ (r : Registers). record nursery { registers = r }) (sym (done_unset good nursery.registers))

  pub refused_leaves : refuses reply ≡ true → (view : SpaceView) → LeavesUnset view client cmd reply view
  refused_leaves bad view within stands = subst (λ (r : Registers). Represents view (record within { registers = r })) (sym (refused_unset bad within.registers)) stands

  pub done_leaves : {A E : Type 0} (result : Result A E) → refuses reply ≡ false → (view after : SpaceView) (sets : Sets) → sets ≡ sets_of cmd → OnOk result (LeavesWithout view sets client after) → OnOk result (LeavesUnset view client cmd reply after)
  done_leaves (Ok x) good view after sets same leaves = λ within stands.
      subst (λ (r : Registers). Represents after (record within { registers = r })) (ap (λ (s : Sets). without_set s client within.registers) same ∙ sym (done_unset good within.registers)) (leaves within stands)
  done_leaves (Err e) good view after sets same leaves = tt

-- a command that makes no object is not `new`
pub not_new : (cmd : Cmd) → makes_object cmd ≡ false → is_new cmd ≡ false
not_new (New reg count bytes) none = cc none
not_new cmd none = refl
