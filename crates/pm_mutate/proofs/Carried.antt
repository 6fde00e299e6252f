-- What the laws of commands say of a call that carried one out by its row.
use Rattle.std.proofs.Common.{◌≡◌, ℕ, ◌+◌, ◌<◌, ◌≤◌, arith, OnErr, true, ap, sym, subst, ◌∙◌, List, Result, Ok, Err, IfOk}
use Rattle.pm_types.specs.declared.limits.TheConstants.{REGISTERS}
use Rattle.pm_types.specs.declared.no_memory.NoMemory.{NoMemory}
use Rattle.pm_types.specs.declared.command.Cmd.{Cmd}
use Rattle.pm_types.specs.declared.command.Cmd.TheVariants.{New}
use Rattle.pm_types.specs.declared.reply.Reply.{Reply}
use Rattle.pm_types.specs.declared.reply.Reply.TheVariants.{Ident}
use Rattle.pm_model.specs.Answer.{is_refusal}
use Rattle.pm_view.specs.View.{SpaceView}
use Rattle.pm_view.specs.Objects.{AddsObject}
use Rattle.pm_view.specs.Work.{work}
use Rattle.pm_law_collect.specs.Work.Raises.{raises}
use Rattle.pm_view.specs.Bounded.{KeepsSunk}
use Rattle.pm_view.specs.Rows.{spent, birthplace, IsVacant}
use Rattle.pm_types.specs.Registers.{HasRegisters}
use Rattle.pm_view.specs.Commands.{row, fresh, Picks, ArePicked}
use Rattle.pm_mutate.specs.Commands.Picked.{IsForSomeRoot, IsForSomeCar, IsRow}
use Rattle.pm_mutate.specs.Acts.{IsBirth, AddsLittleWork}
use Rattle.pm_mutate.proofs.CommandsLemmas.FreeNumbers.{spare_root, is_spare}

-- what is picked: a number of a root that no name has, and this number of a car
abbrev pub picked : SpaceView → ℕ → Picks
picked v number = record { root = spare_root v.roots; car = number }

are_picked : (v : SpaceView) (number : ℕ) → IsVacant v.cars number → ArePicked v (picked v number)
are_picked v number vacant = record { root = is_spare v.roots; car = vacant }

module _ (v w : SpaceView) (client : ℕ) (cmd : Cmd) (number : ℕ) (vacant : IsVacant v.cars number) (d : Cmd) (same : cmd ≡ d) where
  given_row : (reply : Reply) (picks : Picks) → ArePicked v picks → (reply, w) ≡ row v client d picks → IsRow v client cmd (reply, w)
  given_row reply picks are is = (picks, are, is ∙ ap (λ (d : Cmd). row v client d picks) (sym same))

  -- a reply of this row, for whatever is picked
  pub as_row : (reply : Reply) → (reply, w) ≡ row v client d (picked v number) → IsRow v client cmd (reply, w)
  as_row reply is = given_row reply (picked v number) (are_picked v number vacant) is

  -- a result of this row
  pub of_row : (r : Result Reply NoMemory) → IfOk r (λ reply. (reply, w) ≡ row v client d (picked v number)) → IfOk r (λ reply. IsRow v client cmd (reply, w))
  of_row (Ok reply) is = as_row reply is
  of_row (Err e) is = tt

  pub of_row_of_car : (r : Result Reply NoMemory) → IfOk r (λ reply. IsForSomeCar v (λ n. row v client d (picked v n)) (reply, w)) → IfOk r (λ reply. IsRow v client cmd (reply, w))
  of_row_of_car (Ok reply) is = given_row reply (picked v is.0) (are_picked v is.0 is.1) is.2
  of_row_of_car (Err e) is = tt

  pub of_row_of_root : (r : Result Reply NoMemory) → IfOk r (λ reply. IsForSomeRoot v (λ n. row v client d (record { root = n; car = number })) (reply, w)) → IfOk r (λ reply. IsRow v client cmd (reply, w))
  of_row_of_root (Ok reply) is = given_row reply (record { root = is.0; car = number }) (record { root = is.1; car = vacant }) is.2
  of_row_of_root (Err e) is = tt

module _ (v w : SpaceView) (client : ℕ) (cmd : Cmd) where
  pub refused_still : (r : Result Reply NoMemory) → IfOk r (λ reply. IsRow v client cmd (reply, w))
      → ((picks : Picks) → is_refusal cmd (row v client cmd picks).0 ≡ true → (row v client cmd picks).1 ≡ v) → IfOk r (λ reply. is_refusal cmd reply ≡ true → w ≡ v)
  refused_still (Ok reply) is still = λ refused. ap (λ (p : Reply × SpaceView). p.1) is.2 ∙ still is.0 (subst (λ (p : Reply × SpaceView). is_refusal cmd p.0 ≡ true) is.2 refused)
  refused_still (Err e) is still = tt

-- what holds of a space and after each row of a command holds after the call
pub row_holds : (r : Result Reply NoMemory) (P : SpaceView → Type 0) (v w : SpaceView) (client : ℕ) (cmd : Cmd) → P v → ((picks : Picks) → ArePicked v picks → P (row v client cmd picks).1) → IfOk r (λ reply. IsRow v client cmd (reply, w)) → OnErr r (w ≡ v) → P w
row_holds (Ok reply) P v w client cmd was keeps is same = subst (λ (p : Reply × SpaceView). P p.1) (sym is.2) (keeps is.0 is.1)
row_holds (Err e) P v w client cmd was keeps is same = subst P (sym same) was

-- what the law says of work
abbrev AddsToRow : SpaceView → ℕ → Cmd → Type 0
AddsToRow v client cmd = (picks : Picks) → ArePicked v picks → work (row v client cmd picks).1 ≤ work v + raises cmd

pub adds_little : (r : Result Reply NoMemory) (v w : SpaceView) (client : ℕ) (cmd : Cmd) → AddsToRow v client cmd → IfOk r (λ reply. IsRow v client cmd (reply, w)) → OnErr r (w ≡ v) → AddsLittleWork v cmd w
adds_little (Ok reply) v w client cmd adds is same = subst (λ (p : Reply × SpaceView). work p.1 ≤ work v + raises cmd) (sym is.2) (adds is.0 is.1)
adds_little (Err e) v w client cmd adds is same = subst (λ (u : SpaceView). work u ≤ work v + raises cmd) (sym same) (omega arith)

-- a space keeps its own sunk sets
pub keeps_sunk : (v : SpaceView) → KeepsSunk v v
keeps_sunk v = record { every = λ test number was. was; lost = λ world number was. was }

-- what the law says of births
abbrev Adds : SpaceView → ℕ → Type 0
Adds v client =
    (reg count : ℕ) (bytes : List ℕ) (picks : Picks) → reg < REGISTERS → ArePicked v picks → (row v client (New reg count bytes) picks).0 ≡ Ident v.next
    → AddsObject v (row v client (New reg count bytes) picks).1 v.next (birthplace (spent v) picks.car (fresh v count bytes))

birth_of : (v w : SpaceView) (client : ℕ) (cmd : Cmd) (reply : Reply) → HasRegisters cmd → IsRow v client cmd (reply, w) → Adds v client → IsBirth v cmd reply w
birth_of v w client (New reg count bytes) reply registers is adds = λ born. (
  birthplace (spent v) is.0.car (fresh v count bytes),
  subst (λ (p : Reply × SpaceView). AddsObject v p.1 v.next (birthplace (spent v) is.0.car (fresh v count bytes))) (sym is.2) (adds reg count bytes is.0 registers is.1 (ap (λ (p : Reply × SpaceView). p.0) (sym is.2) ∙ born)),
)
birth_of v w client cmd reply registers is adds = tt

pub born_so : (r : Result Reply NoMemory) (v w : SpaceView) (client : ℕ) (cmd : Cmd) → HasRegisters cmd → IfOk r (λ reply. IsRow v client cmd (reply, w)) → Adds v client
    → IfOk r (λ reply. IsBirth v cmd reply w)
born_so (Ok reply) v w client cmd registers is adds = birth_of v w client cmd reply registers is adds
born_so (Err e) v w client cmd registers is adds = tt
