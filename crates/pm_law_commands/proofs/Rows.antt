-- The row of each command serves the world's answer.
use Rattle.std.proofs.Common.{◌≡◌, ℕ, ◌<◌, true, sym}
use Rattle.std.proofs.lemmas.Bool.{true≢false}
use Rattle.pm_types.specs.declared.limits.TheConstants.{CLIENTS}
use Rattle.pm_types.specs.declared.command.Cmd.{Cmd}
use Rattle.pm_types.specs.declared.command.Cmd.TheVariants.{New, Load, Store, Clear, Show, Put, Copy, IdOf, Forget, Bind, Unbind, Find, Swap, Close, Save, Settle, Unsave, Watch}
use Rattle.pm_model.specs.World.{World}
use Rattle.pm_model.specs.Answer.{answer}
use Rattle.pm_view.specs.View.{SpaceView}
use Rattle.pm_view.specs.Law.{HeapLaw}
use Rattle.pm_view.specs.Represents.{Represents}
use Rattle.pm_types.specs.Registers.{HasRegisters}
use Rattle.pm_view.specs.Commands.{row, is_act, Picks, ArePicked}
use Rattle.pm_law_commands.specs.Served.{IsServed}
use Rattle.pm_law_commands.proofs.Registers.{copy_serves, id_serves, data_serves, drop_serves, load_serves, find_serves}
use Rattle.pm_law_commands.proofs.Fields.{store_serves, clear_serves, put_serves, swap_serves}
use Rattle.pm_law_commands.proofs.Naming.{root_serves, unroot_serves}
use Rattle.pm_law_commands.proofs.Closing.{close_serves}
use Rattle.pm_law_commands.proofs.Births.{new_serves}

module _ (view : SpaceView) (world : World) (law : HeapLaw view) (stands : Represents view world) where
  -- the row of a command and the world's answer
  pub row_serves : (client : ℕ) (cmd : Cmd) (picks : Picks) → is_act cmd ≡ true → client < CLIENTS → HasRegisters cmd → ArePicked view picks → IsServed (row view client cmd picks) (answer world client cmd)
  unfolding answer
  row_serves client (New reg count bytes) picks act c regs picked = new_serves view world law stands client reg count picks.car bytes c regs picked.car
  row_serves client (Load to reg index) picks act c regs picked = load_serves view world law stands client to reg index c regs.0
  row_serves client (Store reg index value) picks act c regs picked = store_serves view world law stands client reg index value
  row_serves client (Clear reg index) picks act c regs picked = clear_serves view world law stands client reg index
  row_serves client (Show reg) picks act c regs picked = data_serves view world law stands client reg
  row_serves client (Put reg at bytes) picks act c regs picked = put_serves view world law stands client reg at bytes
  row_serves client (Copy to reg) picks act c regs picked = copy_serves view world law stands client to reg c regs.0
  row_serves client (IdOf reg) picks act c regs picked = id_serves view world law stands client reg
  row_serves client (Forget reg) picks act c regs picked = drop_serves view world law stands client reg c regs
  row_serves client (Bind name reg) picks act c regs picked = root_serves view world law stands client reg picks.root name picked.root
  row_serves client (Unbind name) picks act c regs picked = unroot_serves view world law stands name
  row_serves client (Find to name) picks act c regs picked = find_serves view world law stands client to name c regs
  row_serves client (Swap reg index old value) picks act c regs picked = swap_serves view world law stands client reg index old value
  row_serves client Close picks act c regs picked = close_serves view world client law stands c
  row_serves client Save picks act c regs picked = absurd (true≢false (sym act))
  row_serves client Settle picks act c regs picked = absurd (true≢false (sym act))
  row_serves client Unsave picks act c regs picked = absurd (true≢false (sym act))
  row_serves client Watch picks act c regs picked = absurd (true≢false (sym act))
