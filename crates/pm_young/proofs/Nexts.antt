-- Every command but `new` leaves the next identity.
use Rattle.std.proofs.Common.{◌≡◌, ℕ, zero, suc, true, false, Option, Some, None, Result, Ok, Err, IfOk, OnErr, refl, sym, ap, ◌∙◌}
use Rattle.std.proofs.lemmas.Bool.{true≢false}
use Rattle.pm_types.specs.declared.limits.TheConstants.{REGISTERS}
use Rattle.pm_types.specs.declared.address.Addr.{Addr}
use Rattle.pm_types.specs.declared.command.Cmd.{Cmd}
use Rattle.pm_types.specs.declared.reply.Reply.{Reply}
use Rattle.pm_types.specs.declared.source.RefSource.{RefSource}
use Rattle.pm_types.specs.declared.source.RefSource.TheVariants.{Root, Handle, Field}
use Rattle.pm_view.specs.View.{SpaceView}
use Rattle.pm_view.specs.Rows.{spread, with_stored}
use Rattle.pm_view.specs.Commands.{Picks, emptied, is_new, row}
use Rattle.pm_mutate.specs.Commands.Picked.{IsRow}
use Rattle.pm_law_commands.proofs.EveryRow.{OfRows, row_holds}

stored_next : (view : SpaceView) (x : RefSource) (to : Option Addr) → (with_stored view x to).next ≡ view.next
stored_next view (Root n) None = refl
stored_next view (Root n) (Some a) = refl
stored_next view (Handle c r) to = refl
stored_next view (Field a i) to = refl

spread_next : (view : SpaceView) (x : RefSource) (to : Option Addr) → (spread view x to).next ≡ view.next
spread_next view x to = stored_next view x to

emptied_next : (view : SpaceView) (client n : ℕ) → (emptied view client n).next ≡ view.next
emptied_next view client zero = refl
emptied_next view client (suc n) = spread_next (emptied view client n) (Handle client n) None ∙ emptied_next view client n

rows_next : (view : SpaceView) (client : ℕ) (picks : Picks) → OfRows view (λ after. after.next ≡ view.next) ⊥ (Unit {0}) client picks
rows_next view client picks = record {
  still = refl;
  spread = spread_next view;
  bytes = λ a at bytes has. refl;
  bound = λ name number a. refl;
  unbound = λ name number a. refl;
  made = λ none. absurd none;
  emptied = λ may. emptied_next view client REGISTERS;
}

pub row_next : (view after : SpaceView) (client : ℕ) (cmd : Cmd) (reply : Reply) → is_new cmd ≡ false → IsRow view client cmd (reply, after) → after.next ≡ view.next
row_next view after client cmd reply other is =
    ap (λ (p : Reply × SpaceView). p.1.next) is.2
    ∙ row_holds view (λ after. after.next ≡ view.next) ⊥ (Unit {0}) client is.0 (rows_next view client is.0) cmd (λ new. true≢false (sym new ∙ other)) (λ close. tt)
