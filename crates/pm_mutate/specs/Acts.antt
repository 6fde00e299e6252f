-- What a command does, beyond its row.
use Rattle.std.specs.Prelude.{◌≡◌, ℕ, ◌+◌, ◌≤◌, true}
use Rattle.pm_types.specs.declared.address.Addr.{Addr}
use Rattle.pm_types.specs.declared.command.Cmd.{Cmd}
use Rattle.pm_types.specs.declared.command.Cmd.TheVariants.{New}
use Rattle.pm_types.specs.declared.reply.Reply.{Reply}
use Rattle.pm_types.specs.declared.reply.Reply.TheVariants.{Ident}
use Rattle.pm_types.specs.Replies.{is_shown}
use Rattle.pm_model.specs.World.{World}
use Rattle.pm_model.specs.Answer.{answer, is_refusal}
use Rattle.pm_view.specs.View.{SpaceView}
use Rattle.pm_view.specs.Represents.{Represents}
use Rattle.pm_view.specs.Objects.{AddsObject}
use Rattle.pm_view.specs.Work.{work}
use Rattle.pm_law_collect.specs.Work.Raises.{raises}
use Rattle.pm_view.specs.Bounded.{KeepsRank, KeepsSunk}
use Rattle.pm_law_commands.specs.Served.{IsServed}

-- for every world that the space stands for the reply is the world's answer, and the space after it keeps the heap law
-- and stands for the next world
abbrev pub Serves : SpaceView → ℕ → Cmd → Reply → SpaceView → Type 0
Serves view client cmd reply after = (world : World) → Represents view world → IsServed (reply, after) (answer world client cmd)

-- a command that is refused leaves the space as it is
abbrev pub IsStill : SpaceView → Cmd → Reply → SpaceView → Type 0
IsStill view cmd reply after = is_refusal cmd reply ≡ true → after ≡ view

-- a command whose reply shows bytes leaves the space as it is
abbrev pub LeavesWhereShown : SpaceView → Reply → SpaceView → Type 0
LeavesWhereShown view reply after = is_shown reply ≡ true → after ≡ view

-- A command adds at most six to the work that is left of a collection, and the one that empties all registers of a client
-- at most 3,072.
abbrev pub AddsLittleWork : SpaceView → Cmd → SpaceView → Type 0
AddsLittleWork view cmd after = work after ≤ work view + raises cmd

-- What a command leaves of the course of the collections: it adds little work, what fits stays and the rank has not
-- risen, and sunk sets stay so.
pub record KeepsCourse (view : SpaceView) (cmd : Cmd) (after : SpaceView) : Type 0 where
  pub work : AddsLittleWork view cmd after
  pub rank : KeepsRank view after
  pub sunk : KeepsSunk view after

-- a `new` that is not refused adds one object, under the next identity, in the open train
abbrev pub IsBirth : SpaceView → Cmd → Reply → SpaceView → Type 0
IsBirth view (New reg count bytes) reply after = reply ≡ Ident view.next → (place : Addr) × AddsObject view after view.next place
IsBirth view cmd reply after = Unit {0}
