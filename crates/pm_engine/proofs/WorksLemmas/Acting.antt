-- What a command that was answered did to the space.
use Rattle.std.proofs.Common.{◌≡◌, ℕ, true, false, refl, sym, ap, ◌∙◌}
use Rattle.std.proofs.lemmas.Bool.{true≢false}
use Rattle.pm_types.specs.declared.command.Cmd.{Cmd}
use Rattle.pm_types.specs.declared.command.Cmd.TheVariants.{Save, Settle, Unsave, Watch}
use Rattle.pm_types.specs.declared.reply.Reply.{Reply}
use Rattle.pm_disk.specs.declared.disk.Disk.{Ghosts}
use Rattle.pm_view.specs.View.{SpaceView}
use Rattle.pm_view.specs.Commands.{is_act}
use Rattle.pm_law_course.proofs.Kept.{command_keeps}
use Rattle.pm_engine.specs.declared.works.works.Works.{Works}
use Rattle.pm_engine.specs.Works.Acting.{DoesItsRow, ChangesSpace}
use Rattle.pm_engine.specs.Works.Working.{Answers, view_in}
use Rattle.pm_engine.proofs.WorksLemmas.Answering.{save_view, settle_view, unsave_view, watch_view}

-- a command on the space does its row
row_changes : (client : ℕ) (cmd : Cmd) (old new : SpaceView) (reply : Reply) → is_act cmd ≡ true → DoesItsRow client cmd old new reply → ChangesSpace client cmd old new reply
row_changes client cmd old new reply act is =
    let kept = command_keeps old client cmd is.row.0 in
    let after = ap (λ (p : Reply × SpaceView). p.1) is.row.2 in
    record {
      acts = λ _. is;
      stays = λ other. absurd (true≢false (sym act ∙ other));
      completed = ap (λ (v : SpaceView). v.completed) after ∙ kept.completed;
      phase = ap (λ (v : SpaceView). v.phase) after ∙ kept.phase;
    }

-- and every other one leaves the space as it is
nothing_changes : (client : ℕ) (cmd : Cmd) (old new : SpaceView) (reply : Reply) → is_act cmd ≡ false → new ≡ old → ChangesSpace client cmd old new reply
nothing_changes client cmd old new reply other same = record {
  acts = λ act. absurd (true≢false (sym act ∙ other));
  stays = λ _. same;
  completed = ap (λ (v : SpaceView). v.completed) same;
  phase = ap (λ (v : SpaceView). v.phase) same;
}

pub space_of : {D F : Type 0} {g : Ghosts D} (client : ℕ) (cmd : Cmd) (old new : Works D F g) (reply : Reply) → Answers client cmd old new reply → ChangesSpace client cmd (view_in old) (view_in new) reply
space_of client Save old new reply is = nothing_changes client Save (view_in old) (view_in new) reply refl (save_view client old new reply is)
space_of client Settle old new reply is = nothing_changes client Settle (view_in old) (view_in new) reply refl (settle_view client old new reply is)
space_of client Unsave old new reply is = nothing_changes client Unsave (view_in old) (view_in new) reply refl (unsave_view client old new reply is)
space_of client Watch old new reply is = nothing_changes client Watch (view_in old) (view_in new) reply refl (watch_view client old new reply is)
space_of client cmd old new reply is = row_changes client cmd (view_in old) (view_in new) reply refl is.row
