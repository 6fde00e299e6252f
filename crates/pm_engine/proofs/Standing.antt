-- The space of an engine stands for the world at the journal's end, through each of its calls.
use Rattle.std.proofs.Common.{◌≡◌, ℕ, true, Option, None, Result, Ok, Err, OnOk, OnErr, refl, sym, ap, subst}
use Rattle.std.specs.Coded.{Coded-set}
use Rattle.std.proofs.Math.Logic.{∥∥₁_elim, ∥∥₁_map, ∥∥₁_prop}
use Rattle.pm_types.specs.declared.command.Cmd.{Cmd}
use Rattle.pm_types.specs.declared.command.Cmd.TheVariants.{Save, Settle, Unsave, Watch}
use Rattle.pm_types.specs.declared.reply.Reply.{Reply}
use Rattle.pm_types.specs.contracts.reply.Reply as reply_type
use Rattle.pm_disk.specs.declared.disk.Disk.{Ghosts}
use Rattle.pm_model.specs.World.{World, copy_code}
use Rattle.pm_model.specs.Answer.{answer}
use Rattle.pm_model.specs.Journal.{after}
use Rattle.pm_view.specs.View.{SpaceView}
use Rattle.pm_view.specs.Commands.{is_act}
use Rattle.pm_view.specs.Represents.{Represents}
use Rattle.pm_law_copies.proofs.CopyOf.{worlds_copy}
use Rattle.pm_saving.specs.Serving.{IsServed, opening, world}
use Rattle.pm_law_saving.proofs.ServingLemmas.Following as law
use Rattle.pm_law_saving.proofs.ServingLemmas.Kept.{next_world}
use Rattle.pm_law_saving.proofs.ServingLemmas.Splitting.{splits_once}
use Rattle.pm_engine.specs.declared.works.start.Start.{Start}
use Rattle.pm_engine.specs.declared.works.works.Works.{Works}
use Rattle.pm_engine.specs.Works.Working.{Answers, CollectsOn, IsLeft, journal_in, view_in}
use Rattle.pm_engine.specs.Works.Seen.{IsCrashSafe, seen}
use Rattle.pm_engine.specs.Sound.{IsSound}
use Rattle.pm_engine.proofs.WorksLemmas.Answering.{AgreesOn, appends_of, save_view, settle_view, unsave_view, watch_view}
use Rattle.pm_engine.proofs.WorksLemmas.Whole.{nothing_journal, same_journal}

module _ {D : Type 0} {F : Type 0} {g : Ghosts D} {start : Start D F g} {stopped : Option ℕ} {works : Works D F g} where
  pub safe : ∥ IsSound start stopped works ∥₁ → ∥ IsCrashSafe start stopped works ∥₁
  safe known = ∥∥₁_map known (λ sound. sound.safe)

  pub served_of : IsSound start stopped works → IsServed (seen start stopped works)
  served_of sound = record { journal = sound.safe.journal; represents = sound.represents }

-- what a command does to what a space stands for
module _ {D : Type 0} {F : Type 0} {g : Ghosts D} (old new : Works D F g) (w : World) (stands : Represents (view_in old) w) where
  act_reply : (client : ℕ) (cmd : Cmd) (reply : Reply) → is_act cmd ≡ true → Answers client cmd old new reply → reply ≡ (answer w client cmd).0
  act_reply client Save reply act is = cc act
  act_reply client Settle reply act is = cc act
  act_reply client Unsave reply act is = cc act
  act_reply client Watch reply act is = cc act
  act_reply client cmd reply act is = (is.served w stands).reply

  next_stands : (client : ℕ) (cmd : Cmd) (reply : Reply) → Answers client cmd old new reply → Represents (view_in new) (answer w client cmd).1
  next_stands client Save reply is = subst (λ (v : SpaceView). Represents v (answer w client Save).1) (sym (save_view client old new reply is)) (law.leaves (view_in old) w stands client Save refl)
  next_stands client Settle reply is = subst (λ (v : SpaceView). Represents v (answer w client Settle).1) (sym (settle_view client old new reply is)) (law.leaves (view_in old) w stands client Settle refl)
  next_stands client Unsave reply is = subst (λ (v : SpaceView). Represents v (answer w client Unsave).1) (sym (unsave_view client old new reply is)) (law.leaves (view_in old) w stands client Unsave refl)
  next_stands client Watch reply is = subst (λ (v : SpaceView). Represents v (answer w client Watch).1) (sym (watch_view client old new reply is)) (law.leaves (view_in old) w stands client Watch refl)
  next_stands client cmd reply is = (is.served w stands).world

module _ {D : Type 0} {F : Type 0} {g : Ghosts D} (start : Start D F g) (stopped : Option ℕ) (old new : Works D F g) (known : ∥ IsSound start stopped old ∥₁) where
  -- what the space says of a command is what the world does
  pub agrees : (client : ℕ) (cmd : Cmd) (reply : Reply) → Answers client cmd old new reply → AgreesOn client cmd reply (seen start None old)
  agrees client cmd reply is =
      let w = world (seen start None old) in
      record {
        reply_is = λ act. splits_once (Coded-set reply_type.the_row.coded _ _) (∥∥₁_map known (λ sound. act_reply old new w sound.represents client cmd reply act is));
        copied = λ _. splits_once (Coded-set copy_code _ _) (∥∥₁_map known (λ sound. sym (worlds_copy (view_in old) old.space.kept w sound.represents)));
      }

  -- it stands for the world after a call
  module _ (later : Option ℕ) (crash : ∥ IsCrashSafe start later new ∥₁) where
    sound_with : (Represents (view_in old) (world (seen start stopped old)) → Represents (view_in new) (world (seen start later new))) → ∥ IsSound start later new ∥₁
    sound_with stands = ∥∥₁_elim known ∥∥₁_prop (λ sound. ∥∥₁_map crash (λ it. record { safe = it; represents = stands sound.represents }))

    -- the journal stays
    sound_on : journal_in new ≡ journal_in old → ((w : World) → Represents (view_in old) w → Represents (view_in new) w) → ∥ IsSound start later new ∥₁
    sound_on journal keeps =
        let w = opening (seen start stopped old) in
        sound_with (λ stands. subst (Represents (view_in new)) (ap (after w) (sym journal)) (keeps (world (seen start stopped old)) stands))

    -- and so does what is seen of the space
    pub sound_kept : journal_in new ≡ journal_in old → view_in new ≡ view_in old → ∥ IsSound start later new ∥₁
    sound_kept journal view = sound_on journal (λ w it. subst (λ (v : SpaceView). Represents v w) (sym view) it)

    -- an event of the collector was made, or none
    pub sound_tried : {T E : Type 0} (result : Result T E) → OnOk result (CollectsOn old new) → OnErr result (IsLeft old new) → ((w : World) → Represents (view_in old) w → Represents (view_in new) w) → ∥ IsSound start later new ∥₁
    sound_tried (Ok made) is left keeps = sound_on (same_journal old new is.past is.journal) keeps
    sound_tried (Err fault) is left keeps = sound_on (nothing_journal old new left.nothing) keeps

  -- a command was answered
  pub sound_asked : (client : ℕ) (cmd : Cmd) (reply : Reply) → Answers client cmd old new reply → ∥ IsCrashSafe start stopped new ∥₁ → ∥ IsSound start stopped new ∥₁
  sound_asked client cmd reply is crash =
      let w = world (seen start stopped old) in
      sound_with stopped crash (λ stands. subst (Represents (view_in new))
      (sym (next_world client cmd (seen start stopped old) (seen start stopped new) reply (appends_of start stopped old new client cmd reply is)))
      (next_stands old new w stands client cmd reply is))
