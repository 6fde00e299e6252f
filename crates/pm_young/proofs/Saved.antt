-- A command that begins, settles or drops a copy: the world within answers it, whose copy is the world's.
use Rattle.std.proofs.Common.{◌≡◌, ⊎_elim, inl, inr, ℕ, Bool, true, false, if◌then◌else◌, List, [], ◌++◌, Option, Some, None, refl, sym, ap, subst, ◌∙◌, is_some, arith, append-nil}
use Rattle.std.specs.Option.{IsSome}
use Rattle.std.specs.Coded.{Coded-set}
use Rattle.std.specs.FinMap.{get}
use Rattle.std.proofs.Math.Logic.{∥∥₁_elim, ∥∥₁_map, ∥∥₁_prop}
use Rattle.pm_types.specs.declared.command.Cmd.{Cmd}
use Rattle.pm_types.specs.declared.command.Cmd.TheVariants.{Save, Settle, Unsave, Watch}
use Rattle.pm_types.specs.declared.reply.Reply.{Reply}
use Rattle.pm_disk.specs.declared.disk.Disk.{Ghosts}
use Rattle.pm_model.specs.World.{World, Registers, copy_code}
use Rattle.pm_model.specs.Answer.{answer}
use Rattle.pm_model.specs.Frames.{makes_object, saves}
use Rattle.pm_view.specs.View.{SpaceView}
use Rattle.pm_view.specs.Commands.{is_act}
use Rattle.pm_view.specs.Represents.{Represents}
use Rattle.pm_law_copies.proofs.CopyOf.{worlds_copy}
use Rattle.pm_saving.specs.Serving.{world}
use Rattle.pm_saving.specs.Events.{Appends}
use Rattle.pm_law_saving.proofs.ServingLemmas.Following as following
use Rattle.pm_law_saving.proofs.ServingLemmas.Kept as law
use Rattle.pm_law_saving.proofs.ServingLemmas.Splitting.{splits_once}
use Rattle.pm_engine.specs.declared.works.start.Start.{Start}
use Rattle.pm_engine.specs.declared.works.works.Works.{Works}
use Rattle.pm_engine.specs.Works.Seen.{IsCrashSafe, seen}
use Rattle.pm_engine.specs.Works.Working.{Answers, view_in}
use Rattle.pm_engine.proofs.WorksLemmas.Answering.{AgreesOn, appends_of, save_view, settle_view, unsave_view}
use Rattle.pm_nursery.specs.Young.{NurseryView, IsYoung}
use Rattle.pm_nursery.specs.Answering.{reads_register, unset}
use Rattle.pm_nursery.specs.Escaping.{AreEscaping, LetsEscape, young_then}
use Rattle.pm_law_young.proofs.Copied.{same_copy}
use Rattle.pm_law_young.proofs.Escaped.{none_escaping}
use Rattle.pm_law_young.proofs.Then.{young_on}
use Rattle.pm_law_young.proofs.Within.{answered_within}
use Rattle.pm_young.specs.Kept.{StandsYoung}
use Rattle.pm_young.specs.Setting.{ReadsNone, refuses}
use Rattle.pm_young.proofs.Answered.{goes_none, kept_there}
use Rattle.pm_young.proofs.Unset.{unset_is}

-- such a command is none on the space, makes no object, and reads no register
pub never_acts : (cmd : Cmd) → saves cmd ≡ true → is_act cmd ≡ false
never_acts Save is = refl
never_acts Settle is = refl
never_acts Unsave is = refl
never_acts cmd is = cc is

makes_none : (cmd : Cmd) → saves cmd ≡ true → makes_object cmd ≡ false
makes_none Save is = refl
makes_none Settle is = refl
makes_none Unsave is = refl
makes_none cmd is = cc is

reads_none : (cmd : Cmd) → saves cmd ≡ true → (nursery : NurseryView) (client : ℕ) → ReadsNone nursery client cmd
reads_none Save is nursery client register reads = cc reads
reads_none Settle is nursery client register reads = cc reads
reads_none Unsave is nursery client register reads = cc reads
reads_none cmd is nursery client register reads = cc is

either_same : (b : Bool) (registers : Registers) → (if b then registers else registers) ≡ registers
either_same true registers = refl
either_same false registers = refl

sets_none : (cmd : Cmd) → saves cmd ≡ true → (registers : Registers) (client : ℕ) (reply : Reply) → unset registers client cmd reply ≡ registers
sets_none Save is registers client reply = unset_is Save reply client registers ∙ either_same (refuses reply) registers
sets_none Settle is registers client reply = unset_is Settle reply client registers ∙ either_same (refuses reply) registers
sets_none Unsave is registers client reply = unset_is Unsave reply client registers ∙ either_same (refuses reply) registers
sets_none cmd is registers client reply = cc is

lets_none : (world : World) (nursery : NurseryView) (client : ℕ) (cmd : Cmd) → saves cmd ≡ true → (id : ℕ) → LetsEscape world nursery client cmd id → ⊥
lets_none world nursery client Save is id lets = lets
lets_none world nursery client Settle is id lets = lets
lets_none world nursery client Unsave is id lets = lets
lets_none world nursery client cmd is id lets = cc is

-- nothing escapes, and what is young stays so
pub saves_escaping : (world : World) (nursery : NurseryView) (client : ℕ) (cmd : Cmd) → saves cmd ≡ true → AreEscaping world nursery client cmd []
saves_escaping world nursery client cmd is = none_escaping world nursery client cmd (λ id escapes. lets_none world nursery client cmd is id escapes.1)

pub saves_young : (world : World) (nursery : NurseryView) (client : ℕ) (cmd : Cmd) → saves cmd ≡ true → (id : ℕ) → is_some (get nursery.objects id) ≡ young_then world nursery client cmd [] id
saves_young world nursery client cmd is id = young_on world nursery client cmd id nursery [] (makes_none cmd is) (goes_none nursery)

module _ {D : Type 0} {F : Type 0} {g : Ghosts D} (start : Start D F g) (old new : Works D F g) (nursery : NurseryView) (client : ℕ) (cmd : Cmd) (save : saves cmd ≡ true) (stands : ∥ StandsYoung start old nursery ∥₁) where
  -- the copy in the space is the world's
  pub agrees_young : (reply : Reply) → AgreesOn client cmd reply (seen start None old)
  agrees_young reply = record {
    reply_is = λ act. absurd (cc (never_acts cmd save, act));
    copied = λ _. splits_once (Coded-set copy_code _ _) (∥∥₁_map stands (λ it.
        sym (worlds_copy (view_in old) old.space.kept it.within it.represents) ∙ same_copy it.within (world (seen start None old)) nursery it.young));
  }

  pub view_same : (reply : Reply) → Answers client cmd old new reply → view_in new ≡ view_in old
  view_same reply is = by cmd save is
    where
      by : (cmd : Cmd) → saves cmd ≡ true → Answers client cmd old new reply → view_in new ≡ view_in old
      by Save save is = save_view client old new reply is
      by Settle save is = settle_view client old new reply is
      by Unsave save is = unsave_view client old new reply is
      by cmd save is = cc save

  pub stands_saved : (reply : Reply) → Answers client cmd old new reply → ∥ StandsYoung start new nursery ∥₁
  stands_saved reply is = ∥∥₁_map stands (λ it.
      let w = world (seen start None old) in
      let all = answered_within it.within w nursery it.young client cmd (makes_none cmd save) (reads_none cmd save nursery client) in
      let next = (answer it.within client cmd).1 in
      let world_is = law.next_world client cmd (seen start None old) (seen start None new) reply (appends_of start None old new client cmd reply is) in
      record {
        within = next;
        represents = subst (λ (v : SpaceView). Represents v next) (sym (view_same reply is)) (following.leaves (view_in old) it.within it.represents client cmd (never_acts cmd save));
        young =
            subst (IsYoung next nursery) (sym world_is)
            (subst (λ (r : Registers). IsYoung next (record nursery { registers = r }) (answer w client cmd).1) (sets_none cmd save nursery.registers client (answer it.within client cmd).0) all.world);
        opened = λ id there. kept_there it.within client cmd id (it.opened id there);
      })
