use Rattle.std.proofs.Common.{◌≡◌, ℕ, true, false, Result, Ok, Err, IfOk, refl, ap}
use Rattle.pm_types.specs.declared.command.Cmd.{Cmd}
use Rattle.pm_types.specs.declared.command.Cmd.TheVariants as cmds
use Rattle.pm_types.specs.declared.command.Cmd.TheVariants.{Save, Settle, Unsave}
use Rattle.pm_types.specs.declared.no_memory.NoMemory.{NoMemory}
use Rattle.pm_types.specs.declared.reply.Reply.{Reply}
use Rattle.pm_disk.specs.declared.disk.Disk.{Ghosts}
use Rattle.pm_shadow.specs.Pages.{disk_of}
use Rattle.pm_model.specs.Frames.{is_settle}
use Rattle.pm_view.specs.Commands.{is_act}
use Rattle.pm_engine.specs.declared.works.works.Works.{Works}
use Rattle.pm_engine.specs.Works.Working.{Acts, Answers}
use Rattle.pm_engine.proofs.WorksLemmas.Kept.{pages_last}
use Rattle.pm_engine.proofs.works.works.Works.answer_still.Goals as goal

-- a command that is none of the four about copies and watches is one on the space
acts : (cmd : Cmd) → (cmd ≡ Save → ⊥) → (cmd ≡ Unsave → ⊥) → (cmd ≡ cmds.Watch → ⊥) → is_settle cmd ≡ false → is_act cmd ≡ true
acts Save save unsave watch settle = absurd (save refl)
acts Unsave save unsave watch settle = absurd (unsave refl)
acts cmds.Watch save unsave watch settle = absurd (watch refl)
acts Settle save unsave watch settle = absurd (cc settle)
acts cmd save unsave watch settle = refl

module _ {D : Type 0} {F : Type 0} {g : Ghosts D} (client : ℕ) where
  acts_as : (cmd : Cmd) (old new : Works D F g) (reply : Reply) → is_act cmd ≡ true → Acts client cmd old new reply → Answers client cmd old new reply
  acts_as Save old new reply is acts = absurd (cc is)
  acts_as Settle old new reply is acts = absurd (cc is)
  acts_as Unsave old new reply is acts = absurd (cc is)
  acts_as cmds.Watch old new reply is acts = absurd (cc is)
  acts_as cmd old new reply is acts = acts

  answers_as : (cmd : Cmd) (old new : Works D F g) (result : Result Reply NoMemory) → is_act cmd ≡ true → IfOk result (Acts client cmd old new) → IfOk result (Answers client cmd old new)
  answers_as cmd old new (Ok reply) is acts = acts_as cmd old new reply is acts
  answers_as cmd old new (Err fault) is acts = tt

pub returns-in_default : goal.returns-in_default
returns-in_default g c =
    let old = c.args.self.now in
    let new = c.act.new.self in
    let is = acts c.args.cmd c.in_default.not-Save c.in_default.not-Unsave c.in_default.not-Watch c.requires.other in
    record {
      answers = answers_as c.args.client c.args.cmd old new c.act.result is c.act.ensures.acts;
      tied = c.act.ensures.tied;
      err = c.act.ensures.err;
      still = record { disk = ap disk_of c.act.ensures.pages; lasts = pages_last old new c.act.ensures.pages };
      place = c.act.ensures.place;
    }
