-- What has settled once `settle` was answered so, and what is free once `unsave` was.
use Rattle.std.proofs.Common.{◌≡◌, ℕ, Option, None, subst}
use Rattle.pm_types.specs.declared.command.Cmd.{Cmd}
use Rattle.pm_types.specs.declared.reply.Reply.{Reply}
use Rattle.pm_types.specs.declared.command.Cmd.TheVariants.{Unsave}
use Rattle.pm_types.specs.declared.reply.Reply.TheVariants.{Dropped, Saved}
use Rattle.pm_disk.specs.declared.disk.Disk.{Ghosts}
use Rattle.pm_saving.specs.Events.{Serves}
use Rattle.pm_engine.specs.declared.works.start.Start.{Start}
use Rattle.pm_engine.specs.declared.works.works.Works.{Works}
use Rattle.pm_engine.specs.Works.Working.{Answers, Unsaves}
use Rattle.pm_engine.specs.Works.Seen.{IsCrashSafe, seen}
use Rattle.pm_engine.specs.Works.Clauses.{DropsPages, IsDropped, SettlesAs, face_of}
use Rattle.pm_engine.proofs.WorksLemmas.Crashing.{settled_images, settled_number, settles_copy}

module _ {D : Type 0} {F : Type 0} {g : Ghosts D} (start : Start D F g) (stopped : Option ℕ) (old new : Works D F g) (client : ℕ) where
  pub settled_all : stopped ≡ None → ∥ IsCrashSafe start stopped old ∥₁ → (cmd : Cmd) (reply : Reply) → Serves client cmd (seen start stopped old) (seen start stopped new) reply → Answers client cmd old new reply
      → SettlesAs (face_of start stopped old) (face_of start stopped new) reply
  settled_all none known cmd (Saved number) serves is =
      let serves0 = subst (λ (o : Option ℕ). Serves client cmd (seen start o old) (seen start o new) (Saved number)) none serves in
      let copy = settles_copy start stopped old none known new client number cmd serves0 is in
      record {
        number_is = settled_number start stopped old none known new client number cmd serves0 copy;
        now = settled_images start stopped old none known new client number cmd serves0 copy;
        settles = copy.settles;
        made = copy.made;
      }
  settled_all none known cmd reply serves is = tt

  drops_pages : (reply : Reply) → Unsaves client old new reply → DropsPages (face_of start stopped old) (face_of start stopped new) reply
  drops_pages (Dropped number) is = record { pages = is.pages; disk = is.disk }
  drops_pages reply is = tt

  pub dropped_all : (cmd : Cmd) (reply : Reply) → Answers client cmd old new reply → IsDropped cmd (face_of start stopped old) (face_of start stopped new) reply
  dropped_all Unsave reply is = drops_pages reply is
  dropped_all cmd reply is = tt
