-- After each command the engine serves the next world.
use Rattle.std.proofs.Common.{◌≡◌, ◌<◌, ◌≤◌, ℕ, ◌+◌, Bool, true, false, if◌then◌else◌, length, Some, None, refl, sym, subst, ◌∙◌, nat_lt}
use Rattle.std.specs.FinMap.{get}
use Rattle.pm_types.specs.declared.command.Cmd.{Cmd}
use Rattle.pm_types.specs.declared.command.Cmd.TheVariants.{Save, Settle, Unsave, Watch}
use Rattle.pm_types.specs.declared.limits.TheConstants.{LAST_COPY, WATCHES}
use Rattle.pm_types.specs.declared.reply.Reply.{Reply}
use Rattle.pm_types.specs.declared.reply.Reply.TheVariants.{Begun, Busy, SavesSpent, Saved, Idle, Dropped, Watching, TooManyWatches}
use Rattle.pm_model.specs.World.{World, Saving, beginning, settling, dropping, watching}
use Rattle.pm_model.specs.Copying.{copy}
use Rattle.pm_model.specs.Answer.{answer, answer_save, answer_settle, answer_unsave, answer_watch, refused}
use Rattle.pm_model.specs.Journal.{after}
use Rattle.pm_view.specs.View.{SpaceView}
use Rattle.pm_view.specs.Law.{HeapLaw}
use Rattle.pm_view.specs.Commands.{is_act}
use Rattle.pm_view.specs.Represents.{Represents}
use Rattle.pm_copies.specs.Listed.{copy_in}
use Rattle.pm_law_copies.proofs.CopyOf.{worlds_copy}
use Rattle.pm_saving.specs.Progress.{Progress, cars_or_none, copy_of}
use Rattle.pm_saving.specs.Serving.{IsServed, KeepsJournal, Serving, world}
use Rattle.pm_saving.specs.Events.{Appends, Collects, Serves}
use Rattle.pm_law_saving.proofs.ServingLemmas.Kept as kept

-- ---- what a space stands for is left by each command that is none on the space

-- a space stands for a world also once what is saved of it is another
saved_apart : (view : SpaceView) (w v : World) → v.heap ≡ w.heap → v.roots ≡ w.roots → v.registers ≡ w.registers → v.next ≡ w.next → Represents view w → Represents view v
saved_apart view w v heap roots registers next represents =
    subst (Represents view) (λ i. record v { heap = sym heap i; roots = sym roots i; registers = sym registers i; next = sym next i }) (again view w v represents)
  where
    again : (view : SpaceView) (w v : World) → Represents view w → Represents view (record v { heap = w.heap; roots = w.roots; registers = w.registers; next = w.next })
    again view w v represents = record {
      roots = represents.roots;
      registers = represents.registers;
      next = represents.next;
      given = represents.given;
      objects = represents.objects;
      reached = represents.reached;
      leftover = λ a object aside is none.
          let gone = represents.leftover a object aside is none in
          record { name = gone.name; register = gone.register; field = gone.field };
    }

module _ (view : SpaceView) (w : World) (stands : Represents view w) where
  saved_leaves : (saving : Saving) → Represents view (answer_save w saving).1
  saved_leaves (Some begun) = stands
  saved_leaves None = by (nat_lt w.settled LAST_COPY)
    where
      by : (less : Bool) → Represents view (if less then (Begun (w.settled + 1), beginning w (w.settled + 1) (copy w)) else refused w SavesSpent).1
      by true = saved_apart view w (beginning w (w.settled + 1) (copy w)) refl refl refl refl stands
      by false = stands

  settled_leaves : (saving : Saving) → Represents view (answer_settle w saving).1
  settled_leaves None = stands
  settled_leaves (Some begun) = saved_apart view w (settling w begun.0 begun.1) refl refl refl refl stands

  unsaved_leaves : (saving : Saving) → Represents view (answer_unsave w saving).1
  unsaved_leaves None = stands
  unsaved_leaves (Some begun) = saved_apart view w (dropping w) refl refl refl refl stands

  watched_leaves : Represents view (answer_watch w).1
  watched_leaves = by (nat_lt w.watches WATCHES)
    where
      by : (less : Bool) → Represents view (if less then (Watching (w.watches + 1), watching w) else refused w TooManyWatches).1
      by true = saved_apart view w (watching w) refl refl refl refl stands
      by false = stands

  pub leaves : (client : ℕ) (cmd : Cmd) → is_act cmd ≡ false → Represents view (answer w client cmd).1
  unfolding answer
  leaves client Save none = saved_leaves w.saving
  leaves client Settle none = settled_leaves w.saving
  leaves client Unsave none = unsaved_leaves w.saving
  leaves client Watch none = watched_leaves
  leaves client cmd none = cc none

-- ---- commands

pub fresh : (it : Serving) → IsServed it → get (world it).heap (world it).next ≡ None
fresh it served = kept.fresh it served.journal

pub acted : (client : ℕ) (cmd : Cmd) (old new : Serving) (reply : Reply) → IsServed old → is_act cmd ≡ true → Appends client cmd old new reply
    → reply ≡ (answer (world old) client cmd).0 → Represents new.view (answer (world old) client cmd).1 → new.frozen ≡ old.frozen → new.saving ≡ old.saving → IsServed new
acted client cmd old new reply served act appends is represents frozen saving = record {
  journal = kept.acted client cmd old new reply served.journal act appends is frozen saving;
  represents = subst (Represents new.view) (sym (kept.next_world client cmd old new reply appends)) represents;
}

-- a command that is none on the space
module _ (client : ℕ) (cmd : Cmd) (old new : Serving) (reply : Reply) (served : IsServed old) (none : is_act cmd ≡ false) (appends : Appends client cmd old new reply) (view : new.view ≡ old.view) where
  stands : Represents new.view (world new)
  stands = subst (Represents new.view) (sym (kept.next_world client cmd old new reply appends))
      (leaves new.view (world old) (subst (λ (v : SpaceView). Represents v (world old)) (sym view) served.represents) client cmd none)

  both : Serves client cmd old new reply × KeepsJournal new → Serves client cmd old new reply × IsServed new
  both keeps = (keeps.0, record { journal = keeps.1; represents = stands })

pub busy : (client : ℕ) (old new : Serving) (begun : Progress) → IsServed old → old.saving.progress ≡ Some begun → Appends client Save old new (Busy begun.number) → new.view ≡ old.view
    → new.frozen ≡ old.frozen → new.saving ≡ old.saving → Serves client Save old new (Busy begun.number) × IsServed new
busy client old new begun served is appends view frozen saving =
    both client Save old new (Busy begun.number) served refl appends view (kept.busy client old new begun served.journal is appends frozen saving)

pub spent : (client : ℕ) (old new : Serving) → IsServed old → old.saving.progress ≡ None → (world old).settled ≡ LAST_COPY → Appends client Save old new SavesSpent → new.view ≡ old.view
    → new.frozen ≡ old.frozen → new.saving ≡ old.saving → Serves client Save old new SavesSpent × IsServed new
spent client old new served none last appends view frozen saving =
    both client Save old new SavesSpent served refl appends view (kept.spent client old new served.journal none last appends frozen saving)

pub idle : (client : ℕ) (old new : Serving) → IsServed old → old.saving.progress ≡ None → Appends client Settle old new Idle → new.view ≡ old.view → new.frozen ≡ old.frozen
    → new.saving ≡ old.saving → Serves client Settle old new Idle × IsServed new
idle client old new served none appends view frozen saving =
    both client Settle old new Idle served refl appends view (kept.idle client old new served.journal none appends frozen saving)

pub undropped : (client : ℕ) (old new : Serving) → IsServed old → old.saving.progress ≡ None → Appends client Unsave old new Idle → new.view ≡ old.view → new.frozen ≡ old.frozen
    → new.saving ≡ old.saving → Serves client Unsave old new Idle × IsServed new
undropped client old new served none appends view frozen saving =
    both client Unsave old new Idle served refl appends view (kept.undropped client old new served.journal none appends frozen saving)

pub begins : (client : ℕ) (old new : Serving) (begun : Progress) → IsServed old → HeapLaw old.view → old.saving.progress ≡ None → (world old).settled < LAST_COPY → begun.number ≡ (world old).settled + 1
    → Appends client Save old new (Begun begun.number) → new.view ≡ old.view → new.saving.progress ≡ Some begun → copy_of (cars_or_none new.frozen) begun ≡ copy_in old.view
    → Serves client Save old new (Begun begun.number) × IsServed new
begins client old new begun served law none less number appends view is copied =
    both client Save old new (Begun begun.number) served refl appends view
    (kept.begins client old new begun served.journal none less number appends is (copied ∙ sym (worlds_copy old.view law (world old) served.represents)))

pub settles : (client : ℕ) (old new : Serving) (begun : Progress) → IsServed old → old.saving.progress ≡ Some begun → Appends client Settle old new (Saved begun.number) → new.view ≡ old.view
    → new.saving.progress ≡ None → Serves client Settle old new (Saved begun.number) × IsServed new × ((world new).settled ≡ begun.number) × ((world new).settled_copy ≡ copy_of (cars_or_none old.frozen) begun)
settles client old new begun served is appends view none =
    let it = kept.settles client old new begun served.journal is appends none in
    let goes = both client Settle old new (Saved begun.number) served refl appends view (it.0, it.1) in
    (goes.0, goes.1, it.2, it.3)

pub drops : (client : ℕ) (old new : Serving) (begun : Progress) → IsServed old → old.saving.progress ≡ Some begun → Appends client Unsave old new (Dropped begun.number) → new.view ≡ old.view
    → new.saving.progress ≡ None → Serves client Unsave old new (Dropped begun.number) × IsServed new
drops client old new begun served is appends view none =
    both client Unsave old new (Dropped begun.number) served refl appends view (kept.drops client old new begun served.journal is appends none)

pub watches_set : (client : ℕ) (old new : Serving) → IsServed old → length old.watches < WATCHES → Appends client Watch old new (Watching (length old.watches + 1)) → new.view ≡ old.view
    → new.frozen ≡ old.frozen → new.saving ≡ old.saving → Serves client Watch old new (Watching (length old.watches + 1)) × IsServed new
watches_set client old new served few appends view frozen saving =
    both client Watch old new (Watching (length old.watches + 1)) served refl appends view (kept.watches_set client old new served.journal few appends frozen saving)

pub watches_full : (client : ℕ) (old new : Serving) → IsServed old → WATCHES ≤ length old.watches → Appends client Watch old new TooManyWatches → new.view ≡ old.view
    → new.frozen ≡ old.frozen → new.saving ≡ old.saving → Serves client Watch old new TooManyWatches × IsServed new
watches_full client old new served many appends view frozen saving =
    both client Watch old new TooManyWatches served refl appends view (kept.watches_full client old new served.journal many appends frozen saving)

-- ---- events of the collector

pub collected : (old new : Serving) → IsServed old → Collects old new → ((w : World) → Represents old.view w → Represents new.view w) → IsServed new
collected old new served collects keeps =
    let same : world new ≡ world old = (λ i. after (kept.same_opening old new collects.opening i) (collects.journal i)) in
    record {
      journal = kept.collected old new served.journal collects;
      represents = subst (Represents new.view) (sym same) (keeps (world old) served.represents);
    }
