-- What is told of a call beside what holds between calls.
use Rattle.std.proofs.Common.{◌≡◌, ℕ, Bool, true, false, Option, None, refl, sym, subst}
use Rattle.pm_types.specs.Counts.{Rose, ShowsRise}
use Rattle.pm_types.specs.Replies.{IsShortReply}
use Rattle.pm_types.specs.declared.command.Cmd.{Cmd}
use Rattle.pm_types.specs.declared.command.Cmd.TheVariants.{Save, Settle, Unsave, Watch}
use Rattle.pm_types.specs.declared.reply.Reply.{Reply}
use Rattle.pm_types.specs.declared.reply.Reply.TheVariants.{Begun, Busy, Dropped, Idle, Saved, SavesSpent, TooManyWatches, Watching}
use Rattle.pm_disk.specs.declared.disk.Disk.{Ghosts}
use Rattle.pm_model.specs.Frames.{is_settle, saves}
use Rattle.pm_space.specs.Shown.{view}
use Rattle.pm_saving.specs.Events.{ServesNothing}
use Rattle.pm_engine.specs.declared.works.start.Start.{Start}
use Rattle.pm_engine.specs.declared.works.works.Works.{Works}
use Rattle.pm_engine.specs.Works.Working.{Answers, IsLeft, LeavesEither, Rests, Saves, SettlesIt, StaysStill, Unsaves, Watches, disk_at, saving_in}
use Rattle.pm_engine.specs.Works.Seen.{seen}
use Rattle.pm_engine.specs.Works.Copies.{KeepsCopies}
use Rattle.pm_engine.proofs.WorksLemmas.Whole.{nothing_journal}

-- ---- a reply shows at most an object's bytes

save_short : {D F : Type 0} {g : Ghosts D} (client : ℕ) (old new : Works D F g) (reply : Reply) → Saves client old new reply → IsShortReply reply
save_short client old new (Busy number) is = tt
save_short client old new SavesSpent is = tt
save_short client old new (Begun number) is = tt
save_short client old new reply is = absurd is

unsave_short : {D F : Type 0} {g : Ghosts D} (client : ℕ) (old new : Works D F g) (reply : Reply) → Unsaves client old new reply → IsShortReply reply
unsave_short client old new Idle is = tt
unsave_short client old new (Dropped number) is = tt
unsave_short client old new reply is = absurd is

settle_short : {D F : Type 0} {g : Ghosts D} (client : ℕ) (old new : Works D F g) (reply : Reply) → SettlesIt client old new reply → IsShortReply reply
settle_short client old new Idle is = tt
settle_short client old new (Saved number) is = tt
settle_short client old new reply is = absurd is

watch_short : {D F : Type 0} {g : Ghosts D} (client : ℕ) (old new : Works D F g) (reply : Reply) → Watches client old new reply → IsShortReply reply
watch_short client old new TooManyWatches is = tt
watch_short client old new (Watching number) is = tt
watch_short client old new reply is = absurd is

pub short_of : {D F : Type 0} {g : Ghosts D} (client : ℕ) (cmd : Cmd) (old new : Works D F g) (reply : Reply) → Answers client cmd old new reply → IsShortReply reply
short_of client Save old new reply is = save_short client old new reply is
short_of client Settle old new reply is = settle_short client old new reply is
short_of client Unsave old new reply is = unsave_short client old new reply is
short_of client Watch old new reply is = watch_short client old new reply is
short_of client cmd old new reply is = is.short

module _ {D : Type 0} {F : Type 0} {g : Ghosts D} (start : Start D F g) (stopped : Option ℕ) (old new : Works D F g) where
  watch_copies : (client : ℕ) (reply : Reply) → Watches client old new reply → KeepsCopies (seen start stopped old) (seen start stopped new)
  watch_copies client TooManyWatches is = record { saving = is.keeps.saving; frozen = is.keeps.frozen }
  watch_copies client (Watching number) is = record { saving = is.keeps.saving; frozen = is.keeps.frozen }
  watch_copies client reply is = absurd is

  -- a command that neither begins, settles nor drops a copy leaves the copies
  pub copies_of : (client : ℕ) (cmd : Cmd) (reply : Reply) → saves cmd ≡ false → Answers client cmd old new reply → KeepsCopies (seen start stopped old) (seen start stopped new)
  copies_of client Save reply other is = absurd (cc other)
  copies_of client Settle reply other is = absurd (cc other)
  copies_of client Unsave reply other is = absurd (cc other)
  copies_of client Watch reply other is = watch_copies client reply is
  copies_of client cmd reply other is = record { saving = is.saving; frozen = is.frozen }

  -- all of it stays
  pub left_alone : IsLeft old new → seen start stopped new ≡ seen start stopped old
  left_alone left =
      (λ i. record {
        number = start.number;
        opened = view start.space.value.parts;
        view = left.keeps.view i;
        frozen = left.keeps.frozen i;
        saving = left.keeps.saving i;
        journal = nothing_journal old new left.nothing i;
        course = left.nothing.course i;
        watches = left.nothing.watches i;
        events = left.nothing.events i;
        steps = left.nothing.steps i;
        stopped = stopped;
      })

  -- nothing was answered
  pub nothing_served : (after : Option ℕ) → Rests old new → ServesNothing (seen start stopped old) (seen start after new)
  nothing_served after rests = record {
    opening = record { number = refl; opened = refl };
    view = rests.view;
    frozen = rests.frozen;
    settled = rests.settled;
    progress = rests.progress;
    journal = nothing_journal old new rests.nothing;
    course = rests.nothing.course;
    watches = rests.nothing.watches;
    events = rests.nothing.events;
    steps = rests.nothing.steps;
  }

  -- where no copy is in progress the disk is not called
  pub idle_of : (cmd : Cmd) → (is_settle cmd ≡ false → StaysStill old new) → (is_settle cmd ≡ true → LeavesEither old new) → (saving_in old).progress ≡ None → disk_at new ≡ disk_at old
  idle_of cmd still leaves none = by (is_settle cmd) refl
    where
      by : (b : Bool) → is_settle cmd ≡ b → disk_at new ≡ disk_at old
      by false is = (still is).disk
      by true is = (leaves is).none none

-- counts that are told before and after show that the count rose between them
pub shows_rise : (b a before after : ℕ) → b ≡ before → a ≡ after → Rose before after → ShowsRise b a before after
shows_rise b a before after is also rose = (is, also, subst (λ (n : ℕ). Rose n a) (sym is) (subst (λ (n : ℕ). Rose before n) (sym also) rose))
