-- The whole journal of an engine: the entries that were let go, and behind them those that are kept.
use Rattle.std.proofs.Common.{◌≡◌, ℕ, List, [], ◌∷◌, ◌++◌, Option, refl, sym, ap, ◌∙◌, append_assoc}
use Rattle.std.proofs.Math.Logic.{∥∥₁_elim}
use mathlib.Core.HLevel.{⊥_prop}
use Rattle.pm_types.specs.declared.entry.Entry.{Entry}
use Rattle.pm_disk.specs.declared.disk.Disk.{Ghosts}
use Rattle.pm_space.specs.Shown.{view}
use Rattle.pm_save.specs.Shown.{frozen_of, saving}
use Rattle.pm_engine.specs.declared.works.past.Past.{Past}
use Rattle.pm_engine.specs.declared.works.start.Start.{Start}
use Rattle.pm_engine.specs.declared.works.works.Works.{Works}
use Rattle.pm_engine.specs.Works.Course.{told_before}
use Rattle.pm_engine.specs.Works.Told.{told_of}
use Rattle.pm_engine.specs.Works.Working.{AddsNothing, Forgets, journal_in, past_in}
use Rattle.pm_engine.specs.Works.Seen.{seen}

module _ {D : Type 0} {F : Type 0} {g : Ghosts D} (old new : Works D F g) where
  -- none was let go, and none added
  pub same_journal : new.past ≡ old.past → new.journal.items ≡ old.journal.items → journal_in new ≡ journal_in old
  same_journal past kept = (λ i. told_of (past i).entries ++ kept i)

  -- none was let go, and these were added
  pub more_journal : (more : List Entry) → new.past ≡ old.past → new.journal.items ≡ old.journal.items ++ more → journal_in new ≡ journal_in old ++ more
  more_journal more past kept = (λ i. told_of (past i).entries ++ kept i) ∙ sym (append_assoc (past_in old) old.journal.items more)

  pub nothing_journal : AddsNothing old new → journal_in new ≡ journal_in old
  nothing_journal nothing = same_journal nothing.past nothing.journal

  pub same_past : new.past ≡ old.past → past_in new ≡ past_in old
  same_past past = ap (λ (it : Past). told_of it.entries) past

  -- where all that is kept was let go the same is served
  pub forgets_seen : (start : Start D F g) (stopped : Option ℕ) → Forgets old new → seen start stopped new ≡ seen start stopped old
  forgets_seen start stopped is =
      (λ i. record {
        number = start.number;
        opened = view start.space.value.parts;
        view = view ((is.store.space i).parts);
        frozen = frozen_of ((is.store.space i).parts);
        saving = saving (is.store.saver i);
        journal = is.journal i;
        course = told_before (is.course i);
        watches = (is.watches i).items;
        events = is.events i;
        steps = is.steps i;
        stopped = stopped;
      })

-- where nothing is in a journal none of it was let go
pub front_none : (past kept : List Entry) → past ++ kept ≡ [] → past ≡ []
front_none [] kept none = refl
front_none (entry ∷ past) kept none = absurd (cc none)

-- where none was let go the entries that are kept are the whole journal
pub whole_kept : (journal past kept : List Entry) → past ≡ [] → journal ≡ past ++ kept → kept ≡ journal
whole_kept journal past kept none is = sym (is ∙ ap (λ (entries : List Entry). entries ++ kept) none)

-- that none was let go holds as soon as it is known to hold in some way
pub none_known : (past : List Entry) → ∥ past ≡ [] ∥₁ → past ≡ []
none_known [] known = refl
none_known (entry ∷ past) known = absurd (∥∥₁_elim known ⊥_prop (λ is. cc is))
