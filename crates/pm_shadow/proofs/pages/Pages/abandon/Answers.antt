use Rattle.std.proofs.Common.{ℕ, ap, sym, subst, ◌∙◌}
use Rattle.pm_shadow.specs.declared.page_use.PageUse.{PageUse}
use Rattle.pm_shadow.specs.State.{with_uses}
use Rattle.pm_shadow.specs.Images.{IsSoundState}
use Rattle.pm_shadow.specs.Pages.{state}
use Rattle.pm_shadow.proofs.TableLemmas.{none_abandoned}
use Rattle.pm_shadow.proofs.SoundLemmas.{sound_abandoned}
use Rattle.pm_shadow.proofs.pages.Pages.abandon.Goals as goal

pub invariant_of-self : goal.invariant_of-self
invariant_of-self g c =
    let it = c.args.self.now in
    record {
      is_slot = it.is_slot;
      few = it.few;
      spelled = it.spelled;
      within = it.within;
      begun = it.begun;
      unused = λ unknown. c.abandon.ensures ∙ none_abandoned (state it).uses (it.unused unknown);
      sound = λ fine bytes told.
          subst (λ (u : ℕ → PageUse). IsSoundState (with_uses (state it) u) bytes (g.D.Disk.image it.disk)) (sym c.abandon.ensures)
          (sound_abandoned (state it) bytes (g.D.Disk.image it.disk) it.unused (it.sound fine bytes told));
    }

pub returns-clause-state : goal.returns-clause-state
returns-clause-state g c = ap (with_uses (state c.args.self.now)) c.abandon.ensures
