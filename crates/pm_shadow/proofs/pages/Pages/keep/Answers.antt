use Rattle.std.proofs.Common.{ℕ, ap, sym, subst}
use Rattle.pm_shadow.specs.declared.page_use.PageUse.{PageUse}
use Rattle.pm_shadow.specs.State.{with_uses}
use Rattle.pm_shadow.specs.Images.{IsSoundState}
use Rattle.pm_shadow.specs.Pages.{state}
use Rattle.pm_shadow.proofs.SoundLemmas.{sound_kept, known_current}
use Rattle.pm_shadow.proofs.pages.Pages.keep.Goals as goal

pub keep-requires-clause-from_2 : goal.keep-requires-clause-from_2
keep-requires-clause-from_2 g c = c.requires.from_2

pub keep-requires-clause-current : goal.keep-requires-clause-current
keep-requires-clause-current g c = known_current (state c.args.self.now) c.args.page c.requires

pub invariant_of-self : goal.invariant_of-self
invariant_of-self g c =
    let it = c.args.self.now in
    record {
      is_slot = it.is_slot;
      few = it.few;
      spelled = it.spelled;
      within = it.within;
      begun = λ unknown. (let known = c.requires.known in absurd (cc (known, unknown)));
      unused = λ unknown. (let known = c.requires.known in absurd (cc (known, unknown)));
      sound = λ fine bytes told.
          subst (λ (u : ℕ → PageUse). IsSoundState (with_uses (state it) u) bytes (g.D.Disk.image it.disk)) (sym c.keep.ensures)
          (sound_kept (state it) c.args.page bytes (g.D.Disk.image it.disk) c.requires.kept (it.sound fine bytes told));
    }

pub returns-clause-state : goal.returns-clause-state
returns-clause-state g c = ap (with_uses (state c.args.self.now)) c.keep.ensures
