use Rattle.std.proofs.Common.{ℕ, ap, refl, sym, subst, arith}
use Rattle.pm_shadow.specs.declared.page_use.PageUse.{PageUse}
use Rattle.pm_shadow.specs.State.{attached, with_uses}
use Rattle.pm_shadow.specs.Images.{IsSoundState}
use Rattle.pm_shadow.proofs.AttachLemmas.{sound_found}
use Rattle.pm_shadow.proofs.pages.Pages.found.Goals as goal

pub invariant_of-result : goal.invariant_of-result
invariant_of-result g c =
    let found = c.args.found in
    record {
      is_slot = c.requires.slot;
      few = c.requires.count;
      spelled = c.requires.spelled;
      within = omega arith;
      begun = λ unknown. refl;
      unused = λ unknown. c.new.ensures;
      sound = λ fine bytes told.
          subst (λ (u : ℕ → PageUse). IsSoundState (with_uses (attached found.slot found.header found.count found.closed) u) bytes (g.D.Disk.image c.args.disk)) (sym c.new.ensures)
          (sound_found found bytes (g.D.Disk.image c.args.disk) (c.requires.sound bytes told));
    }

pub returns-clause-state : goal.returns-clause-state
returns-clause-state g c = let found = c.args.found in ap (with_uses (attached found.slot found.header found.count found.closed)) c.new.ensures
