use Rattle.std.proofs.Common.{ap}
use Rattle.pm_shadow.specs.Uses.{use_of}
use Rattle.pm_shadow.specs.State.{with_uses}
use Rattle.pm_shadow.specs.Pages.{state}
use Rattle.pm_shadow.proofs.SoundLemmas.{sound_either}
use Rattle.pm_shadow.proofs.pages.Pages.claim.Goals as goal

pub invariant_of-self : goal.invariant_of-self
invariant_of-self g c =
    let it = c.args.self.now in
    record {
      is_slot = it.is_slot;
      few = it.few;
      spelled = it.spelled;
      within = it.within;
      begun = λ unknown. (let known = c.requires in absurd (cc (known, unknown)));
      unused = λ unknown. (let known = c.requires in absurd (cc (known, unknown)));
      sound = λ fine bytes told. sound_either (state it) c.claim.result (use_of c.claim.new.self.uses.items) bytes (g.D.Disk.image it.disk) c.claim.ensures.claimed c.claim.ensures.err (it.sound fine bytes told);
    }

pub returns-clause-state : goal.returns-clause-state
returns-clause-state g c = ap (with_uses (state c.args.self.now)) c.in_ok-page.ensures.claimed
