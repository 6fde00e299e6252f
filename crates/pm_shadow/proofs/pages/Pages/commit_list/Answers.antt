use Rattle.pm_shadow.specs.Uses.{use_of}
use Rattle.pm_shadow.specs.Pages.{state}
use Rattle.pm_shadow.proofs.SoundLemmas.{sound_listed}
use Rattle.pm_shadow.proofs.CopyLemmas.{listed_keeps}
use Rattle.pm_shadow.proofs.pages.Pages.commit_list.Goals as goal

pub listing-requires : goal.listing-requires
listing-requires g c k d lt = (c.requires.there k d lt).from_2

pub invariant_of-self : goal.invariant_of-self
invariant_of-self g c =
    let it = c.args.self.now in
    record {
      is_slot = it.is_slot;
      few = it.few;
      spelled = it.spelled;
      within = it.within;
      begun = λ unknown. absurd (cc);
      unused = λ unknown. absurd (cc);
      sound = λ fine bytes told. sound_listed (state it) (use_of c.in_ok-table.table.uses.items) bytes (g.D.Disk.image it.disk) c.requires.unknown (it.unused c.requires.unknown) (it.sound fine bytes told);
    }

pub returns-clause-keeps : goal.returns-clause-keeps
returns-clause-keeps g c bytes told =
    listed_keeps (state c.args.self.now) (use_of c.in_ok-table.table.uses.items) bytes c.args.pages.now (c.requires.used bytes told) c.requires.there c.in_ok-table.ensures
