use Rattle.std.proofs.Common.{refl, arith}
use Rattle.pm_shadow.specs.Tables.{uses_in}
use Rattle.pm_shadow.proofs.NewLemmas.{fresh_is, fresh_sound, fresh_spelled}
use Rattle.pm_shadow.proofs.pages.Pages.fresh.Goals as goal

pub invariant_of-result : goal.invariant_of-result
invariant_of-result g c =
    let d = g.D.Disk in
    record {
      is_slot = omega arith;
      few = omega arith;
      spelled = fresh_spelled c.args.header c.requires.header;
      within = omega arith;
      begun = λ unknown. refl;
      unused = λ unknown. absurd (cc);
      sound = λ fine bytes told.
          fresh_sound c.args.header (uses_in c.args.table) bytes (d.image c.args.disk) c.requires.header c.requires.table (c.requires.blank bytes told) (λ left now. c.requires.only bytes left told now);
    }

pub returns-clause-state : goal.returns-clause-state
returns-clause-state g c = fresh_is c.args.header (uses_in c.args.table) c.requires.header c.requires.table
