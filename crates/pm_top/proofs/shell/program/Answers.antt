use Rattle.pm_top.proofs.shell.program.Goals as goal

pub returns-clause-performs : goal.returns-clause-performs
returns-clause-performs g c =
    let e = c.pmos-ended.ensures in
    record {
      is_status = e.status;
      usage = e.usage;
      refused = e.refused;
      untouched = e.untouched;
      causes = e.causes;
      other_causes = e.other_causes;
      does = e.does;
      complete = e.complete;
      ships = e.ships;
      ship_complete = e.ship_complete;
    }
