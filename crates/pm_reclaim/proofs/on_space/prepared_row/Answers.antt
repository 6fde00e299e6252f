use Rattle.pm_reclaim.proofs.on_space.prepared_row.Goals as goal

pub invariant_of-space : goal.invariant_of-space
invariant_of-space g c = record {
  kept = c.next_row-row.new.space.kept;
  still = c.quiet_once_made-quiet.ensures.kept;
  sole = c.moved_once_made-moved.ensures.kept;
}

pub returns-clause-kept : goal.returns-clause-kept
returns-clause-kept g c = record {
  still = c.quiet_once_made-quiet.ensures.made;
  sole = c.moved_once_made-moved.ensures.made;
}
