use Rattle.pm_young_cases.proofs.lines.push_served.Goals as goal

pub invariant_of-engine : goal.invariant_of-engine
invariant_of-engine g c = record { kept = c.push_lines.new.engine.works.saver.writer.kept }
