use Rattle.std.specs.Prelude.{option_map}
use Rattle.pm_save.specs.Progress.Seen.{progress_seen}
use Rattle.pm_save.proofs.WriterLemmas.BeginLemmas.{begins, copied, tied}
use Rattle.pm_save.proofs.writer.writer.Writer.begin_listed.Goals as goal

pub returns-clause-begun : goal.returns-clause-begun
returns-clause-begun c list planned =
    let self = c.args.self.now in
    let settled = self.settled.items in
    begins settled (option_map (progress_seen settled) self.progress) list c.args.roots.items c.args.next_id c.args.number c.args.cars.items c.in_ok-progress.progress c.in_ok-progress.ensures.started planned

pub returns-clause-copy : goal.returns-clause-copy
returns-clause-copy c list frozen planned are =
    let self = c.args.self.now in
    let settled = self.settled.items in
    copied settled (option_map (progress_seen settled) self.progress) list c.args.roots.items c.args.next_id c.args.number c.args.cars.items c.in_ok-progress.progress c.in_ok-progress.ensures.started planned
    frozen c.a_listed_copy_begins_beside_the_settled_one.ensures.copy are

pub returns-clause-tied : goal.returns-clause-tied
returns-clause-tied c list frozen s contents planned are accepted later had =
    let self = c.args.self.now in
    let settled = self.settled.items in
    tied settled (option_map (progress_seen settled) self.progress) list c.args.roots.items c.args.next_id c.args.number c.args.cars.items c.in_ok-progress.progress c.in_ok-progress.ensures.started planned
    frozen s contents c.a_listed_copy_begins_beside_the_settled_one.ensures.tied accepted are c.requires.names c.ranges.number.fits later had

pub invariant_of-self : goal.invariant_of-self
invariant_of-self c = record { kept = c.in_ok-progress.ensures.kept c.args.self.now.settled.items c.requires.within }
