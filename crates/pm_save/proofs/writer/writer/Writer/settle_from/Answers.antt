use Rattle.std.proofs.Common.{rules, Some, refl}
use Rattle.pm_shadow.specs.Images.{shutting}
use Rattle.pm_shadow.specs.Pages.{state, disk_of}
use Rattle.pm_saving.specs.Paging.{left_of}
use Rattle.pm_save.proofs.WriterLemmas.FrozenCars.{some_begun}
use Rattle.pm_save.specs.Writer.Shown.{writing}
use Rattle.pm_save.proofs.WriterLemmas.SettleLemmas.{all_written, is_shut, either_of, gate_calls, gate_either, gate_most, header_whole, is_written, left_by, once_in, placed_in, publish_either, publish_most, publishable, settle_made, settles_by, stands_by, tied_by, wider}
use Rattle.std.proofs.lemmas.Result.{err_from_is_err_and}
use Rattle.pm_save.proofs.WriterLemmas.RunLemmas.{runs_on, tells_then}
use Rattle.pm_save.proofs.writer.writer.Writer.settle_from.Goals as goal

pub write_rest-requires-clause-begun : goal.write_rest-requires-clause-begun
write_rest-requires-clause-begun g c = some_begun (writing c.args.self.now).settled (writing c.args.self.now).progress (g.C.Frozen.cars c.args.frozen.now) (state c.args.pages.now).header.epoch c.requires.tied.begun

pub returns-in_err-write_rest-clause-leaves : goal.returns-in_err-write_rest-clause-leaves
returns-in_err-write_rest-clause-leaves g c =
    either_of g.D.Disk.contents g.D.Disk.moment g.D.Disk.since (writing c.args.self.now).progress (g.C.Frozen.cars c.args.frozen.now) (state c.args.pages.now) (disk_of c.args.pages.now) (disk_of c.write_rest.new.pages)
    c.write_rest.ensures.spares

pub returns-in_err-close_gate-clause-leaves : goal.returns-in_err-close_gate-clause-leaves
returns-in_err-close_gate-clause-leaves g c =
    let self = c.write_rest.new.self in
    let rest = c.write_rest.new.pages in
    let all = all_written (Some (g.C.Frozen.cars c.args.frozen.now)) (writing c.args.self.now) (writing self) (state c.args.pages.now) (disk_of c.args.pages.now) rest
    c.in_ok-write_rest.ensures.run c.in_ok-write_rest.ensures.none c.write_rest.ensures.spares c.write_rest.ensures.told in
    gate_either all (disk_of c.close_gate.new.pages) c.close_gate.ensures.leaves

pub publish-requires : goal.publish-requires
publish-requires g c =
    let self = c.write_rest.new.self in
    let rest = c.write_rest.new.pages in
    let all = all_written (Some (g.C.Frozen.cars c.args.frozen.now)) (writing c.args.self.now) (writing self) (state c.args.pages.now) (disk_of c.args.pages.now) rest
    c.in_ok-write_rest.ensures.run c.in_ok-write_rest.ensures.none c.write_rest.ensures.spares c.write_rest.ensures.told in
    let gate = c.close_gate.new.pages in
    let shut = is_shut (state rest) (disk_of rest) gate all.runs.run.tied.sound c.in_ok-close_gate.ensures.state c.in_ok-close_gate.ensures.closes c.in_ok-close_gate.ensures.written c.close_gate.ensures.leaves c.close_gate.ensures.told
    (g.met.D.Disk.leaves_bytes (disk_of gate)) (g.met.D.Disk.counts_now (disk_of gate)) (g.met.D.Disk.contents_stay (disk_of gate)) in
    let header = c.header_in-header.result in
    let header_is = header_whole self.settled.items self.progress c.in-Some.it header _ self.kept c.in-Some.is c.in_ok-write_rest.ensures.none c.header_in-header.ensures (is_written all) in
    publishable all shut header header_is

pub returns-in_err-publish-clause-leaves : goal.returns-in_err-publish-clause-leaves
returns-in_err-publish-clause-leaves g c =
    let self = c.write_rest.new.self in
    let rest = c.write_rest.new.pages in
    let all = all_written (Some (g.C.Frozen.cars c.args.frozen.now)) (writing c.args.self.now) (writing self) (state c.args.pages.now) (disk_of c.args.pages.now) rest
    c.in_ok-write_rest.ensures.run c.in_ok-write_rest.ensures.none c.write_rest.ensures.spares c.write_rest.ensures.told in
    let gate = c.close_gate.new.pages in
    let shut = is_shut (state rest) (disk_of rest) gate all.runs.run.tied.sound c.in_ok-close_gate.ensures.state c.in_ok-close_gate.ensures.closes c.in_ok-close_gate.ensures.written c.close_gate.ensures.leaves c.close_gate.ensures.told
    (g.met.D.Disk.leaves_bytes (disk_of gate)) (g.met.D.Disk.counts_now (disk_of gate)) (g.met.D.Disk.contents_stay (disk_of gate)) in
    let header = c.header_in-header.result in
    let header_is = header_whole self.settled.items self.progress c.in-Some.it header _ self.kept c.in-Some.is c.in_ok-write_rest.ensures.none c.header_in-header.ensures (is_written all) in
    publish_either all shut header (disk_of c.publish.new.pages) header_is c.publish.ensures.leaves

pub finish-requires-clause-placed : goal.finish-requires-clause-placed
finish-requires-clause-placed g c =
    let self = c.write_rest.new.self in
    placed_in self.settled.items self.progress self.kept c.in_ok-write_rest.ensures.none

pub finish-requires-clause-once : goal.finish-requires-clause-once
finish-requires-clause-once g c =
    let self = c.write_rest.new.self in
    once_in self.settled.items self.progress (Some (g.C.Frozen.cars c.args.frozen.now)) (state c.write_rest.new.pages).header.epoch self.kept c.in_ok-write_rest.ensures.run.run.tied.begun

pub returns-clause-settled : goal.returns-clause-settled
returns-clause-settled g c =
    let self = c.write_rest.new.self in
    let rest = c.write_rest.new.pages in
    let all = all_written (Some (g.C.Frozen.cars c.args.frozen.now)) (writing c.args.self.now) (writing self) (state c.args.pages.now) (disk_of c.args.pages.now) rest
    c.in_ok-write_rest.ensures.run c.in_ok-write_rest.ensures.none c.write_rest.ensures.spares c.write_rest.ensures.told in
    let gate = c.close_gate.new.pages in
    let shut = is_shut (state rest) (disk_of rest) gate all.runs.run.tied.sound c.in_ok-close_gate.ensures.state c.in_ok-close_gate.ensures.closes c.in_ok-close_gate.ensures.written c.close_gate.ensures.leaves c.close_gate.ensures.told
    (g.met.D.Disk.leaves_bytes (disk_of gate)) (g.met.D.Disk.counts_now (disk_of gate)) (g.met.D.Disk.contents_stay (disk_of gate)) in
    let header = c.header_in-header.result in
    let header_is = header_whole self.settled.items self.progress c.in-Some.it header _ self.kept c.in-Some.is c.in_ok-write_rest.ensures.none c.header_in-header.ensures (is_written all) in
    let done = c.in_ok-publish.ensures in
    let t = state c.publish.new.pages in
    let last = disk_of c.publish.new.pages in
    let made = c.in_ok-write_rest.ensures.made.done in
    record {
      settles = settles_by all shut header t last header_is done.state done.publishes (writing c.finish.new.self) done.written c.finish.ensures;
      now = stands_by all shut header t last header_is done.state done.publishes g.D.Disk.image c.publish.ensures.told done.only;
      made = settle_made (left_of (writing c.args.self.now).progress) (shutting (state c.args.pages.now)) (shutting (state rest)) (gate_calls (state c.args.pages.now) (state rest) all.runs.run.closed)
          (g.D.Disk.made (disk_of c.args.pages.now)) (g.D.Disk.made (disk_of rest)) (g.D.Disk.made (disk_of gate)) (g.D.Disk.made last) made c.in_ok-close_gate.ensures.made.done done.made.done;
    }

pub returns-clause-leaves : goal.returns-clause-leaves
returns-clause-leaves g c =
    let self = c.write_rest.new.self in
    let rest = c.write_rest.new.pages in
    let all = all_written (Some (g.C.Frozen.cars c.args.frozen.now)) (writing c.args.self.now) (writing self) (state c.args.pages.now) (disk_of c.args.pages.now) rest
    c.in_ok-write_rest.ensures.run c.in_ok-write_rest.ensures.none c.write_rest.ensures.spares c.write_rest.ensures.told in
    let gate = c.close_gate.new.pages in
    let shut = is_shut (state rest) (disk_of rest) gate all.runs.run.tied.sound c.in_ok-close_gate.ensures.state c.in_ok-close_gate.ensures.closes c.in_ok-close_gate.ensures.written c.close_gate.ensures.leaves c.close_gate.ensures.told
    (g.met.D.Disk.leaves_bytes (disk_of gate)) (g.met.D.Disk.counts_now (disk_of gate)) (g.met.D.Disk.contents_stay (disk_of gate)) in
    let header = c.header_in-header.result in
    let header_is = header_whole self.settled.items self.progress c.in-Some.it header _ self.kept c.in-Some.is c.in_ok-write_rest.ensures.none c.header_in-header.ensures (is_written all) in
    publish_either all shut header (disk_of c.publish.new.pages) header_is c.publish.ensures.leaves

pub returns-clause-tied : goal.returns-clause-tied
returns-clause-tied g c =
    let self = c.write_rest.new.self in
    let rest = c.write_rest.new.pages in
    let all = all_written (Some (g.C.Frozen.cars c.args.frozen.now)) (writing c.args.self.now) (writing self) (state c.args.pages.now) (disk_of c.args.pages.now) rest
    c.in_ok-write_rest.ensures.run c.in_ok-write_rest.ensures.none c.write_rest.ensures.spares c.write_rest.ensures.told in
    let gate = c.close_gate.new.pages in
    let shut = is_shut (state rest) (disk_of rest) gate all.runs.run.tied.sound c.in_ok-close_gate.ensures.state c.in_ok-close_gate.ensures.closes c.in_ok-close_gate.ensures.written c.close_gate.ensures.leaves c.close_gate.ensures.told
    (g.met.D.Disk.leaves_bytes (disk_of gate)) (g.met.D.Disk.counts_now (disk_of gate)) (g.met.D.Disk.contents_stay (disk_of gate)) in
    let header = c.header_in-header.result in
    let header_is = header_whole self.settled.items self.progress c.in-Some.it header _ self.kept c.in-Some.is c.in_ok-write_rest.ensures.none c.header_in-header.ensures (is_written all) in
    let done = c.in_ok-publish.ensures in
    let t = state c.publish.new.pages in
    let last = disk_of c.publish.new.pages in
    tied_by all shut header t last header_is done.state done.publishes (writing c.finish.new.self) c.finish.ensures

pub returns-in_err-close_gate-clause-goes : goal.returns-in_err-close_gate-clause-goes
returns-in_err-close_gate-clause-goes g c =
    let on = runs_on (Some (g.C.Frozen.cars c.args.frozen.now)) (g.C.Frozen.cars c.args.frozen.now) (writing c.args.self.now) (writing c.write_rest.new.self) (writing c.write_rest.new.self) (state c.args.pages.now) (state c.write_rest.new.pages)
    (g.D.Disk.contents (disk_of c.args.pages.now)) (g.D.Disk.contents (disk_of c.write_rest.new.pages)) c.in_ok-write_rest.ensures.run refl in
    search (rules, on)

pub returns-in_err-publish-clause-goes : goal.returns-in_err-publish-clause-goes
returns-in_err-publish-clause-goes g c =
    let on = runs_on (Some (g.C.Frozen.cars c.args.frozen.now)) (g.C.Frozen.cars c.args.frozen.now) (writing c.args.self.now) (writing c.write_rest.new.self) (writing c.write_rest.new.self) (state c.args.pages.now) (state c.write_rest.new.pages)
    (g.D.Disk.contents (disk_of c.args.pages.now)) (g.D.Disk.contents (disk_of c.write_rest.new.pages)) c.in_ok-write_rest.ensures.run refl in
    search (rules, on)

pub returns-in_err-write_rest-clause-memory : goal.returns-in_err-write_rest-clause-memory
returns-in_err-write_rest-clause-memory g c =
    let p = err_from_is_err_and c.from_residual.result c.from_residual.ensures.1 in
    rw (p.1, p.2) (left_by g.D.Disk.contents g.D.Disk.moment g.D.Disk.since (Some (g.C.Frozen.cars c.args.frozen.now)) (g.C.Frozen.cars c.args.frozen.now) (writing c.args.self.now) (writing c.write_rest.new.self) (state c.args.pages.now) (state c.write_rest.new.pages)
    (disk_of c.args.pages.now) (disk_of c.write_rest.new.pages) c.in_err-write_rest.field-0.0 c.in_err-write_rest.ensures.run c.in_err-write_rest.ensures.fault c.in_err-write_rest.ensures.left c.write_rest.ensures.spares)

pub returns-in_err-write_rest-clause-causes : goal.returns-in_err-write_rest-clause-causes
returns-in_err-write_rest-clause-causes g c =
    let rest = c.write_rest.new.pages in
    let l = left_of (writing c.args.self.now).progress in
    let n = shutting (state c.args.pages.now) in
    record { cause = search rules; made = wider l n (g.D.Disk.made (disk_of c.args.pages.now)) (g.D.Disk.made (disk_of rest)) c.write_rest.ensures.made.most; told = c.write_rest.ensures.told }

pub returns-in_err-close_gate-clause-causes : goal.returns-in_err-close_gate-clause-causes
returns-in_err-close_gate-clause-causes g c =
    let self = c.write_rest.new.self in
    let rest = c.write_rest.new.pages in
    let all = all_written (Some (g.C.Frozen.cars c.args.frozen.now)) (writing c.args.self.now) (writing self) (state c.args.pages.now) (disk_of c.args.pages.now) rest
    c.in_ok-write_rest.ensures.run c.in_ok-write_rest.ensures.none c.write_rest.ensures.spares c.write_rest.ensures.told in
    let l = left_of (writing c.args.self.now).progress in
    let n = shutting (state c.args.pages.now) in
    let k = shutting (state rest) in
    let same = gate_calls (state c.args.pages.now) (state rest) all.runs.run.closed in
    record {
      cause = search rules;
      made = gate_most l n k same (g.D.Disk.made (disk_of c.args.pages.now)) (g.D.Disk.made (disk_of rest)) (g.D.Disk.made (disk_of c.close_gate.new.pages)) (g.D.Disk.made (disk_of c.close_gate.new.pages)) c.in_ok-write_rest.ensures.made.done c.close_gate.ensures.made.most;
      told = tells_then (g.D.Disk.contents (disk_of c.args.pages.now)) (g.D.Disk.contents (disk_of rest)) (g.D.Disk.contents (disk_of c.close_gate.new.pages)) c.write_rest.ensures.told c.close_gate.ensures.told;
    }

pub returns-in_err-publish-clause-causes : goal.returns-in_err-publish-clause-causes
returns-in_err-publish-clause-causes g c =
    let self = c.write_rest.new.self in
    let rest = c.write_rest.new.pages in
    let all = all_written (Some (g.C.Frozen.cars c.args.frozen.now)) (writing c.args.self.now) (writing self) (state c.args.pages.now) (disk_of c.args.pages.now) rest
    c.in_ok-write_rest.ensures.run c.in_ok-write_rest.ensures.none c.write_rest.ensures.spares c.write_rest.ensures.told in
    let l = left_of (writing c.args.self.now).progress in
    let n = shutting (state c.args.pages.now) in
    let k = shutting (state rest) in
    let same = gate_calls (state c.args.pages.now) (state rest) all.runs.run.closed in
    record {
      cause = search rules;
      made = publish_most l n k same (g.D.Disk.made (disk_of c.args.pages.now)) (g.D.Disk.made (disk_of rest)) (g.D.Disk.made (disk_of c.close_gate.new.pages)) (g.D.Disk.made (disk_of c.publish.new.pages)) c.in_ok-write_rest.ensures.made.done c.in_ok-close_gate.ensures.made.done c.publish.ensures.made.most;
      told = tells_then (g.D.Disk.contents (disk_of c.args.pages.now)) (g.D.Disk.contents (disk_of c.close_gate.new.pages)) (g.D.Disk.contents (disk_of c.publish.new.pages)) (tells_then (g.D.Disk.contents (disk_of c.args.pages.now)) (g.D.Disk.contents (disk_of rest)) (g.D.Disk.contents (disk_of c.close_gate.new.pages)) c.write_rest.ensures.told c.close_gate.ensures.told) c.publish.ensures.told;
    }

pub returns-clause-causes : goal.returns-clause-causes
returns-clause-causes g c =
    let self = c.write_rest.new.self in
    let rest = c.write_rest.new.pages in
    let all = all_written (Some (g.C.Frozen.cars c.args.frozen.now)) (writing c.args.self.now) (writing self) (state c.args.pages.now) (disk_of c.args.pages.now) rest
    c.in_ok-write_rest.ensures.run c.in_ok-write_rest.ensures.none c.write_rest.ensures.spares c.write_rest.ensures.told in
    let l = left_of (writing c.args.self.now).progress in
    let n = shutting (state c.args.pages.now) in
    let k = shutting (state rest) in
    let same = gate_calls (state c.args.pages.now) (state rest) all.runs.run.closed in
    record {
      cause = search rules;
      made = publish_most l n k same (g.D.Disk.made (disk_of c.args.pages.now)) (g.D.Disk.made (disk_of rest)) (g.D.Disk.made (disk_of c.close_gate.new.pages)) (g.D.Disk.made (disk_of c.publish.new.pages)) c.in_ok-write_rest.ensures.made.done c.in_ok-close_gate.ensures.made.done c.publish.ensures.made.most;
      told = tells_then (g.D.Disk.contents (disk_of c.args.pages.now)) (g.D.Disk.contents (disk_of c.close_gate.new.pages)) (g.D.Disk.contents (disk_of c.publish.new.pages)) (tells_then (g.D.Disk.contents (disk_of c.args.pages.now)) (g.D.Disk.contents (disk_of rest)) (g.D.Disk.contents (disk_of c.close_gate.new.pages)) c.write_rest.ensures.told c.close_gate.ensures.told) c.publish.ensures.told;
    }
