use Rattle.std.proofs.Common.{◌≡◌, arith, true, false, ◌++◌, Result, Ok, Err, OnErr, ap, sym, ◌∙◌}
use Rattle.pm_model.specs.Journal.{says_saved}
use Rattle.pm_model.specs.Text.{reply_line}
use Rattle.pm_serial.specs.Output.Gathered.{gathered}
use Rattle.pm_serial.specs.Output.Writing.{IsNear, PutsPart}
use Rattle.pm_serial.proofs.OutputLemmas.Gathering.{gathered_line, gathered_within, near_behind, near_part, part_longer}
use Rattle.pm_serial.proofs.Gathering.{some_then}
use Rattle.pm_serial.proofs.Acknowledging.{goes_all, other_reply, told_all}
use Rattle.pm_serial.proofs.telling.tell_reply.Goals as goal

on_err : {T E : Type 0} (P Q : Type 0) (result : Result T E) → (P → Q) → OnErr result P → OnErr result Q
on_err P Q (Ok x) goes p = tt
on_err P Q (Err e) goes p = goes p

where_failed : {T E : Type 0} (P : Type 0) (result : Result T E) → P → OnErr result P
where_failed P (Ok x) p = tt
where_failed P (Err e) p = p

pub returns-in_err-add_reply-clause-part : goal.returns-in_err-add_reply-clause-part
returns-in_err-add_reply-clause-part g c =
    where_failed (PutsPart (g.K.Sink.written c.args.sink.now) (g.K.Sink.written c.add_reply.new.sink) (gathered c.args.output.now ++ reply_line c.args.entry.now)) c.from_residual.result
    (part_longer (reply_line c.args.entry.now) (g.K.Sink.written c.args.sink.now) (g.K.Sink.written c.add_reply.new.sink) (gathered c.args.output.now) c.in_err-add_reply.ensures.part)

pub returns-in-Saved-clause-adds : goal.returns-in-Saved-clause-adds
returns-in-Saved-clause-adds g c =
    goes_all (reply_line c.args.entry.now) (g.K.Sink.written c.args.sink.now) (g.K.Sink.written c.add_reply.new.sink) (g.K.Sink.written c.finish.new.sink) (gathered c.args.output.now) (gathered c.add_reply.new.self) (gathered c.finish.new.self)
    c.finish.result c.in_ok-add_reply.ensures.adds c.finish.ensures.all c.finish.ensures.empty

pub returns-in-Saved-clause-part : goal.returns-in-Saved-clause-part
returns-in-Saved-clause-part g c =
    let written = g.K.Sink.written in
    on_err (PutsPart (written c.add_reply.new.sink) (written c.finish.new.sink) (gathered c.add_reply.new.self)) (PutsPart (written c.args.sink.now) (written c.finish.new.sink) (gathered c.args.output.now ++ reply_line c.args.entry.now)) c.finish.result
    (some_then (reply_line c.args.entry.now) (written c.args.sink.now) (written c.add_reply.new.sink) (written c.finish.new.sink) (gathered c.args.output.now) (gathered c.add_reply.new.self) c.in_ok-add_reply.ensures.adds) c.finish.ensures.part

pub returns-in-Saved-clause-saved : goal.returns-in-Saved-clause-saved
returns-in-Saved-clause-saved g c says =
    told_all g.K.Sink (reply_line c.args.entry.now) c.args.sink.now c.add_reply.new.sink c.finish.new.sink (gathered c.args.output.now) (gathered c.add_reply.new.self) (gathered c.finish.new.self)
    c.finish.result c.in_ok-add_reply.ensures.adds c.finish.ensures.all c.finish.ensures.empty c.finish.ensures.finished

pub returns-in-Saved-clause-other : goal.returns-in-Saved-clause-other
returns-in-Saved-clause-other g c other = absurd (let never : true ≡ false = ap says_saved (sym c.in-Saved.is) ∙ other in cc never)

pub returns-in_default-clause-saved : goal.returns-in_default-clause-saved
returns-in_default-clause-saved g c says = absurd (let never : false ≡ true = sym (other_reply c.args.entry.now.reply c.in_default.not-Saved) ∙ says in cc never)

pub returns-in_err-add_reply-clause-near : goal.returns-in_err-add_reply-clause-near
returns-in_err-add_reply-clause-near g c =
    let line = reply_line c.args.entry.now in
    let old = gathered c.args.output.now in
    let told = g.K.Sink.written c.args.sink.now in
    let now = g.K.Sink.written c.add_reply.new.sink in
    where_failed (IsNear told now (old ++ line)) c.from_residual.result
    (near_part (old ++ line) told now (gathered_line c.args.output.now line c.reply_lines_are_short.ensures) (part_longer line told now old c.in_err-add_reply.ensures.part))

pub returns-in-Saved-clause-near : goal.returns-in-Saved-clause-near
returns-in-Saved-clause-near g c =
    let line = reply_line c.args.entry.now in
    let told = g.K.Sink.written c.args.sink.now in
    let mid = g.K.Sink.written c.add_reply.new.sink in
    let now = g.K.Sink.written c.finish.new.sink in
    let later = gathered c.add_reply.new.self in
    let within = gathered_within c.add_reply.new.self in
    on_err (PutsPart mid now later) (IsNear told now (gathered c.args.output.now ++ line)) c.finish.result
    (λ part. near_behind line told mid now (gathered c.args.output.now) later c.in_ok-add_reply.ensures.adds (near_part later mid now (omega (arith, within)) part)) c.finish.ensures.part
