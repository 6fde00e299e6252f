use Rattle.std.proofs.Common.{◌∙◌, ◌≤◌, List, length, nat_eq, sym, ap, subst, arith, Result}
use Rattle.std.proofs.lemmas.List.Splits.{length-slice_split}
use Rattle.pm_script.specs.declared.fault.ScriptFault.{ScriptFault}
use Rattle.pm_script.specs.Lines.{lines_of}
use Rattle.pm_script.specs.Reading.{Tells, body_at, lines_at}
use Rattle.pm_script.proofs.Readings.{script_many, script_few}
use Rattle.pm_script.proofs.lines.read_all.Goals as goal

pub returns-then-ended-ge-SCRIPT_LINES : goal.returns-then-ended-ge-SCRIPT_LINES
returns-then-ended-ge-SCRIPT_LINES g c =
    let count = length-slice_split (λ b. nat_eq b 10) c.last_unended-bytes.result.now in
    let same = ap length c.last_unended-bytes.ensures in
    script_many (body_at g.L.Said.dialect g.L.Said.asked) c.args.bytes.now (omega (arith, count, same, c.count_byte-ended.ensures, c.if-ended-ge-SCRIPT_LINES.true))

pub read_lines-requires : goal.read_lines-requires
read_lines-requires g c =
    let count = length-slice_split (λ b. nat_eq b 10) c.last_unended-bytes.result.now in
    omega (arith, count, c.count_byte-ended.ensures, c.if-ended-ge-SCRIPT_LINES.false)

pub returns : goal.returns
returns g c =
    let count = length-slice_split (λ b. nat_eq b 10) c.last_unended-bytes.result.now in
    let same = ap length c.last_unended-bytes.ensures in
    let few : length (lines_of c.args.bytes.now) ≤ 65536 = omega (arith, count, same, c.count_byte-ended.ensures, c.if-ended-ge-SCRIPT_LINES.false) in
    let read = body_at g.L.Said.dialect g.L.Said.asked in
    subst (λ (r : Result (List _) ScriptFault). Tells (λ lines. lines.items) c.read_lines.result r) (ap (lines_at read 1) c.last_unended-bytes.ensures ∙ sym (script_few read c.args.bytes.now few)) c.read_lines.ensures
