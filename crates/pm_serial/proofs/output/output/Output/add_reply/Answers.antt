use Rattle.std.proofs.Common.{length, ap, sym, ◌∙◌}
use Rattle.std.proofs.lemmas.List.{with_items_is}
use Rattle.pm_serial.proofs.OutputLemmas.Gathering.{gathered_in, goes_on}
use Rattle.pm_serial.proofs.output.output.Output.add_reply.Goals as goal

pub returns-clause-adds : goal.returns-clause-adds
returns-clause-adds g c =
    let mid = c.make_room.new.self in
    let lent = c.deref_mut.ensures.value in
    goes_on _ _ _ _ _ _ c.in_ok-make_room.ensures.adds
    (gathered_in mid.used _ _ c.put_line.new.bytes _ mid.bytes.items _ (with_items_is mid.bytes c.put_line.new.bytes (c.put_line.ensures.len ∙ ap length lent ∙ sym mid.bytes.ok.0)) lent c.put_line.ensures.text)
