use Rattle.std.proofs.Common.{◌≡◌, take}
use Rattle.std.specs.List.{flat_map}
use Rattle.pm_model.specs.Text.{watch_line}
use Rattle.pm_serial.specs.Output.Gathered.{gathered}
use Rattle.pm_serial.specs.Output.Writing.{GoesOn}
use Rattle.pm_serial.proofs.output.tail.add_watches.Given as goal

-- the lines of the watches so far were gathered
abbrev pub invariant-loop-watch : goal.invariant-loop-watch
invariant-loop-watch g l =
    record {
      adds : GoesOn (flat_map watch_line (take l.watch-index l.lines)) (g.K.Sink.written l.fn.sink) (g.K.Sink.written l.sink) (gathered l.fn.output) (gathered l.output);
      finish_stays : g.K.Sink.finished l.sink ≡ g.K.Sink.finished l.fn.sink;
      counted : g.K.Sink.count l.sink ≡ g.K.Sink.count l.fn.sink;
    }
