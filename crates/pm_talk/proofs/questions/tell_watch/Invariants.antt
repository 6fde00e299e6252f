use Rattle.std.proofs.Common.{◌≡◌, drop}
use Rattle.pm_talk.specs.Texts.{line_numbered}
use Rattle.pm_talk.proofs.questions.tell_watch.Given as goal

-- the watch is among those that are left
abbrev pub invariant-loop-watch : goal.invariant-loop-watch
invariant-loop-watch l = record { rest : line_numbered l.number (drop l.watch-index l.lines) ≡ line_numbered l.number l.lines }
