use Rattle.std.proofs.Common.{◌≡◌, ℕ, ◌<◌, ◌≤◌, get_or, length, take}
use Rattle.pm_types.specs.declared.limits.TheConstants.{CLIENTS}
use Rattle.pm_model.specs.Journal.{commands_of}
use Rattle.pm_script.specs.Parted.Asked.{requests_asked}
use Rattle.pm_script.proofs.parted.split.count_commands.Given as goal

-- each client's commands of the lines so far were counted
abbrev pub invariant-loop-line : goal.invariant-loop-line
invariant-loop-line l = record {
  counted : (client : ℕ) → client < CLIENTS → get_or l.counts client 0 ≡ length (commands_of client (requests_asked (take l.line-index l.lines)));
  long : length l.counts ≡ CLIENTS;
  few : (client : ℕ) → client < CLIENTS → get_or l.counts client 0 ≤ l.line-index;
}
