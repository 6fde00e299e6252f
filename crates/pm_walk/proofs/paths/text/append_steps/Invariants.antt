use Rattle.std.proofs.Common.{◌≡◌, ◌++◌, take}
use Rattle.std.specs.List.{flat_map}
use Rattle.pm_walk.specs.Paths.PathText.{path_line_text, step_line}
use Rattle.pm_walk.proofs.paths.text.append_steps.Given as goal

-- the steps so far
abbrev pub invariant-loop-step : goal.invariant-loop-step
invariant-loop-step l = l.out.items ≡ l.initial.out.items ++ flat_map (λ step. path_line_text (step_line step)) (take l.step-index l.steps)
