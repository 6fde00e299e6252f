use Rattle.std.proofs.Common.{◌≡◌, ◌++◌, ◌∷◌, ℕ, take, decimal}
use Rattle.std.specs.List.{flat_map}
use Rattle.pm_inspect.proofs.lines.append_columns.Given as goal

-- the columns so far
abbrev pub invariant-loop-column : goal.invariant-loop-column
invariant-loop-column l = l.out.items ≡ l.initial.out.items ++ flat_map (λ (column : ℕ). 32 ∷ decimal column) (take l.column-index l.columns)
