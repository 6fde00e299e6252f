-- What is told of an end.
use Rattle.std.proofs.Common.{ℕ, arith, List, [], ◌++◌, length, Option, Some, sym, ap, ◌∙◌}
use Rattle.std.proofs.lemmas.List.{append-nil}
use Rattle.std.proofs.Math.Seq.{take-length}
use Rattle.pm_types.specs.Counts.{Rose}
use Rattle.pm_io.specs.declared.sink.Sink as sink
use Rattle.pm_serial.specs.Output.Writing.{PutsAll, PutsPart}
use Rattle.pm_top.specs.Program.{Tells}

module _ {E : Type 0} (e : sink.Ghosts E) where
  whole_part : (told now : Option (List ℕ)) (line : List ℕ) → PutsAll told now line → PutsPart told now line
  whole_part told now line all before is = record { part = length line; within = omega arith; appended = all before is ∙ ap (λ (piece : List ℕ). Some (before ++ piece)) (sym (take-length line)) }

  -- no line, and no call
  pub told_none : (errors : E) → Tells e errors errors []
  told_none errors =
      let all : PutsAll (e.written errors) (e.written errors) [] = λ before told. told ∙ ap Some (sym (append-nil before)) in
      record { all = λ stands. all; part = whole_part (e.written errors) (e.written errors) [] all }

  -- the line was put
  pub told_all : (old new : E) (line : List ℕ) → PutsAll (e.written old) (e.written new) line → Tells e old new line
  told_all old new line put = record { all = λ stands. put; part = whole_part (e.written old) (e.written new) line put }

  -- it failed to be
  pub told_part : (old new : E) (line : List ℕ) → PutsPart (e.written old) (e.written new) line → Rose (e.count old) (e.count new) → Tells e old new line
  told_part old new line put rose = record { all = λ stands. absurd (stands rose); part = put }
