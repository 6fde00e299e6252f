use Rattle.std.proofs.Common.{arith, length-append, rules}
use Rattle.std.proofs.lemmas.Grind.{common_steps}
use Rattle.pm_types.specs.declared.limits.TheConstants.{SOURCE_BYTES}
use Rattle.pm_io.proofs.TakenSoFar.{piece_within, more_taken, none_taken, all_taken, end_left, taken_within, leaves_end}
use Rattle.pm_io.proofs.reading.read_all.Goals as goal

pub returns-in_err-n-clause-rest : goal.returns-in_err-n-clause-rest
returns-in_err-n-clause-rest g c =
    λ bytes told. leaves_end bytes _ _ _ (omega arith) (none_taken bytes _ _ _ (c.loop-all.invariant.taken bytes told) c.in_err-n.ensures.failed)

pub returns-then-n-eq0-clause-all : goal.returns-then-n-eq0-clause-all
returns-then-n-eq0-clause-all g c =
    λ bytes told. all_taken bytes _ _ (c.loop-all.invariant.taken bytes told) (λ rest here. c.in_ok-n.ensures.end rest here (omega arith) (omega arith))

pub returns-then-n-eq0-clause-emptied : goal.returns-then-n-eq0-clause-emptied
returns-then-n-eq0-clause-emptied g c =
    λ bytes told. end_left bytes _ _ _ _ _ (c.loop-all.invariant.taken bytes told) c.in_ok-n.ensures.taken (λ rest here. c.in_ok-n.ensures.end rest here (omega arith) (omega arith))

pub returns-then-n-eq0-clause-rest : goal.returns-then-n-eq0-clause-rest
returns-then-n-eq0-clause-rest g c =
    λ bytes told. leaves_end bytes _ _ _ (piece_within c.loop-all.all.items _ c.in_ok-n.n SOURCE_BYTES 32768 (omega arith) (omega arith)) (more_taken bytes _ _ _ _ _ (c.loop-all.invariant.taken bytes told) c.in_ok-n.ensures.taken)

pub loop-all-preserved : goal.loop-all-preserved
loop-all-preserved g c = record {
  short = search rules;
  counted = search rules;
  taken = λ bytes told.
      rw c.in_ok-append.ensures.ok (more_taken bytes _ _ _ _ _ (c.loop-all.invariant.taken bytes told) c.in_ok-n.ensures.taken);
}

pub returns-in_err-append-clause-too_long : goal.returns-in_err-append-clause-too_long
returns-in_err-append-clause-too_long g c = λ is bytes told.
    let within = taken_within bytes _ _ (more_taken bytes _ _ _ _ _ (c.loop-all.invariant.taken bytes told) c.in_ok-n.ensures.taken) in
    grind (arith, common_steps, length-append, within, is, c.in_err-append.ensures.too_long, c.from_residual-in_err-append.ensures)

pub returns-in_err-append-clause-rest : goal.returns-in_err-append-clause-rest
returns-in_err-append-clause-rest g c =
    λ bytes told. leaves_end bytes _ _ _ (piece_within c.loop-all.all.items _ c.in_ok-n.n SOURCE_BYTES 32768 (omega arith) (omega (arith, c.in_ok-n.ensures.fits))) (more_taken bytes _ _ _ _ _ (c.loop-all.invariant.taken bytes told) c.in_ok-n.ensures.taken)
