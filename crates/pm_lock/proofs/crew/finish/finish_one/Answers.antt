use Rattle.std.proofs.Common.{◌≡◌, ⊎_elim}
use Rattle.pm_turns.specs.declared.turn.Turn.{Turn}
use Rattle.pm_turns.specs.declared.turn.Turn.TheVariants.{Finished, Stopped}
use Rattle.pm_lock.specs.Shown.{fault_in}
use Rattle.pm_lock.proofs.CrewLemmas.Lasting.{lasts_then, lasts_turn}
use Rattle.pm_lock.proofs.Turning.{none_some}
use Rattle.pm_lock.proofs.crew.finish.finish_one.Goals as goal

pub loop-preserved : goal.loop-preserved
loop-preserved g c = lasts_then c.args.book.now c.loop.book c.step.new.self c.loop.invariant (lasts_turn g.F.Fn c.args.who c.requires.who c.loop.book c.step.new.self c.step.result c.step.ensures)

pub returns-in-Finished : goal.returns-in-Finished
returns-in-Finished g c =
    let new = c.step.new.self in
    let step = c.step.ensures in
    let last = lasts_turn g.F.Fn c.args.who c.requires.who c.loop.book new c.step.result step in
    record {
      lasts = lasts_then c.args.book.now c.loop.book new c.loop.invariant last;
      nothing = λ none.
          ⊎_elim (λ (finished : c.step.result ≡ Finished). last.nothing c.args.who (step.finished.0 finished).1)
          (λ (stopped : c.step.result ≡ Stopped). absurd (none_some (fault_in new) none (step.stopped.0 stopped))) c.in-Finished.is;
    }
