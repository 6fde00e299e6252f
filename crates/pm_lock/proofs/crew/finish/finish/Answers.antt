use Rattle.std.proofs.Common.{◌≡◌, ⊎_elim, ℕ, arith, subst, sym}
use Rattle.std.proofs.lemmas.Bool.{cases_eq}
use Rattle.pm_lock.specs.Turns.{HasNothing}
use Rattle.pm_lock.proofs.CrewLemmas.Lasting.{lasts_then}
use Rattle.pm_lock.proofs.crew.finish.finish.Goals as goal

pub loop-who-preserved : goal.loop-who-preserved
loop-who-preserved g c =
    let before = c.loop-who.invariant in
    let one_more = c.finish_one.ensures in
    let book = c.finish_one.new.book in
    record {
      lasts = lasts_then c.args.book.now c.loop-who.book book before.lasts one_more.lasts;
      nothing = λ none one below.
          ⊎_elim (λ (same : one ≡ c.loop-who.who). subst (λ (who : ℕ). HasNothing who book) (sym same) (one_more.nothing none))
          (λ apart. one_more.lasts.nothing one (before.nothing (one_more.lasts.fault none) one (omega (arith, below, apart)))) (cases_eq one c.loop-who.who);
    }
