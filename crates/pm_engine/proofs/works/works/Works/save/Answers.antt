use Rattle.std.proofs.Common.{rules, ◌≡◌, ◌<◌, ◌+◌, Option, None, ap, subst, arith}
use Rattle.std.proofs.lemmas.Grind.{common_steps}
use Rattle.pm_view.specs.View.{Cars}
use Rattle.pm_saving.specs.Tied.{IsTied}
use Rattle.pm_engine.specs.Works.Working.{saving_in, state_in, contents_in}
use Rattle.pm_engine.proofs.works.works.Works.save.Goals as goal
use Rattle.pm_engine.proofs.WorksLemmas.Kept.{tied_kept, unfrozen}

pub returns-clause-tied : goal.returns-clause-tied
returns-clause-tied g c =
    let old = c.args.self.now in
    let tied = c.requires.tied in
    let none : (saving_in old).progress ≡ None = first_of (search rules, grind (arith, common_steps)) in
    let epoch = ap (λ h. h.epoch) c.header.ensures in
    let less : (state_in old).header.epoch < c.header.result.now.epoch + 1 = omega (arith, epoch) in
    tied_kept _ _ c.append-2.ensures.store
    (c.in_ok-begin.ensures.tied (state_in old) (contents_in old) less
    (subst (λ (frozen : Option Cars). IsTied (saving_in old) frozen (state_in old) (contents_in old)) (unfrozen _ _ _ _ tied.begun none) tied))
