use Rattle.std.proofs.Common.{sym, ap, ◌∙◌}
use Rattle.std.specs.Option.{unwrap_or}
use Rattle.std.specs.FinMap.{empty}
use Rattle.pm_remset.specs.Remembered.{first_that}
use Rattle.pm_view.specs.Candidates.{is_beyond}
use Rattle.pm_space.specs.Linked.{set_of}
use Rattle.pm_space.proofs.Linking.{at_car, not_at_car}
use Rattle.pm_next.proofs.Searches.{empty_finds}
use Rattle.pm_next.proofs.skipping.outside.Goals as goal

pub returns-in-Some : goal.returns-in-Some
returns-in-Some g c =
    let p = c.args.parts.now in
    c.least_beyond.ensures
    ∙ sym (ap (λ o. first_that (λ source _. is_beyond p.trains.trains c.args.train source) (unwrap_or o empty)) (at_car set_of p.links c.args.car c.in-Some.links.now (sym c.in-Some.ensures)))

pub returns-in-None : goal.returns-in-None
returns-in-None g c =
    let p = c.args.parts.now in
    sym (ap (λ o. first_that (λ source _. is_beyond p.trains.trains c.args.train source) (unwrap_or o empty)) (not_at_car set_of p.links c.args.car (sym c.in-None.ensures))
    ∙ empty_finds (λ source _. is_beyond p.trains.trains c.args.train source))
