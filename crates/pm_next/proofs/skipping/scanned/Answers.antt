use Rattle.std.proofs.Common.{◌≡◌, true, false, rules, tests}
use Rattle.pm_view.specs.Candidates.{is_beyond}
use Rattle.pm_remset.proofs.First.{first_found, found_once}
use Rattle.pm_next.proofs.Beyond.{finds_through}
use Rattle.pm_next.proofs.skipping.scanned.Goals as goal

pub returns : goal.returns
returns g c =
    let ts = c.args.parts.now.trains.trains in
    let set = c.args.set.now in
    found_once (λ source _. is_beyond ts c.args.train source) set _ _
    (finds_through _ _ (λ source slot. is_beyond ts c.args.train source ≡ true) (λ source slot. is_beyond ts c.args.train source ≡ false) (λ source slot passes. search (rules, tests)) (λ source slot fails. search (rules, tests)) set _ c.next_where.ensures)
    (first_found (λ source _. is_beyond ts c.args.train source) set)
