-- The page of a car may be kept.
use Rattle.std.proofs.Common.{◌≡◌, ap, ◌∙◌}
use Rattle.std.specs.List.{AllByRecursion}
use Rattle.sha2.specs.Sha256.{sha256}
use Rattle.pm_layout.specs.declared.header.Header.{Header}
use Rattle.pm_layout.specs.Headers.{most_fields}
use Rattle.pm_image.specs.declared.settled.KeptPage.{KeptPage}
use Rattle.pm_image.specs.Graphs.{Graph, Pages}
use Rattle.pm_copies.specs.Spelled.{IsCarSpelled, Spells}
use Rattle.pm_law_copies.proofs.GraphsLemmas.Lists.{all_follow}
use Rattle.pm_copies.specs.Laid.{IsCarHeld}

pub cars_held : (pages : Pages) (header : Header) (graph : Graph) → Spells pages header graph → AllByRecursion (IsCarHeld pages) graph.cars
cars_held pages header graph spells =
    all_follow (IsCarSpelled pages (most_fields header.version)) (IsCarHeld pages) graph.cars (λ kept is. record { spelled = is.spelled; digest = is.digest }) spells.cars

pub held_still : (before after : Pages) (kept : KeptPage) → IsCarHeld before kept → after.page kept.page ≡ before.page kept.page → IsCarHeld after kept
held_still before after kept held same = record { spelled = same ∙ held.spelled; digest = ap sha256 same ∙ held.digest }
