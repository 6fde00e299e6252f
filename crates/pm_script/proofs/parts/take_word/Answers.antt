use Rattle.std.proofs.Common.{◌∙◌, ap, sym, ◌≡◌, Some, nat_eq, take}
use Rattle.std.specs.List.{position}
use Rattle.pm_script.specs.Lines.{parts_in}
use Rattle.pm_script.proofs.CutLemmas.{cut_near}
use Rattle.pm_script.proofs.parts.take_word.Goals as goal

pub returns-in-Some : goal.returns-in-Some
returns-in-Some c =
    let found : position (λ b. nat_eq b 32) (take 16 c.in_ok-text.text.now) ≡ Some c.in-Some.at = sym c.near_space.ensures ∙ c.in-Some.is in
    ap (parts_in 32) c.in_ok-text.was ∙ cut_near 32 c.in_ok-text.text.now 16 c.in-Some.at found
