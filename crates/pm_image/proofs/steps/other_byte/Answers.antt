use Rattle.std.proofs.Common.{ℕ, rules, tests, ◌∙◌}
use Rattle.std.specs.Prelude.{not, ◌==◌}
use Rattle.std.proofs.lemmas.List.{take_rest}
use Rattle.std.proofs.lemmas.Iterator.{YieldsList-from_slice}
use Rattle.std.proofs.lemmas.Iterator.Search.{position_from_yields_List}
use Rattle.pm_image.proofs.steps.other_byte.Goals as goal

pub returns-clause-exact : goal.returns-clause-exact
returns-clause-exact c = position_from_yields_List (λ (byte : ℕ). not (byte == 0)) _ _ c.position.result c.position.ensures.ran (YieldsList-from_slice _ (c.iter.ensures.rest ∙ take_rest c.args.page.now c.args.place)) (λ x b q k. search (rules, tests))
