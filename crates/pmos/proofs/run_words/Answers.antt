use Rattle.std.proofs.Common.{◌∙◌, ap, ℕ, List, map, Bor}
use Rattle.pmos.proofs.Same.{same_words}
use Rattle.pmos.proofs.run_words.Goals as goal

pub returns-in-Ok-clause-performs : goal.returns-in-Ok-clause-performs
returns-in-Ok-clause-performs g c = same_words _ _ _ _ _ _ _ c.run_texts.result _ _ (ap (map (λ (text : Bor (List ℕ)). text.now)) c.as_slice.ensures.value ∙ c.in-Ok.ensures) c.run_texts.ensures.performs
