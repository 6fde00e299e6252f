use Rattle.std.proofs.Common.{◌∙◌, ap, map, string_bytes}
use Rattle.pmos.proofs.Same.{same_words}
use Rattle.pmos.proofs.run_all.Goals as goal

pub returns-in-Ok-clause-performs : goal.returns-in-Ok-clause-performs
returns-in-Ok-clause-performs g c = same_words _ _ _ _ _ _ _ c.run_words.result _ _ (ap (map string_bytes) c.as_slice.ensures.value ∙ c.in-Ok.ensures.all) c.run_words.ensures.performs
