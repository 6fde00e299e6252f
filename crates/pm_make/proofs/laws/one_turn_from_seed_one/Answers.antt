use Rattle.hex.specs.Hex.{encode_with}
use Rattle.pm_make.specs.Drawing.{stepped, drawn}
use Rattle.pm_make.proofs.Texts.{zero_text, one_text, three_text, four_text, twenty_five_text, thousand_text}
use Rattle.pm_make.proofs.laws.one_turn_from_seed_one.Goals as goal

pub returns : goal.returns
unfolding stepped drawn encode_with
returns c = rw (zero_text, one_text, three_text, four_text, twenty_five_text, thousand_text)
