use Rattle.std.proofs.Common.{[], ◌∷◌, refl, decimal}
use Rattle.pm_types.specs.declared.reply.Reply.TheVariants.{Shown}
use Rattle.pm_model.specs.Text.{reply_words}
use Rattle.pm_script.proofs.HexDigits.{printed_again}
use Rattle.pm_script.proofs.laws.what_data_prints_is_taken.Goals as goal

pub returns-clause-spells : goal.returns-clause-spells
returns-clause-spells c = printed_again

pub returns-clause-taken : goal.returns-clause-taken
returns-clause-taken c client reg count bytes is_client is_register is_number are short = record {
  words = decimal reg ∷ decimal count ∷ reply_words (Shown bytes) ∷ [];
  first = is_client;
  values = ((is_register, refl), ((is_number, refl), (printed_again bytes are, tt)));
  joined = refl;
  short = short;
}
