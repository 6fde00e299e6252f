use Rattle.std.proofs.Common.{◌∙◌, sym}
use Rattle.pm_dump.specs.Read.{words_in}
use Rattle.pm_dump.proofs.WordLemmas.{fields_lack, count_lacks, other_count, same_count}
use Rattle.pm_dump.proofs.line.counted_fields.Goals as goal

pub returns-then-not-are_numerals : goal.returns-then-not-are_numerals
returns-then-not-are_numerals c = fields_lack c.args.count.now (words_in c.args.words) (sym c.are_numerals.ensures ∙ c.if-not-are_numerals.true)

pub returns-then-said-count_words : goal.returns-then-said-count_words
returns-then-said-count_words c =
    same_count c.args.count.now (words_in c.args.words) c.in-Some.said (sym c.are_numerals.ensures ∙ c.if-not-are_numerals.false) (sym c.in-Some.is ∙ c.numeral.ensures) c.requires
    (c.if-said-count_words.true ∙ c.count_words.ensures)

pub returns-else-said-count_words : goal.returns-else-said-count_words
returns-else-said-count_words c =
    other_count c.args.count.now (words_in c.args.words) c.in-Some.said (sym c.are_numerals.ensures ∙ c.if-not-are_numerals.false) (sym c.in-Some.is ∙ c.numeral.ensures) c.requires
    (λ is. c.if-said-count_words.false (is ∙ sym c.count_words.ensures))

pub returns-in-None : goal.returns-in-None
returns-in-None c = count_lacks c.args.count.now (words_in c.args.words) (sym c.in-None.is ∙ c.numeral.ensures)
