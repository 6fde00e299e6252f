use Rattle.std.proofs.Common.{◌∙◌, sym, refl}
use Rattle.pm_dump.specs.Read.{words_in}
use Rattle.pm_dump.proofs.WordLemmas.{more_head, other_head, old_head, head_read}
use Rattle.pm_dump.proofs.line.head_parts.Goals as goal

pub returns-then-not-is_spent : goal.returns-then-not-is_spent
returns-then-not-is_spent c = more_head _ c.args.dump.now c.args.version.now c.args.number.now (words_in c.args.rest) refl (sym c.is_spent.ensures ∙ c.if-not-is_spent.true)

pub returns-then-not-is_word : goal.returns-then-not-is_word
returns-then-not-is_word c =
    other_head _ c.args.dump.now c.args.version.now c.args.number.now (words_in c.args.rest) refl (sym c.is_spent.ensures ∙ c.if-not-is_spent.false) (sym c.is_word.ensures ∙ c.if-not-is_word.true)

pub returns-then-not-is_word-2 : goal.returns-then-not-is_word-2
returns-then-not-is_word-2 c =
    old_head _ c.args.dump.now c.args.version.now c.args.number.now (words_in c.args.rest) refl (sym c.is_spent.ensures ∙ c.if-not-is_spent.false) (sym c.is_word-2.ensures ∙ c.if-not-is_word-2.true)

pub returns : goal.returns
returns c =
    head_read _ c.args.dump.now c.args.version.now c.args.number.now (words_in c.args.rest) c.identity.result refl (sym c.is_spent.ensures ∙ c.if-not-is_spent.false) (sym c.is_word.ensures ∙ c.if-not-is_word.false)
    (sym c.is_word-2.ensures ∙ c.if-not-is_word-2.false) c.identity.ensures
