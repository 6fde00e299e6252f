use Rattle.std.proofs.Common.{◌∙◌, sym}
use Rattle.pm_dump.specs.Read.{words_in}
use Rattle.pm_dump.proofs.Pushing.{pushed_none, pushed_more, pushed_over}
use Rattle.pm_dump.proofs.line.push_fields.Goals as goal

pub loop-word-init : goal.loop-word-init
loop-word-init c = pushed_none c.args.fields.now.items c.args.next (words_in c.args.words) c.requires.read

pub returns-then-number-next-clause-err : goal.returns-then-number-next-clause-err
returns-then-number-next-clause-err c =
    pushed_over c.args.fields.now.items c.loop-word.fields.items c.args.next c.in-Some-numeral.number (words_in c.args.words) (words_in c.loop-word.left) (words_in c.in-Some.rest) c.in-Some.word.now c.loop-word.invariant
    c.in-Some.ensures (sym c.in-Some-numeral.is ∙ c.numeral.ensures) c.if-number-next.true c.requires.some c.requires.last

pub loop-word-preserved : goal.loop-word-preserved
loop-word-preserved c =
    pushed_more c.args.fields.now.items c.loop-word.fields.items c.push.new.self.items c.args.next c.in-Some-numeral.number (words_in c.args.words) (words_in c.loop-word.left) (words_in c.in-Some.rest) c.in-Some.word.now
    c.field_of.result c.loop-word.invariant c.in-Some.ensures (sym c.in-Some-numeral.is ∙ c.numeral.ensures) c.if-number-next.false c.requires.last c.field_of.ensures c.in_ok-push.ensures.items
