use Rattle.pm_dump.specs.Read.{before_in, FailsLine, FailsWords}
use Rattle.pm_dump.specs.Reading.{line_at}
use Rattle.pm_script.specs.Lines.{words_of}
use Rattle.pm_dump.proofs.LineLemmas.{few_words, on_ok, if_err, reads_line, fails_line}
use Rattle.pm_dump.proofs.line.read_line.Goals as goal

pub read_words-requires-clause-few : goal.read_words-requires-clause-few
read_words-requires-clause-few c = few_words c.args.line.now c.requires.short

pub returns-clause-ok : goal.returns-clause-ok
returns-clause-ok c = on_ok c.read_words.result (reads_line (before_in c.args.parts.now) (before_in c.read_words.new.parts) c.args.line.now) c.read_words.ensures.ok

pub returns-clause-err : goal.returns-clause-err
returns-clause-err c =
    if_err (FailsWords (before_in c.args.parts.now) (line_at (words_of c.args.line.now))) (FailsLine (before_in c.args.parts.now) c.args.line.now) c.read_words.result
    (λ f. fails_line f (before_in c.args.parts.now) c.args.line.now) c.read_words.ensures.err
