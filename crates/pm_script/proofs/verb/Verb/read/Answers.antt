use Rattle.std.proofs.Common.{◌∙◌, ◌==◌, ◌&&◌, ap}
use Rattle.std.specs.List.{find}
use Rattle.std.specs.Cmp.Lexicographic.{pointwise}
use Rattle.pm_script.specs.Words.{word_of, belongs}
use Rattle.pm_script.proofs.VerbTable.{named_so}
use Rattle.pm_script.proofs.verb.Verb.read.Goals as goal

pub returns : goal.returns
returns g c =
    c.read_among.ensures ∙ ap (find (λ verb. pointwise ◌==◌ c.args.word.now (word_of verb) && belongs g.L.Said.dialect c.args.first verb)) c.of_length.ensures
    ∙ named_so g.L.Said.dialect c.args.first c.args.word.now
