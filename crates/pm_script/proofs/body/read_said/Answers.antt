use Rattle.std.proofs.Common.{◌∙◌, ◌==◌, List, length, sym, ap, subst, Result}
use Rattle.pm_script.specs.declared.fault.Cause.{Cause}
use Rattle.pm_script.specs.declared.verb.Kind.{Kind}
use Rattle.pm_script.specs.Lines.{parts_in}
use Rattle.pm_script.specs.Reading.{Gives}
use Rattle.pm_script.proofs.TakingLaws.{asked_so, miscounted}
use Rattle.pm_script.proofs.body.read_said.Goals as goal

pub returns-then-not-are_left : goal.returns-then-not-are_left
returns-then-not-are_left g c =
    let words = parts_in 32 c.in-Some.rest in
    let named = sym c.read.ensures ∙ c.in-Some-read.is in
    miscounted g.L.Said.dialect g.L.Said.asked c.args.first c.in-Some-read.verb (parts_in 32 c.args.words) c.in-Some.word.now words c.in-Some.ensures named
    (ap (λ (ks : List Kind). length words == length ks) (sym c.kinds.ensures) ∙ sym c.are_left.ensures ∙ c.if-not-are_left.true)

pub returns : goal.returns
returns g c =
    let words = parts_in 32 c.in-Some.rest in
    let named = sym c.read.ensures ∙ c.in-Some-read.is in
    subst (λ (r : Result _ Cause). Gives c.read_values.result r)
    (asked_so g.L.Said.dialect g.L.Said.asked c.args.first c.in-Some-read.verb (parts_in 32 c.args.words) c.in-Some.word.now words c.in-Some.ensures named
    (ap (λ (ks : List Kind). length words == length ks) (sym c.kinds.ensures) ∙ sym c.are_left.ensures ∙ c.if-not-are_left.false))
    c.read_values.ensures
