use Rattle.std.proofs.Common.{◌∙◌, sym}
use Rattle.pm_walk.proofs.PathsLemmas.Texts.{text_of_steps}
use Rattle.pm_walk.proofs.paths.text.path_text.Goals as goal

pub returns : goal.returns
returns c =
    let text = text_of_steps c.args.path.now c.in-Some.first.now c.in-Some.rest.now (sym c.steps.ensures ∙ c.in-Some.ensures.cases.0) in
    c.in_ok-append_steps.ensures ∙ rw (c.in_ok-append_root.ensures, c.new-out.ensures.items, c.name.ensures) (sym text)
