use Rattle.std.proofs.Common.{sym, ◌∙◌}
use Rattle.pm_space.proofs.Linking.{on_ok}
use Rattle.pm_reopen.proofs.RebuildLemmas.TellingLaws.{told_more}
use Rattle.pm_reopen.proofs.rebuild.remembering.tell.Goals as goal

pub returns : goal.returns
returns c =
    on_ok c.remember.result (λ sets cars stored is.
    told_more c.args.source c.args.to (sym c.is_outside.ensures ∙ c.if-not-is_outside.false) cars stored c.args.sets.now c.remember.new.self is sets)
    c.remember.ensures
