use Rattle.std.proofs.Common.{sym, ◌∙◌}
use Rattle.pm_shadow.specs.Pages.{state}
use Rattle.pm_ship.proofs.KnownLemmas.{abandoned_known, listed_known}
use Rattle.pm_ship.proofs.standby.know_pages.Goals as goal

pub returns-then-is_known-clause-known : goal.returns-then-is_known-clause-known
returns-then-is_known-clause-known g c =
    abandoned_known (state c.args.pages.now) (state c.abandon.new.self) c.abandon.ensures.state (sym c.is_known.ensures ∙ c.if-is_known.true)

pub returns-clause-known : goal.returns-clause-known
returns-clause-known g c =
    listed_known c.args.used.now (state c.args.pages.now) (state c.commit_list.new.self) c.in_ok-commit_list.ensures.state (sym c.is_known.ensures ∙ c.if-is_known.false) c.in_ok-commit_list.ensures.listed
