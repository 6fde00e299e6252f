use Rattle.std.proofs.Common.{sym, subst}
use Rattle.pm_view.specs.Seen.{seen, IsLive}
use Rattle.pm_space.specs.Shown.{view}
use Rattle.pm_space.proofs.Leading.{stored_leads}
use Rattle.pm_space.proofs.space.Space.resolve.Goals as goal

pub returns-clause-live : goal.returns-clause-live
returns-clause-live g c = λ source stands is.
    subst (IsLive (seen (view c.args.self.now.parts))) (sym c.resolve.ensures) (stored_leads (view c.args.self.now.parts) c.args.at c.args.self.now.kept source stands is)
