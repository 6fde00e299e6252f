use Rattle.std.proofs.Common.{◌≡◌, length, sym, ap, ◌∙◌, rules}
use Rattle.std.specs.FinMap.{len}
use Rattle.pm_remset.proofs.Lists.{counted}
use Rattle.pm_remset.proofs.list.SourceList.len.Goals as goal

pub returns : goal.returns
returns c =
    let long : c.len.result ≡ length c.self.inside.entries.items = search rules in
    long ∙ sym (counted c.self.inside.entries.items c.self.invariant) ∙ ap len c.self.view_is
