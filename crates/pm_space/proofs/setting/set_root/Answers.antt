use Rattle.std.proofs.Common.{◌≡◌, sym, subst, Option, IfSome}
use Rattle.pm_types.specs.Mapped.{mapped}
use Rattle.pm_types.specs.declared.address.Addr.{Addr}
use Rattle.pm_view.specs.Rows.{readdressed}
use Rattle.pm_space.proofs.RootsSet.{readdressed_roots}
use Rattle.pm_space.proofs.setting.set_root.Goals as goal

pub returns-in-Some : goal.returns-in-Some
returns-in-Some c =
    subst (λ (to : Option Addr). IfSome to (λ a. c.set.new.self ≡ mapped (readdressed c.args.number a) c.args.roots.now)) (sym c.in-Some.is)
    (readdressed_roots c.args.roots.now c.set.new.self c.args.number c.in-Some.at c.set.ensures.names)
