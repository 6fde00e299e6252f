use Rattle.std.proofs.Common.{refl}
use Rattle.pm_reopen.proofs.rebuild.building.build.Goals as goal

pub invariant_of-result : goal.invariant_of-result
invariant_of-result g c = record {
  kept = c.a_built_space_keeps_the_law.ensures c.args.cars c.args.roots c.args.next _ c.requires.may c.in_ok-parts.ensures.view;
  still = λ train is. refl;
  sole = tt;
}
