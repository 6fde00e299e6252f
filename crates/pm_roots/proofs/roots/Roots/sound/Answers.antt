use Rattle.std.proofs.Common.{◌≤◌, sym, subst}
use Rattle.slab.specs.Slab as slab
use Rattle.pm_roots.specs.Sound.{IsSound}
use Rattle.pm_roots.proofs.Views.{differ_shown, len_shown}
use Rattle.pm_roots.proofs.roots.Roots.sound.Goals as goal

pub returns : goal.returns
returns c =
    let names = c.self.inside.names.items in
    let addresses = slab.get c.self.inside.addresses in
    subst IsSound c.self.view_is (record {
      few = subst (λ n. n ≤ 4096) (sym (len_shown names addresses c.self.invariant.sorted)) c.self.invariant.few;
      differ = differ_shown names addresses c.self.invariant;
    })
