use Rattle.std.proofs.Common.{◌<◌, ◌≤◌, ℕ, List, length, refl, subst, arith}
use Rattle.std.proofs.lemmas.List.{take_all}
use Rattle.pm_nursery.specs.Walking.{AreGone}
use Rattle.pm_nursery.proofs.Changed.{gone_more}
use Rattle.pm_nursery.proofs.objects.Objects.remove_all.Goals as goal

pub returns-in-len1 : goal.returns-in-len1
returns-in-len1 c =
    let ids = c.args.ids.now in
    let one : 0 < length ids = omega (arith, c.in-len1.len_at_least) in
    let no_more : length ids ≤ 1 = omega (arith, c.in-len1.len_below) in
    subst (λ (xs : List ℕ). AreGone c.args.self.now xs c.remove.new.self) (take_all 1 ids no_more) (gone_more c.args.self.now c.args.self.now c.remove.new.self ids 0 one (λ q. refl) c.remove.ensures)
