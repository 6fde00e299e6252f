use Rattle.std.proofs.Common.{◌≡◌, [], ◌∙◌, ℕ, ap, sym, arith, length}
use Rattle.std.specs.Vec.Iter.{into_iter_items}
use Rattle.std.specs.FinMap.{empty, len, len-empty}
use Rattle.pm_types.proofs.Mapped.{mapped-empty}
use Rattle.pm_types.specs.declared.address.Addr.{Addr}
use Rattle.pm_types.specs.Orders.{name_cmp}
use Rattle.pm_reopen.specs.Rebuild.Naming.{addresses, with_named}
use Rattle.pm_reopen.proofs.RebuildLemmas.Ends.{none_long}
use Rattle.pm_reopen.proofs.RebuildLemmas.NameLaws.{all_named}
use Rattle.pm_reopen.proofs.rebuild.naming.bind_roots.Goals as goal

pub loop-name-init : goal.loop-name-init
loop-name-init c =
    let none : addresses c.new-roots.result ≡ empty = ap addresses c.new-roots.ensures ∙ mapped-empty name_cmp (λ (bound : ℕ × Addr). bound.1) in
    let zero = ap len c.new-roots.ensures ∙ len-empty name_cmp (ℕ × Addr) in
    let all : into_iter_items c.into_iter-name-iterator.result ≡ c.args.list = c.into_iter-name-iterator.ensures.into_iter_gives.0 ∙ c.into_vec-name-items.ensures in
    let few = c.requires.few in
    let count = ap length all in
    record {
      so_far = λ i. with_named (none i) (all i);
      few = omega (arith, zero, few, count);
    }

pub returns : goal.returns
returns c =
    let left : into_iter_items c.loop-name.name-iterator ≡ [] = none_long (into_iter_items c.loop-name.name-iterator) (let none = c.in-None.ensures.steps.0 in omega (arith, none)) in
    ap (with_named (addresses c.loop-name.roots)) (sym left) ∙ c.loop-name.invariant.so_far ∙ all_named c.args.list c.requires.differ
