use Rattle.std.proofs.Common.{◌++◌, sym, subst, ap, ◌∙◌, ℕ, List}
use Rattle.std.specs.List.{flat_map, AllByRecursion}
use Rattle.std.specs.Option.{IsSome}
use Rattle.std.specs.Cmp.{nat_cmp_total}
use Rattle.std.specs.FinMap.{nat_cmp-IsAntisymmetric}
use Rattle.pm_types.proofs.Shown.{entries_shown}
use Rattle.pm_types.specs.declared.address.Addr.{Addr}
use Rattle.pm_view.specs.Reading.{object_at}
use Rattle.pm_space.specs.Shown.{view}
use Rattle.pm_walk.specs.Lines.{found_line}
use Rattle.pm_walk.proofs.Lists.{append_none}
use Rattle.pm_walk.proofs.text.append_objects.Goals as goal

pub loop-id-init : goal.loop-id-init
loop-id-init g c =
    let v = view c.args.parts.now in
    let all = c.into_iter-id-iterator.ensures.into_iter_gives ∙ c.iter-id-items.ensures.rest in
    let shown = entries_shown nat_cmp_total nat_cmp-IsAntisymmetric c.args.met.now c.iter-id-items.ensures.ordered in
    record {
      text = ap (λ (es : List (ℕ × Addr)). c.args.out.now.items ++ flat_map (found_line v) es) all;
      stand = subst (AllByRecursion (λ (e : ℕ × Addr). IsSome (object_at v.cars e.1))) (shown ∙ sym all) c.requires;
    }

pub returns : goal.returns
returns g c =
    let v = view c.args.parts.now in
    let shown = entries_shown nat_cmp_total nat_cmp-IsAntisymmetric c.args.met.now c.iter-id-items.ensures.ordered in
    sym (append_none c.loop-id.out.items) ∙ ap (λ (es : List (ℕ × Addr)). c.loop-id.out.items ++ flat_map (found_line v) es) (sym c.in-None.ensures.steps.0)
    ∙ c.loop-id.invariant.text ∙ ap (λ (es : List (ℕ × Addr)). c.args.out.now.items ++ flat_map (found_line v) es) (sym shown)
