use Rattle.std.proofs.Common.{◌≤◌, ◌++◌, ap, arith, ◌∙◌, ℕ, List, length}
use Rattle.std.specs.List.{flat_map}
use Rattle.std.specs.FinMap.{entries, len-entries}
use Rattle.std.proofs.lemmas.List.{take_all}
use Rattle.pm_types.specs.declared.address.Addr.{Addr}
use Rattle.pm_space.specs.Shown.{view}
use Rattle.pm_walk.specs.Lines.{named_line}
use Rattle.pm_walk.proofs.Steps.{name_bound}
use Rattle.pm_walk.proofs.Heaps.{is_named}
use Rattle.pm_walk.proofs.Texts.{one_more_line}
use Rattle.pm_walk.proofs.text.append_roots.Goals as goal

pub append_root-requires : goal.append_root-requires
append_root-requires g c =
    let v = view c.args.space.now.parts in
    let e : List ℕ × (ℕ × Addr) = (c.nth.result.0.now, (c.nth.result.1, c.nth.result.2)) in
    is_named v c.nth.result.2 (c.a_copy_is_walked_by_addresses.ensures.root v e.0 e.1 c.args.space.now.kept (name_bound v.roots c.loop-place.place e c.nth.ensures))

pub loop-place-preserved : goal.loop-place-preserved
loop-place-preserved g c =
    let v = view c.args.space.now.parts in
    let e : List ℕ × (ℕ × Addr) = (c.nth.result.0.now, (c.nth.result.1, c.nth.result.2)) in
    c.in_ok-append_root.ensures ∙ ap (λ (t : List ℕ). t ++ named_line v e) c.loop-place.invariant ∙ one_more_line (named_line v) c.args.out.now.items (entries v.roots) c.loop-place.place e c.nth.ensures

pub returns : goal.returns
returns g c =
    let v = view c.args.space.now.parts in
    let all : length (entries v.roots) ≤ c.loop-place.place = omega (arith, c.loop-place-test.false, c.len-place-end.ensures, len-entries v.roots) in
    c.loop-place.invariant ∙ ap (λ (es : List (List ℕ × (ℕ × Addr))). c.args.out.now.items ++ flat_map (named_line v) es) (take_all c.loop-place.place (entries v.roots) all)
