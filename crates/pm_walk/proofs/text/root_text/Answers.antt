use Rattle.std.proofs.Common.{◌≤◌, ◌∙◌, ◌++◌, ℕ, List, length, ap, arith}
use Rattle.std.specs.FinMap.{entries, len-entries}
use Rattle.pm_types.specs.declared.address.Addr.{Addr}
use Rattle.pm_space.specs.Shown.{view}
use Rattle.pm_walk.specs.Lines.{named_line}
use Rattle.pm_walk.proofs.Steps.{name_bound}
use Rattle.pm_walk.proofs.Heaps.{is_named}
use Rattle.pm_walk.proofs.ToldLines.{named_at, named_none}
use Rattle.pm_walk.proofs.text.root_text.Goals as goal

pub append_root-requires : goal.append_root-requires
append_root-requires g c =
    let v = view c.args.space.now.parts in
    let e : List ℕ × (ℕ × Addr) = (c.nth.result.0.now, (c.nth.result.1, c.nth.result.2)) in
    is_named v c.nth.result.2 (c.a_copy_is_walked_by_addresses.ensures.root v e.0 e.1 c.args.space.now.kept (name_bound v.roots c.args.place e c.nth.ensures))

pub returns-then-place-len : goal.returns-then-place-len
returns-then-place-len g c = λ world stands.
    let v = view c.args.space.now.parts in
    let past : length (entries v.roots) ≤ c.args.place = omega (arith, c.if-place-len.true, c.len.ensures, len-entries v.roots) in
    named_none v world c.args.place c.args.space.now.kept stands past

pub returns : goal.returns
returns g c = λ world stands.
    let v = view c.args.space.now.parts in
    let e : List ℕ × (ℕ × Addr) = (c.nth.result.0.now, (c.nth.result.1, c.nth.result.2)) in
    named_at v world c.args.place e c.append_root.new.out.items c.args.space.now.kept stands c.nth.ensures
    (c.in_ok-append_root.ensures ∙ ap (λ (xs : List ℕ). xs ++ named_line v e) c.new-out.ensures.items)
