use Rattle.std.proofs.Common.{◌≤◌, arith, ap, subst, sym, ◌∙◌, ◌++◌, [], ◌∷◌, List, ℕ, length, map}
use Rattle.std.specs.List.{AllByRecursion}
use Rattle.std.specs.FinMap.{entries, len-entries}
use Rattle.std.proofs.lemmas.List.{take_all}
use Rattle.pm_types.specs.Names.{IsName}
use Rattle.pm_types.specs.declared.address.Addr.{Addr}
use Rattle.pm_copies.specs.Opened.{unnumbered}
use Rattle.pm_save.proofs.WriterLemmas.PlanLemmas.{all_behind}
use Rattle.pm_save.proofs.RootLemmas.{roots_more}
use Rattle.pm_save.proofs.roots.copy_roots.Goals as goal

pub loop-place-preserved : goal.loop-place-preserved
loop-place-preserved c =
    let es = entries c.args.roots.now in
    let found = c.nth.result in
    let root : List ℕ × Addr = (c.in_ok-name.name, found.2) in
    record {
      roots = c.in_ok-push.ensures.items ∙ ap (λ (rs : List (List ℕ × Addr)). rs ++ root ∷ []) c.loop-place.invariant.roots
          ∙ roots_more es c.loop-place.place (found.0.now, (found.1, found.2)) root c.nth.ensures (ap (λ (name : List ℕ). (name, found.2)) c.in_ok-name.ensures);
      names = subst (AllByRecursion (λ (root : List ℕ × Addr). IsName root.0)) (sym c.in_ok-push.ensures.items) (all_behind (λ (root : List ℕ × Addr). IsName root.0) c.loop-place.copied.items root c.loop-place.invariant.names c.as_slice-bytes.ensures.named);
    }

pub returns-clause-roots : goal.returns-clause-roots
returns-clause-roots c =
    let es = entries c.args.roots.now in
    let all : length es ≤ c.loop-place.place = omega (arith, c.loop-place-test.false, c.len-place-end.ensures, len-entries c.args.roots.now) in
    c.loop-place.invariant.roots ∙ ap (map unnumbered) (take_all c.loop-place.place es all)
