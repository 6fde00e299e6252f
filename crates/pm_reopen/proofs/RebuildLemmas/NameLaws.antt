-- Names that are bound one after another.
use Rattle.std.proofs.Common.{◌≡◌, ℕ, ◌+◌, ◌≤◌, Bool, true, false, cond, List, [], ◌∷◌, Option, Some, None, refl, sym, ap, subst, ◌∙◌, arith}
use Rattle.std.specs.List.{AllByRecursion}
use Rattle.std.specs.Ordering.{eq_by_cmp}
use Rattle.std.specs.FinMap.{insert, empty, get, get-insert, get-empty, len, len-insert, contains_key, from_entries, get-from_entries, same_map}
use Rattle.std.specs.FinMap.Entries.{find}
use Rattle.std.proofs.lemmas.Map.Views.{tells_apart}
use Rattle.pm_types.specs.Orders.{name_cmp}
use Rattle.pm_types.proofs.Orders.{names_total, names_antisymmetric}
use Rattle.pm_types.specs.declared.address.Addr.{Addr}
use Rattle.pm_roots.specs.Bindings.{Bindings}
use Rattle.pm_law_copies.proofs.Lists.{or_else}
use Rattle.pm_reopen.specs.Rebuild.Lists.{NamesDiffer}
use Rattle.pm_reopen.specs.Rebuild.Naming.{Addresses, with_named}

-- ---- one name more

-- one name more is bound at most
pub one_more : (roots : Bindings) (name : List ℕ) (bound : ℕ × Addr) → len (insert roots name bound) ≤ len roots + 1
one_more roots name bound = subst (λ n. n ≤ len roots + 1) (sym (len-insert names_total roots name bound)) (either (contains_key roots name))
  where
    either : (b : Bool) → cond b (len roots) (len roots + 1) ≤ len roots + 1
    either true = omega arith
    either false = omega arith

-- ---- names that differ

none_named : (named : List (List ℕ × Addr)) (name other : List ℕ) → AllByRecursion (λ (root : List ℕ × Addr). root.0 ≡ other → ⊥) named → name ≡ other → find name_cmp name named ≡ None
none_named [] name other all same = refl
none_named (root ∷ named) name other all same = elim (eq_by_cmp name_cmp name root.0) as (λ b. eq_by_cmp name_cmp name root.0 ≡ b → cond b (Some root.1) (find name_cmp name named) ≡ None) [
  | true ↦ λ tied. absurd (all.0 (sym (tells_apart names_antisymmetric name root.0 tied) ∙ same))
  | false ↦ λ apart. none_named named name other all.1 same
] refl

get_named : (named : List (List ℕ × Addr)) (names : Addresses) (name : List ℕ) → NamesDiffer named → get (with_named names named) name ≡ or_else (find name_cmp name named) (get names name)
get_named [] names name differ = refl
get_named (root ∷ named) names name differ =
    get_named named (insert names root.0 root.1) name differ.1
    ∙ ap (or_else (find name_cmp name named)) (get-insert names_total names root.0 root.1 name)
    ∙ elim (eq_by_cmp name_cmp name root.0) as (λ b. eq_by_cmp name_cmp name root.0 ≡ b → or_else (find name_cmp name named) (cond b (Some root.1) (get names name)) ≡ or_else (cond b (Some root.1) (find name_cmp name named)) (get names name)) [
      | true ↦ λ tied. ap (λ o. or_else o (Some root.1)) (none_named named name root.0 differ.0 (tells_apart names_antisymmetric name root.0 tied))
      | false ↦ λ apart. refl
    ] refl

or_none : {X : Type 0} (o : Option X) → or_else o None ≡ o
or_none None = refl
or_none (Some x) = refl

-- names that differ, each bound to its address, are the map of these
pub all_named : (named : List (List ℕ × Addr)) → NamesDiffer named → with_named empty named ≡ from_entries named
all_named named differ = same_map names_total names_antisymmetric (with_named empty named) (from_entries named) (λ name.
    get_named named empty name differ
    ∙ ap (or_else (find name_cmp name named)) (get-empty name_cmp name)
    ∙ or_none (find name_cmp name named)
    ∙ sym (get-from_entries names_total named name))
