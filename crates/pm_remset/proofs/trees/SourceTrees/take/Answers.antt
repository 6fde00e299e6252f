use Rattle.std.proofs.Common.{◌≡◌, ℕ, ◌-◌, ◌≤◌, Some, None, refl, sym, ap, subst, ◌∙◌, rules}
use Rattle.std.specs.Option.{IsSome}
use Rattle.std.specs.FinMap.{get, remove, len}
use Rattle.std.specs.BTreeMap.{UpdatesBy}
use Rattle.std.specs.BTreeMap as tree
use Rattle.pm_types.specs.declared.source.RefSource.{RefSource}
use Rattle.pm_types.specs.contracts.source.RefSourceOrd.TheImpl.{ghosts}
use Rattle.pm_remset.specs.Grouped.{group_name, joined}
use Rattle.pm_remset.proofs.Groups.{answered, at_joined}
use Rattle.pm_remset.proofs.Lists.{none_taken}
use Rattle.pm_remset.proofs.Regrouped.{joined_take, grouped_still, was_at, one_less, some_there, same_count, own_take}
use Rattle.pm_remset.proofs.trees.SourceTrees.take.Goals as goal

pub returns-in_err-list-clause-value : goal.returns-in_err-list-clause-value
returns-in_err-list-clause-value c =
    let none : None ≡ tree.get ghosts.cmp c.self.inside.groups c.group_of-group.result = search rules in
    c.from_residual.ensures ∙ sym (ap (λ s. get s c.args.source) (sym c.self.view_is) ∙ at_joined c.self.inside.groups c.get_mut.ensures.ordered c.self.invariant.in_group c.args.source
    ∙ ap (λ g. answered (tree.get ghosts.cmp c.self.inside.groups g) c.args.source) (sym c.group_of-group.ensures) ∙ ap (λ found. answered found c.args.source) (sym none))

pub returns-in_err-list-clause-after : goal.returns-in_err-list-clause-after
returns-in_err-list-clause-after c =
    let none : None ≡ tree.get ghosts.cmp c.self.inside.groups c.group_of-group.result = search rules in
    ap (λ groups. joined groups.entries) c.get_mut.follows.holds-at-none ∙ c.self.view_is
    ∙ none_taken c.args.self.now c.args.source (ap (λ s. get s c.args.source) (sym c.self.view_is) ∙ at_joined c.self.inside.groups c.get_mut.ensures.ordered c.self.invariant.in_group c.args.source
    ∙ ap (λ g. answered (tree.get ghosts.cmp c.self.inside.groups g) c.args.source) (sym c.group_of-group.ensures) ∙ ap (λ found. answered found c.args.source) (sym none))

pub invariant_of-self-in_err-named : goal.invariant_of-self-in_err-named
invariant_of-self-in_err-named c =
    let m = c.self.inside.groups in
    let l = c.in_ok-list.list.now in
    let after = c.take_from.new.list in
    let n = c.get_mut.follows.lender after in
    let g = c.group_of-group.result in
    let wrote = c.get_mut.follows.holds after in
    let in_it : group_name c.args.source ≡ g = sym c.group_of-group.ensures in
    let was : (x : RefSource) → answered (tree.get ghosts.cmp m g) x ≡ get l x = λ x. ap (λ found. answered found x) (sym c.in_ok-list.ensures.value) in
    let u : UpdatesBy ghosts.cmp (ghosts.cmp g) m n (Some after) = wrote.3 (subst IsSome c.in_ok-list.ensures.value refl) in
    let before : (x : RefSource) (k : ℕ) → get l x ≡ Some k → group_name x ≡ g = c.self.invariant.in_group g l (sym c.in_ok-list.ensures.value) in
    let own : (x : RefSource) (k : ℕ) → get after x ≡ Some k → group_name x ≡ g = own_take l g c.args.source before after c.take_from.ensures.list in
    let none : get l c.args.source ≡ None = sym c.in_err-named.ensures.value in
    grouped_still m n c.get_mut.ensures.ordered wrote.4 c.self.inside.index c.self.inside.count c.self.invariant g l after was u own c.take_from.new.index c.take_from.ensures.index c.take_from.ensures.others c.self.inside.count
    (c.self.invariant.counted ∙ sym (same_count (joined m.entries) c.args.source (was_at m n c.get_mut.ensures.ordered wrote.4 c.self.inside.index c.self.inside.count c.self.invariant g l after was u own c.args.source in_it ∙ none)) ∙ ap len (sym (joined_take m n c.get_mut.ensures.ordered wrote.4 c.self.inside.index c.self.inside.count c.self.invariant g l after was u own c.args.source in_it c.take_from.ensures.list)))

pub returns-in_err-named-clause-value : goal.returns-in_err-named-clause-value
returns-in_err-named-clause-value c =
    let m = c.self.inside.groups in
    let l = c.in_ok-list.list.now in
    let after = c.take_from.new.list in
    let n = c.get_mut.follows.lender after in
    let g = c.group_of-group.result in
    let wrote = c.get_mut.follows.holds after in
    let in_it : group_name c.args.source ≡ g = sym c.group_of-group.ensures in
    let was : (x : RefSource) → answered (tree.get ghosts.cmp m g) x ≡ get l x = λ x. ap (λ found. answered found x) (sym c.in_ok-list.ensures.value) in
    let u : UpdatesBy ghosts.cmp (ghosts.cmp g) m n (Some after) = wrote.3 (subst IsSome c.in_ok-list.ensures.value refl) in
    let before : (x : RefSource) (k : ℕ) → get l x ≡ Some k → group_name x ≡ g = c.self.invariant.in_group g l (sym c.in_ok-list.ensures.value) in
    let own : (x : RefSource) (k : ℕ) → get after x ≡ Some k → group_name x ≡ g = own_take l g c.args.source before after c.take_from.ensures.list in
    c.from_residual-in_err-named.ensures ∙ c.in_err-named.ensures.value ∙ sym (was_at m n c.get_mut.ensures.ordered wrote.4 c.self.inside.index c.self.inside.count c.self.invariant g l after was u own c.args.source in_it) ∙ ap (λ s. get s c.args.source) c.self.view_is

pub returns-in_err-named-clause-after : goal.returns-in_err-named-clause-after
returns-in_err-named-clause-after c =
    let m = c.self.inside.groups in
    let l = c.in_ok-list.list.now in
    let after = c.take_from.new.list in
    let n = c.get_mut.follows.lender after in
    let g = c.group_of-group.result in
    let wrote = c.get_mut.follows.holds after in
    let in_it : group_name c.args.source ≡ g = sym c.group_of-group.ensures in
    let was : (x : RefSource) → answered (tree.get ghosts.cmp m g) x ≡ get l x = λ x. ap (λ found. answered found x) (sym c.in_ok-list.ensures.value) in
    let u : UpdatesBy ghosts.cmp (ghosts.cmp g) m n (Some after) = wrote.3 (subst IsSome c.in_ok-list.ensures.value refl) in
    let before : (x : RefSource) (k : ℕ) → get l x ≡ Some k → group_name x ≡ g = c.self.invariant.in_group g l (sym c.in_ok-list.ensures.value) in
    let own : (x : RefSource) (k : ℕ) → get after x ≡ Some k → group_name x ≡ g = own_take l g c.args.source before after c.take_from.ensures.list in
    joined_take m n c.get_mut.ensures.ordered wrote.4 c.self.inside.index c.self.inside.count c.self.invariant g l after was u own c.args.source in_it c.take_from.ensures.list ∙ ap (λ s. remove s c.args.source) c.self.view_is

pub overflow_sub-self : goal.overflow_sub-self
overflow_sub-self c =
    let m = c.self.inside.groups in
    let l = c.in_ok-list.list.now in
    let after = c.take_from.new.list in
    let n = c.get_mut.follows.lender after in
    let g = c.group_of-group.result in
    let wrote = c.get_mut.follows.holds after in
    let in_it : group_name c.args.source ≡ g = sym c.group_of-group.ensures in
    let was : (x : RefSource) → answered (tree.get ghosts.cmp m g) x ≡ get l x = λ x. ap (λ found. answered found x) (sym c.in_ok-list.ensures.value) in
    let u : UpdatesBy ghosts.cmp (ghosts.cmp g) m n (Some after) = wrote.3 (subst IsSome c.in_ok-list.ensures.value refl) in
    let before : (x : RefSource) (k : ℕ) → get l x ≡ Some k → group_name x ≡ g = c.self.invariant.in_group g l (sym c.in_ok-list.ensures.value) in
    let own : (x : RefSource) (k : ℕ) → get after x ≡ Some k → group_name x ≡ g = own_take l g c.args.source before after c.take_from.ensures.list in
    subst (λ k. 1 ≤ k) (sym c.self.invariant.counted) (some_there (joined m.entries) c.args.source c.in_ok-named.named (was_at m n c.get_mut.ensures.ordered wrote.4 c.self.inside.index c.self.inside.count c.self.invariant g l after was u own c.args.source in_it ∙ sym c.in_ok-named.ensures.value))

pub invariant_of-self-then-was_last : goal.invariant_of-self-then-was_last
invariant_of-self-then-was_last c =
    let m = c.self.inside.groups in
    let l = c.in_ok-list.list.now in
    let after = c.take_from.new.list in
    let n = c.get_mut.follows.lender after in
    let g = c.group_of-group.result in
    let wrote = c.get_mut.follows.holds after in
    let in_it : group_name c.args.source ≡ g = sym c.group_of-group.ensures in
    let was : (x : RefSource) → answered (tree.get ghosts.cmp m g) x ≡ get l x = λ x. ap (λ found. answered found x) (sym c.in_ok-list.ensures.value) in
    let u : UpdatesBy ghosts.cmp (ghosts.cmp g) m n (Some after) = wrote.3 (subst IsSome c.in_ok-list.ensures.value refl) in
    let before : (x : RefSource) (k : ℕ) → get l x ≡ Some k → group_name x ≡ g = c.self.invariant.in_group g l (sym c.in_ok-list.ensures.value) in
    let own : (x : RefSource) (k : ℕ) → get after x ≡ Some k → group_name x ≡ g = own_take l g c.args.source before after c.take_from.ensures.list in
    grouped_still m n c.get_mut.ensures.ordered wrote.4 c.self.inside.index c.self.inside.count c.self.invariant g l after was u own c.take_from.new.index c.take_from.ensures.index c.take_from.ensures.others (c.self.inside.count - 1)
    (ap (λ k. k - 1) c.self.invariant.counted ∙ sym (one_less (joined m.entries) c.args.source c.in_ok-named.named (was_at m n c.get_mut.ensures.ordered wrote.4 c.self.inside.index c.self.inside.count c.self.invariant g l after was u own c.args.source in_it ∙ sym c.in_ok-named.ensures.value)) ∙ ap len (sym (joined_take m n c.get_mut.ensures.ordered wrote.4 c.self.inside.index c.self.inside.count c.self.invariant g l after was u own c.args.source in_it c.take_from.ensures.list)))

pub returns-then-was_last-clause-value : goal.returns-then-was_last-clause-value
returns-then-was_last-clause-value c =
    let m = c.self.inside.groups in
    let l = c.in_ok-list.list.now in
    let after = c.take_from.new.list in
    let n = c.get_mut.follows.lender after in
    let g = c.group_of-group.result in
    let wrote = c.get_mut.follows.holds after in
    let in_it : group_name c.args.source ≡ g = sym c.group_of-group.ensures in
    let was : (x : RefSource) → answered (tree.get ghosts.cmp m g) x ≡ get l x = λ x. ap (λ found. answered found x) (sym c.in_ok-list.ensures.value) in
    let u : UpdatesBy ghosts.cmp (ghosts.cmp g) m n (Some after) = wrote.3 (subst IsSome c.in_ok-list.ensures.value refl) in
    let before : (x : RefSource) (k : ℕ) → get l x ≡ Some k → group_name x ≡ g = c.self.invariant.in_group g l (sym c.in_ok-list.ensures.value) in
    let own : (x : RefSource) (k : ℕ) → get after x ≡ Some k → group_name x ≡ g = own_take l g c.args.source before after c.take_from.ensures.list in
    c.in_ok-named.ensures.value ∙ sym (was_at m n c.get_mut.ensures.ordered wrote.4 c.self.inside.index c.self.inside.count c.self.invariant g l after was u own c.args.source in_it) ∙ ap (λ s. get s c.args.source) c.self.view_is

pub returns-then-was_last-clause-after : goal.returns-then-was_last-clause-after
returns-then-was_last-clause-after c =
    let m = c.self.inside.groups in
    let l = c.in_ok-list.list.now in
    let after = c.take_from.new.list in
    let n = c.get_mut.follows.lender after in
    let g = c.group_of-group.result in
    let wrote = c.get_mut.follows.holds after in
    let in_it : group_name c.args.source ≡ g = sym c.group_of-group.ensures in
    let was : (x : RefSource) → answered (tree.get ghosts.cmp m g) x ≡ get l x = λ x. ap (λ found. answered found x) (sym c.in_ok-list.ensures.value) in
    let u : UpdatesBy ghosts.cmp (ghosts.cmp g) m n (Some after) = wrote.3 (subst IsSome c.in_ok-list.ensures.value refl) in
    let before : (x : RefSource) (k : ℕ) → get l x ≡ Some k → group_name x ≡ g = c.self.invariant.in_group g l (sym c.in_ok-list.ensures.value) in
    let own : (x : RefSource) (k : ℕ) → get after x ≡ Some k → group_name x ≡ g = own_take l g c.args.source before after c.take_from.ensures.list in
    c.let_go.ensures ∙ joined_take m n c.get_mut.ensures.ordered wrote.4 c.self.inside.index c.self.inside.count c.self.invariant g l after was u own c.args.source in_it c.take_from.ensures.list ∙ ap (λ s. remove s c.args.source) c.self.view_is

pub invariant_of-self-else-was_last : goal.invariant_of-self-else-was_last
invariant_of-self-else-was_last c =
    let m = c.self.inside.groups in
    let l = c.in_ok-list.list.now in
    let after = c.take_from.new.list in
    let n = c.get_mut.follows.lender after in
    let g = c.group_of-group.result in
    let wrote = c.get_mut.follows.holds after in
    let in_it : group_name c.args.source ≡ g = sym c.group_of-group.ensures in
    let was : (x : RefSource) → answered (tree.get ghosts.cmp m g) x ≡ get l x = λ x. ap (λ found. answered found x) (sym c.in_ok-list.ensures.value) in
    let u : UpdatesBy ghosts.cmp (ghosts.cmp g) m n (Some after) = wrote.3 (subst IsSome c.in_ok-list.ensures.value refl) in
    let before : (x : RefSource) (k : ℕ) → get l x ≡ Some k → group_name x ≡ g = c.self.invariant.in_group g l (sym c.in_ok-list.ensures.value) in
    let own : (x : RefSource) (k : ℕ) → get after x ≡ Some k → group_name x ≡ g = own_take l g c.args.source before after c.take_from.ensures.list in
    grouped_still m n c.get_mut.ensures.ordered wrote.4 c.self.inside.index c.self.inside.count c.self.invariant g l after was u own c.take_from.new.index c.take_from.ensures.index c.take_from.ensures.others (c.self.inside.count - 1)
    (ap (λ k. k - 1) c.self.invariant.counted ∙ sym (one_less (joined m.entries) c.args.source c.in_ok-named.named (was_at m n c.get_mut.ensures.ordered wrote.4 c.self.inside.index c.self.inside.count c.self.invariant g l after was u own c.args.source in_it ∙ sym c.in_ok-named.ensures.value)) ∙ ap len (sym (joined_take m n c.get_mut.ensures.ordered wrote.4 c.self.inside.index c.self.inside.count c.self.invariant g l after was u own c.args.source in_it c.take_from.ensures.list)))

pub returns-else-was_last-clause-value : goal.returns-else-was_last-clause-value
returns-else-was_last-clause-value c =
    let m = c.self.inside.groups in
    let l = c.in_ok-list.list.now in
    let after = c.take_from.new.list in
    let n = c.get_mut.follows.lender after in
    let g = c.group_of-group.result in
    let wrote = c.get_mut.follows.holds after in
    let in_it : group_name c.args.source ≡ g = sym c.group_of-group.ensures in
    let was : (x : RefSource) → answered (tree.get ghosts.cmp m g) x ≡ get l x = λ x. ap (λ found. answered found x) (sym c.in_ok-list.ensures.value) in
    let u : UpdatesBy ghosts.cmp (ghosts.cmp g) m n (Some after) = wrote.3 (subst IsSome c.in_ok-list.ensures.value refl) in
    let before : (x : RefSource) (k : ℕ) → get l x ≡ Some k → group_name x ≡ g = c.self.invariant.in_group g l (sym c.in_ok-list.ensures.value) in
    let own : (x : RefSource) (k : ℕ) → get after x ≡ Some k → group_name x ≡ g = own_take l g c.args.source before after c.take_from.ensures.list in
    c.in_ok-named.ensures.value ∙ sym (was_at m n c.get_mut.ensures.ordered wrote.4 c.self.inside.index c.self.inside.count c.self.invariant g l after was u own c.args.source in_it) ∙ ap (λ s. get s c.args.source) c.self.view_is

pub returns-else-was_last-clause-after : goal.returns-else-was_last-clause-after
returns-else-was_last-clause-after c =
    let m = c.self.inside.groups in
    let l = c.in_ok-list.list.now in
    let after = c.take_from.new.list in
    let n = c.get_mut.follows.lender after in
    let g = c.group_of-group.result in
    let wrote = c.get_mut.follows.holds after in
    let in_it : group_name c.args.source ≡ g = sym c.group_of-group.ensures in
    let was : (x : RefSource) → answered (tree.get ghosts.cmp m g) x ≡ get l x = λ x. ap (λ found. answered found x) (sym c.in_ok-list.ensures.value) in
    let u : UpdatesBy ghosts.cmp (ghosts.cmp g) m n (Some after) = wrote.3 (subst IsSome c.in_ok-list.ensures.value refl) in
    let before : (x : RefSource) (k : ℕ) → get l x ≡ Some k → group_name x ≡ g = c.self.invariant.in_group g l (sym c.in_ok-list.ensures.value) in
    let own : (x : RefSource) (k : ℕ) → get after x ≡ Some k → group_name x ≡ g = own_take l g c.args.source before after c.take_from.ensures.list in
    joined_take m n c.get_mut.ensures.ordered wrote.4 c.self.inside.index c.self.inside.count c.self.invariant g l after was u own c.args.source in_it c.take_from.ensures.list ∙ ap (λ s. remove s c.args.source) c.self.view_is
