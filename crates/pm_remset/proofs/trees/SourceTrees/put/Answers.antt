use Rattle.std.proofs.Common.{◌≡◌, ℕ, ◌+◌, Some, None, true, false, refl, sym, ap, subst, ◌∙◌, rules}
use Rattle.std.specs.Option.{IsSome, is_some}
use Rattle.std.specs.FinMap.{get, insert, len}
use Rattle.std.specs.BTreeMap.{UpdatesBy}
use Rattle.std.specs.BTreeMap as tree
use Rattle.pm_types.specs.declared.source.RefSource.{RefSource}
use Rattle.pm_types.specs.contracts.source.RefSourceOrd.TheImpl.{ghosts}
use Rattle.pm_remset.specs.Grouped.{group_name, joined}
use Rattle.pm_remset.proofs.Groups.{answered, at_joined}
use Rattle.pm_remset.proofs.Regrouped.{joined_put, joined_same, grouped_still, was_at, one_more, as_many, own_put, not_true, not_false}
use Rattle.pm_remset.proofs.trees.SourceTrees.put.Goals as goal

pub put_first-requires : goal.put_first-requires
put_first-requires c = λ other in_it.
    let same = c.get_mut.follows.holds-at-none in
    let none : tree.get ghosts.cmp c.self.inside.groups c.group_of-group.result ≡ None = sym (search rules) in
    ap (λ groups. get (joined groups.entries) other) same ∙ at_joined c.self.inside.groups c.get_mut.ensures.ordered c.self.invariant.in_group other
    ∙ ap (λ g. answered (tree.get ghosts.cmp c.self.inside.groups g) other) (in_it ∙ sym c.group_of-group.ensures) ∙ ap (λ found. answered found other) none

pub invariant_of-self-in_err-put_in : goal.invariant_of-self-in_err-put_in
invariant_of-self-in_err-put_in c =
    let m = c.self.inside.groups in
    let l = c.in-Some.list.now in
    let after = c.put_in.new.list in
    let n = c.get_mut.follows.lender after in
    let g = c.group_of-group.result in
    let wrote = c.get_mut.follows.holds after in
    let in_it : group_name c.args.source ≡ g = sym c.group_of-group.ensures in
    let was : (x : RefSource) → answered (tree.get ghosts.cmp m g) x ≡ get l x = λ x. ap (λ found. answered found x) (sym c.in-Some.ensures.value) in
    let u : UpdatesBy ghosts.cmp (ghosts.cmp g) m n (Some after) = wrote.3 (subst IsSome c.in-Some.ensures.value refl) in
    let before : (x : RefSource) (k : ℕ) → get l x ≡ Some k → group_name x ≡ g = c.self.invariant.in_group g l (sym c.in-Some.ensures.value) in
    let own : (x : RefSource) (k : ℕ) → get after x ≡ Some k → group_name x ≡ g = λ x k there. before x k (ap (λ s. get s x) (sym c.in_err-put_in.ensures.listed) ∙ there) in
    grouped_still m n c.get_mut.ensures.ordered wrote.4 c.self.inside.index c.self.inside.count c.self.invariant g l after was u own c.put_in.new.index c.put_in.ensures.index c.put_in.ensures.others c.self.inside.count
    (c.self.invariant.counted ∙ ap len (sym (joined_same m n c.get_mut.ensures.ordered wrote.4 c.self.inside.index c.self.inside.count c.self.invariant g l after was u own c.args.source in_it c.in_err-put_in.ensures.listed)))

pub returns-in_err-put_in-clause-err : goal.returns-in_err-put_in-clause-err
returns-in_err-put_in-clause-err c =
    let m = c.self.inside.groups in
    let l = c.in-Some.list.now in
    let after = c.put_in.new.list in
    let n = c.get_mut.follows.lender after in
    let g = c.group_of-group.result in
    let wrote = c.get_mut.follows.holds after in
    let in_it : group_name c.args.source ≡ g = sym c.group_of-group.ensures in
    let was : (x : RefSource) → answered (tree.get ghosts.cmp m g) x ≡ get l x = λ x. ap (λ found. answered found x) (sym c.in-Some.ensures.value) in
    let u : UpdatesBy ghosts.cmp (ghosts.cmp g) m n (Some after) = wrote.3 (subst IsSome c.in-Some.ensures.value refl) in
    let before : (x : RefSource) (k : ℕ) → get l x ≡ Some k → group_name x ≡ g = c.self.invariant.in_group g l (sym c.in-Some.ensures.value) in
    let own : (x : RefSource) (k : ℕ) → get after x ≡ Some k → group_name x ≡ g = λ x k there. before x k (ap (λ s. get s x) (sym c.in_err-put_in.ensures.listed) ∙ there) in
    let same : joined n.entries ≡ c.args.self.now = joined_same m n c.get_mut.ensures.ordered wrote.4 c.self.inside.index c.self.inside.count c.self.invariant g l after was u own c.args.source in_it c.in_err-put_in.ensures.listed ∙ c.self.view_is in
    search (rules, same)

pub invariant_of-self-then-branch : goal.invariant_of-self-then-branch
invariant_of-self-then-branch c =
    let m = c.self.inside.groups in
    let l = c.in-Some.list.now in
    let after = c.put_in.new.list in
    let n = c.get_mut.follows.lender after in
    let g = c.group_of-group.result in
    let wrote = c.get_mut.follows.holds after in
    let in_it : group_name c.args.source ≡ g = sym c.group_of-group.ensures in
    let was : (x : RefSource) → answered (tree.get ghosts.cmp m g) x ≡ get l x = λ x. ap (λ found. answered found x) (sym c.in-Some.ensures.value) in
    let u : UpdatesBy ghosts.cmp (ghosts.cmp g) m n (Some after) = wrote.3 (subst IsSome c.in-Some.ensures.value refl) in
    let before : (x : RefSource) (k : ℕ) → get l x ≡ Some k → group_name x ≡ g = c.self.invariant.in_group g l (sym c.in-Some.ensures.value) in
    let own : (x : RefSource) (k : ℕ) → get after x ≡ Some k → group_name x ≡ g = own_put l g c.args.source c.args.slot in_it before after c.in_ok-put_in.ensures.list in
    let new : is_some (get l c.args.source) ≡ false = not_true (is_some (get l c.args.source)) (sym c.in_ok-put_in.ensures.known ∙ c.if-branch.true) in
    grouped_still m n c.get_mut.ensures.ordered wrote.4 c.self.inside.index c.self.inside.count c.self.invariant g l after was u own c.put_in.new.index c.put_in.ensures.index c.put_in.ensures.others (c.self.inside.count + 1)
    (ap (λ k. k + 1) c.self.invariant.counted
    ∙ sym (one_more (joined m.entries) c.args.source c.args.slot (ap is_some (was_at m n c.get_mut.ensures.ordered wrote.4 c.self.inside.index c.self.inside.count c.self.invariant g l after was u own c.args.source in_it) ∙ new))
    ∙ ap len (sym (joined_put m n c.get_mut.ensures.ordered wrote.4 c.self.inside.index c.self.inside.count c.self.invariant g l after was u own c.args.source in_it c.args.slot c.in_ok-put_in.ensures.list)))

pub invariant_of-self-else-branch : goal.invariant_of-self-else-branch
invariant_of-self-else-branch c =
    let m = c.self.inside.groups in
    let l = c.in-Some.list.now in
    let after = c.put_in.new.list in
    let n = c.get_mut.follows.lender after in
    let g = c.group_of-group.result in
    let wrote = c.get_mut.follows.holds after in
    let in_it : group_name c.args.source ≡ g = sym c.group_of-group.ensures in
    let was : (x : RefSource) → answered (tree.get ghosts.cmp m g) x ≡ get l x = λ x. ap (λ found. answered found x) (sym c.in-Some.ensures.value) in
    let u : UpdatesBy ghosts.cmp (ghosts.cmp g) m n (Some after) = wrote.3 (subst IsSome c.in-Some.ensures.value refl) in
    let before : (x : RefSource) (k : ℕ) → get l x ≡ Some k → group_name x ≡ g = c.self.invariant.in_group g l (sym c.in-Some.ensures.value) in
    let own : (x : RefSource) (k : ℕ) → get after x ≡ Some k → group_name x ≡ g = own_put l g c.args.source c.args.slot in_it before after c.in_ok-put_in.ensures.list in
    let known : is_some (get l c.args.source) ≡ true = not_false (is_some (get l c.args.source)) (sym c.in_ok-put_in.ensures.known ∙ c.if-branch.false) in
    grouped_still m n c.get_mut.ensures.ordered wrote.4 c.self.inside.index c.self.inside.count c.self.invariant g l after was u own c.put_in.new.index c.put_in.ensures.index c.put_in.ensures.others c.self.inside.count
    (c.self.invariant.counted
    ∙ sym (as_many (joined m.entries) c.args.source c.args.slot (ap is_some (was_at m n c.get_mut.ensures.ordered wrote.4 c.self.inside.index c.self.inside.count c.self.invariant g l after was u own c.args.source in_it) ∙ known))
    ∙ ap len (sym (joined_put m n c.get_mut.ensures.ordered wrote.4 c.self.inside.index c.self.inside.count c.self.invariant g l after was u own c.args.source in_it c.args.slot c.in_ok-put_in.ensures.list)))

pub returns-then-branch-clause-ok : goal.returns-then-branch-clause-ok
returns-then-branch-clause-ok c =
    let m = c.self.inside.groups in
    let l = c.in-Some.list.now in
    let after = c.put_in.new.list in
    let n = c.get_mut.follows.lender after in
    let g = c.group_of-group.result in
    let wrote = c.get_mut.follows.holds after in
    let in_it : group_name c.args.source ≡ g = sym c.group_of-group.ensures in
    let was : (x : RefSource) → answered (tree.get ghosts.cmp m g) x ≡ get l x = λ x. ap (λ found. answered found x) (sym c.in-Some.ensures.value) in
    let u : UpdatesBy ghosts.cmp (ghosts.cmp g) m n (Some after) = wrote.3 (subst IsSome c.in-Some.ensures.value refl) in
    let before : (x : RefSource) (k : ℕ) → get l x ≡ Some k → group_name x ≡ g = c.self.invariant.in_group g l (sym c.in-Some.ensures.value) in
    let own : (x : RefSource) (k : ℕ) → get after x ≡ Some k → group_name x ≡ g = own_put l g c.args.source c.args.slot in_it before after c.in_ok-put_in.ensures.list in
    joined_put m n c.get_mut.ensures.ordered wrote.4 c.self.inside.index c.self.inside.count c.self.invariant g l after was u own c.args.source in_it c.args.slot c.in_ok-put_in.ensures.list ∙ ap (λ s. insert s c.args.source c.args.slot) c.self.view_is

pub returns-else-branch-clause-ok : goal.returns-else-branch-clause-ok
returns-else-branch-clause-ok c =
    let m = c.self.inside.groups in
    let l = c.in-Some.list.now in
    let after = c.put_in.new.list in
    let n = c.get_mut.follows.lender after in
    let g = c.group_of-group.result in
    let wrote = c.get_mut.follows.holds after in
    let in_it : group_name c.args.source ≡ g = sym c.group_of-group.ensures in
    let was : (x : RefSource) → answered (tree.get ghosts.cmp m g) x ≡ get l x = λ x. ap (λ found. answered found x) (sym c.in-Some.ensures.value) in
    let u : UpdatesBy ghosts.cmp (ghosts.cmp g) m n (Some after) = wrote.3 (subst IsSome c.in-Some.ensures.value refl) in
    let before : (x : RefSource) (k : ℕ) → get l x ≡ Some k → group_name x ≡ g = c.self.invariant.in_group g l (sym c.in-Some.ensures.value) in
    let own : (x : RefSource) (k : ℕ) → get after x ≡ Some k → group_name x ≡ g = own_put l g c.args.source c.args.slot in_it before after c.in_ok-put_in.ensures.list in
    joined_put m n c.get_mut.ensures.ordered wrote.4 c.self.inside.index c.self.inside.count c.self.invariant g l after was u own c.args.source in_it c.args.slot c.in_ok-put_in.ensures.list ∙ ap (λ s. insert s c.args.source c.args.slot) c.self.view_is
