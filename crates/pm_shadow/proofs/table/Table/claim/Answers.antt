use Rattle.std.proofs.Common.{◌≡◌, ◌≤◌, ◌-◌, List, ℕ, [], ◌∷◌, ◌++◌, length, ap, sym, ◌∙◌, arith, length-set, vec_capacity, ◌^◌}
use Rattle.std.specs.Prelude.{reverse}
use Rattle.std.proofs.Math.ListN.{set}
use Rattle.std.proofs.lemmas.List.{reverse-reverse}
use Rattle.pm_shadow.specs.declared.page_use.PageUse.TheVariants.{Claimed}
use Rattle.pm_shadow.specs.declared.page_use.PageUse.{PageUse}
use Rattle.pm_shadow.specs.Uses.{free_from}
use Rattle.pm_shadow.proofs.TableLemmas.{IsFirst, first_free, pop_first, lowest_of_first}
use Rattle.pm_shadow.proofs.table.Table.claim.Goals as goal

-- the page that was taken off the list is the first that is free
popped : (uses : List PageUse) (free rest : List ℕ) (page : ℕ) → free ≡ reverse (free_from 2 uses) → free ≡ rest ++ page ∷ [] → IsFirst 2 uses page (reverse rest)
popped uses free rest page listed is = first_free 2 uses page (reverse rest) (pop_first (free_from 2 uses) rest page (sym listed ∙ is))

pub overflow_sub-page : goal.overflow_sub-page
overflow_sub-page c =
    let it = c.args.self.now in
    let t = popped it.uses.items it.free.items c.pop.new.self.items c.in-Some.page it.listed c.in-Some.ensures.items in
    omega (arith, t.is_page)

pub index_mut-requires : goal.index_mut-requires
index_mut-requires c =
    let it = c.args.self.now in
    let t = popped it.uses.items it.free.items c.pop.new.self.items c.in-Some.page it.listed c.in-Some.ensures.items in
    omega (arith, t.is_page, t.inside)

-- a write of one use leaves their number
roomy_set : (uses : List PageUse) (i most : ℕ) → length uses ≤ most → length (set uses i Claimed) ≤ most
roomy_set uses i most le = omega (arith, length-set uses i Claimed)

pub invariant_of-self : goal.invariant_of-self
invariant_of-self c =
    let it = c.args.self.now in
    let rest = c.pop.new.self.items in
    let t = popped it.uses.items it.free.items rest c.in-Some.page it.listed c.in-Some.ensures.items in
    let place : t.i ≡ c.in-Some.page - 2 = omega (arith, t.is_page) in
    record {
      listed = sym (reverse-reverse rest) ∙ ap reverse (sym t.left ∙ ap (λ (i : ℕ). free_from 2 (set it.uses.items i Claimed)) place);
      roomy = roomy_set it.uses.items (c.in-Some.page - 2) (vec_capacity c.pop.new.self) (let room = it.roomy in omega (arith, c.in-Some.ensures.capacity));
      few = roomy_set it.uses.items (c.in-Some.page - 2) (2 ^ 49 - 3) it.few;
    }

pub returns-in-Some-clause-lowest : goal.returns-in-Some-clause-lowest
returns-in-Some-clause-lowest c =
    let it = c.args.self.now in
    let t = popped it.uses.items it.free.items c.pop.new.self.items c.in-Some.page it.listed c.in-Some.ensures.items in
    lowest_of_first it.uses.items c.in-Some.page (reverse c.pop.new.self.items) t
