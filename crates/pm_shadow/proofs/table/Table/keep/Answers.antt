use Rattle.std.proofs.Common.{◌≤◌, ◌-◌, ◌^◌, List, ℕ, length, ap, sym, ◌∙◌, arith, length-set, vec_capacity}
use Rattle.std.specs.Prelude.{reverse}
use Rattle.std.proofs.Math.ListN.{set}
use Rattle.pm_shadow.specs.declared.page_use.PageUse.TheVariants.{Kept}
use Rattle.pm_shadow.specs.declared.page_use.PageUse.{PageUse}
use Rattle.pm_shadow.specs.Uses.{is_current}
use Rattle.pm_shadow.proofs.TableLemmas.{current_in_list, free_kept, use_high, uses_kept}
use Rattle.pm_shadow.proofs.table.Table.keep.Goals as goal

pub index_mut-requires : goal.index_mut-requires
index_mut-requires c =
    let it = c.args.self.now in
    let inside = current_in_list it.uses.items c.args.page c.requires.from_2 c.requires.current in
    omega (arith, inside)

-- a write of one use leaves their number
as_many : (uses : List PageUse) (i most : ℕ) → length uses ≤ most → length (set uses i Kept) ≤ most
as_many uses i most le = omega (arith, length-set uses i Kept)

pub invariant_of-self : goal.invariant_of-self
invariant_of-self c =
    let it = c.args.self.now in
    let page = c.args.page in
    record {
      listed = it.listed ∙ ap reverse (sym (free_kept 2 it.uses.items (page - 2) (ap is_current (sym (use_high it.uses.items page c.requires.from_2)) ∙ c.requires.current)));
      roomy = as_many it.uses.items (page - 2) (vec_capacity it.free) it.roomy;
      few = as_many it.uses.items (page - 2) (2 ^ 49 - 3) it.few;
    }

pub returns : goal.returns
returns c =
    let it = c.args.self.now in
    uses_kept it.uses.items c.args.page c.requires.from_2 (current_in_list it.uses.items c.args.page c.requires.from_2 c.requires.current)
