use Rattle.std.proofs.Common.{◌≡◌, ◌+◌, List, ℕ, [], ◌∷◌, ◌++◌, length, ap, subst, sym, ◌∙◌, arith, length-append}
use Rattle.std.specs.Prelude.{reverse}
use Rattle.pm_shadow.specs.declared.page_use.PageUse.TheVariants.{Claimed}
use Rattle.pm_shadow.specs.declared.page_use.PageUse.{PageUse}
use Rattle.pm_shadow.specs.Uses.{free_from, use_of, IsLowestFree}
use Rattle.pm_shadow.proofs.TableLemmas.{lowest_behind, uses_push, free_push}
use Rattle.pm_shadow.proofs.table.Table.claim_behind.Goals as goal

pub returns-clause-lowest : goal.returns-clause-lowest
returns-clause-lowest c =
    let it = c.args.self.now in
    let long : length it.uses.items ≡ c.len-len.result = omega (arith, it.uses.ok.0, c.len-len.ensures) in
    subst (λ (n : ℕ). IsLowestFree (use_of it.uses.items) (2 + n)) long (lowest_behind it.uses.items c.requires)

pub returns-clause-claimed : goal.returns-clause-claimed
returns-clause-claimed c =
    let it = c.args.self.now in
    let long : length it.uses.items ≡ c.len-len.result = omega (arith, it.uses.ok.0, c.len-len.ensures) in
    ap use_of (c.push_reserved.ensures.items ∙ ap (λ (t : List PageUse). t ++ Claimed ∷ []) c.in_ok-reserve-2.ensures.items) ∙ uses_push it.uses.items (2 + c.len-len.result) (omega (arith, long))

pub invariant_of-self-2 : goal.invariant_of-self-2
invariant_of-self-2 c =
    let it = c.args.self.now in
    let long : length it.uses.items ≡ c.len-len.result = omega (arith, it.uses.ok.0, c.len-len.ensures) in
    let items = c.push_reserved.ensures.items ∙ ap (λ (t : List PageUse). t ++ Claimed ∷ []) c.in_ok-reserve-2.ensures.items in
    let more : length c.push_reserved.new.self.items ≡ length it.uses.items + 1 = omega (arith, ap length items, length-append it.uses.items (Claimed ∷ [])) in
    record {
      listed = c.in_ok-reserve.ensures.items ∙ it.listed ∙ ap reverse (sym (free_push 2 it.uses.items) ∙ ap (free_from 2) (sym items));
      roomy = omega (arith, more, long, c.in_ok-reserve.ensures.ok, c.in_ok-reserve.ensures.len);
      few = let below = c.if-len-ge-MOST_PAGES.false in omega (arith, more, long);
    }
