-- What a set that was told of sources answers.
use Rattle.std.proofs.Common.{◌≡◌, ℕ, cond, sym, ap, ◌∙◌, List, [], ◌∷◌, Option, Some}
use Rattle.std.specs.Cmp.{eq_by_cmp_equiv}
use Rattle.std.specs.Ordering.{eq_by_cmp}
use Rattle.std.specs.List.{fold}
use Rattle.std.specs.Map.{update, update_all}
use Rattle.std.specs.FinMap.{get, insert, get-insert}
use Rattle.pm_types.specs.declared.source.RefSource.{RefSource}
use Rattle.pm_types.specs.contracts.source.RefSourceOrd.TheImpl.{ghosts}
use Rattle.pm_types.specs.Orders.{source_cmp}
use Rattle.pm_types.proofs.Orders.{sources_total}
use Rattle.pm_remset.specs.Gathered.{with_told}
use Rattle.pm_remset.specs.Remembered.{Remembered}
use Rattle.pm_remset.proofs.Sources.{derived_is}

-- a comparison turned round, in the derived order
turned : (q k : RefSource) → eq_by_cmp source_cmp q k ≡ eq_by_cmp ghosts.cmp k q
turned q k = (eq_by_cmp_equiv sources_total).symm q k ∙ ap (λ R. eq_by_cmp R k q) (sym derived_is)

pub get_told : (told : List (RefSource × ℕ)) (set : Remembered) (f : RefSource → Option ℕ) → ((q : RefSource) → get set q ≡ f q) → (q : RefSource) → get (fold with_told set told) q ≡ update_all (eq_by_cmp ghosts.cmp) f told q
get_told [] set f is q = is q
get_told (e ∷ told) set f is q =
    get_told told (insert set e.0 e.1) (update (eq_by_cmp ghosts.cmp) f e.0 (Some e.1))
    (λ r. get-insert sources_total set e.0 e.1 r ∙ (λ i. cond (turned r e.0 i) (Some e.1) (is r i))) q
