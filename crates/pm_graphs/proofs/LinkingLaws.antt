-- The map of listed slots says what the lists of cars say.
use Rattle.std.proofs.Common.{◌≡◌, ℕ, Bool, true, false, cond, ◌==◌, ◌||◌, ◌+◌, ◌-◌, ◌<◌, ◌≤◌, List, [], ◌∷◌, length, get_or, drop, Option, Some, None, is_some, Err, refl, sym, ap, ◌∙◌, arith, if◌then◌else◌}
use Rattle.std.specs.Option.{option_map}
use Rattle.std.specs.List.{AllByRecursion}
use Rattle.std.specs.Cmp.{nat_cmp_total, ranked}
use Rattle.std.specs.Ordering.{nat_cmp, eq_by_cmp, is_eq, MatchOrdering}
use Rattle.std.specs.declared.cmp.Ordering.{Ordering}
use Rattle.std.specs.declared.cmp.Ordering.TheVariants.{Less, Equal, Greater}
use Rattle.std.specs.FinMap.{get, get-empty, get-insert}
use Rattle.std.specs.FinSet.{contains, contains-empty, contains-insert}
use Rattle.std.proofs.lemmas.Bool.{eqb-true}
use Rattle.std.proofs.lemmas.Bool.Decides.{nat_tests}
use Rattle.pm_types.specs.declared.address.Addr.{Addr}
use Rattle.pm_types.specs.declared.fault.OpenFault.TheVariants.{Malformed}
use Rattle.pm_types.specs.declared.object.Slot.{Slot}
use Rattle.pm_types.specs.declared.object.Slot.TheVariants.{Live, Moved}
use Rattle.pm_image.specs.declared.car.CarImage.{CarImage}
use Rattle.pm_image.specs.declared.settled.KeptPage.{KeptPage}
use Rattle.pm_image.specs.CarPages.{Ascend}
use Rattle.pm_image.specs.Graphs.{images_of, Site, slot_in, slot_named, is_live, leads, linked}
use Rattle.pm_graphs.proofs.Lists.{drop_here}
use Rattle.pm_graphs.specs.declared.leads.SlotLeads.{SlotLeads}
use Rattle.pm_graphs.specs.Linking.{with_lead, lead_slots, lead_cars, lead_by, lead_of, lead_in, lead_at, is_object, may_name, linked_by}
use Rattle.pm_graphs.specs.Reading.{IsMeasured}

tied_test : (k q : ℕ) → eq_by_cmp nat_cmp q k ≡ (k == q)
tied_test k q = by (nat_cmp q k) (ranked q k (nat_cmp q k) refl)
  where
    by : (r : Ordering) → MatchOrdering r (q < k) (q ≡ k) (k < q) → is_eq r ≡ (k == q)
    by Less lt = let no : (k == q) ≡ false = grind (arith, nat_tests) in sym no
    by Equal is = let yes : (k == q) ≡ true = grind (arith, nat_tests) in sym yes
    by Greater lt = let no : (k == q) ≡ false = grind (arith, nat_tests) in sym no

-- where the object of a slot went, and none where it stands
abbrev pub moved_to : Slot → Option Addr
moved_to (Live object) = None
moved_to (Moved to) = Some to

-- the slots of each car ascend
abbrev pub AreAscending : List KeptPage → Type 0
AreAscending cars = AllByRecursion (λ (image : CarImage). Ascend 0 image.slots) (images_of cars)

pub all_ascending : (cars : List KeptPage) → AllByRecursion IsMeasured cars → AreAscending cars
all_ascending [] are = tt
all_ascending (kept ∷ cars) are = (are.0.ascend, all_ascending cars are.1)

-- in a slot before all that are listed no object stands
none_before : (slots : List (ℕ × Slot)) (least number : ℕ) → Ascend least slots → number < least → contains (lead_slots slots).live number ≡ false
none_before [] least number ascend low = contains-empty nat_cmp number
none_before ((n, Live object) ∷ slots) least number ascend low =
    let over = ascend.0 in
    let apart : (n == number) ≡ false = grind (arith, nat_tests, over, low) in
    contains-insert nat_cmp_total (lead_slots slots).live n number
    ∙ (λ i. (tied_test n number ∙ apart) i || none_before slots (n + 1) number ascend.2 (omega (arith, over, low)) i)
none_before ((n, Moved to) ∷ slots) least number ascend low = let over = ascend.0 in none_before slots (n + 1) number ascend.2 (omega (arith, over, low))

slot_found : (slots : List (ℕ × Slot)) (least number : ℕ) → Ascend least slots → lead_in (lead_slots slots) number ≡ option_map moved_to (slot_in slots number)
slot_found [] least number ascend = λ i. lead_by (contains-empty nat_cmp number i) (get-empty nat_cmp number i)
slot_found ((n, Live object) ∷ slots) least number ascend =
    let others = lead_slots slots in
    ap (λ (b : Bool). lead_by b (get others.moved number)) (contains-insert nat_cmp_total others.live n number ∙ ap (λ (b : Bool). b || contains others.live number) (tied_test n number))
    ∙ elim (n == number) as (λ b. lead_by (b || contains others.live number) (get others.moved number) ≡ option_map moved_to (if b then Some (Live object) else slot_in slots number)) [
      | true ↦ refl
      | false ↦ slot_found slots (n + 1) number ascend.2
    ]
slot_found ((n, Moved to) ∷ slots) least number ascend =
    let others = lead_slots slots in
    ap (lead_by (contains others.live number)) (get-insert nat_cmp_total others.moved n to number ∙ ap (λ (b : Bool). cond b (Some to) (get others.moved number)) (tied_test n number))
    ∙ elim (n == number) as (λ b. (n == number) ≡ b → lead_by (contains others.live number) (cond b (Some to) (get others.moved number)) ≡ option_map moved_to (if b then Some (Moved to) else slot_in slots number)) [
      | true ↦ λ here. let same = eqb-true n number here in ap (λ (b : Bool). lead_by b (Some to)) (none_before slots (n + 1) number ascend.2 (omega (arith, same)))
      | false ↦ λ there. slot_found slots (n + 1) number ascend.2
    ] refl

-- what is found at an address
pub found_at : (cars : List KeptPage) (at : Addr) → AreAscending cars → lead_at (lead_cars cars) at ≡ option_map moved_to (slot_named (images_of cars) at)
found_at [] at ascend = ap (λ (found : Option SlotLeads). lead_of found at.slot) (get-empty nat_cmp at.car)
found_at (kept ∷ cars) at ascend =
    ap (λ (found : Option SlotLeads). lead_of found at.slot) (get-insert nat_cmp_total (lead_cars cars) kept.image.number (lead_slots kept.image.slots) at.car)
    ∙ ap (λ (b : Bool). lead_of (cond b (Some (lead_slots kept.image.slots)) (get (lead_cars cars) at.car)) at.slot) (tied_test kept.image.number at.car)
    ∙ elim (kept.image.number == at.car) as (λ b. lead_of (cond b (Some (lead_slots kept.image.slots)) (get (lead_cars cars) at.car)) at.slot ≡ option_map moved_to (if b then slot_in kept.image.slots at.slot else slot_named (images_of cars) at)) [
      | true ↦ slot_found kept.image.slots 0 at.slot ascend.0
      | false ↦ found_at cars at ascend.1
    ]

-- one slot more, from the end
pub lead_more : (slots : List (ℕ × Slot)) (left : ℕ) (x : ℕ × Slot) (so_far : SlotLeads) → 0 < left → left ≤ length slots → x ≡ get_or slots (left - 1) x → so_far ≡ lead_slots (drop left slots)
    → with_lead so_far x ≡ lead_slots (drop (left - 1) slots)
lead_more slots left x so_far some inside is same =
    let back : left - 1 + 1 ≡ left = omega arith in
    let here = drop_here slots (left - 1) x (omega arith) is ∙ ap (λ (k : ℕ). x ∷ drop k slots) back in
    ap (λ (front : SlotLeads). with_lead front x) same ∙ ap lead_slots (sym here)

object_live : (found : Option Slot) → is_object (option_map moved_to found) ≡ is_live found
object_live None = refl
object_live (Some (Live object)) = refl
object_live (Some (Moved to)) = refl

some_same : (found : Option Slot) → is_some (option_map moved_to found) ≡ is_some found
some_same None = refl
some_same (Some slot) = refl

leads_same : (cars : List KeptPage) (site : Site) → AreAscending cars → may_name (lead_cars cars) site.to site.to_live ≡ leads (images_of cars) site
leads_same cars site ascend =
    let found = found_at cars site.to ascend in
    elim site.to_live as (λ b. may_name (lead_cars cars) site.to b ≡ (if b then is_live (slot_named (images_of cars) site.to) else is_some (slot_named (images_of cars) site.to))) [
      | true ↦ ap is_object found ∙ object_live (slot_named (images_of cars) site.to)
      | false ↦ ap is_some found ∙ some_same (slot_named (images_of cars) site.to)
    ]

-- addresses are followed alike
pub linked_same : (cars : List KeptPage) (sites : List Site) → AreAscending cars → linked_by (lead_cars cars) sites ≡ linked (images_of cars) sites
unfolding linked_by linked
linked_same cars [] ascend = refl
linked_same cars (site ∷ sites) ascend = λ i. if leads_same cars site ascend i then linked_same cars sites ascend i else Err (Malformed site.page site.at)
