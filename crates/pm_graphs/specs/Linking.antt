-- How the addresses of a store are followed: by a map of the slots that its cars list.
use Rattle.std.specs.Prelude.{ℕ, List, [], ◌∷◌, Option, Some, None, is_some, Result, Ok, Err, Bool, true, false, if◌then◌else◌}
use Rattle.std.specs.Ordering.{nat_cmp}
use Rattle.std.specs.FinMap.{FinMap, empty, insert, get}
use Rattle.std.specs.FinSet as set
use Rattle.pm_types.specs.declared.address.Addr.{Addr}
use Rattle.pm_types.specs.declared.fault.OpenFault.{OpenFault}
use Rattle.pm_types.specs.declared.fault.OpenFault.TheVariants.{Malformed}
use Rattle.pm_types.specs.declared.object.Slot.{Slot}
use Rattle.pm_types.specs.declared.object.Slot.TheVariants.{Live, Moved}
use Rattle.pm_image.specs.declared.settled.KeptPage.{KeptPage}
use Rattle.pm_image.specs.Graphs.{Site}
use Rattle.pm_graphs.specs.declared.fault.Place.{Place}
use Rattle.pm_graphs.specs.declared.leads.SlotLeads.{SlotLeads}

-- no slot
abbrev pub no_leads : SlotLeads
no_leads = record { live = set.empty; moved = empty }

-- one slot more: an object stands in it, or went from it to an address
abbrev pub with_lead : SlotLeads → ℕ × Slot → SlotLeads
with_lead leads (number, Live object) = record leads { live = set.insert leads.live number }
with_lead leads (number, Moved to) = record leads { moved = insert leads.moved number to }

-- the slots that a car lists, whose numbers ascend
abbrev pub lead_slots : List (ℕ × Slot) → SlotLeads
lead_slots [] = no_leads
lead_slots (first ∷ others) = with_lead (lead_slots others) first

-- those of each car, at its number
abbrev pub Leads : Type 0
Leads = FinMap nat_cmp SlotLeads

abbrev pub lead_cars : List KeptPage → Leads
lead_cars [] = empty
lead_cars (kept ∷ cars) = insert (lead_cars cars) kept.image.number (lead_slots kept.image.slots)

-- where the object of a slot went, or none where it stands, if the slot is listed
abbrev pub lead_by : Bool → Option Addr → Option (Option Addr)
lead_by true to = Some None
lead_by false None = None
lead_by false (Some to) = Some (Some to)

abbrev pub lead_in : SlotLeads → ℕ → Option (Option Addr)
lead_in leads slot = lead_by (set.contains leads.live slot) (get leads.moved slot)

-- the same of a car that may not be there
abbrev pub lead_of : Option SlotLeads → ℕ → Option (Option Addr)
lead_of None slot = None
lead_of (Some leads) slot = lead_in leads slot

-- and of the slot that an address names
abbrev pub lead_at : Leads → Addr → Option (Option Addr)
lead_at cars at = lead_of (get cars at.car) at.slot

-- an object stands there
abbrev pub is_object : Option (Option Addr) → Bool
is_object None = false
is_object (Some None) = true
is_object (Some (Some to)) = false

-- an address names a slot of a kind that it may
abbrev pub may_name : Leads → Addr → Bool → Bool
may_name cars to to_live = if to_live then is_object (lead_at cars to) else is_some (lead_at cars to)

-- where an address leads, if the object at it went there
abbrev pub led_to : Option (Option Addr) → Addr → Addr
led_to None at = at
led_to (Some None) at = at
led_to (Some (Some to)) at = to

-- where an address leads
abbrev pub resolved_by : Leads → Addr → Addr
resolved_by cars at = led_to (lead_at cars at) at

-- each address names a slot that it may, or the first that does not is at fault
unfoldable pub linked_by : Leads → List Site → Result (Unit {0}) OpenFault
linked_by cars [] = Ok tt
linked_by cars (site ∷ sites) = if may_name cars site.to site.to_live then linked_by cars sites else Err (Malformed site.page site.at)

-- what was answered of addresses: each leads where it may, or the one at this place does not
abbrev pub led : Result (Unit {0}) Place → Result (Unit {0}) OpenFault
led (Ok u) = Ok tt
led (Err place) = Err (Malformed place.page place.at)
