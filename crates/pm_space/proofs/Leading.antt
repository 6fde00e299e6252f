-- An address that a source stores leads to an object that stands.
use Rattle.std.proofs.Common.{◌≡◌, false, refl, ap, Option, Some, None}
use Rattle.pm_types.specs.declared.address.Addr.{Addr}
use Rattle.pm_types.specs.declared.source.RefSource.{RefSource}
use Rattle.pm_types.specs.declared.object.Slot.{Slot}
use Rattle.pm_types.specs.declared.object.Slot.TheVariants.{Live, Moved}
use Rattle.pm_cars.specs.Cars.{look_of}
use Rattle.pm_law_commands.proofs.RowLemmas.Spread.{stands_kept}
use Rattle.pm_view.specs.View.{SpaceView}
use Rattle.pm_view.specs.Reading.{slot_at, stored, resolve, followed, is_aside, SourceStands}
use Rattle.pm_view.specs.Seen.{seen, IsLive, Leads}
use Rattle.pm_view.specs.Law.{HeapLaw}

leads_on : (view : SpaceView) (a : Addr) (o : Option Slot) → slot_at view.cars a ≡ o → is_aside view a.car ≡ false → Leads (seen view) a (look_of o) → IsLive (seen view) (followed o a)
leads_on view a None is kept leads = absurd leads
leads_on view a (Some (Live object)) is kept leads = (ap look_of is, kept)
leads_on view a (Some (Moved to)) is kept leads = leads.1

-- where the heap law holds
pub stored_leads : (view : SpaceView) (a : Addr) → HeapLaw view → (x : RefSource) → SourceStands view x → stored view x ≡ Some a → IsLive (seen view) (resolve view a)
stored_leads view a law x stands is =
    let leads = law.tied.leads x a (stands_kept view x stands) is in
    leads_on view a (slot_at view.cars a) refl leads.0 leads.1
