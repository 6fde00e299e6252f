-- The rows by which objects come in, each of which says the whole space after it: an object is born without its fields,
-- then each of its fields that is not null is set, and so is each register that names it, each once.
use Rattle.std.specs.Prelude.{◌≡◌, ℕ, ◌+◌, nat_eq, if◌then◌else◌, List, [], ◌∷◌, length, slice_index_or}
use Rattle.std.specs.Prelude.{Option, Some, None}
use Rattle.std.specs.FinMap.{get}
use Rattle.pm_types.specs.declared.address.Addr.{Addr}
use Rattle.pm_types.specs.declared.source.RefSource.TheVariants.{Field, Handle}
use Rattle.pm_model.specs.Heap.{Object, Heap}
use Rattle.pm_model.specs.World.{Registers}
use Rattle.pm_view.specs.View.{SpaceView}
use Rattle.pm_view.specs.Rows.{spread}
use Rattle.pm_mutate.specs.Commands.Births.{IsBornAt}
use Rattle.pm_mutate.specs.Young.{admitted}
use Rattle.pm_nursery.specs.Holding.{AreHolders}
use Rattle.pm_nursery.specs.Young.{NurseryView}

-- what stands as far in the list of places
abbrev pub place_at : List Addr → ℕ → Addr
place_at places at = slice_index_or places at (record { car = 0; slot = 0 })

-- the place of an identity: both stand as far in their lists
abbrev pub placed_among : List ℕ → List Addr → ℕ → Option Addr
placed_among [] places id = None
placed_among (first ∷ ids) [] id = None
placed_among (first ∷ ids) (place ∷ places) id = if nat_eq first id then Some place else placed_among ids places id

-- the fields of an object, none where there is none
abbrev pub fields_of : Option Object → List (Option ℕ)
fields_of None = []
fields_of (Some object) = object.fields

-- ---- births

-- the object is born at this place, without its fields
abbrev pub IsBornBlank : SpaceView → ℕ → Option Object → Addr → SpaceView → Type 0
IsBornBlank view id None place after = ⊥
IsBornBlank view id (Some object) place after =
    IsBornAt view (admitted id (length object.fields) object.bytes) (place, after)

-- the objects of these identities are born one after another, at these places
abbrev pub AreBorn : SpaceView → Heap → List ℕ → List Addr → SpaceView → Type 0
AreBorn view objects [] [] after = after ≡ view
AreBorn view objects [] (place ∷ places) after = ⊥
AreBorn view objects (id ∷ ids) [] after = ⊥
AreBorn view objects (id ∷ ids) (place ∷ places) after =
    (next : SpaceView) × IsBornBlank view id (get objects id) place next × AreBorn next objects ids places after

-- ---- fields

-- a field of the object at this address is set, unless it is null
abbrev pub with_link : SpaceView → (ℕ → Option Addr) → Addr → ℕ → Option ℕ → SpaceView
with_link view placed at index None = view
with_link view placed at index (Some to) = spread view (Field at index) (placed to)

-- so are its fields from this one on
abbrev pub with_links : SpaceView → (ℕ → Option Addr) → Addr → ℕ → List (Option ℕ) → SpaceView
with_links view placed at index [] = view
with_links view placed at index (value ∷ fields) =
    with_links (with_link view placed at index value) placed at (index + 1) fields

-- and those of all of these objects
abbrev pub with_all_links : SpaceView → Heap → (ℕ → Option Addr) → List ℕ → List Addr → SpaceView
with_all_links view objects placed [] places = view
with_all_links view objects placed (id ∷ ids) [] = view
with_all_links view objects placed (id ∷ ids) (place ∷ places) =
    with_all_links (with_links view placed place 0 (fields_of (get objects id))) objects placed ids places

-- ---- registers

-- these registers hold this address
abbrev pub with_holders : SpaceView → Addr → List (ℕ × (ℕ × ℕ)) → SpaceView
with_holders view at [] = view
with_holders view at (holder ∷ holders) =
    with_holders (spread view (Handle holder.1.0 holder.1.1) (Some at)) at holders

-- the registers that name this identity hold its place
abbrev pub IsNowHeld : SpaceView → Registers → ℕ → Addr → SpaceView → Type 0
IsNowHeld view registers id place after =
    (holders : List (ℕ × (ℕ × ℕ))) × AreHolders registers id holders × (after ≡ with_holders view place holders)

-- and so do those that name one of these
abbrev pub AreNowHeld : SpaceView → Registers → List ℕ → List Addr → SpaceView → Type 0
AreNowHeld view registers [] [] after = after ≡ view
AreNowHeld view registers [] (place ∷ places) after = ⊥
AreNowHeld view registers (id ∷ ids) [] after = ⊥
AreNowHeld view registers (id ∷ ids) (place ∷ places) after =
    (next : SpaceView) × IsNowHeld view registers id place next × AreNowHeld next registers ids places after

-- ---- all three

-- The objects of these identities are born in their order; then each field that is not null is set, once, to the place
-- of what it names; then each register that names one holds its place. Nothing else is done to the space.
pub record ComeByRows (view : SpaceView) (nursery : NurseryView) (ids : List ℕ) (after : SpaceView) : Type 0 where
  pub places : List Addr
  pub admitted : SpaceView
  pub born : AreBorn view nursery.objects ids places admitted
  pub held : AreNowHeld (with_all_links admitted nursery.objects (placed_among ids places) ids places)
      nursery.registers ids places after
