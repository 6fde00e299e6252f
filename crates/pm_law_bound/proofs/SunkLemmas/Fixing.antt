-- A source that is fixed: a sunk set stays sunk.
use Rattle.std.proofs.Common.{◌≡◌, ℕ, Bool, true, false, cond, refl, ap, sym, ◌∙◌, Option, Some, None}
use Rattle.std.proofs.lemmas.Bool.{cond-true, cond-false}
use Rattle.pm_types.specs.declared.address.Addr.{Addr}
use Rattle.pm_types.specs.declared.object.Slot.{Slot}
use Rattle.pm_types.specs.declared.object.Slot.TheVariants.{Live, Moved}
use Rattle.pm_types.specs.declared.source.RefSource.{RefSource}
use Rattle.pm_types.specs.declared.source.RefSource.TheVariants.{Root, Handle, Field}
use Rattle.pm_cars.specs.declared.look.Look.TheVariants as looks
use Rattle.pm_cars.specs.Cars.{look_of}
use Rattle.pm_view.specs.Sources.{same_source}
use Rattle.pm_view.specs.View.{SpaceView}
use Rattle.pm_view.specs.Reading.{slot_at, stored, is_kept, followed, id_at}
use Rattle.pm_view.specs.Law.{HeapLaw}
use Rattle.pm_view.specs.Represents.{names}
use Rattle.pm_view.specs.Rows.{spread}
use Rattle.pm_view.specs.Collecting.{fixed}
use Rattle.pm_law_commands.proofs.RowLemmas.SameSource.{same-true}
use Rattle.pm_law_commands.proofs.RowLemmas.SpreadKept.{reshaped_spread}
use Rattle.pm_law_collect.proofs.PhasesLemmas.Comes.{IsEmptied}
use Rattle.pm_law_collect.proofs.PhasesLemmas.PhaseRows.{emptied_aside}
use Rattle.pm_law_collect.proofs.ChangesLemmas.FixRow.{fix_was, fix_stored}
use Rattle.pm_view.specs.Sinking.{IsFieldOf, Sunk}
use Rattle.pm_law_bound.proofs.SunkLemmas.Sinks.{sunk_reshaped}

live_itself : (o : Option Slot) (a : Addr) → look_of o ≡ looks.Live → followed o a ≡ a
live_itself None a live = cc
live_itself (Some (Live object)) a live = refl
live_itself (Some (Moved b)) a live = cc

module _ (view : SpaceView) (car : ℕ) (x : RefSource) (to : Addr) (Of : ℕ → Type 0) (n : ℕ) (law : HeapLaw view) (is : IsEmptied view car (Some (x, to))) (sunk : Sunk view Of n) where
  abbrev there : SpaceView
  there = spread view x (Some to)

  abbrev old : Addr
  old = record { car = car; slot = (fix_was view car x to law is).0 }

  gone : slot_at view.cars old ≡ Some (Moved to)
  gone = (fix_was view car x to law is).2

  live : look_of (slot_at view.cars to) ≡ looks.Live
  live = (law.tied.moved old to (emptied_aside view car (Some (x, to)) law is car) (ap look_of gone)).1.0

  -- the new address names what the old one did
  same_name : names view (Some to) ≡ names view (Some old)
  same_name = ap (id_at view) (live_itself (slot_at view.cars to) to live) ∙ sym (ap (λ o. id_at view (followed o old)) gone)

  stores : (y : RefSource) → stored there y ≡ cond (same_source x y) (Some to) (stored view y)
  stores (Root k) = fix_stored view car x to law is (Root k)
  stores (Handle c r) = fix_stored view car x to law is (Handle c r)
  stores (Field a i) = fix_stored view car x to law is (Field a i)

  names_before : (y : RefSource) (id : ℕ) → names view (stored there y) ≡ Some id → names view (stored view y) ≡ Some id
  names_before y id name = by_source (same_source x y) refl
    where
      by_source : (b : Bool) → same_source x y ≡ b → names view (stored view y) ≡ Some id
      by_source true one =
          ap (λ z. names view (stored view z)) (sym (same-true x y one)) ∙ ap (names view) (fix_was view car x to law is).1 ∙ sym same_name
          ∙ ap (names view) (sym (stores y ∙ cond-true _ _ _ one)) ∙ name
      by_source false other = ap (names view) (sym (stores y ∙ cond-false _ _ _ other)) ∙ name

  there_sunk : Sunk there Of n
  there_sunk = sunk_reshaped view there Of n (reshaped_spread view x (Some to)) sunk (λ y id up name of. sunk.named y id up (names_before y id name) of)

  fixed_named : (y : RefSource) (id : ℕ) → is_kept (fixed view car x to) y ≡ true → names (fixed view car x to) (stored (fixed view car x to) y) ≡ Some id → Of id → IsFieldOf (fixed view car x to) Of y
  fixed_named (Root k) id up name of = there_sunk.named (Root k) id up name of
  fixed_named (Handle c r) id up name of = there_sunk.named (Handle c r) id up name of
  fixed_named (Field a i) id up name of = there_sunk.named (Field a i) id up name of

  pub fixing_sunk : Sunk (fixed view car x to) Of n
  fixing_sunk = record { given = there_sunk.given; named = fixed_named; low = there_sunk.low; anchored = there_sunk.anchored }
