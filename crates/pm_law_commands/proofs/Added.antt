-- A `new` that is not refused adds one object.
use Rattle.std.proofs.Common.{◌≡◌, ℕ, ◌||◌, nat_lt, if◌then◌else◌, Bool, true, false, refl, ap, sym, ◌∙◌, List, length, Some}
use Rattle.std.proofs.lemmas.Bool.{ltb-false, or_parts}
use Rattle.pm_types.specs.declared.limits.TheConstants.{FIELDS, OBJECT_BYTES, LAST_ID}
use Rattle.pm_types.specs.declared.address.Addr.{Addr}
use Rattle.pm_types.specs.declared.source.RefSource.TheVariants.{Handle}
use Rattle.pm_types.specs.declared.reply.Reply.{Reply}
use Rattle.pm_types.specs.declared.reply.Reply.TheVariants.{Ident, TooLarge, IdsSpent}
use Rattle.pm_trains.specs.Trains.{Trains, train_of}
use Rattle.pm_trains.specs.Trains as trains
use Rattle.pm_view.specs.View.{SpaceView}
use Rattle.pm_view.specs.Law.{HeapLaw}
use Rattle.pm_view.specs.Objects.{KeepsObjects, AddsObject}
use Rattle.pm_view.specs.Rows.{spread, spent, born, birthplace, IsVacant}
use Rattle.pm_view.specs.Commands.{fresh, row_new}
use Rattle.pm_law_commands.proofs.RowLemmas.Born.{born_gives}
use Rattle.pm_law_commands.proofs.Births.{spent_law, may_be_born}
use Rattle.pm_law_commands.proofs.Objects.{spread_keeps}

-- what was added stays where the objects are kept
then_kept : (view t u : SpaceView) (id : ℕ) (place : Addr) → AddsObject view t id place → KeepsObjects t u → AddsObject view u id place
then_kept view t u id place added kept = record {
  none = added.none;
  here = kept.ids place ∙ added.here;
  free = kept.aside place.car ∙ added.free;
  home = ap (λ (s : Trains). train_of s.trains place.car) kept.trains ∙ added.home ∙ ap (λ (s : Trains). Some (trains.youngest s.trains)) (sym kept.trains);
  ids = λ a apart. kept.ids a ∙ added.ids a apart;
  aside = λ car. kept.aside car ∙ added.aside car;
  homes = λ car some. ap (λ (s : Trains). train_of s.trains car) kept.trains ∙ added.homes car some;
  youngest = ap (λ (s : Trains). trains.youngest s.trains) kept.trains ∙ added.youngest;
  births = ap (λ (s : Trains). s.births) kept.trains ∙ added.births;
}

-- a space and the same one whose next identity was given hold the same objects
of_spent : (view t : SpaceView) (id : ℕ) (place : Addr) → AddsObject (spent view) t id place → AddsObject view t id place
of_spent view t id place added = record { none = added.none; here = added.here; free = added.free; home = added.home; ids = added.ids; aside = added.aside; homes = added.homes; youngest = added.youngest; births = added.births }

-- the reply is this identity, and what the space after a row adds
abbrev Answers : Reply × SpaceView → ℕ → Type 0
Answers after id = after.0 ≡ Ident id

abbrev AddsAfter : SpaceView → Reply × SpaceView → ℕ → Addr → Type 0
AddsAfter view after id place = AddsObject view after.1 id place

module _ (view : SpaceView) (law : HeapLaw view) (client reg count number : ℕ) (bytes : List ℕ) (vacant : IsVacant view.cars number) where
  abbrev object_then : SpaceView
  object_then = spread (born (spent view) number (fresh view count bytes)) (Handle client reg) (Some (birthplace (spent view) number (fresh view count bytes)))

  pub new_adds : (row_new view client reg count bytes number).0 ≡ Ident view.next → AddsObject view (row_new view client reg count bytes number).1 view.next (birthplace (spent view) number (fresh view count bytes))
  new_adds made = by_size (nat_lt FIELDS count || nat_lt OBJECT_BYTES (length bytes)) refl (nat_lt LAST_ID view.next) refl made
    where
      by_size : (b : Bool) → (nat_lt FIELDS count || nat_lt OBJECT_BYTES (length bytes)) ≡ b → (d : Bool) → nat_lt LAST_ID view.next ≡ d
          → Answers (if b then (TooLarge, view) else if d then (IdsSpent, view) else (Ident view.next, object_then)) view.next
          → AddsAfter view (if b then (TooLarge, view) else if d then (IdsSpent, view) else (Ident view.next, object_then)) view.next (birthplace (spent view) number (fresh view count bytes))
      by_size true large d test is = cc
      by_size false fits true spent_all is = cc
      by_size false fits false more is =
          let both = or_parts (nat_lt FIELDS count) (nat_lt OBJECT_BYTES (length bytes)) fits in
          let room = ltb-false LAST_ID view.next more in
          let gives = born_gives (spent view) number (fresh view count bytes) (spent_law view law room) (may_be_born view law room count bytes (ltb-false FIELDS count both.0) (ltb-false OBJECT_BYTES (length bytes) both.1)) vacant in
          then_kept view (born (spent view) number (fresh view count bytes)) object_then view.next (birthplace (spent view) number (fresh view count bytes))
          (of_spent view (born (spent view) number (fresh view count bytes)) view.next (birthplace (spent view) number (fresh view count bytes)) gives.added)
          (spread_keeps (born (spent view) number (fresh view count bytes)) (Handle client reg) (Some (birthplace (spent view) number (fresh view count bytes))))
