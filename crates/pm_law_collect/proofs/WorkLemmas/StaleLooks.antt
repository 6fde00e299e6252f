-- Where a car that is emptied remembers what it remembered, and its slots look as they did.
use Rattle.std.proofs.Common.{◌≡◌, ℕ, Bool, true, false, refl, ap, sym, ◌∙◌, Option, Some, None}
use Rattle.std.specs.Option.{IsSome, unwrap_or}
use Rattle.std.specs.FinMap.{get, empty}
use Rattle.std.proofs.lemmas.Bool.{true≢false}
use Rattle.pm_types.specs.declared.object.Slot.{Slot}
use Rattle.pm_types.specs.declared.object.Slot.TheVariants.{Live, Moved}
use Rattle.pm_cars.specs.declared.look.Look.{Look}
use Rattle.pm_cars.specs.declared.look.Look.TheVariants as looks
use Rattle.pm_cars.specs.Cars.{look_of, object_of}
use Rattle.pm_view.specs.declared.phase.Phase.TheVariants.{Moving}
use Rattle.pm_view.specs.View.{Sources, Sets, SpaceView}
use Rattle.pm_view.specs.Reading.{slot_at}
use Rattle.pm_view.specs.Candidates.{set_of}
use Rattle.pm_view.specs.Events.{went, has_gone}
use Rattle.pm_law_commands.proofs.RowLemmas.Built.{IsReshaped}
use Rattle.pm_view.specs.Stale.{IsSole}

-- ---- slots

-- the look of a slot tells whether its object moved away
abbrev gone_look : Look → Bool
gone_look looks.Live = false
gone_look (looks.Moved to) = true
gone_look looks.Gone = false

gone_is : (o : Option Slot) → has_gone (went o) ≡ gone_look (look_of o)
gone_is None = refl
gone_is (Some (Live object)) = refl
gone_is (Some (Moved to)) = refl

pub gone_same : (o p : Option Slot) → look_of o ≡ look_of p → has_gone (went o) ≡ has_gone (went p)
gone_same o p same = gone_is o ∙ ap gone_look same ∙ sym (gone_is p)

-- an object that stands did not move away
pub stands_here : (o : Option Slot) → IsSome (object_of o) → has_gone (went o) ≡ false
stands_here None stands = absurd (true≢false (sym stands))
stands_here (Some (Live object)) stands = refl
stands_here (Some (Moved to)) stands = absurd (true≢false (sym stands))

-- ---- a car that is emptied

-- the car that is emptied in a space remembers in t what it remembered, and its slots look as they did
pub record KeepsStale (view t : SpaceView) : Type 0 where
  pub phase : t.phase ≡ view.phase
  pub set : (car : ℕ) → view.phase ≡ Moving car → set_of t car ≡ set_of view car
  pub look : (car slot : ℕ) → view.phase ≡ Moving car → look_of (slot_at t.cars (record { car = car; slot = slot })) ≡ look_of (slot_at view.cars (record { car = car; slot = slot }))

pub keeps_itself : (view : SpaceView) → KeepsStale view view
keeps_itself view = record { phase = refl; set = λ car at. refl; look = λ car slot at. refl }

pub keeps_both : (a b c : SpaceView) → KeepsStale a b → KeepsStale b c → KeepsStale a c
keeps_both a b c one two = record {
  phase = two.phase ∙ one.phase;
  set = λ car at. two.set car (one.phase ∙ at) ∙ one.set car at;
  look = λ car slot at. two.look car slot (one.phase ∙ at) ∙ one.look car slot at;
}

-- the slot that can be named stays that slot
pub sole_still : (view t : SpaceView) → KeepsStale view t → (slot : Option ℕ) → IsSole view slot → IsSole t slot
sole_still view t keeps None sole = tt
sole_still view t keeps (Some slot) sole = λ car moving source at held gone.
    let was = sym keeps.phase ∙ moving in
    sole car was source at (ap (λ (s : Sources). get s source) (sym (keeps.set car was)) ∙ held) (sym (gone_same _ _ (keeps.look car at was)) ∙ gone)

-- so where cars and objects keep their shape
pub reshaped_keeps : (view t : SpaceView) → IsReshaped view t → KeepsStale view t
reshaped_keeps view t same = record {
  phase = same.phase;
  set = λ car at. ap (λ (s : Sets). unwrap_or (get s car) empty) same.sets;
  look = λ car slot at. same.look (record { car = car; slot = slot });
}
