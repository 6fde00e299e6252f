-- What is given up is named from within alone.
use Rattle.std.proofs.Common.{◌≡◌, ℕ, ◌==◌, Bool, true, false, not, refl, ap, sym, subst, ◌∙◌, Some, None}
use Rattle.std.specs.Option.{unwrap_or}
use Rattle.std.specs.FinMap.{get}
use Rattle.std.proofs.lemmas.Bool.{eqb-true, eq-eqb, cond-true, true≢false}
use Rattle.pm_types.proofs.Orders.{sources_total, sources_antisymmetric}
use Rattle.pm_types.specs.declared.address.Addr.{Addr}
use Rattle.pm_types.specs.declared.source.RefSource.{RefSource}
use Rattle.pm_types.specs.declared.source.RefSource.TheVariants.{Root, Handle, Field}
use Rattle.pm_trains.specs.Trains.{is_among, train_of}
use Rattle.pm_view.specs.Sources.{lies_in, outside, slot_in}
use Rattle.pm_view.specs.View.{SpaceView}
use Rattle.pm_view.specs.Reading.{stored, cars_of, is_aside}
use Rattle.pm_view.specs.Effective.{effective}
use Rattle.pm_view.specs.Seen.{seen, kept}
use Rattle.pm_view.specs.Law.{HeapLaw}
use Rattle.pm_view.specs.Candidates.{set_of, is_beyond}
use Rattle.pm_view.specs.Events.{home}
use Rattle.pm_law_commands.proofs.RowLemmas.OpenTrain.{first_home}
use Rattle.pm_law_commands.proofs.RowLemmas.Born.{home_among}
use Rattle.pm_law_collect.proofs.PhasesLemmas.Comes.{IsDrained, IsMovingOn, IsFinishing}
use Rattle.pm_law_collect.proofs.PhasesLemmas.Finds.{no_entry}
use Rattle.pm_law_collect.proofs.PhasesLemmas.Fronts.{IsFrontOf, front_of}
use Rattle.pm_law_collect.proofs.PhasesLemmas.PhaseRows.{drained_aside, emptied_aside, emptied_front, emptied_set, only_inside, no_name}

module _ (view : SpaceView) (law : HeapLaw view) (free : (e : ℕ) → is_aside view e ≡ false) (x : RefSource) (a : Addr) (stores : stored view x ≡ Some a) where
  kept_up : (y : RefSource) → kept (seen view) y ≡ true
  kept_up (Root n) = refl
  kept_up (Handle c r) = refl
  kept_up (Field b i) = ap not (free b.car)

  -- a source outside the car that it names is in the car's effective set
  in_set : outside a.car x ≡ true → effective view a.car x ≡ Some a.slot
  in_set out = law.tied.reads a.car x (free a.car) (kept_up x) out ∙ ap (slot_in a.car) stores ∙ cond-true _ _ _ (eq-eqb a.car a.car refl)

  -- and each other one lies in the car
  lies_within : (p : ℕ → Bool) → p a.car ≡ true → (y : RefSource) → outside a.car y ≡ false → lies_in p y ≡ true
  lies_within p here (Root n) within = absurd (true≢false within)
  lies_within p here (Handle c r) within = absurd (true≢false within)
  lies_within p here (Field b i) within = ap p (eqb-true b.car a.car (not_not (b.car == a.car) within)) ∙ here
    where
      not_not : (b : Bool) → not b ≡ false → b ≡ true
      not_not true is = refl
      not_not false is = absurd (true≢false is)

  named_within : (p : ℕ → Bool) → p a.car ≡ true → ((n : ℕ) → effective view a.car x ≡ Some n → lies_in p x ≡ true) → lies_in p x ≡ true
  named_within p here within = by_case (outside a.car x) refl
    where
      by_case : (b : Bool) → outside a.car x ≡ b → lies_in p x ≡ true
      by_case true out = within a.slot (in_set out)
      by_case false near = lies_within p here x near

-- a train that is doomed
pub doomed_within : (view : SpaceView) (train : ℕ) (x : RefSource) (a : Addr) → HeapLaw view → IsDrained view train None → stored view x ≡ Some a → train_of view.trains.trains a.car ≡ Some train → lies_in (λ car. is_among car (cars_of view.trains.trains train)) x ≡ true
doomed_within view train x a law is stores home =
    let free = drained_aside view train None law is in
    let among = home_among view.trains.trains train a.car law.built.trains.rising home in
    named_within view law free x a stores (λ car. is_among car (cars_of view.trains.trains train)) among (λ n at. only_inside view train law is a.car n x among (free a.car) at)

-- a car that is swept from then on
pub swept_within : (view : SpaceView) (car : ℕ) (x : RefSource) (a : Addr) → HeapLaw view → IsFinishing view car → stored view x ≡ Some a → (car == a.car) ≡ true → lies_in (λ e. car == e) x ≡ true
swept_within view car x a law is stores here =
    named_within view law (emptied_aside view car None law is.emptied) x a stores (λ e. car == e) here (λ n at. no_name view car law is a.car n x here at)

-- the train in which an object moves to the end
pub moving_within : (view : SpaceView) (train : ℕ) (x : RefSource) (a : Addr) → HeapLaw view → IsMovingOn view a train → stored view x ≡ Some a → lies_in (λ car. is_among car (cars_of view.trains.trains train)) x ≡ true
moving_within view train x a law is stores =
    named_within view law (emptied_aside view is.car None law is.emptied) x a stores (λ car. is_among car (cars_of view.trains.trains train)) here within
  where
    own : a.car ≡ is.car
    own = ap (λ (a : Addr). a.car) is.here

    front : IsFrontOf view.trains.trains is.car
    front = front_of view.trains.trains is.car (emptied_front view is.car None law is.emptied)

    home_then : train_of view.trains.trains is.car ≡ Some front.train
    home_then = first_home view.trains.trains front.train is.car law.built.trains.single front.first

    train_is : train ≡ front.train
    train_is = is.home ∙ ap (λ o. unwrap_or o 0) home_then

    here : is_among a.car (cars_of view.trains.trains train) ≡ true
    here = home_among view.trains.trains train a.car law.built.trains.rising (ap (train_of view.trains.trains) own ∙ home_then ∙ ap Some (sym train_is))

    not_not : (b : Bool) → not b ≡ false → b ≡ true
    not_not true is = refl
    not_not false is = absurd (true≢false is)

    within : (n : ℕ) → effective view a.car x ≡ Some n → lies_in (λ car. is_among car (cars_of view.trains.trains train)) x ≡ true
    within n at =
        let held : get (set_of view is.car) x ≡ Some n = sym (emptied_set view is.car None law is.emptied x) ∙ ap (λ e. effective view e x) (sym own) ∙ at in
        let near = no_entry sources_total sources_antisymmetric (λ (e : RefSource × ℕ). is_beyond view.trains.trains (home view is.car) e.0) (set_of view is.car) is.outside x n held in
        subst (λ m. lies_in (λ car. is_among car (cars_of view.trains.trains m)) x ≡ true) (sym is.home) (not_not (lies_in (λ car. is_among car (cars_of view.trains.trains (home view is.car))) x) near)
