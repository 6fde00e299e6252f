-- What holds of an object that moves next.
use Rattle.std.proofs.Common.{◌≡◌, ℕ, ◌==◌, Bool, true, false, cond, refl, ap, sym, subst, ◌∙◌, List, [], ◌∷◌, Option, Some, None, IsSome, IsTrue, is_some}
use Rattle.std.specs.List.{find}
use Rattle.std.specs.FinMap.{entries}
use Rattle.std.proofs.lemmas.Bool.{true≢false}
use Rattle.pm_types.proofs.Orders.{sources_total, sources_antisymmetric}
use Rattle.pm_types.specs.declared.address.Addr.{Addr}
use Rattle.pm_types.specs.declared.source.RefSource.{RefSource}
use Rattle.pm_trains.specs.Trains.{cars_at, is_among, tail}
use Rattle.pm_view.specs.declared.phase.Phase.TheVariants.{Moving}
use Rattle.pm_view.specs.View.{SpaceView}
use Rattle.pm_view.specs.Reading.{object_at}
use Rattle.pm_view.specs.Law.{HeapLaw}
use Rattle.pm_view.specs.Rows.{IsVacant}
use Rattle.pm_view.specs.Candidates.{set_of, is_beyond, candidates}
use Rattle.pm_view.specs.Events.{anchor_in, first_of, home, ways_out}
use Rattle.pm_law_collect.proofs.PhasesLemmas.Comes.{IsMovingAnchor, IsMovingOut, IsMovingOn}
use Rattle.pm_law_collect.proofs.PhasesLemmas.Finds.{found_entry}
use Rattle.pm_law_collect.proofs.MovesLemmas.MoveRows.{remembered_live, home_is, front, anchor_car, anchor_tail, out_tail, train_tail}
use Rattle.pm_law_collect.proofs.PhasesLemmas.PhaseRows.{pick_stands}
use Rattle.pm_law_collect.proofs.PhasesLemmas.Fronts.{first_cars}

-- the object at an address may move to a train
pub record MayMove (v : SpaceView) (a : Addr) (train : ℕ) : Type 0 where
  pub moving : v.phase ≡ Moving a.car
  pub live : IsSome (object_at v.cars a)
  pub stands : IsSome (cars_at v.trains.trains train)
  pub apart : (car : ℕ) → tail v.trains.trains train ≡ Some car → (a.car == car) ≡ false

-- the anchor
module _ (v : SpaceView) (law : HeapLaw v) (a : Addr) (to number : ℕ) (vacant : IsVacant v.cars number) (is : IsMovingAnchor v a to) where
  anchor_stands : (o : Option (Addr × ℕ)) → anchor_in is.car o ≡ Some (a, to) → o ≡ Some (a, to)
  anchor_stands None found = absurd (let none : ◌≡◌ {A = Option (Addr × ℕ)} None (Some (a, to)) = found in true≢false (sym (ap is_some none)))
  anchor_stands (Some x) found = by_test (x.0.car == is.car) found
    where
      by_test : (b : Bool) → cond b (Some x) None ≡ Some (a, to) → Some x ≡ Some (a, to)
      by_test true found = found
      by_test false found = absurd (let none : ◌≡◌ {A = Option (Addr × ℕ)} None (Some (a, to)) = found in true≢false (sym (ap is_some none)))

  pub may_move_anchor : MayMove v a to
  may_move_anchor =
      let it = law.anchor a to (anchor_stands v.anchor is.anchor) in
      record {
        moving = is.emptied.moving ∙ ap Moving (sym (anchor_car v a to number law is vacant));
        live = it.live;
        stands = it.stands;
        apart = λ car last. anchor_tail v a to number law is vacant car last;
      }

-- an object that a source outside the train names
module _ (v : SpaceView) (law : HeapLaw v) (a : Addr) (picked number : ℕ) (vacant : IsVacant v.cars number) (is : IsMovingOut v a) (may : IsTrue (is_among picked (ways_out v a))) where
  out_car : a.car ≡ is.car
  out_car = ap (λ (a : Addr). a.car) is.here

  pub may_move_out : MayMove v a picked
  may_move_out =
      let front_is = front v is.car law is.emptied in
      let held = (found_entry sources_total sources_antisymmetric (λ (e : RefSource × ℕ). is_beyond v.trains.trains (home v is.car) e.0) (set_of v is.car) is.entry is.outside).0 in
      record {
        moving = is.emptied.moving ∙ ap Moving (sym out_car);
        live = subst (λ a. IsSome (object_at v.cars a)) (sym is.here) (remembered_live v is.car law is.emptied is.entry.0 is.entry.1 held);
        stands = (pick_stands v law front_is.train picked a front_is.old (subst (λ n. IsTrue (is_among picked (candidates v n a))) (ap (home v) out_car ∙ home_is v is.car law is.emptied) may)).0;
        apart = λ car last. out_tail v a picked number law is may vacant car last;
      }

-- an object that a source of its own train names
module _ (v : SpaceView) (law : HeapLaw v) (a : Addr) (train number : ℕ) (vacant : IsVacant v.cars number) (is : IsMovingOn v a train) where
  first_found : (es : List (RefSource × ℕ)) → find (λ e. true) es ≡ first_of es
  first_found [] = refl
  first_found (e ∷ es) = refl

  pub may_move_on : MayMove v a train
  may_move_on =
      let front_is = front v is.car law is.emptied in
      let held = (found_entry sources_total sources_antisymmetric (λ (e : RefSource × ℕ). true) (set_of v is.car) is.entry (first_found (entries (set_of v is.car)) ∙ is.least)).0 in
      record {
        moving = is.emptied.moving ∙ ap Moving (sym (ap (λ (a : Addr). a.car) is.here));
        live = subst (λ a. IsSome (object_at v.cars a)) (sym is.here) (remembered_live v is.car law is.emptied is.entry.0 is.entry.1 held);
        stands = subst (λ n. IsSome (cars_at v.trains.trains n)) (sym (is.home ∙ home_is v is.car law is.emptied)) (ap is_some (first_cars (cars_at v.trains.trains front_is.train) is.car front_is.first).1);
        apart = λ car last. train_tail v a train number law is vacant car last;
      }
