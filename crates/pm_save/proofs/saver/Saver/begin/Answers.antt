use Rattle.std.proofs.Common.{List, Option, ap, subst, sym}
use Rattle.std.specs.Prelude.{ℕ, option_map}
use Rattle.std.specs.List.{AllByRecursion}
use Rattle.pm_types.specs.Mapped.{mapped}
use Rattle.pm_types.specs.declared.address.Addr.{Addr}
use Rattle.pm_space.specs.Shown.{car_of, view}
use Rattle.pm_image.specs.declared.settled.KeptPage.{KeptPage}
use Rattle.pm_copies.specs.Listed.{listed}
use Rattle.pm_view.specs.View.{Cars}
use Rattle.pm_saving.specs.Beginning.{Begins, BeginsListed}
use Rattle.pm_saving.specs.Tied.{IsTied}
use Rattle.pm_save.specs.declared.progress.place.PlacedCar.{PlacedCar}
use Rattle.pm_save.specs.Progress.Kept.{IsWithin}
use Rattle.pm_save.specs.Writer.Planned.{IsPlanned}
use Rattle.pm_save.specs.Shown.{saving}
use Rattle.pm_save.specs.Writer.Shown.{writing}
use Rattle.pm_law_saving.proofs.Begun.{all_frozen}
use Rattle.pm_save.proofs.BeginLemmas.{accepted_roots, copy_then}
use Rattle.pm_save.proofs.saver.Saver.begin.Goals as goal

pub begin_listed-requires-clause-within : goal.begin_listed-requires-clause-within
begin_listed-requires-clause-within g c =
    subst (λ (kept : List KeptPage). AllByRecursion (λ (one : PlacedCar). IsWithin kept one.place) c.in_ok-cars.cars.items) c.as_slice.ensures.value c.in_ok-cars.ensures.within

pub returns-clause-begun : goal.returns-clause-begun
returns-clause-begun g c =
    let v = view c.args.space.now.parts in
    let planned = subst (λ (kept : List KeptPage). IsPlanned kept (listed v) c.in_ok-cars.cars.items) c.as_slice.ensures.value c.in_ok-cars.ensures in
    subst (λ (names : List (List ℕ × Addr)). BeginsListed (saving c.args.self.now) (writing c.begin_listed.new.self) (listed v) names v.next c.args.number) c.in_ok-roots.ensures.roots
    (c.in_ok-begin_listed.ensures.begun (listed v) planned)

pub returns-clause-copy : goal.returns-clause-copy
returns-clause-copy g c =
    let v = view c.args.space.now.parts in
    let planned = subst (λ (kept : List KeptPage). IsPlanned kept (listed v) c.in_ok-cars.cars.items) c.as_slice.ensures.value c.in_ok-cars.ensures in
    let begins : Begins (saving c.args.self.now) (writing c.begin_listed.new.self) v c.args.number =
    subst (λ (names : List (List ℕ × Addr)). BeginsListed (saving c.args.self.now) (writing c.begin_listed.new.self) (listed v) names v.next c.args.number) c.in_ok-roots.ensures.roots
    (c.in_ok-begin_listed.ensures.begun (listed v) planned) in
    copy_then (saving c.args.self.now) (writing c.begin_listed.new.self) v c.args.number (option_map (mapped car_of) c.freeze.new.self.frozen) begins (ap (option_map (mapped car_of)) c.freeze.ensures.frozen)
    (c.a_copy_begins_beside_the_settled_one.ensures.copy (saving c.args.self.now) (writing c.begin_listed.new.self) v c.args.number c.args.space.now.kept begins)

pub returns-clause-tied : goal.returns-clause-tied
returns-clause-tied g c s contents later had =
    let v = view c.args.space.now.parts in
    let planned = subst (λ (kept : List KeptPage). IsPlanned kept (listed v) c.in_ok-cars.cars.items) c.as_slice.ensures.value c.in_ok-cars.ensures in
    subst (λ (frozen : Option Cars). IsTied (writing c.begin_listed.new.self) frozen s contents) (sym (ap (option_map (mapped car_of)) c.freeze.ensures.frozen))
    (c.in_ok-begin_listed.ensures.tied (listed v) v.cars s contents planned (all_frozen v) (accepted_roots v c.in_ok-roots.roots.items c.in_ok-roots.ensures.roots c.args.space.now.kept) later had)
