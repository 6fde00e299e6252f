use Rattle.std.proofs.Common.{ℕ, List, None, refl, ap, sym, subst, ◌∙◌}
use Rattle.std.specs.Prelude.{length}
use Rattle.std.specs.List.{AllByRecursion}
use Rattle.pm_dump.specs.Dump.{Dump as Says}
use Rattle.pm_dump.specs.Sound.{IsListed}
use Rattle.pm_restore.specs.Packing.Packing.{packed_cars}
use Rattle.pm_restore.proofs.BeginLemmas.{begins_dump, listed_shown, names_packed, names_sound, within_at}
use Rattle.pm_restore.proofs.packed.PackedDump.begin.Goals as goal

pub named-requires-clause-listed : goal.named-requires-clause-listed
named-requires-clause-listed c =
    let dump = c.self.inside.dump.now in
    listed_shown dump.objects c.roots.result.now (subst (λ (roots : List (List ℕ × ℕ)). AllByRecursion (λ (e : List ℕ × ℕ). IsListed dump.objects e.1) roots) (sym c.roots.ensures) c.self.invariant.0.roots)

pub begin_listed-requires-clause-within : goal.begin_listed-requires-clause-within
begin_listed-requires-clause-within c = within_at _ _ c.car_count.result c.in_ok-cars.ensures.cars

pub begin_listed-requires-clause-names : goal.begin_listed-requires-clause-names
begin_listed-requires-clause-names c =
    let dump = c.self.inside.dump.now in
    names_sound dump c.self.invariant.0 _ (c.in_ok-roots.ensures ∙ names_packed dump c.roots.result.now c.roots.ensures)

pub returns : goal.returns
returns c =
    let dump = c.self.inside.dump.now in
    begins_dump dump c.args.self.now (sym c.self.view_is) c.self.invariant.0 _ _ _ _ c.car_count.result _ 1
    (c.new-writer.ensures ∙ (λ i. record { settled = (c.from_vec.ensures ∙ c.new.ensures.items) i; progress = None }))
    c.in_ok-cars.ensures.cars
    (c.car_count.ensures ∙ ap (λ (d : Says). length (packed_cars d)) (sym c.self.view_is))
    c.in_ok-cars.ensures.few
    (c.in_ok-roots.ensures ∙ names_packed dump c.roots.result.now c.roots.ensures)
    c.next.ensures refl
    c.in_ok-begin_listed.ensures.begun c.in_ok-begin_listed.ensures.copy c.in_ok-begin_listed.ensures.tied
