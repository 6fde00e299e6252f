use Rattle.std.proofs.Common.{◌≡◌, ℕ, ◌+◌, ◌<◌, ◌≤◌, List, length, take, get_or, Option, Some, None, refl, ap, sym, subst, ◌∙◌}
use Rattle.std.specs.FinMap.{get}
use Rattle.std.specs.List.{slice_get}
use Rattle.pm_types.specs.declared.source.RefSource.TheVariants.{Field}
use Rattle.pm_view.specs.Rows.{spread}
use Rattle.pm_space.specs.declared.space.Space.{Space}
use Rattle.pm_space.specs.Shown.{KeepsRest, view}
use Rattle.pm_young.proofs.Linked.{Filling, filling_all, filling_more, filling_none, filling_null, held_inside, may_link, never_none, next_still, placed, stands_there, keeps_still, stands_live, value_at}
use Rattle.pm_young.specs.Rows.{fields_of, place_at, placed_among, with_links}
use Rattle.pm_young.proofs.Rows.{links_all, links_next, placed_is}
use Rattle.pm_young.proofs.Listed.{among_here}
use Rattle.pm_young.proofs.escape.link_one.Goals as goal
use Rattle.pm_young.proofs.escape.link_one.Goals.{in-Some-value+in_ok-link, in_default-value}

pub unreachable-requires : goal.unreachable-requires
unreachable-requires g c = never_none _ c.in_default.ensures (c.requires.young (get_or c.args.ids.now c.args.index 0) (among_here c.args.ids.now c.args.index c.requires.index))

pub loop-field-init : goal.loop-field-init
loop-field-init g c = record {
  so_far = filling_none (view c.args.space.now.parts) c.args.nursery.now.objects c.args.ids.now c.args.index;
  rows = refl;
  rest = record { frozen = refl; place = refl };
}

pub place_of-requires-clause-among : goal.place_of-requires-clause-among
place_of-requires-clause-among g c =
    let value = value_at c.fields-value-items.result.now c.in-Some.young.now.fields c.loop-field.field (Some c.in-Some-value.to) c.fields-value-items.ensures c.loop-field-test.true c.in-Some-value.is in
    held_inside c.args.nursery.now.objects c.args.ids.now c.args.index c.loop-field.field c.in-Some.young.now c.in-Some-value.to c.requires.within c.requires.index (sym c.in-Some.ensures) value.0 value.1

pub link-requires-clause-stands : goal.link-requires-clause-stands
link-requires-clause-stands g c =
    let v = view c.args.space.now.parts in
    let u = view c.loop-field.space.parts in
    let inside = subst (λ (xs : List (Option ℕ)). c.loop-field.field < length xs) c.fields-value-items.ensures c.loop-field-test.true in
    may_link v u c.args.nursery.now.objects c.args.ids.now c.args.index c.loop-field.field c.in-Some.young.now _ (sym c.in-Some.ensures) inside c.requires.stands
    (keeps_still v u c.loop-field.invariant.so_far.keeps (get_or c.args.ids.now c.args.index 0) _ (stands_there v c.args.ids.now c.args.places.now c.args.index _ c.requires.places c.requires.as_many c.requires.index))
    c.loop-field.invariant.so_far

pub link-requires-clause-live : goal.link-requires-clause-live
link-requires-clause-live g c =
    stands_live (view c.loop-field.space.parts) c.in-Some-value.to c.place_of.result
    (placed (view c.args.space.now.parts) (view c.loop-field.space.parts) c.args.ids.now c.args.places.now c.in-Some-value.to c.place_of.result c.requires.places c.loop-field.invariant.so_far.keeps c.place_of.ensures)

pub loop-field-preserved : goal.loop-field-preserved
loop-field-preserved g c =
    let v = view c.args.space.now.parts in
    let u = view c.loop-field.space.parts in
    let objects = c.args.nursery.now.objects in
    let ids = c.args.ids.now in
    let n = c.loop-field.field in
    let known = c.in-Some.young.now in
    let so_far = c.loop-field.invariant.so_far in
    let was = c.loop-field.invariant.rest in
    let to_place = placed_among ids c.args.places.now in
    let at = place_at c.args.places.now c.args.index in
    let fields = fields_of (get objects (get_or ids c.args.index 0)) in
    let same : known.fields ≡ fields = ap fields_of c.in-Some.ensures in
    let here = stands_there v ids c.args.places.now c.args.index _ c.requires.places c.requires.as_many c.requires.index in
    record {
      so_far = elim c.match-value.branch [
        | in-Some-value+in_ok-link w ↦
            let value = value_at c.fields-value-items.result.now known.fields n (Some w.in-Some-value.to) c.fields-value-items.ensures c.loop-field-test.true w.in-Some-value.is in
            let inside = held_inside objects ids c.args.index n known w.in-Some-value.to c.requires.within c.requires.index (sym c.in-Some.ensures) value.0 value.1 in
            subst (λ (s : Space _). Filling v (view s.parts) objects ids c.args.index (n + 1)) (sym w.space-is)
            (filling_more v u (view w.link.new.space.parts) objects ids c.args.index n known w.in-Some-value.to _ w.place_of.result (sym c.in-Some.ensures) value.1 inside
            (keeps_still v u so_far.keeps (get_or ids c.args.index 0) _ here)
            (placed v u ids c.args.places.now w.in-Some-value.to w.place_of.result c.requires.places so_far.keeps w.place_of.ensures)
            w.in_ok-link.ensures.worlds w.link.ensures.objects
            (next_still w.link.result u (view w.link.new.space.parts) (Field (get_or c.args.places.now c.args.index _) n) (Some w.place_of.result) w.link.ensures.row w.link.ensures.err) so_far)
        | in_default-value w ↦
            let value = value_at c.fields-value-items.result.now known.fields n None c.fields-value-items.ensures c.loop-field-test.true w.in_default-value.is in
            subst (λ (s : Space _). Filling v (view s.parts) objects ids c.args.index (n + 1)) (sym w.space-is) (filling_null v u objects ids c.args.index n known (sym c.in-Some.ensures) value.1 so_far)
      ];
      rows = elim c.match-value.branch [
        | in-Some-value+in_ok-link w ↦
            let value = value_at c.fields-value-items.result.now known.fields n (Some w.in-Some-value.to) c.fields-value-items.ensures c.loop-field-test.true w.in-Some-value.is in
            let to = w.place_of.ensures in
            subst (λ (s : Space _). view s.parts ≡ with_links v to_place at 0 (take (n + 1) fields)) (sym w.space-is)
            (links_next v u (view w.link.new.space.parts) to_place at fields n (Some w.in-Some-value.to) (subst (λ (xs : List (Option ℕ)). slice_get xs n ≡ Some (Some w.in-Some-value.to)) same value.1) c.loop-field.invariant.rows
            (w.in_ok-link.ensures.row ∙ ap (spread u (Field at n)) (sym (placed_is ids c.args.places.now w.in-Some-value.to w.place_of.result to.0 c.requires.ascending to.1 to.2))))
        | in_default-value w ↦
            let value = value_at c.fields-value-items.result.now known.fields n None c.fields-value-items.ensures c.loop-field-test.true w.in_default-value.is in
            subst (λ (s : Space _). view s.parts ≡ with_links v to_place at 0 (take (n + 1) fields)) (sym w.space-is)
            (links_next v u u to_place at fields n None (subst (λ (xs : List (Option ℕ)). slice_get xs n ≡ Some None) same value.1) c.loop-field.invariant.rows refl)
      ];
      rest = elim c.match-value.branch [
        | in-Some-value+in_ok-link w ↦
            subst (λ (s : Space _). KeepsRest c.args.space.now.parts s.parts) (sym w.space-is) (record { frozen = w.link.ensures.rest.frozen ∙ was.frozen; place = w.link.ensures.rest.place ∙ was.place })
        | in_default-value w ↦ subst (λ (s : Space _). KeepsRest c.args.space.now.parts s.parts) (sym w.space-is) was
      ];
    }

pub returns-clause-worlds : goal.returns-clause-worlds
returns-clause-worlds g c =
    filling_all (view c.args.space.now.parts) (view c.loop-field.space.parts) c.args.nursery.now.objects c.args.ids.now c.args.index c.loop-field.field c.in-Some.young.now (sym c.in-Some.ensures)
    (subst (λ (xs : List (Option ℕ)). length xs ≤ c.loop-field.field) c.fields-value-items.ensures c.loop-field-test.false) c.loop-field.invariant.so_far

pub returns-clause-row : goal.returns-clause-row
returns-clause-row g c =
    let fields = fields_of (get c.args.nursery.now.objects (get_or c.args.ids.now c.args.index 0)) in
    let same : c.in-Some.young.now.fields ≡ fields = ap fields_of c.in-Some.ensures in
    links_all (view c.args.space.now.parts) (view c.loop-field.space.parts) (placed_among c.args.ids.now c.args.places.now) (place_at c.args.places.now c.args.index) fields c.loop-field.field
    (subst (λ (xs : List (Option ℕ)). length xs ≤ c.loop-field.field) (c.fields-value-items.ensures ∙ same) c.loop-field-test.false) c.loop-field.invariant.rows
