use Rattle.std.proofs.Common.{◌≤◌, ◌∙◌, ℕ, List, Option, length, slice_range, ap, sym, subst}
use Rattle.pm_dump.proofs.Begun.{bounds_at, lent_at}
use Rattle.pm_dump.proofs.lent.object_at.Goals as goal

pub between-requires-clause-up : goal.between-requires-clause-up
between-requires-clause-up c =
    let parts = c.args.parts.now in
    let place = c.place_at-place.result in
    (bounds_at parts.fields.items parts.bytes.items parts.places.items c.as_slice-places.result.now c.args.at place c.begins-fields.result c.as_slice-places.ensures.value c.place_at-place.ensures c.begins-fields.ensures c.requires.kept.ends).0

pub between-requires-clause-within : goal.between-requires-clause-within
between-requires-clause-within c =
    let parts = c.args.parts.now in
    let place = c.place_at-place.result in
    subst (λ (fs : List (Option ℕ)). place.fields ≤ length fs) (sym c.as_slice.ensures.value)
    (bounds_at parts.fields.items parts.bytes.items parts.places.items c.as_slice-places.result.now c.args.at place c.begins-fields.result c.as_slice-places.ensures.value c.place_at-place.ensures c.begins-fields.ensures c.requires.kept.ends).1

pub between-requires-2-clause-up : goal.between-requires-2-clause-up
between-requires-2-clause-up c =
    let parts = c.args.parts.now in
    let place = c.place_at-place.result in
    (bounds_at parts.fields.items parts.bytes.items parts.places.items c.as_slice-places.result.now c.args.at place c.begins-fields.result c.as_slice-places.ensures.value c.place_at-place.ensures c.begins-fields.ensures c.requires.kept.ends).2

pub between-requires-2-clause-within : goal.between-requires-2-clause-within
between-requires-2-clause-within c =
    let parts = c.args.parts.now in
    let place = c.place_at-place.result in
    subst (λ (bs : List ℕ). place.bytes ≤ length bs) (sym c.as_slice-2.ensures.value)
    (bounds_at parts.fields.items parts.bytes.items parts.places.items c.as_slice-places.result.now c.args.at place c.begins-fields.result c.as_slice-places.ensures.value c.place_at-place.ensures c.begins-fields.ensures c.requires.kept.ends).3

pub returns : goal.returns
returns c =
    let parts = c.args.parts.now in
    let place = c.place_at-place.result in
    let begin = c.begins-fields.result in
    lent_at parts.fields.items parts.bytes.items parts.places.items c.as_slice-places.result.now c.args.at place begin c.as_slice-places.ensures.value c.place_at-place.ensures c.begins-fields.ensures c.between.result.now c.between-2.result.now
    (c.between.ensures ∙ ap (λ (fs : List (Option ℕ)). slice_range fs begin.0 place.fields) c.as_slice.ensures.value)
    (c.between-2.ensures ∙ ap (λ (bs : List ℕ). slice_range bs begin.1 place.bytes) c.as_slice-2.ensures.value)
