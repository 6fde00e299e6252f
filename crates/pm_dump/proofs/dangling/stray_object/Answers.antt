use Rattle.std.proofs.Common.{◌∙◌, ◌<◌, ◌≤◌, ℕ, List, Option, get_or, sym, ap, subst, length, slice_range}
use Rattle.pm_dump.specs.declared.parts.Place.{Place}
use Rattle.pm_dump.specs.Read.{dump_in, AreAmong}
use Rattle.pm_dump.proofs.PartsLemmas.{not_both}
use Rattle.pm_dump.proofs.Strays.{over_ends, over_more, over_stray}
use Rattle.pm_dump.proofs.dangling.stray_object.Goals as goal

abbrev none : Place
none = record { id = 0; fields = 0; bytes = 0 }

pub part-requires-clause-up : goal.part-requires-clause-up
part-requires-clause-up c =
    let parts = c.args.parts.now in
    let e = c.as_slice-places.ensures.value in
    let lt = subst (λ (ps : List Place). c.loop-index.index < length ps) e c.loop-index-test.true in
    subst (λ (ps : List Place). c.loop-index.from ≤ (get_or ps c.loop-index.index none).fields) (sym e)
    (over_ends (dump_in parts).objects parts.places.items parts.fields.items parts.bytes.items c.loop-index.from c.loop-index.index none c.loop-index.invariant lt).0

pub part-requires-clause-within : goal.part-requires-clause-within
part-requires-clause-within c =
    let parts = c.args.parts.now in
    let e = c.as_slice-places.ensures.value in
    let f = c.as_slice-fields.ensures.value in
    let lt = subst (λ (ps : List Place). c.loop-index.index < length ps) e c.loop-index-test.true in
    subst (λ (ps : List Place). (get_or ps c.loop-index.index none).fields ≤ length c.as_slice-fields.result.now) (sym e)
    (subst (λ (fs : List (Option ℕ)). (get_or parts.places.items c.loop-index.index none).fields ≤ length fs) (sym f)
    (over_ends (dump_in parts).objects parts.places.items parts.fields.items parts.bytes.items c.loop-index.from c.loop-index.index none c.loop-index.invariant lt).1)

pub returns-then-not-are_followed : goal.returns-then-not-are_followed
returns-then-not-are_followed c =
    let parts = c.args.parts.now in
    let e = c.as_slice-places.ensures.value in
    let f = c.as_slice-fields.ensures.value in
    let at = c.loop-index.index in
    let lt = subst (λ (ps : List Place). at < length ps) e c.loop-index-test.true in
    over_stray (dump_in parts).objects parts.places.items parts.fields.items parts.bytes.items c.loop-index.from at none c.loop-index.invariant lt
    (λ among.
    not_both c.are_followed.result
    (c.are_followed.ensures.1 (
    subst (λ (ps : List Place). AreAmong ps c.part.result.now) (sym e) (
    subst (λ (fs : List (Option ℕ)). AreAmong parts.places.items fs) (
    sym (
    c.part.ensures ∙ ap (λ (fs : List (Option ℕ)). slice_range fs c.loop-index.from (get_or c.as_slice-places.result.now at none).fields) f
    ∙ ap (λ (ps : List Place). slice_range parts.fields.items c.loop-index.from (get_or ps at none).fields) e
    )
    ) among
    )
    )) c.if-not-are_followed.true)

pub loop-index-preserved : goal.loop-index-preserved
loop-index-preserved c =
    let parts = c.args.parts.now in
    let e = c.as_slice-places.ensures.value in
    let f = c.as_slice-fields.ensures.value in
    let at = c.loop-index.index in
    let lt = subst (λ (ps : List Place). at < length ps) e c.loop-index-test.true in
    let among = subst (λ (ps : List Place). AreAmong ps c.part.result.now) e (c.are_followed.ensures.0 c.if-not-are_followed.false) in
    let same = c.part.ensures ∙ ap (λ (fs : List (Option ℕ)). slice_range fs c.loop-index.from (get_or c.as_slice-places.result.now at none).fields) f
    ∙ ap (λ (ps : List Place). slice_range parts.fields.items c.loop-index.from (get_or ps at none).fields) e in
    rw e (over_more (dump_in parts).objects parts.places.items parts.fields.items parts.bytes.items c.loop-index.from at none c.loop-index.invariant lt (subst (λ (fs : List (Option ℕ)). AreAmong parts.places.items fs) same among))
