use Rattle.std.proofs.Common.{◌<◌, List, get_or, sym, subst, length}
use Rattle.pm_dump.specs.declared.parts.Place.{Place}
use Rattle.pm_dump.specs.declared.parts.DumpRoot.{DumpRoot}
use Rattle.pm_dump.specs.Read.{IsAmong}
use Rattle.pm_dump.proofs.PartsLemmas.{not_both}
use Rattle.pm_dump.proofs.Strays.{named_more, named_stray}
use Rattle.pm_dump.proofs.dangling.stray_root.Goals as goal

pub returns-then-not-is_listed : goal.returns-then-not-is_listed
returns-then-not-is_listed c =
    let parts = c.args.parts.now in
    let r = c.as_slice-roots.ensures.value in
    let at = c.loop-index.index in
    let d = c.index-roots-index.result in
    let lt = subst (λ (rs : List DumpRoot). at < length rs) r c.loop-index-test.true in
    named_stray parts.places.items parts.roots.items at d c.loop-index.invariant lt
    (λ among.
    not_both c.is_listed.result
    (c.is_listed.ensures.1 (
    subst (λ (ps : List Place). IsAmong ps (get_or c.as_slice-roots.result.now at d).id) (sym c.as_slice-places.ensures.value)
    (subst (λ (rs : List DumpRoot). IsAmong parts.places.items (get_or rs at d).id) (sym r) among)
    )) c.if-not-is_listed.true)

pub loop-index-preserved : goal.loop-index-preserved
loop-index-preserved c =
    let parts = c.args.parts.now in
    let r = c.as_slice-roots.ensures.value in
    let at = c.loop-index.index in
    let d = c.index-roots-index.result in
    let lt = subst (λ (rs : List DumpRoot). at < length rs) r c.loop-index-test.true in
    named_more parts.places.items parts.roots.items at d c.loop-index.invariant lt
    (subst (λ (rs : List DumpRoot). IsAmong parts.places.items (get_or rs at d).id) r
    (subst (λ (ps : List Place). IsAmong ps (get_or c.as_slice-roots.result.now at d).id) c.as_slice-places.ensures.value (c.is_listed.ensures.0 c.if-not-is_listed.false)))
