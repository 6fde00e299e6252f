use Rattle.std.proofs.Common.{◌≡◌, List, OnOk, sym, subst}
use Rattle.pm_types.specs.declared.address.Addr.{Addr}
use Rattle.pm_space.specs.Shown.{view}
use Rattle.pm_young.specs.Bringing.{ArePlaces}
use Rattle.pm_young.proofs.Admitted.{on_err}
use Rattle.pm_young.proofs.Escaped.{all_a_part, brings_in_if, enters_kept, enters_if, part_if, stands_blank_now}
use Rattle.pm_young.proofs.Linked.{places_still}
use Rattle.pm_young.specs.Rows.{AreNowHeld, placed_among, with_all_links}
use Rattle.pm_young.proofs.Rows.{come_by_rows}
use Rattle.pm_young.proofs.escape.escape.Goals as goal

pub link_all-requires-clause-places : goal.link_all-requires-clause-places
link_all-requires-clause-places g c = subst (ArePlaces (view c.admit_all.new.space.parts) c.args.ids.now) (sym c.deref.ensures.value) c.in_ok-places.ensures.places

pub link_all-requires-clause-stands : goal.link_all-requires-clause-stands
link_all-requires-clause-stands g c = stands_blank_now c.args.nursery.now.objects c.args.ids.now (view c.args.space.now.parts) (view c.admit_all.new.space.parts) c.requires.stands c.in_ok-places.ensures.worlds

pub returns-in_err-link_all-clause-part : goal.returns-in_err-link_all-clause-part
returns-in_err-link_all-clause-part g c =
    on_err c.from_residual-in_err-link_all.result
    (all_a_part (view c.args.space.now.parts) (view c.link_all.new.space.parts) c.args.entered.now.items c.admit_all.new.entered.items c.args.ids.now
    (enters_kept (view c.args.space.now.parts) (view c.admit_all.new.space.parts) (view c.link_all.new.space.parts) c.args.entered.now.items c.admit_all.new.entered.items c.args.ids.now
    c.in_ok-places.ensures.enters c.link_all.ensures.objects c.link_all.ensures.next))

pub hold_all-requires-clause-places : goal.hold_all-requires-clause-places
hold_all-requires-clause-places g c = places_still (view c.admit_all.new.space.parts) (view c.link_all.new.space.parts) c.args.ids.now c.deref-2.result.now c.link_all.ensures.objects
    (subst (ArePlaces (view c.admit_all.new.space.parts) c.args.ids.now) (sym c.deref-2.ensures.value) c.in_ok-places.ensures.places)

pub returns-clause-worlds : goal.returns-clause-worlds
returns-clause-worlds g c =
    brings_in_if c.args.nursery.now c.args.ids.now c.requires.young (view c.args.space.now.parts) (view c.admit_all.new.space.parts) (view c.link_all.new.space.parts) (view c.hold_all.new.space.parts)
    c.hold_all.result c.in_ok-places.ensures.worlds c.in_ok-link_all.ensures.worlds c.hold_all.ensures.worlds

pub returns-clause-enters : goal.returns-clause-enters
returns-clause-enters g c =
    enters_if c.hold_all.result (view c.args.space.now.parts) (view c.hold_all.new.space.parts) c.args.entered.now.items c.admit_all.new.entered.items c.args.ids.now
    (enters_kept (view c.args.space.now.parts) (view c.link_all.new.space.parts) (view c.hold_all.new.space.parts) c.args.entered.now.items c.admit_all.new.entered.items c.args.ids.now
    (enters_kept (view c.args.space.now.parts) (view c.admit_all.new.space.parts) (view c.link_all.new.space.parts) c.args.entered.now.items c.admit_all.new.entered.items c.args.ids.now
    c.in_ok-places.ensures.enters c.link_all.ensures.objects c.link_all.ensures.next) c.hold_all.ensures.objects c.hold_all.ensures.next)

pub returns-clause-part : goal.returns-clause-part
returns-clause-part g c =
    part_if c.hold_all.result (view c.args.space.now.parts) (view c.hold_all.new.space.parts) c.args.entered.now.items c.admit_all.new.entered.items c.args.ids.now
    (enters_kept (view c.args.space.now.parts) (view c.link_all.new.space.parts) (view c.hold_all.new.space.parts) c.args.entered.now.items c.admit_all.new.entered.items c.args.ids.now
    (enters_kept (view c.args.space.now.parts) (view c.admit_all.new.space.parts) (view c.link_all.new.space.parts) c.args.entered.now.items c.admit_all.new.entered.items c.args.ids.now
    c.in_ok-places.ensures.enters c.link_all.ensures.objects c.link_all.ensures.next) c.hold_all.ensures.objects c.hold_all.ensures.next)

pub returns-clause-rows : goal.returns-clause-rows
returns-clause-rows g c =
    let u = view c.admit_all.new.space.parts in
    let w = view c.link_all.new.space.parts in
    let ids = c.args.ids.now in
    let objects = c.args.nursery.now.objects in
    come_by_rows c.hold_all.result (view c.args.space.now.parts) u w (view c.hold_all.new.space.parts) c.args.nursery.now ids c.in_ok-places.places.items c.in_ok-places.ensures.rows
    (subst (λ (places : List Addr). w ≡ with_all_links u objects (placed_among ids places) ids places) c.deref.ensures.value c.in_ok-link_all.ensures.rows)
    (subst (λ (places : List Addr). OnOk c.hold_all.result (AreNowHeld w c.args.nursery.now.registers ids places (view c.hold_all.new.space.parts))) c.deref-2.ensures.value c.hold_all.ensures.rows)
