use Rattle.std.proofs.Common.{◌≡◌, ap, sym, ◌∙◌}
use Rattle.std.specs.FinMap.{entries}
use Rattle.pm_types.specs.Mapped.{mapped_entries}
use Rattle.pm_dump.specs.Dump.{Dump, dump_of, dump_text_of}
use Rattle.pm_copies.specs.Listed.{copy_in}
use Rattle.pm_space.specs.Shown.{view}
use Rattle.pm_walk.specs.Walked.{met_in, meant_at}
use Rattle.pm_walk.proofs.Heaps.{stand, objects_met, names_met, root_id}
use Rattle.pm_walk.proofs.Texts.{whole_text}
use Rattle.pm_walk.proofs.text.dump_text.Goals as goal

pub append_objects-requires : goal.append_objects-requires
append_objects-requires g c = stand (view c.args.space.now.parts) c.args.space.now.kept c.in_ok-found.field-0 c.in_ok-found.ensures.sound

pub returns : goal.returns
returns g c =
    let v = view c.args.space.now.parts in
    let walk = c.in_ok-found.field-0 in
    let written : Dump = record { next = v.next; objects = mapped_entries (meant_at v) (entries (met_in walk)); roots = mapped_entries (root_id v) (entries v.roots) } in
    let objects = objects_met v c.args.space.now.kept walk c.in_ok-found.ensures.sound c.in_ok-found.ensures.whole in
    let named = names_met v c.args.space.now.kept in
    let same : written ≡ dump_of (copy_in v) = λ i. record { next = v.next; objects = sym objects i; roots = sym named i } in
    c.in_ok-append_end.ensures ∙ rw (c.in_ok-append_roots.ensures, c.in_ok-append_objects.ensures, c.in_ok-append_head.ensures, c.new-out.ensures.items) (whole_text v v.next (entries (met_in walk)) (entries v.roots)) ∙ ap dump_text_of same
