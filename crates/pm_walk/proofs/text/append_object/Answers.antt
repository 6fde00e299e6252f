use Rattle.std.proofs.Common.{rules, ◌≡◌}
use Rattle.std.proofs.lemmas.Result.{on_ok_weaker}
use Rattle.pm_space.specs.Shown.{view}
use Rattle.pm_walk.proofs.Texts.{object_steps}
use Rattle.pm_walk.proofs.text.append_object.Goals as goal

pub returns : goal.returns
returns g c =
    let number : c.from.result ≡ c.args.id = search rules in
    on_ok_weaker c.append-2.result
    (object_steps (view c.args.parts.now) c.args.object.now c.args.out.now.items c.append.new.out.items c.append_number.new.out.items c.append_number-2.new.out.items c.append_pairs.new.out.items c.append_fields.new.out.items c.append-2.new.out.items c.args.id c.from.result c.as_slice-fields.result.now c.as_slice.result.now
    number c.as_slice-fields.ensures c.as_slice.ensures c.in_ok-append.ensures c.in_ok-append_number.ensures c.in_ok-append_number-2.ensures c.in_ok-append_pairs.ensures c.in_ok-append_fields.ensures)
    c.append-2.ensures
