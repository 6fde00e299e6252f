use Rattle.std.proofs.Common.{get_or, None, sym, arith}
use Rattle.std.proofs.lemmas.Result.{err_from_is_err_and}
use Rattle.pm_image.specs.Graphs.{field_sites}
use Rattle.pm_graphs.proofs.Lists.{drop_got}
use Rattle.pm_graphs.proofs.Walks.{walk_on, walk_stop, walk_done, field_at, field_size, field_step, field_none, led_place}
use Rattle.pm_graphs.proofs.links.check_fields.Goals as goal

pub returns-in_err-check_field : goal.returns-in_err-check_field
returns-in_err-check_field c =
    let l = c.loop-field in
    let p = err_from_is_err_and c.from_residual.result c.from_residual.ensures.1 in
    let fields = c.args.fields.now in
    rw (p.1, p.2) (sym (walk_stop c.args.leads.now (field_sites c.args.page) (field_at c.args.page) field_size (field_step c.args.page) (field_none c.args.page) fields c.args.start l.at l.field-index l.invariant.so_far
    (get_or fields l.field-index None) (led_place c.in_err-check_field.field-0.0) (drop_got fields l.field-index None c.loop-field-test.true) (sym c.in_err-check_field.ensures)))

pub loop-field-preserved : goal.loop-field-preserved
loop-field-preserved c =
    let l = c.loop-field in
    let fields = c.args.fields.now in
    let at = l.invariant.place in
    record {
      place = omega arith;
      so_far = walk_on c.args.leads.now (field_sites c.args.page) (field_at c.args.page) field_size (field_step c.args.page) (field_none c.args.page) fields c.args.start l.at l.field-index l.invariant.so_far
          (get_or fields l.field-index None) (drop_got fields l.field-index None c.loop-field-test.true) (sym c.in_ok-check_field.ensures);
    }

pub returns : goal.returns
returns c =
    let l = c.loop-field in
    let low = c.loop-field-test.false in
    sym (walk_done c.args.leads.now (field_sites c.args.page) (field_at c.args.page) field_size (field_step c.args.page) (field_none c.args.page) c.args.fields.now c.args.start l.at l.field-index l.invariant.so_far (omega arith))
