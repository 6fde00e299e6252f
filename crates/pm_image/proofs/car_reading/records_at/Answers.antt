use Rattle.std.proofs.Common.{List, ℕ, None, arith, sym, ap, ◌∙◌}
use Rattle.std.proofs.lemmas.Result.{err_from_is_err_and}
use Rattle.pm_types.specs.declared.limits.TheConstants.{CAR_HEAD_BYTES}
use Rattle.pm_types.specs.declared.object.Slot.{Slot}
use Rattle.pm_image.specs.CarPages.{Numbers, records_at, with_identity}
use Rattle.pm_image.specs.CarAnswers.{a_car}
use Rattle.pm_image.specs.Graphs.{with_identities}
use Rattle.pm_image.proofs.Records.{goes_on, stops, is_done, one_more}
use Rattle.pm_image.proofs.car_reading.records_at.Goals as goal

pub returns-in_err-record-clause-exact : goal.returns-in_err-record-clause-exact
returns-in_err-record-clause-exact c =
    let scope = a_car c.args.most c.args.next None in
    let p = err_from_is_err_and c.from_residual-in_err-record.result c.from_residual-in_err-record.ensures.1 in
    rw (p.1, p.2) (stops scope c.args.page.now c.loop.met c.loop.least c.loop.place c.args.count c.loop.counter c.loop.records.items c.in_err-record.field-0.0 (records_at scope c.args.met.now 0 c.args.page.now c.args.count CAR_HEAD_BYTES) c.loop-test.true c.in_err-record.ensures.exact c.loop.invariant.so_far)

pub loop-preserved : goal.loop-preserved
loop-preserved c =
    let scope = a_car c.args.most c.args.next None in
    let record_ = c.in_ok-record.record in
    record {
      so_far = rw (c.in_ok-push.ensures.items, c.in_ok-meet.ensures.ok) (goes_on scope c.args.page.now c.loop.met c.loop.least c.loop.place c.args.count c.loop.counter c.loop.records.items (record_, c.in_ok-record.end) (records_at scope c.args.met.now 0 c.args.page.now c.args.count CAR_HEAD_BYTES) c.loop-test.true c.in_ok-record.ensures.exact c.loop.invariant.so_far);
      known = c.in_ok-meet.ensures.ok ∙ ap (λ (m : Numbers). with_identity m record_.1) c.loop.invariant.known ∙ sym (one_more c.args.met.now c.loop.records.items record_) ∙ ap (λ (rs : List (ℕ × Slot)). with_identities c.args.met.now rs) (sym c.in_ok-push.ensures.items);
      inside = c.in_ok-record.ensures.ends;
      last = let le = c.in_ok-record.ensures.last in omega arith;
    }

pub returns-clause-exact : goal.returns-clause-exact
returns-clause-exact c =
    let scope = a_car c.args.most c.args.next None in
    rw c.from_vec.ensures (is_done scope c.args.page.now c.loop.met c.loop.least c.loop.place c.args.count c.loop.counter c.loop.records.items (records_at scope c.args.met.now 0 c.args.page.now c.args.count CAR_HEAD_BYTES) c.loop-test.false c.loop.invariant.so_far)
