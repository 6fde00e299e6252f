use Rattle.std.proofs.Common.{◌≡◌, Result, Ok, Err, ℕ, List, None, sym, subst, ap, ◌∙◌}
use Rattle.std.proofs.lemmas.Result.{err_from_is_err_and}
use Rattle.pm_types.specs.declared.limits.TheConstants.{CAR_HEAD_BYTES}
use Rattle.pm_types.specs.declared.object.Slot.{Slot}
use Rattle.pm_layout.specs.Reading.{number_from}
use Rattle.pm_image.specs.declared.car.CarImage.{CarImage}
use Rattle.pm_image.specs.Steps.{rest_at}
use Rattle.pm_types.specs.Results.{◌>>=◌}
use Rattle.pm_image.specs.Answers.{Gives}
use Rattle.pm_image.specs.CarPages.{records_at}
use Rattle.pm_image.specs.CarAnswers.{a_car}
use Rattle.pm_image.proofs.Answered.{answer_gives, fails_too}
use Rattle.pm_image.proofs.Cars.{with_rest, car_begins, rest_of}
use Rattle.pm_image.proofs.car_reading.car_at.Goals as goal

pub returns-in_err-slots-clause-exact : goal.returns-in_err-slots-clause-exact
returns-in_err-slots-clause-exact c =
    let page = c.args.page.now in
    let fault = c.in_err-slots.field-0.0 in
    let records : ℕ → Result (List (ℕ × Slot) × ℕ) ℕ = λ n. records_at (a_car c.args.most c.args.next None) c.args.met.now 0 page n CAR_HEAD_BYTES in
    let begins = car_begins c.args.most c.args.next c.args.expected c.args.met.now page tt tt (answer_gives (Ok tt) _ c.in_ok-check_magic.ensures) (answer_gives (Ok tt) _ c.in_ok-check_number.ensures) in
    let p = err_from_is_err_and c.from_residual-in_err-slots.result c.from_residual-in_err-slots.ensures.1 in
    let read : Gives (Err fault) (records (number_from 2 page 12)) = subst (λ (n : ℕ). Gives (Err fault) (records n)) c.u16_at.ensures c.in_err-slots.ensures.exact in
    rw (p.1, p.2) (subst (λ (r : Result CarImage ℕ). Gives (Err fault) r) (sym begins) (fails_too fault (records (number_from 2 page 12)) (with_rest page) read))

pub returns-in_err-check_rest-clause-exact : goal.returns-in_err-check_rest-clause-exact
returns-in_err-check_rest-clause-exact c =
    let page = c.args.page.now in
    let fault = c.in_err-check_rest.field-0.0 in
    let end = c.in_ok-slots.end in
    let records : ℕ → Result (List (ℕ × Slot) × ℕ) ℕ = λ n. records_at (a_car c.args.most c.args.next None) c.args.met.now 0 page n CAR_HEAD_BYTES in
    let begins = car_begins c.args.most c.args.next c.args.expected c.args.met.now page tt tt (answer_gives (Ok tt) _ c.in_ok-check_magic.ensures) (answer_gives (Ok tt) _ c.in_ok-check_number.ensures) in
    let p = err_from_is_err_and c.from_residual-in_err-check_rest.result c.from_residual-in_err-check_rest.ensures.1 in
    let read : records (number_from 2 page 12) ≡ Ok (c.in_ok-slots.slots, end) = subst (λ (n : ℕ). records n ≡ Ok (c.in_ok-slots.slots, end)) c.u16_at.ensures c.in_ok-slots.ensures.exact in
    let whole = begins ∙ rest_of page (records (number_from 2 page 12)) (c.in_ok-slots.slots, end) read in
    rw (p.1, p.2) (subst (λ (r : Result CarImage ℕ). Gives (Err fault) r) (sym whole) (fails_too fault (rest_at page end) (λ is_all. Ok (record { number = number_from 8 page 4; slots = c.in_ok-slots.slots })) (answer_gives (Err fault) (rest_at page end) c.in_err-check_rest.ensures)))

pub returns-clause-exact : goal.returns-clause-exact
returns-clause-exact c =
    let page = c.args.page.now in
    let end = c.in_ok-slots.end in
    let records : ℕ → Result (List (ℕ × Slot) × ℕ) ℕ = λ n. records_at (a_car c.args.most c.args.next None) c.args.met.now 0 page n CAR_HEAD_BYTES in
    let begins = car_begins c.args.most c.args.next c.args.expected c.args.met.now page tt tt (answer_gives (Ok tt) _ c.in_ok-check_magic.ensures) (answer_gives (Ok tt) _ c.in_ok-check_number.ensures) in
    let read : records (number_from 2 page 12) ≡ Ok (c.in_ok-slots.slots, end) = subst (λ (n : ℕ). records n ≡ Ok (c.in_ok-slots.slots, end)) c.u16_at.ensures c.in_ok-slots.ensures.exact in
    let made : ℕ → Result CarImage ℕ = λ number. Ok (record { number = number; slots = c.in_ok-slots.slots }) in
    let rested : rest_at page end ≡ Ok tt = answer_gives (Ok tt) (rest_at page end) c.in_ok-check_rest.ensures in
    begins ∙ rest_of page (records (number_from 2 page 12)) (c.in_ok-slots.slots, end) read ∙ ap (λ (r : Result (Unit {0}) ℕ). r >>= λ is_all. made (number_from 8 page 4)) rested ∙ ap made (sym c.u64_at.ensures)
