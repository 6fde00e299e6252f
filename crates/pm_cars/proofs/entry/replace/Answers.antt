use Rattle.std.proofs.Common.{◌≡◌, ap, sym, ◌∙◌, set, get_or, Some}
use Rattle.pm_cars.specs.Rows.{Row}
use Rattle.pm_cars.proofs.Listed.{content_present, with_present, with_absent}
use Rattle.pm_cars.proofs.Places.{none_before, number_at, blank}
use Rattle.pm_cars.proofs.entry.replace.Goals as goal

pub returns-in_err-place-clause-items : goal.returns-in_err-place-clause-items
returns-in_err-place-clause-items c = sym (with_absent c.args.entries.now.items c.args.slot c.args.content c.in_err-place.ensures.absent)

pub returns-clause-held : goal.returns-clause-held
returns-clause-held c =
    let es = c.args.entries.now.items in
    let place = c.in_ok-place.place in
    let at = c.in_ok-place.ensures.found in
    ap Some (c.replace.ensures.held blank) ∙ sym (content_present es c.args.slot place blank at.within at.here (none_before es c.requires c.args.slot place at))

pub returns-clause-items : goal.returns-clause-items
returns-clause-items c =
    let es = c.args.entries.now.items in
    let place = c.in_ok-place.place in
    let at = c.in_ok-place.ensures.found in
    let here : (get_or es place blank).0 ≡ c.args.slot = sym (number_at es place blank at.within) ∙ at.here in
    ap (λ (row : Row). row.items) (c.replace.ensures.row blank)
    ∙ (λ i. set es place ((here i, c.args.content)))
    ∙ with_present es c.args.slot place c.args.content at.within at.here (none_before es c.requires c.args.slot place at)

pub returns-clause-capacity : goal.returns-clause-capacity
returns-clause-capacity c = ap (λ (row : Row). row.capacity) (c.replace.ensures.row blank)
