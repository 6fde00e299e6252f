use Rattle.std.proofs.Common.{ap, sym, ◌∙◌, Some}
use Rattle.pm_cars.specs.Entries.{Entry}
use Rattle.pm_cars.proofs.Listed.{content_present}
use Rattle.pm_cars.proofs.Taken.{without_present, without_absent}
use Rattle.pm_cars.proofs.Places.{none_before, blank}
use Rattle.pm_cars.proofs.entry.take.Goals as goal

pub returns-in_err-place-clause-items : goal.returns-in_err-place-clause-items
returns-in_err-place-clause-items c = sym (without_absent c.args.entries.now.items c.args.slot c.in_err-place.ensures.absent)

pub returns-clause-held : goal.returns-clause-held
returns-clause-held c =
    let es = c.args.entries.now.items in
    let place = c.in_ok-place.place in
    let at = c.in_ok-place.ensures.found in
    ap (λ (e : Entry). Some e.1) (c.remove-entry.ensures.value blank)
    ∙ sym (content_present es c.args.slot place blank at.within at.here (none_before es c.requires c.args.slot place at))

pub returns-clause-items : goal.returns-clause-items
returns-clause-items c =
    let es = c.args.entries.now.items in
    let place = c.in_ok-place.place in
    let at = c.in_ok-place.ensures.found in
    c.remove-entry.ensures.items ∙ without_present es c.args.slot place at.within at.here (none_before es c.requires c.args.slot place at)
