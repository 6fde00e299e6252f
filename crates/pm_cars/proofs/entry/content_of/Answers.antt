use Rattle.std.proofs.Common.{sym, ap, ◌∙◌, Some}
use Rattle.pm_cars.proofs.Listed.{content_present}
use Rattle.pm_cars.proofs.Places.{none_before, blank}
use Rattle.pm_cars.proofs.entry.content_of.Goals as goal

pub returns : goal.returns
returns c =
    let es = c.args.entries.now.items in
    let place = c.in_ok-place.place in
    let at = c.in_ok-place.ensures.found in
    ap Some (c.content.ensures blank) ∙ sym (content_present es c.args.slot place blank at.within at.here (none_before es c.requires c.args.slot place at))
