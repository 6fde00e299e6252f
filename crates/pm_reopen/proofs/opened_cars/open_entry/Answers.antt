use Rattle.std.proofs.Common.{◌≡◌, [], ◌∷◌, List, map, sym, ap, ◌∙◌, arith}
use Rattle.std.specs.Vec.Iter.{into_iter_items}
use Rattle.pm_image.specs.declared.settled.KeptPage.{KeptPage}
use Rattle.pm_image.specs.Graphs.{images_of}
use Rattle.pm_copies.specs.Listed.{Listed}
use Rattle.pm_copies.specs.Opened.{listed_in}
use Rattle.pm_reopen.specs.Rebuild.Lists.{placed_of}
use Rattle.pm_reopen.specs.Listing.{listed_on}
use Rattle.pm_reopen.proofs.RebuildLemmas.Ends.{none_long}
use Rattle.pm_reopen.proofs.ListLaws.{none_listed}
use Rattle.pm_reopen.proofs.opened_cars.open_entry.Goals as goal

-- no car is left, so none is listed, before and after
pub returns-in_default-next-clause-cars : goal.returns-in_default-next-clause-cars
returns-in_default-next-clause-cars c others =
    let opened = c.args.opened.now in
    let zero = c.in_default-next.ensures.cases.0 in
    let len = c.next.ensures.len in
    let before : into_iter_items c.args.left.now ≡ [] = none_long _ (omega (arith, zero)) in
    let after : into_iter_items c.next.new.self ≡ [] = none_long _ (omega (arith, zero, len)) in
    let on = listed_on c.args.leads.now (map placed_of opened.cars.items) opened.last in
    ap (λ (kept : List KeptPage). on (listed_in others (images_of kept))) after
    ∙ ap (λ (listed : List Listed). on listed) (none_listed others ∙ sym (none_listed (c.args.entry.now ∷ others)))
    ∙ sym (ap (λ (kept : List KeptPage). on (listed_in (c.args.entry.now ∷ others) (images_of kept))) before)
