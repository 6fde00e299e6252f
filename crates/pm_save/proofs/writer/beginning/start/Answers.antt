use Rattle.std.proofs.Common.{◌≡◌, ◌≤◌, ◌∙◌, refl, length, rules}
use Rattle.std.specs.Prelude.{vec_capacity}
use Rattle.pm_copies.specs.Cutting.{cut}
use Rattle.pm_save.specs.Progress.Counted.{drafted_entries, lengths}
use Rattle.pm_save.proofs.WriterLemmas.BeginLemmas.{kept_plan}
use Rattle.pm_save.proofs.writer.beginning.start.Goals as goal

pub returns-clause-kept : goal.returns-clause-kept
returns-clause-kept c settled within =
    let cars = c.args.cars in
    let roots = c.args.roots in
    let counts : c.in_ok-counts.counts.items ≡ lengths (cut (drafted_entries cars.items roots.items)) =
    c.in_ok-counts.ensures ∙ (λ i. lengths (cut (drafted_entries (c.as_slice.ensures.value i) (c.as_slice-2.ensures.value i)))) in
    let pages_room : length c.in_ok-counts.counts.items ≤ vec_capacity c.in_ok-pages.pages = search rules in
    let cars_room : length cars.items ≤ vec_capacity c.in_ok-room.room = search rules in
    kept_plan settled _ refl within counts c.in_ok-pages.ensures.items refl pages_room c.in_ok-room.ensures.items cars_room
