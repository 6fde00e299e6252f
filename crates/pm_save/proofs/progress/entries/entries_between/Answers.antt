use Rattle.std.proofs.Common.{rules, ◌≡◌, List, [], ◌++◌, map, length, min, ap, ◌∙◌, ◌-◌}
use Rattle.std.specs.List.{slice_range}
use Rattle.pm_image.specs.declared.catalog.CatEntry.{CatEntry}
use Rattle.pm_copies.specs.Plans.{root_entry}
use Rattle.pm_save.specs.Progress.Seen.{car_seen}
use Rattle.pm_save.specs.Progress.Entries.{entry_of}
use Rattle.pm_save.proofs.ProgressLemmas.Between.{stretch}
use Rattle.pm_save.proofs.progress.entries.entries_between.Goals as goal

pub returns : goal.returns
returns c =
    let it = c.args.it.now in
    let settled = c.args.settled.now in
    let n = c.len-cars.result in
    let len : n ≡ length it.cars.items = search rules in
    let a_is : c.min.result ≡ min c.args.from n = search rules in
    let b_is : c.min-2.result ≡ min c.args.to n = search rules in
    let p_is : c.saturating_sub.result ≡ c.args.from - n = search rules in
    let q_is : c.saturating_sub-2.result ≡ c.args.to - n = search rules in
    let none : c.in_ok-entries.entries.items ≡ [] = search rules in
    let cars : c.push_cars.new.entries.items ≡ map entry_of (map (car_seen settled) (slice_range it.cars.items c.min.result c.min-2.result)) =
    c.in_ok-push_cars.ensures ∙ ap (λ (front : List CatEntry). front ++ map entry_of (map (car_seen settled) (slice_range c.deref.result.now c.min.result c.min-2.result))) none
    ∙ ap (λ cars. map entry_of (map (car_seen settled) (slice_range cars c.min.result c.min-2.result))) c.deref.ensures.value in
    c.from_vec.ensures ∙ c.in_ok-push_roots.ensures
    ∙ ap (λ (front : List CatEntry). front ++ map root_entry (slice_range c.deref-2.result.now c.saturating_sub.result c.saturating_sub-2.result)) cars
    ∙ ap (λ roots. map entry_of (map (car_seen settled) (slice_range it.cars.items c.min.result c.min-2.result)) ++ map root_entry (slice_range roots c.saturating_sub.result c.saturating_sub-2.result)) c.deref-2.ensures.value
    ∙ stretch settled it c.args.from c.args.to n c.min.result c.min-2.result c.saturating_sub.result c.saturating_sub-2.result c.requires.in_order len a_is b_is p_is q_is
