use Rattle.std.proofs.Common.{rules, refl, ◌≡◌, ◌+◌, ◌<◌, ◌^◌, ◌-◌, ℕ, List, Option, Some, length, map, drop, sum, sym, ap, ◌∙◌, subst, arith}
use Rattle.std.specs.Prelude.{IfSome, IsSome}
use Rattle.std.specs.List.{slice_get, slice_range, AllByRecursion}
use Rattle.std.proofs.lemmas.List.{length-map, length-append}
use Rattle.pm_image.specs.declared.settled.KeptPage.{KeptPage}
use Rattle.pm_image.specs.declared.catalog.CatEntry.{CatEntry}
use Rattle.pm_copies.specs.Plans.{root_entry}
use Rattle.pm_saving.specs.Progress.{catalog_left, parts_of}
use Rattle.pm_saving.specs.Paging.{NextPage, PartPage, part_before}
use Rattle.pm_saving.specs.Tied.{HasPage}
use Rattle.pm_save.specs.declared.progress.place.InProgress.{InProgress}
use Rattle.pm_save.specs.Progress.Seen.{car_seen, progress_seen}
use Rattle.pm_save.specs.Progress.Entries.{entries_in, entry_of}
use Rattle.pm_save.specs.Progress.Kept.{IsKept, IsPlaced}
use Rattle.pm_save.proofs.ProgressLemmas.Slices.{on_err}
use Rattle.pm_save.proofs.ProgressLemmas.Placed.{all_placed}
use Rattle.pm_save.proofs.ProgressLemmas.Parts.{IsNextPart, next_part, digest_fits, page_fits}
use Rattle.pm_save.proofs.progress.next.part_page.Goals as goal

part : (settled : List KeptPage) (it : InProgress) (count : ℕ) (counts : List ℕ) → IsKept settled it → AllByRecursion IsPlaced it.cars.items → Some count ≡ slice_get counts (length counts - 1) → counts ≡ it.counts.items
    → IsNextPart (progress_seen settled it) it.counts.items count
part settled it count counts kept placed last is =
    next_part (progress_seen settled it) it.counts.items count (all_placed settled it.cars.items kept.within placed) kept.counts (ap (λ (counts : List ℕ). slice_get counts (length counts - 1)) (sym is) ∙ sym last)

-- how many entries there are
few : (settled : List KeptPage) (it : InProgress) → length (entries_in (progress_seen settled it)) ≡ length it.cars.items + length it.roots.items
few settled it =
    let two = length-append (map entry_of (map (car_seen settled) it.cars.items)) (map root_entry it.roots.items) in
    let cars : length (map entry_of (map (car_seen settled) it.cars.items)) ≡ length it.cars.items = length-map (map (car_seen settled) it.cars.items) entry_of ∙ length-map it.cars.items (car_seen settled) in
    let roots = length-map it.roots.items root_entry in
    omega (arith, two, cars, roots)

pub total-to-requires : goal.total-to-requires
total-to-requires c =
    let it = c.args.it.now in
    let cars : length it.cars.items < 2 ^ 63 = search rules in
    let roots : length it.roots.items < 2 ^ 63 = search rules in
    let next = part c.args.settled.now it c.in-Some.count.now c.deref.result.now c.requires.kept c.requires.placed c.in-Some.ensures.value c.deref.ensures.value in
    let all = few c.args.settled.now it in
    let there = next.there in
    let same : sum c.deref-2.result.now ≡ sum it.counts.items = ap sum c.deref-2.ensures.value in
    omega (arith, cars, roots, all, there, same)

pub entries_between-requires-clause-there : goal.entries_between-requires-clause-there
entries_between-requires-clause-there c =
    let it = c.args.it.now in
    let next = part c.args.settled.now it c.in-Some.count.now c.deref.result.now c.requires.kept c.requires.placed c.in-Some.ensures.value c.deref.ensures.value in
    let all = few c.args.settled.now it in
    let there = next.there in
    let same : c.total-to.result ≡ sum it.counts.items = c.total-to.ensures ∙ ap sum c.deref-2.ensures.value in
    omega (arith, all, there, same)

pub write_catalog-requires : goal.write_catalog-requires
write_catalog-requires c =
    let it = c.args.it.now in
    let settled = c.args.settled.now in
    let progress = progress_seen settled it in
    let next = part settled it c.in-Some.count.now c.deref.result.now c.requires.kept c.requires.placed c.in-Some.ensures.value c.deref.ensures.value in
    let same : c.total-to.result ≡ sum it.counts.items = c.total-to.ensures ∙ ap sum c.deref-2.ensures.value in
    let entries = c.linked-page.ensures.entries ∙ c.in_ok-entries.ensures in
    let may : HasPage (PartPage (slice_range (entries_in progress) (sum it.counts.items - c.in-Some.count.now) (sum it.counts.items))) = subst (λ (next : Option NextPage). IfSome next HasPage) next.part c.requires.may in
    let is : c.linked-page.result.entries ≡ slice_range (entries_in progress) (sum it.counts.items - c.in-Some.count.now) (sum it.counts.items) =
    entries ∙ ap (λ (to : ℕ). slice_range (entries_in progress) (to - c.in-Some.count.now) to) same in
    let digest = c.linked-page.ensures.digest ∙ c.requires.kept.digest in
    let first = c.linked-page.ensures.next settled c.requires.kept c.requires.placed in
    let page = c.linked-page.result in
    page_fits page (slice_range (entries_in progress) (sum it.counts.items - c.in-Some.count.now) (sum it.counts.items)) may is
    (digest_fits it.parts.items (drop (catalog_left progress) (parts_of progress)) page.next page.digest c.requires.kept.pages first digest)

pub returns-clause-next : goal.returns-clause-next
returns-clause-next c =
    let it = c.args.it.now in
    let settled = c.args.settled.now in
    let progress = progress_seen settled it in
    let next = part settled it c.in-Some.count.now c.deref.result.now c.requires.kept c.requires.placed c.in-Some.ensures.value c.deref.ensures.value in
    let same : c.total-to.result ≡ sum it.counts.items = c.total-to.ensures ∙ ap sum c.deref-2.ensures.value in
    let entries = c.linked-page.ensures.entries ∙ c.in_ok-entries.ensures in
    let is : c.linked-page.result.entries ≡ slice_range (entries_in progress) (sum it.counts.items - c.in-Some.count.now) (sum it.counts.items) =
    entries ∙ ap (λ (to : ℕ). slice_range (entries_in progress) (to - c.in-Some.count.now) to) same in
    next.part ∙ ap (λ (entries : List CatEntry). Some (PartPage entries)) (sym is)

some_part : (settled : List KeptPage) (it : InProgress) (count : ℕ) → IsNextPart (progress_seen settled it) it.counts.items count → IsSome (part_before (catalog_left (progress_seen settled it)) (progress_seen settled it))
some_part settled it count next = subst (λ (next : Option NextPage). IsSome next) (sym next.part) refl

pub returns-in_err-entries-clause-err : goal.returns-in_err-entries-clause-err
returns-in_err-entries-clause-err c =
    on_err (IsSome (part_before (catalog_left (progress_seen c.args.settled.now c.args.it.now)) (progress_seen c.args.settled.now c.args.it.now))) c.from_residual.result (some_part c.args.settled.now c.args.it.now c.in-Some.count.now (part c.args.settled.now c.args.it.now c.in-Some.count.now c.deref.result.now c.requires.kept c.requires.placed c.in-Some.ensures.value c.deref.ensures.value))

pub returns-in_err-bytes-clause-err : goal.returns-in_err-bytes-clause-err
returns-in_err-bytes-clause-err c =
    on_err (IsSome (part_before (catalog_left (progress_seen c.args.settled.now c.args.it.now)) (progress_seen c.args.settled.now c.args.it.now))) c.from_residual-in_err-bytes.result (some_part c.args.settled.now c.args.it.now c.in-Some.count.now (part c.args.settled.now c.args.it.now c.in-Some.count.now c.deref.result.now c.requires.kept c.requires.placed c.in-Some.ensures.value c.deref.ensures.value))
