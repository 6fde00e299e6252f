use Rattle.std.proofs.Common.{rules, arith, ◌≡◌, ◌+◌, ◌<◌, ◌^◌, Option, length, ap, ◌∙◌, subst}
use Rattle.std.specs.Prelude.{option_map}
use Rattle.pm_saving.specs.Paging.{left, left_of}
use Rattle.pm_save.specs.declared.progress.place.InProgress.{InProgress}
use Rattle.pm_save.specs.Progress.Kept.{AreKept, IsKept, open_count}
use Rattle.pm_save.specs.Progress.Seen.{progress_seen}
use Rattle.pm_save.proofs.WriterLemmas.LeftLemmas.{left_is, open_few}
use Rattle.pm_save.proofs.writer.writer.Writer.left.Goals as goal

pub overflow_add-result : goal.overflow_add-result
overflow_add-result c =
    let it = c.in-Some.it in
    let count : c.count_open.result ≡ open_count it.cars.items = c.count_open.ensures ∙ ap open_count c.deref.ensures.value in
    let few = open_few it.cars.items in
    let cars : length it.cars.items < 2 ^ 63 = search rules in
    let counts : c.len.result < 2 ^ 63 = search rules in
    let sum : c.count_open.result + c.len.result < 2 ^ 64 = omega (arith, count, few, cars, counts) in
    search (rules, sum)

pub returns-in-Some : goal.returns-in-Some
returns-in-Some c =
    let self = c.args.self.now in
    let settled = self.settled.items in
    let it = c.in-Some.it in
    let kept : IsKept settled it = subst (AreKept settled) c.in-Some.is self.kept in
    let count : c.count_open.result ≡ open_count it.cars.items = c.count_open.ensures ∙ ap open_count c.deref.ensures.value in
    let parts : c.len.result ≡ length it.counts.items = search rules in
    let all = left_is settled it kept in
    let is : left_of (option_map (progress_seen settled) self.progress) ≡ left (progress_seen settled it) = ap (λ (o : Option InProgress). left_of (option_map (progress_seen settled) o)) c.in-Some.is in
    omega (arith, count, parts, all, is)
