use Rattle.std.proofs.Common.{◌≡◌, inl, inr, ℕ, List, Some, length, ◌∙◌, ap, subst}
use Rattle.std.specs.Prelude.{option_map}
use Rattle.pm_disk.specs.Writes.{written, Torn}
use Rattle.pm_disk.specs.Ordered.{IsInOrder}
use Rattle.pm_disk.proofs.RunLemmas.{started, goes_on}
use Rattle.pm_disk.proofs.ordered.write_in_order.Goals as goal

pub returns-clause-in_order : goal.returns-clause-in_order
returns-clause-in_order g c contents told =
    let disk = c.args.disk.now in
    let first = c.write_at.new.self in
    let synced = c.sync.new.self in
    let images = g.D.Disk.image disk in
    let P : List ℕ → Type 0 = IsInOrder images contents c.args.first_at c.args.first.now c.args.second_at (length c.args.second.now) in
    let cut : (left : List ℕ) → g.D.Disk.image first left → P left = λ left now. inr (inl (c.write_at.ensures.only_torn left now)) in
    let whole : g.D.Disk.contents first ≡ Some (written c.args.first_at c.args.first.now contents) =
    c.in_ok-write_at.ensures.written ∙ ap (option_map (written c.args.first_at c.args.first.now)) told in
    let after : (left : List ℕ) → g.D.Disk.image c.write_at-2.new.self left → P left = λ left now.
    let from = c.write_at-2.ensures.only_torn left now in
    let only = c.in_ok-sync.ensures.only (written c.args.first_at c.args.first.now contents) whole from.0 from.1 in
    inr (inr (subst (λ (was : List ℕ). Torn c.args.second_at (length c.args.second.now) was left) only from.2)) in
    let at_start = started g.D.Disk.moment g.D.Disk.since disk P (λ left since. inl (g.met.D.Disk.only_now disk left since)) in
    let one = goes_on g.D.Disk.moment g.D.Disk.since disk disk first P (g.D.Disk.image first) at_start c.write_at.ensures.time cut in
    let two = goes_on g.D.Disk.moment g.D.Disk.since disk first synced P (g.D.Disk.image synced) one c.sync.ensures.time (λ left now. cut left (c.sync.ensures.no_more left now)) in
    goes_on g.D.Disk.moment g.D.Disk.since disk synced c.write_at-2.new.self P (g.D.Disk.image c.write_at-2.new.self) two c.write_at-2.ensures.time after
