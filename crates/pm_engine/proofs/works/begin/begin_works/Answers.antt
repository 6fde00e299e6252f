use Rattle.std.proofs.Common.{◌≡◌, ℕ, [], ◌++◌, refl, sym, ap, subst, ◌∙◌, arith}
use Rattle.std.specs.Prelude.{option_map}
use Rattle.std.proofs.lemmas.Result.{err_from_is_err_and}
use Rattle.pm_types.specs.Mapped.{mapped}
use Rattle.pm_image.specs.Stands.{StandsForCopy}
use Rattle.pm_shadow.specs.State.{State}
use Rattle.pm_shadow.specs.Pages.{state, disk_of}
use Rattle.pm_space.specs.Shown.{car_of, view}
use Rattle.pm_copies.specs.Listed.{copy_in}
use Rattle.pm_copies.specs.Opened.{IsFresh, IsOpenedStore}
use Rattle.pm_reopen.proofs.Refusals.{graph_refused, header_refused}
use Rattle.pm_engine.specs.declared.works.course.Course.TheVariants.{Nothing}
use Rattle.pm_engine.specs.declared.works.start.Start.{Start}
use Rattle.pm_engine.specs.declared.works.works.Works.{Works}
use Rattle.pm_engine.specs.Works.Working.{journal_in}
use Rattle.pm_engine.proofs.works.begin.begin_works.Goals as goal
use Rattle.pm_engine.proofs.WorksLemmas.Begun.{stands, start_served, start_sound}

pub returns-in_err-pages-clause-fault : goal.returns-in_err-pages-clause-fault
returns-in_err-pages-clause-fault g c =
    let p = err_from_is_err_and c.from_residual.result c.from_residual.ensures.1 in
    rw (p.1, p.2) (λ bytes told. header_refused bytes c.in_err-pages.field-0.0.1 (c.in_err-pages.ensures.fault bytes told))

-- what was opened: the space is what opening makes of the bytes
pub invariant_of-result : goal.invariant_of-result
invariant_of-result g c = record {
  store = λ bytes told.
      ∣ subst (λ space. IsOpenedStore bytes (view space.parts)) (sym c.of.ensures)
      (c.in-Ok.ensures.opened bytes (sym (ap (λ pages. g.D.Disk.contents (disk_of pages)) c.of-in-Ok.ensures) ∙ told)).store ∣₁;
}

pub returns-in-Ok-clause-fresh : goal.returns-in-Ok-clause-fresh
returns-in-Ok-clause-fresh g c =
    let fresh = c.in-Ok.ensures.made_of.opened.fresh in
    subst (λ space. IsFresh (view space.parts).next (view space.parts)) (sym c.of.ensures) (subst (λ (n : ℕ). IsFresh n (view c.in-Ok.space.parts)) (sym fresh.next) fresh)

pub returns-in-Ok-clause-safe : goal.returns-in-Ok-clause-safe
returns-in-Ok-clause-safe g c =
    let first = c.in_ok-pages.pages in
    let last = c.open_space.new.pages in
    let works : Works g.row.D.Denot g.row.F.Denot g.D.Disk = record { pages = last; space = c.in-Ok.space; saver = c.new.result; past = c.nothing.result; journal = c.new-in-Ok.result; course = Nothing; watches = c.new-in-Ok-2.result; events = 0; steps = 0 } in
    let start : Start g.row.D.Denot g.row.F.Denot g.D.Disk = record { number = c.header.result.now.epoch; space = c.of.result; pages = c.of-in-Ok.result; count = c.faults.result; store = c.result-1.given.0 } in
    let attached_is = c.in_ok-pages.ensures.state in
    let unknown = ap (λ (s : State). s.known) attached_is in
    let knows = c.in-Ok.ensures.state in
    let makes = c.in-Ok.ensures.made_of in
    let fine = ap (λ (s : State). s.failed) (knows.first unknown) ∙ ap (λ (s : State). s.failed) attached_is in
    let disk = disk_of last in
    let stay = g.met.D.Disk.contents_stay disk in
    let none : journal_in works ≡ [] = (λ i. c.nothing.ensures i ++ c.new-in-Ok.ensures.items i) in
    ∣ start_sound start works (state first) c.args.place c.in-Ok.settled unknown knows makes fine last.within c.in-Ok.ensures.opened stay
    (λ bytes told. g.met.D.Disk.leaves_bytes disk (g.D.Disk.moment disk) bytes (g.met.D.Disk.counts_now disk (g.D.Disk.moment disk) bytes (omega arith) (stay bytes told)))
    (ap (option_map (mapped car_of)) makes.unfrozen.frozen) c.new.ensures none refl c.new-in-Ok-2.ensures refl refl (ap (λ h. h.epoch) c.header.ensures) c.of.ensures c.of-in-Ok.ensures (g.met.D.Disk.only_now disk)
    (λ bytes left told here. c.in_ok-pages.ensures.only bytes (sym c.in_ok-pages.ensures.told ∙ sym c.open_space.ensures.looks.told ∙ told) left (c.open_space.ensures.looks.images.no_more left here)) ∣₁

pub returns-in-Ok-clause-represents : goal.returns-in-Ok-clause-represents
returns-in-Ok-clause-represents g c =
    let first = c.in_ok-pages.pages in
    let last = c.open_space.new.pages in
    let works : Works g.row.D.Denot g.row.F.Denot g.D.Disk = record { pages = last; space = c.in-Ok.space; saver = c.new.result; past = c.nothing.result; journal = c.new-in-Ok.result; course = Nothing; watches = c.new-in-Ok-2.result; events = 0; steps = 0 } in
    let start : Start g.row.D.Denot g.row.F.Denot g.D.Disk = record { number = c.header.result.now.epoch; space = c.of.result; pages = c.of-in-Ok.result; count = c.faults.result; store = c.result-1.given.0 } in
    let attached_is = c.in_ok-pages.ensures.state in
    let unknown = ap (λ (s : State). s.known) attached_is in
    let knows = c.in-Ok.ensures.state in
    let makes = c.in-Ok.ensures.made_of in
    let fine = ap (λ (s : State). s.failed) (knows.first unknown) ∙ ap (λ (s : State). s.failed) attached_is in
    let disk = disk_of last in
    let stay = g.met.D.Disk.contents_stay disk in
    let none : journal_in works ≡ [] = (λ i. c.nothing.ensures i ++ c.new-in-Ok.ensures.items i) in
    ∣ (start_served start works (state first) c.args.place c.in-Ok.settled unknown knows makes fine last.within c.in-Ok.ensures.opened stay
    (λ bytes told. g.met.D.Disk.leaves_bytes disk (g.D.Disk.moment disk) bytes (g.met.D.Disk.counts_now disk (g.D.Disk.moment disk) bytes (omega arith) (stay bytes told)))
    (ap (option_map (mapped car_of)) makes.unfrozen.frozen) c.new.ensures none refl c.new-in-Ok-2.ensures refl refl c.of.ensures).represents ∣₁

pub returns-in-Ok-clause-stands : goal.returns-in-Ok-clause-stands
returns-in-Ok-clause-stands g c =
    let first = c.in_ok-pages.pages in
    let last = c.open_space.new.pages in
    let works : Works g.row.D.Denot g.row.F.Denot g.D.Disk = record { pages = last; space = c.in-Ok.space; saver = c.new.result; past = c.nothing.result; journal = c.new-in-Ok.result; course = Nothing; watches = c.new-in-Ok-2.result; events = 0; steps = 0 } in
    let start : Start g.row.D.Denot g.row.F.Denot g.D.Disk = record { number = c.header.result.now.epoch; space = c.of.result; pages = c.of-in-Ok.result; count = c.faults.result; store = c.result-1.given.0 } in
    let attached_is = c.in_ok-pages.ensures.state in
    let unknown = ap (λ (s : State). s.known) attached_is in
    let knows = c.in-Ok.ensures.state in
    let fine = ap (λ (s : State). s.failed) (knows.first unknown) ∙ ap (λ (s : State). s.failed) attached_is in
    let disk = disk_of last in
    let stay = g.met.D.Disk.contents_stay disk in
    λ bytes told.
    subst (λ (n : ℕ). StandsForCopy bytes n (copy_in (view c.of.result.value.parts))) (sym (ap (λ h. h.epoch) c.header.ensures))
    (subst (λ space. StandsForCopy bytes (state last).header.epoch (copy_in (view space.parts))) (sym c.of.ensures)
    (stands start works (state first) c.args.place c.in-Ok.settled unknown knows c.in-Ok.ensures.made_of fine last.within c.in-Ok.ensures.opened stay
    (λ bytes told. g.met.D.Disk.leaves_bytes disk (g.D.Disk.moment disk) bytes (g.met.D.Disk.counts_now disk (g.D.Disk.moment disk) bytes (omega arith) (stay bytes told)))
    bytes (c.open_space.ensures.looks.told ∙ c.in_ok-pages.ensures.told ∙ told)))

pub returns-in-Err-clause-fault : goal.returns-in-Err-clause-fault
returns-in-Err-clause-fault g c = λ bytes told.
    graph_refused bytes c.in-Err.fault ((c.in-Err.ensures.fault bytes (c.in_ok-pages.ensures.told ∙ told)).refused (c.in_ok-pages.ensures.found bytes told).count)
