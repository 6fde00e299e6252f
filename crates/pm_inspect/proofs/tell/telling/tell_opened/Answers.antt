use Rattle.std.proofs.Common.{ap, subst, ◌∙◌, arith}
use Rattle.std.proofs.lemmas.Result.{err_from_is_err_and}
use Rattle.pm_layout.specs.declared.header.Header.{Header}
use Rattle.pm_shadow.specs.State.{State}
use Rattle.pm_shadow.specs.Pages.{state, disk_of, current_kept}
use Rattle.pm_space.specs.Shown.{view}
use Rattle.pm_reopen.proofs.Refusals.{graph_refused}
use Rattle.pm_reopen.proofs.StoodLaws.{bytes_stand}
use Rattle.pm_inspect.proofs.tell.telling.tell_opened.Goals as goal

pub returns-in_err-space-clause-fault : goal.returns-in_err-space-clause-fault
returns-in_err-space-clause-fault g c =
    let p = err_from_is_err_and c.from_residual.result c.from_residual.ensures.1 in
    rw (p.1, p.2) (λ bytes told. graph_refused bytes c.in_err-space.field-0.0 ((c.in_err-space.ensures.fault bytes told).refused (c.requires.counted bytes told)))

pub returns-clause-told : goal.returns-clause-told
returns-clause-told g c bytes before =
    let first = state c.args.pages.now in
    let last = c.open_space_alone.new.pages in
    let disk = disk_of last in
    let space = c.in_ok-space.space in
    let opened = c.in_ok-space.ensures in
    let told = opened.looks.told ∙ before in
    let opens = opened.opened.1.told bytes told in
    let knows = opened.state in
    let fine = ap (λ (s : State). s.failed) (knows.first c.requires.unknown) ∙ c.requires.fine in
    let here = g.met.D.Disk.contents_stay disk bytes told in
    let each = g.met.D.Disk.leaves_bytes disk (g.D.Disk.moment disk) bytes (g.met.D.Disk.counts_now disk (g.D.Disk.moment disk) bytes (omega arith) here) in
    record {
      view = view space.parts;
      number = (state last).header.epoch;
      store = opens.store;
      stands = bytes_stand first (state last) bytes (view space.parts) _ c.requires.unknown opens ((current_kept last fine bytes told).each bytes here) each;
      says = subst (λ (h : Header). g.T.Teller.says c.args.teller.now (view space.parts) h.epoch c.in-Ok.text.items) c.header.ensures c.in-Ok.ensures;
    }
