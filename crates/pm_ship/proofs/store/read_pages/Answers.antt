use Rattle.std.proofs.Common.{ℕ, subst, sym}
use Rattle.pm_layout.specs.declared.header.Header.{Header}
use Rattle.pm_shadow.specs.Pages.{state, disk_of}
use Rattle.pm_graphs.specs.Reading.{IsThere}
use Rattle.pm_reopen.proofs.OpenLaws.{header_unopened}
use Rattle.pm_ship.proofs.FoundLemmas.{fault_if, found_if}
use Rattle.pm_ship.proofs.store.read_pages.Goals as goal

pub returns-then-not-is_there-clause-fault : goal.returns-then-not-is_there-clause-fault
returns-then-not-is_there-clause-fault g c bytes told =
    let disk = disk_of c.args.pages.now in
    let s = state c.args.pages.now in
    header_unopened s bytes (g.D.Disk.image disk) (c.keep_the_current_copy.ensures c.requires.sound bytes told) (g.met.D.Disk.contents_stay disk bytes told)
    c.slot.result c.slot.ensures c.keep_their_header.ensures.within
    (λ there.
    let here : IsThere c.page_count.result c.header-header.result.now.first
    = subst (λ (n : ℕ). IsThere n c.header-header.result.now.first) (sym c.page_count.ensures) (subst (λ (h : Header). IsThere s.count h.first) (sym c.header-header.ensures) there) in
    let yes = c.is_there.ensures.only here in
    let no = c.if-not-is_there.true in
    absurd (cc (yes, no)))

pub returns-clause-found : goal.returns-clause-found
returns-clause-found g c =
    let disk = disk_of c.args.pages.now in
    let s = state c.args.pages.now in
    let there = subst (λ (h : Header). IsThere s.count h.first) c.header-header.ensures (subst (λ (n : ℕ). IsThere n c.header-header.result.now.first) c.page_count.ensures (c.is_there.ensures.there c.if-not-is_there.false)) in
    found_if s (g.D.Disk.contents disk) (g.D.Disk.image disk) (λ bytes told. c.keep_the_current_copy.ensures c.requires.sound bytes told) (λ bytes told. g.met.D.Disk.contents_stay disk bytes told) there
    c.read_graph.result c.read_graph.ensures.graph c.read_graph.ensures.whole

pub returns-clause-fault : goal.returns-clause-fault
returns-clause-fault g c =
    let disk = disk_of c.args.pages.now in
    let s = state c.args.pages.now in
    let there = subst (λ (h : Header). IsThere s.count h.first) c.header-header.ensures (subst (λ (n : ℕ). IsThere n c.header-header.result.now.first) c.page_count.ensures (c.is_there.ensures.there c.if-not-is_there.false)) in
    fault_if s (g.D.Disk.contents disk) (g.D.Disk.image disk) (λ bytes told. c.keep_the_current_copy.ensures c.requires.sound bytes told) (λ bytes told. g.met.D.Disk.contents_stay disk bytes told) there
    c.keep_their_header.ensures.within c.read_graph.result c.read_graph.ensures.graph
