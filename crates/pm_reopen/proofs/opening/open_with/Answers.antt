use Rattle.std.proofs.Common.{◌≡◌, ℕ, List, sym, ap, subst, ◌∙◌}
use Rattle.std.specs.Prelude.{All, Contains}
use Rattle.std.proofs.lemmas.Result.{err_from_is_err_and}
use Rattle.pm_layout.specs.declared.header.Header.{Header}
use Rattle.pm_image.specs.declared.settled.KeptPage.{KeptPage}
use Rattle.pm_image.specs.Graphs.{Catalog, images_of, entries_of, used_pages}
use Rattle.pm_shadow.specs.State.{State, IsListable}
use Rattle.pm_shadow.specs.Copies.{AreUsed}
use Rattle.pm_shadow.specs.Pages.{state, disk_of}
use Rattle.pm_copies.specs.Listed.{images}
use Rattle.pm_copies.specs.Accepted.{IsAccepted}
use Rattle.pm_copies.specs.Opened.{IsOpened, listed_in}
use Rattle.pm_view.specs.View.{SpaceView}
use Rattle.pm_space.specs.Shown.{view}
use Rattle.pm_graphs.specs.Reading.{IsThere}
use Rattle.pm_reopen.specs.Opening.{KnowsPages}
use Rattle.pm_reopen.proofs.AcceptedLaws.{whole_paired, whole_accepted}
use Rattle.pm_reopen.proofs.OpenLaws.{cars_known, used_listable, used_first, used_are, store_opened, graph_unopened, header_unopened}
use Rattle.pm_reopen.proofs.opening.open_with.Goals as goal

pub returns-then-not-is_there-clause-fault : goal.returns-then-not-is_there-clause-fault
returns-then-not-is_there-clause-fault g c bytes told =
    let disk = disk_of c.args.pages.now in
    let s = state c.args.pages.now in
    header_unopened s bytes (g.D.Disk.image disk) (c.keep_the_current_copy.ensures c.requires bytes told) (g.met.D.Disk.contents_stay disk bytes told)
    c.slot.result c.slot.ensures c.keep_their_header.ensures.within
    (λ there.
    let here : IsThere c.page_count.result c.header-header.result.now.first
    = subst (λ (n : ℕ). IsThere n c.header-header.result.now.first) (sym c.page_count.ensures) (subst (λ (h : Header). IsThere s.count h.first) (sym c.header-header.ensures) there) in
    let yes = c.is_there.ensures.only here in
    let no = c.if-not-is_there.true in
    absurd (cc (yes, no)))

pub returns-in_err-chain-clause-fault : goal.returns-in_err-chain-clause-fault
returns-in_err-chain-clause-fault g c =
    let p = err_from_is_err_and c.from_residual.result c.from_residual.ensures.1 in
    let disk = disk_of c.args.pages.now in
    let s = state c.args.pages.now in
    let there = subst (λ (h : Header). IsThere s.count h.first) c.header-header.ensures (subst (λ (n : ℕ). IsThere n c.header-header.result.now.first) c.page_count.ensures (c.is_there.ensures.there c.if-not-is_there.false)) in
    rw (p.1, p.2) (λ bytes told.
    graph_unopened s bytes (g.D.Disk.image disk) (c.keep_the_current_copy.ensures c.requires bytes told) (g.met.D.Disk.contents_stay disk bytes told)
    c.in_err-chain.field-0.0 c.keep_their_header.ensures.within there (c.in_err-chain.ensures.graph bytes told))

pub build_graph-built-requires-clause-paired : goal.build_graph-built-requires-clause-paired
build_graph-built-requires-clause-paired g c =
    let s = state c.args.pages.now in
    subst (λ (ks : List KeptPage). images (listed_in (entries_of c.in_ok-chain.chain) (images_of ks)) ≡ images_of ks) (sym c.into_made-cars.ensures.cars)
    (whole_paired s.count s.header.next c.in_ok-chain.chain c.in_ok-chain.read c.in_ok-chain.ensures.whole)

pub build_graph-built-requires-clause-accepted : goal.build_graph-built-requires-clause-accepted
build_graph-built-requires-clause-accepted g c =
    let s = state c.args.pages.now in
    let chain = c.in_ok-chain.chain in
    let cars = c.in_ok-chain.read in
    let spelled = c.keep_their_header.ensures.spelled in
    subst (λ (ks : List KeptPage). IsAccepted (listed_in (entries_of chain) (images_of ks)) (entries_of chain) c.header-header.result.now.next) (sym c.into_made-cars.ensures.cars)
    (subst (λ (h : Header). IsAccepted (listed_in (entries_of chain) (images_of cars)) (entries_of chain) h.next) (sym c.header-header.ensures)
    (whole_accepted s.count s.header.next chain cars spelled.some spelled.last c.in_ok-chain.ensures.whole))

pub know_pages-known-requires-clause-there : goal.know_pages-known-requires-clause-there
know_pages-known-requires-clause-there g c unknown =
    let s = state c.args.pages.now in
    let used = c.as_slice.result.now in
    let is = c.as_slice.ensures.value ∙ c.in-Ok.ensures.pages ∙ ap (λ (ks : List KeptPage). used_pages (record { catalog = c.in_ok-chain.chain; cars = ks })) c.into_made-cars.ensures.cars in
    let looked = c.in_ok-chain.ensures.looked in
    let begun = c.keep_their_header.ensures.begun (sym (ap (λ (t : State). t.known) looked.same) ∙ unknown) in
    subst (λ (t : State). All (IsListable t) used) (sym looked.same) (used_listable s.count s.header.next c.in_ok-chain.chain c.in_ok-chain.read used is s begun c.in_ok-chain.ensures.whole)

pub know_pages-known-requires-clause-first : goal.know_pages-known-requires-clause-first
know_pages-known-requires-clause-first g c =
    let s = state c.args.pages.now in
    let used = c.as_slice.result.now in
    let is = c.as_slice.ensures.value ∙ c.in-Ok.ensures.pages ∙ ap (λ (ks : List KeptPage). used_pages (record { catalog = c.in_ok-chain.chain; cars = ks })) c.into_made-cars.ensures.cars in
    subst (λ (t : State). Contains used t.header.first) (sym c.in_ok-chain.ensures.looked.same) (used_first s.count s.header.next c.in_ok-chain.chain c.in_ok-chain.read used is s.header.first c.in_ok-chain.ensures.begins)

pub know_pages-known-requires-clause-used : goal.know_pages-known-requires-clause-used
know_pages-known-requires-clause-used g c bytes now =
    let disk = disk_of c.args.pages.now in
    let s = state c.args.pages.now in
    let used = c.as_slice.result.now in
    let is = c.as_slice.ensures.value ∙ c.in-Ok.ensures.pages ∙ ap (λ (ks : List KeptPage). used_pages (record { catalog = c.in_ok-chain.chain; cars = ks })) c.into_made-cars.ensures.cars in
    let looked = c.in_ok-chain.ensures.looked in
    let told = sym looked.looks.told ∙ now in
    subst (λ (t : State). AreUsed t bytes used) (sym looked.same)
    (used_are s bytes (g.D.Disk.image disk) (c.keep_the_current_copy.ensures c.requires bytes told) (g.met.D.Disk.contents_stay disk bytes told)
    c.in_ok-chain.chain c.in_ok-chain.read used is c.in_ok-chain.ensures.whole (c.in_ok-chain.ensures.graph bytes told))

-- what was made of the cars that were handed over is made of those that were read
opened_as : (s : State) (chain : Catalog) (cars given : List KeptPage) (header : Header) (v : SpaceView) → given ≡ cars → header ≡ s.header → IsOpened (listed_in (entries_of chain) (images_of given)) (entries_of chain) header.next v
    → IsOpened (listed_in (entries_of chain) (images_of cars)) (entries_of chain) s.header.next v
opened_as s chain cars given header v same is opened =
    subst (λ (h : Header). IsOpened (listed_in (entries_of chain) (images_of cars)) (entries_of chain) h.next v) is
    (subst (λ (ks : List KeptPage). IsOpened (listed_in (entries_of chain) (images_of ks)) (entries_of chain) header.next v) same opened)

pub returns-clause-opened : goal.returns-clause-opened
returns-clause-opened g c =
    let disk = disk_of c.args.pages.now in
    let s = state c.args.pages.now in
    let chain = c.in_ok-chain.chain in
    let cars = c.in_ok-chain.read in
    let used = c.as_slice.result.now in
    let new = state c.know_pages-known.new.pages in
    let is = c.as_slice.ensures.value ∙ c.in-Ok.ensures.pages ∙ ap (λ (ks : List KeptPage). used_pages (record { catalog = c.in_ok-chain.chain; cars = ks })) c.into_made-cars.ensures.cars in
    let looked = c.in_ok-chain.ensures.looked in
    let spelled = c.keep_their_header.ensures.spelled in
    let made = opened_as s chain cars c.into_made-cars.result.0 c.header-header.result.now (view c.in-Ok.space.parts) c.into_made-cars.ensures.cars c.header-header.ensures c.in-Ok.ensures.view in (
      cars,
      c.into_made-cars.ensures.made,
      record {
        told = λ bytes told.
            let before = sym looked.looks.told ∙ ap g.D.Disk.contents (sym c.in-Ok-known.ensures.still) ∙ told in
            let there = subst (λ (h : Header). IsThere s.count h.first) c.header-header.ensures (subst (λ (n : ℕ). IsThere n c.header-header.result.now.first) c.page_count.ensures (c.is_there.ensures.there c.if-not-is_there.false)) in
            store_opened s bytes (g.D.Disk.image disk) (c.keep_the_current_copy.ensures c.requires bytes before) (g.met.D.Disk.contents_stay disk bytes before)
            chain cars used is c.in_ok-chain.ensures.whole (c.in_ok-chain.ensures.graph bytes before)
            new there c.keep_their_header.ensures.begun (subst (λ (t : State). KnowsPages t new) looked.same c.in-Ok-known.ensures.state)
            (λ unknown. c.in-Ok-known.ensures.listed (ap (λ (t : State). t.known) looked.same ∙ unknown)) (view c.in-Ok.space.parts) made;
        made = record {
          unfrozen = c.in-Ok.ensures.unfrozen;
          entries = entries_of chain;
          paired = whole_paired s.count s.header.next chain cars c.in_ok-chain.ensures.whole;
          accepted = whole_accepted s.count s.header.next chain cars spelled.some spelled.last c.in_ok-chain.ensures.whole;
          opened = made;
          on_pages = λ unknown.
              let begun = c.keep_their_header.ensures.begun unknown in
              cars_known chain cars used is s new.uses (used_listable s.count s.header.next chain cars used is s begun c.in_ok-chain.ensures.whole)
              (c.in-Ok-known.ensures.listed (ap (λ (t : State). t.known) looked.same ∙ unknown));
        };
      },
    )
