-- What stands once a space was opened.
use Rattle.std.proofs.Common.{◌≡◌, ℕ, ◌≤◌, Bool, true, false, List, [], ◌∷◌, map, Result, Ok, Err, refl, sym, ap, subst, ◌∙◌, arith, nat_lt, nat_le, ◌&&◌, if◌then◌else◌}
use Rattle.std.specs.Prelude.{All, Contains}
use Rattle.std.specs.List.{AllByRecursion}
use Rattle.std.proofs.lemmas.List.Elements.{Contains-append_left, Contains-append_right, All-nil, All-cons, All-contains}
use Rattle.pm_types.specs.declared.fault.OpenFault.{OpenFault}
use Rattle.pm_types.specs.declared.fault.OpenFault.TheVariants.{NotAStore, Version, Damaged, Malformed, Disk, Memory}
use Rattle.pm_layout.specs.declared.header.Header.{Header}
use Rattle.pm_types.specs.Results.{◌>>=◌}
use Rattle.pm_types.proofs.Results.{bound}
use Rattle.pm_image.specs.declared.settled.KeptPage.{KeptPage}
use Rattle.pm_image.specs.Graphs.{Pages as Store, Catalog, Graph, graph_of, images_of, entries_of, used_pages}
use Rattle.pm_image.specs.Opening.{Current, current, page_count, header_in, sound_header, is_placed}
use Rattle.pm_image.specs.Stands.{pages_of, opened}
use Rattle.pm_image.proofs.FrameLaws.{graph_too, opened_as}
use Rattle.pm_shadow.specs.declared.page_use.PageUse.{PageUse}
use Rattle.pm_shadow.specs.declared.page_use.PageUse.TheVariants.{Current as CurrentPage}
use Rattle.pm_shadow.specs.State.{State, IsListable, known_by}
use Rattle.pm_shadow.specs.Images.{Heads, IsSoundState}
use Rattle.pm_shadow.specs.Copies.{AreUsed, KeepsGraph}
use Rattle.pm_shadow.specs.Uses.{UsesOnlyListed}
use Rattle.pm_shadow.proofs.AttachLemmas.{heads_current, current_long}
use Rattle.pm_shadow.proofs.CopyLemmas.{listed_graph}
use Rattle.pm_view.specs.View.{SpaceView}
use Rattle.pm_copies.specs.Opened.{IsOpened, listed_in}
use Rattle.pm_graphs.specs.Reading.{IsThere, IsCar, IsReadWhole, store_of, page_numbers}
use Rattle.pm_graphs.specs.Reopening.{IsGraph}
use Rattle.pm_graphs.proofs.Lists.{all_both}
use Rattle.pm_reopen.specs.Opening.{AreKnownRight, OpensStore, KnowsPages, IsRefusedBy, IsNoRefusal, IsUnopened}

-- ---- the pages that were read

cars_there : (count next : ℕ) (cars : List KeptPage) → AllByRecursion (IsCar count next) cars → AllByRecursion (IsThere count) (map (λ (kept : KeptPage). kept.page) cars)
cars_there count next [] are = tt
cars_there count next (kept ∷ cars) are = (are.0.there, cars_there count next cars are.1)

each_of : (P : ℕ → Type 0) (pages : List ℕ) → AllByRecursion P pages → All P pages
each_of P [] there = All-nil P
each_of P (page ∷ pages) there = All-cons P page pages there.0 (each_of P pages there.1)

module _ (count next : ℕ) (catalog : Catalog) (cars : List KeptPage) (used : List ℕ) (is : used ≡ used_pages (record { catalog = catalog; cars = cars })) where
  -- they are pages of the store
  pub used_there : IsReadWhole count next catalog cars → All (IsThere count) used
  used_there whole = subst (All (IsThere count)) (sym is) (each_of (IsThere count) (used_pages (record { catalog = catalog; cars = cars })) (all_both (IsThere count) (page_numbers catalog) (map (λ (kept : KeptPage). kept.page) cars) whole.sound.pages (cars_there count next cars whole.cars_are)))

  -- and may be listed, where no page has come since
  pub used_listable : (s : State) → s.settled ≡ count → IsReadWhole count next catalog cars → All (IsListable s) used
  used_listable s begun whole k d lt = let there = used_there whole k d lt in record { from_2 = there.from_2; there = (let below = there.there in omega (arith, below, begun)) }

  pub used_first : (first : ℕ) → Contains (page_numbers catalog) first → Contains used first
  used_first first begins = subst (λ (pages : List ℕ). Contains pages first) (sym is) (Contains-append_left (page_numbers catalog) (map (λ (kept : KeptPage). kept.page) cars) first begins)

-- ---- the header

placed : (count : ℕ) (header : Header) → IsThere count header.first → is_placed count header ≡ true
placed count header there =
    let low = there.from_2 in
    let high = there.there in
    let from_2 : nat_le 2 header.first ≡ true = grind (arith) in
    let below : nat_lt header.first count ≡ true = grind (arith) in
    λ i. from_2 i && below i

unplaced : (count : ℕ) (header : Header) → (IsThere count header.first → ⊥) → is_placed count header ≡ false
unplaced count header apart = by_test (nat_le 2 header.first) (nat_lt header.first count) refl refl
  where
    by_test : (low high : Bool) → nat_le 2 header.first ≡ low → nat_lt header.first count ≡ high → (low && high) ≡ false
    by_test true true low high = absurd (apart (record { from_2 = grind (arith, low); there = grind (arith, high) }))
    by_test true false low high = refl
    by_test false high low is = refl

store_same : (s : State) (bytes : List ℕ) → s.count ≡ page_count bytes → store_of s.count bytes ≡ pages_of bytes
store_same s bytes counted = λ i. record { count = counted i; page = (pages_of bytes).page }

module _ (s : State) (bytes : List ℕ) (images : List ℕ → Type 0) (sound : IsSoundState s bytes images) (left : images bytes) where
  heads : Heads bytes s.slot s.header
  heads = (sound.each bytes left).heads

  -- the header is the current one where it names a page that is there
  header_now : IsThere s.count s.header.first → current bytes ≡ Ok (record { slot = s.slot; header = s.header })
  header_now there =
      let counted = sound.counted in
      let below = there.there in
      heads_current bytes s.slot s.header heads (placed (page_count bytes) s.header (record { from_2 = there.from_2; there = omega (arith, below, counted) }))

  -- and else refused
  header_refused : (IsThere s.count s.header.first → ⊥) → s.count ≡ page_count bytes → opened bytes ≡ Err (Malformed s.slot 24)
  unfolding opened
  header_refused apart counted =
      let none : current bytes ≡ Err (Malformed s.slot 24) =
      current_long bytes heads.long ∙ ap (header_in bytes) heads.picked ∙ ap (sound_header (page_count bytes) s.slot) heads.stands
      ∙ ap (λ (b : Bool). if b then Ok (record { slot = s.slot; header = s.header }) else Err (Malformed s.slot 24)) (ap (λ (n : ℕ). is_placed n s.header) (sym counted) ∙ unplaced s.count s.header apart) in
      ap (λ (now : Result Current OpenFault). now >>= λ now. graph_of (pages_of bytes) now.header >>= λ graph. Ok (record { current = now; graph = graph })) none

  -- ---- what was read

  module _ (catalog : Catalog) (cars : List KeptPage) (used : List ℕ) (is : used ≡ used_pages (record { catalog = catalog; cars = cars })) (whole : IsReadWhole s.count s.header.next catalog cars)
      (read : IsGraph (Ok (catalog, cars)) (graph_of (store_of s.count bytes) s.header)) where
    -- the graph stands in the whole store
    graph_found : graph_of (pages_of bytes) s.header ≡ Ok (record { catalog = catalog; cars = cars })
    graph_found =
        graph_too (store_of s.count bytes) (pages_of bytes) s.header (record { catalog = catalog; cars = cars }) read
        (λ page within.
        let there = All-contains (IsThere s.count) used page (used_there s.count s.header.next catalog cars used is whole) (subst (λ (ps : List ℕ). Contains ps page) (sym is) within) in
        let counted = sound.counted in
        let below = there.there in
        (omega (arith, below, counted), refl))

    pub used_are : AreUsed s bytes used
    used_are = record {
      graph = record { catalog = catalog; cars = cars };
      found = graph_found;
      all = λ page within. subst (λ (ps : List ℕ). Contains ps page) (sym is) within;
      only = λ page within. subst (λ (ps : List ℕ). Contains ps page) is within;
    }

    -- pages that were known right still are, as those of this graph
    keeps_again : (new : State) → new ≡ s → (graph : Graph) → KeepsGraph s bytes graph → KeepsGraph new bytes (record { catalog = catalog; cars = cars })
    keeps_again new same graph keeps =
        subst (λ (t : State). KeepsGraph t bytes (record { catalog = catalog; cars = cars })) (sym same)
        (subst (KeepsGraph s bytes) (ok_is (sym keeps.found ∙ graph_found)) keeps)
      where
        ok_is : {a b : Graph} → ◌≡◌ {A = Result Graph OpenFault} (Ok a) (Ok b) → a ≡ b
        ok_is same = cc

    keeps_first : (new : State) → s.settled ≡ s.count → new ≡ known_by s new.uses → UsesOnlyListed used new.uses → KeepsGraph new bytes (record { catalog = catalog; cars = cars })
    unfolding used_are
    keeps_first new begun known listed =
        subst (λ (t : State). KeepsGraph t bytes (record { catalog = catalog; cars = cars })) (sym known)
        (listed_graph s new.uses bytes used used_are (used_listable s.count s.header.next catalog cars used is s begun whole) listed)

    pub store_opened : (new : State) → IsThere s.count s.header.first → (s.known ≡ false → s.settled ≡ s.count) → KnowsPages s new → (s.known ≡ false → UsesOnlyListed used new.uses) → (view : SpaceView)
        → IsOpened (listed_in (entries_of catalog) (images_of cars)) (entries_of catalog) s.header.next view → OpensStore s new bytes view cars
    store_opened new there begun knows listed view made = record {
      store = record {
        found = record { current = record { slot = s.slot; header = s.header }; graph = record { catalog = catalog; cars = cars } };
        is_found = opened_as bytes (record { slot = s.slot; header = s.header }) (record { catalog = catalog; cars = cars }) (header_now there) graph_found;
        is_opened = made;
      };
      cars_are = refl;
      keeps = keeps s.known refl;
    }
      where
        keeps : (known : Bool) → s.known ≡ known → AreKnownRight s bytes → KeepsGraph new bytes (record { catalog = catalog; cars = cars })
        keeps true is right = let graph = right is in keeps_again new (knows.again is) graph.0 graph.1
        keeps false is right = keeps_first new (begun is) (knows.first is) (listed is)

  -- ---- why none was opened

  refused : (fault : OpenFault) → IsThere s.count s.header.first → s.count ≡ page_count bytes → graph_of (store_of s.count bytes) s.header ≡ Err fault → opened bytes ≡ Err fault
  unfolding opened
  refused fault there counted is =
      bound (current bytes) _ (record { slot = s.slot; header = s.header }) _ (header_now there)
      (ap (λ (read : Result Graph OpenFault). read >>= λ graph. Ok (record { current = record { slot = s.slot; header = s.header }; graph = graph })) (ap (λ (store : Store). graph_of store s.header) (sym (store_same s bytes counted)) ∙ is))

  refused_by : (fault : OpenFault) → IsThere s.count s.header.first → s.count ≡ page_count bytes → IsGraph (Err fault) (graph_of (store_of s.count bytes) s.header) → IsRefusedBy bytes fault
  refused_by NotAStore there counted is = absurd is
  refused_by (Version version) there counted is = absurd is
  refused_by (Damaged page kept damaged) there counted is = refused (Damaged page kept damaged) there counted is
  refused_by (Malformed page at) there counted is = refused (Malformed page at) there counted is
  refused_by (Disk before after) there counted is = tt
  refused_by (Memory _) there counted is = tt

  -- pages that are there are found among those that are counted
  kept_there : s.settled ≤ s.count → (graph : Graph) → KeepsGraph s bytes graph → (page : ℕ) → Contains (used_pages graph) page → IsThere s.count page
  kept_there within graph keeps page used = let kept = keeps.kept page used in record { from_2 = kept.from_2; there = (let below = kept.settled in omega (arith, below, within)) }

  kept_read : s.settled ≤ s.count → (graph : Graph) → KeepsGraph s bytes graph → graph_of (store_of s.count bytes) s.header ≡ Ok graph
  kept_read within graph keeps =
      graph_too (pages_of bytes) (store_of s.count bytes) s.header graph keeps.found (λ page used. ((kept_there within graph keeps page used).there, refl))

  kept_by : (fault : OpenFault) (graph : Graph) → graph_of (store_of s.count bytes) s.header ≡ Ok graph → IsGraph (Err fault) (graph_of (store_of s.count bytes) s.header) → IsNoRefusal fault
  kept_by NotAStore graph read is = absurd is
  kept_by (Version version) graph read is = absurd is
  kept_by (Damaged page kept damaged) graph read is = absurd (cc (read, is))
  kept_by (Malformed page at) graph read is = absurd (cc (read, is))
  kept_by (Disk before after) graph read is = tt
  kept_by (Memory _) graph read is = tt

  -- the graph was not read
  pub graph_unopened : (fault : OpenFault) → s.settled ≤ s.count → IsThere s.count s.header.first → IsGraph (Err fault) (graph_of (store_of s.count bytes) s.header) → IsUnopened s bytes fault
  graph_unopened fault within there is = record {
    refused = λ counted. refused_by fault there counted is;
    kept = λ graph keeps. kept_by fault graph (kept_read within graph keeps) is;
  }

  -- the header names no page that is there
  pub header_unopened : (slot : ℕ) → slot ≡ s.slot → s.settled ≤ s.count → (IsThere s.count s.header.first → ⊥) → IsUnopened s bytes (Malformed slot 24)
  header_unopened slot same within apart = record {
    refused = λ counted. header_refused apart counted ∙ ap (λ (n : ℕ). Err (Malformed n 24)) (sym same);
    kept = λ graph keeps. apart (kept_there within graph keeps s.header.first keeps.first);
  }

-- ---- the pages of the cars

on_each : (P : ℕ → Type 0) (cars : List KeptPage) → ((page : ℕ) → Contains (map (λ (kept : KeptPage). kept.page) cars) page → P page) → AllByRecursion (λ (kept : KeptPage). P kept.page) cars
on_each P [] at = tt
on_each P (kept ∷ cars) at = (
  at kept.page (Contains-append_left (kept.page ∷ []) (map (λ (kept : KeptPage). kept.page) cars) kept.page (0, omega arith, refl)),
  on_each P cars (λ page within. at page (Contains-append_right (kept.page ∷ []) (map (λ (kept : KeptPage). kept.page) cars) page within)),
)

-- each car stands on a page that is the current copy's, once the pages were listed
pub cars_known : (catalog : Catalog) (cars : List KeptPage) (used : List ℕ) → used ≡ used_pages (record { catalog = catalog; cars = cars }) → (s : State) (uses : ℕ → PageUse) → All (IsListable s) used → UsesOnlyListed used uses
    → AllByRecursion (λ (kept : KeptPage). (2 ≤ kept.page) × (uses kept.page ≡ CurrentPage)) cars
cars_known catalog cars used is s uses all listed =
    on_each (λ (page : ℕ). (2 ≤ page) × (uses page ≡ CurrentPage)) cars (λ page within.
    let there = subst (λ (ps : List ℕ). Contains ps page) (sym is) (Contains-append_right (page_numbers catalog) (map (λ (kept : KeptPage). kept.page) cars) page within) in
    ((All-contains (IsListable s) used page all there).from_2, listed.listed page there))
