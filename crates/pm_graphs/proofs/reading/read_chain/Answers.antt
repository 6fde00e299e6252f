use Rattle.std.proofs.Common.{rules, [], ◌∷◌, Contains, ◌≡◌, ◌+◌, ◌-◌, ◌≤◌, ◌^◌, ◌++◌, ℕ, Some, None, Ok, refl, sym, ap, subst, ◌∙◌, arith}
use Rattle.std.proofs.lemmas.Result.{err_from_is_err_and}
use Rattle.std.proofs.lemmas.List.Elements.{Contains-append_left}
use Rattle.std.proofs.lemmas.List.{append-nil}
use Rattle.std.specs.FinSet as set
use Rattle.pm_image.specs.declared.catalog.CatalogPage.{CatalogPage}
use Rattle.pm_image.specs.CatalogPages.{Met, HasCatalogPage}
use Rattle.pm_image.specs.Graphs.{Catalog, catalog_from, catalog_of, most_pages, entries_of}
use Rattle.pm_shadow.specs.State.{State}
use Rattle.pm_graphs.specs.Reading.{Fails, store_of, link_at, IsSound, root_count, page_numbers, MayFollow}
use Rattle.pm_graphs.proofs.LookedLaws.{looked_then}
use Rattle.pm_graphs.proofs.ChainLaws.{chain_on, chain_done, chain_ends, chain_long, never_long, next_there, roots_on, sound_on, begun_on, follow_more}
use Rattle.pm_types.proofs.Fronts.{with_front}
use Rattle.pm_graphs.proofs.reading.read_chain.Goals as goal

pub returns-in_err-read-clause-gives : goal.returns-in_err-read-clause-gives
returns-in_err-read-clause-gives g c bytes told =
    let l = c.loop in
    let store = store_of c.args.pages.now.count bytes in
    let fault = c.in_err-read.field-0.0 in
    let given = subst (λ (n : ℕ). Fails {X = CatalogPage} fault (link_at (store_of n bytes) l.met l.page l.kept)) (ap (λ (s : State). s.count) l.invariant.looked.same)
    (c.in_err-read.ensures.gives bytes (l.invariant.looked.looks.told ∙ told)) in
    let p = err_from_is_err_and c.from_residual-in_err-read.result c.from_residual-in_err-read.ensures.1 in
    rw (p.1, p.2) (chain_ends store l.counter l.met l.page l.kept l.chain.items (catalog_of store c.args.pages.now.header) fault c.loop-test.true given (l.invariant.so_far bytes told))

pub returns-then-next-eq0-clause-gives : goal.returns-then-next-eq0-clause-gives
returns-then-next-eq0-clause-gives g c bytes told =
    let l = c.loop in
    let store = store_of c.args.pages.now.count bytes in
    let read = c.in_ok-read.read in
    let given = subst (λ (n : ℕ). link_at (store_of n bytes) l.met l.page l.kept ≡ Ok read) (ap (λ (s : State). s.count) l.invariant.looked.same)
    (c.in_ok-read.ensures.gives bytes (l.invariant.looked.looks.told ∙ told)) in
    chain_done store l.counter l.met l.page l.kept l.chain.items (catalog_of store c.args.pages.now.header) read c.loop-test.true given c.if-next-eq0.true (l.invariant.so_far bytes told)
    ∙ ap (λ (ps : Catalog). Ok ps) (sym (c.from_vec.ensures ∙ c.in_ok-push.ensures.items))

pub returns-then-next-eq0-clause-sound : goal.returns-then-next-eq0-clause-sound
returns-then-next-eq0-clause-sound g c =
    let l = c.loop in
    let read = c.in_ok-read.read in
    let count = c.args.pages.now.count in
    let has = subst (λ (n : ℕ). HasCatalogPage (Some n) l.met read) (ap (λ (s : State). s.count) l.invariant.looked.same) c.in_ok-read.ensures.has in
    subst (IsSound count) (sym (c.from_vec.ensures ∙ c.in_ok-push.ensures.items)) (sound_on count l.met l.chain.items l.page read has l.invariant.there l.invariant.sound l.invariant.roots)

pub returns-then-next-eq0-clause-follow : goal.returns-then-next-eq0-clause-follow
returns-then-next-eq0-clause-follow g c =
    let l = c.loop in
    let read = c.in_ok-read.read in
    let count = c.args.pages.now.count in
    let has = subst (λ (n : ℕ). HasCatalogPage (Some n) l.met read) (ap (λ (s : State). s.count) l.invariant.looked.same) c.in_ok-read.ensures.has in
    subst (MayFollow set.empty 0 None) (append-nil (entries_of c.from_vec.result))
    (subst (λ (pages : Catalog). MayFollow set.empty 0 None (entries_of pages ++ [])) (sym (c.from_vec.ensures ∙ c.in_ok-push.ensures.items)) (follow_more count l.met l.chain.items l.page read [] has l.invariant.follow tt))

pub returns-then-next-eq0-clause-begins : goal.returns-then-next-eq0-clause-begins
returns-then-next-eq0-clause-begins g c =
    let l = c.loop in
    subst (λ (pages : Catalog). Contains (page_numbers pages) c.args.pages.now.header.first) (sym (c.from_vec.ensures ∙ c.in_ok-push.ensures.items)) (begun_on l.chain.items l.page c.args.pages.now.header.first c.in_ok-read.read l.invariant.begun)

pub loop-preserved : goal.loop-preserved
loop-preserved g c =
    let l = c.loop in
    let read = c.in_ok-read.read in
    let count = c.args.pages.now.count in
    let same = ap (λ (s : State). s.count) l.invariant.looked.same in
    let has = subst (λ (n : ℕ). HasCatalogPage (Some n) l.met read) same c.in_ok-read.ensures.has in
    let items = c.in_ok-push.ensures.items in
    let met = c.in_ok-read.ensures.met in
    record {
      looked = looked_then c.args.pages.now l.pages c.read_link.new.pages l.invariant.looked c.in_ok-read.ensures.looked;
      counted = c.in_ok-read.ensures.counts ∙ l.invariant.counted;
      so_far = λ bytes told.
          let store = store_of count bytes in
          let given = subst (λ (n : ℕ). link_at (store_of n bytes) l.met l.page l.kept ≡ Ok read) same (c.in_ok-read.ensures.gives bytes (l.invariant.looked.looks.told ∙ told)) in
          (λ i. with_front (items i) (catalog_from (most_pages - (l.counter + 1)) store (met i) read.next read.digest))
          ∙ chain_on store l.counter l.met l.page l.kept l.chain.items (catalog_of store c.args.pages.now.header) read c.loop-test.true given c.if-next-eq0.false (l.invariant.so_far bytes told);
      there = next_there count l.met read has c.if-next-eq0.false;
      sound = subst (IsSound count) (sym items) (sound_on count l.met l.chain.items l.page read has l.invariant.there l.invariant.sound l.invariant.roots);
      begun = Contains-append_left (page_numbers c.push.new.self.items) (read.next ∷ []) c.args.pages.now.header.first
          (subst (λ (pages : Catalog). Contains (page_numbers pages) c.args.pages.now.header.first) (sym items) (begun_on l.chain.items l.page c.args.pages.now.header.first read l.invariant.begun));
      follow = λ more is.
          subst (λ (pages : Catalog). MayFollow set.empty 0 None (entries_of pages ++ more)) (sym items)
          (follow_more count l.met l.chain.items l.page read more has l.invariant.follow (subst (λ (m : Met). MayFollow m.cars m.train m.name more) met is));
      roots = ap (λ (m : Met). m.roots) met ∙ (roots_on count l.met l.chain.items l.page read has l.invariant.sound l.invariant.roots).0 ∙ ap (λ (ps : Catalog). root_count (entries_of ps)) (sym items);
    }

pub returns-clause-gives : goal.returns-clause-gives
returns-clause-gives g c bytes told =
    let l = c.loop in
    let store = store_of c.args.pages.now.count bytes in
    let low = c.loop-test.false in
    let few : c.args.pages.now.count ≤ 2 ^ 64 = search rules in
    absurd (never_long store c.args.pages.now.header few c.requires.first (chain_long store l.counter l.met l.page l.kept l.chain.items (catalog_of store c.args.pages.now.header) (omega arith) (l.invariant.so_far bytes told)))

pub loop-init : goal.loop-init
loop-init g c = record {
  looked = search rules;
  counted = refl;
  so_far = search rules;
  there = search rules;
  sound = search rules;
  begun = search rules;
  follow = search rules;
  roots = search rules;
}

pub returns-in_err-push-clause-looked : goal.returns-in_err-push-clause-looked
returns-in_err-push-clause-looked g c = looked_then c.args.pages.now c.loop.pages c.read_link.new.pages c.loop.invariant.looked c.in_ok-read.ensures.looked

pub returns-then-next-eq0-clause-looked : goal.returns-then-next-eq0-clause-looked
returns-then-next-eq0-clause-looked g c = looked_then c.args.pages.now c.loop.pages c.read_link.new.pages c.loop.invariant.looked c.in_ok-read.ensures.looked
