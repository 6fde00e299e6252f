-- What the images of a disk are opened as, while the next copy is written beside the current one.
use Rattle.std.proofs.Common.{◌≡◌, inl, inr, ℕ, ◌/◌, ◌<◌, ◌≤◌, Bool, true, false, List, Contains, Ok, refl, sym, ◌∙◌, ap, subst, arith}
use Rattle.std.specs.Prelude.{All, nat_le, nat_lt, ◌&&◌, ◌==◌, if◌then◌else◌, length}
use Rattle.std.proofs.lemmas.Bool.{cases_lt}
use Rattle.pm_types.specs.declared.limits.TheConstants.{PAGE_BYTES}
use Rattle.pm_layout.specs.declared.header.Header.{Header}
use Rattle.pm_image.specs.Opening.{is_placed, page_count, page_of}
use Rattle.pm_image.specs.Graphs.{Graph, graph_of, used_pages}
use Rattle.pm_image.specs.Stands.{opened, pages_of}
use Rattle.pm_image.proofs.FrameLaws.{graph_too, opened_as}
use Rattle.pm_shadow.specs.declared.page_use.PageUse.{PageUse}
use Rattle.pm_shadow.specs.declared.page_use.PageUse.TheVariants.{Free, Current, Claimed, Kept}
use Rattle.pm_shadow.specs.Uses.{with_use, is_next, renewed, renewed_uses, abandoned, UsesOnlyListed, IsLowestFree}
use Rattle.pm_shadow.specs.State.{State, other, keeps, keeps_by, IsListable, known_by, with_claimed, with_kept, abandoned_in, published, IsIdle}
use Rattle.pm_shadow.specs.Images.{Heads, Holds, Renews}
use Rattle.pm_shadow.specs.Copies.{AreUsed, KeepsGraph, NextGraph, IsLowestUnused, current_graph, next_graph, KeepsSamePages}
use Rattle.pm_shadow.proofs.AttachLemmas.{heads_current}
use Rattle.pm_shadow.proofs.SoundLemmas.{still_kept}
use Rattle.pm_shadow.proofs.UsedLemmas.{in_or_not, graph_first}

placed_in : (count : ℕ) (header : Header) → 2 ≤ header.first → header.first < count → is_placed count header ≡ true
placed_in count header low high =
    let from_2 : nat_le 2 header.first ≡ true = grind (arith) in
    let below : nat_lt header.first count ≡ true = grind (arith) in
    λ i. from_2 i && below i

-- an image with the header and these pages is opened with this graph
opened_with : (bytes image : List ℕ) (slot : ℕ) (header : Header) (graph : Graph) → Heads image slot header
    → graph_of (pages_of bytes) header ≡ Ok graph → Contains (used_pages graph) header.first
    → ((page : ℕ) → Contains (used_pages graph) page → (2 ≤ page) × (page < page_count image) × (page_of image page ≡ page_of bytes page))
    → opened image ≡ Ok (record { current = record { slot = slot; header = header }; graph = graph })
opened_with bytes image slot header graph heads found first pages =
    let of_first = pages header.first first in
    opened_as image (record { slot = slot; header = header }) graph
    (heads_current image slot header heads (placed_in (page_count image) header of_first.0 of_first.1))
    (graph_too (pages_of bytes) (pages_of image) header graph found (λ page used. let is = pages page used in (is.1, is.2)))

-- what holds the current copy is opened with it
pub held_opened : (s : State) (bytes image : List ℕ) (graph : Graph) → KeepsGraph s bytes graph → Holds s bytes image → opened image ≡ Ok (current_graph s graph)
held_opened s bytes image graph keeps held =
    opened_with bytes image s.slot s.header graph held.heads keeps.found keeps.first
    (λ page used.
    let is = keeps.kept page used in
    let here = held.pages page is.kept is.from_2 is.settled in
    (is.from_2, here.0, here.1))

-- and keeps it
pub held_keeps : (s : State) (bytes image : List ℕ) (graph : Graph) → KeepsGraph s bytes graph → Holds s bytes image → KeepsGraph s image graph
held_keeps s bytes image graph keeps held = record {
  found = graph_too (pages_of bytes) (pages_of image) s.header graph keeps.found (λ page used. let is = keeps.kept page used in held.pages page is.kept is.from_2 is.settled);
  first = keeps.first;
  kept = keeps.kept;
  only = keeps.only;
}

same_count : (a b : List ℕ) → length a ≡ length b → page_count a ≡ page_count b
same_count a b same = ap (λ (n : ℕ). n / PAGE_BYTES) same

-- what has the next header is opened with the next copy
pub renewed_opened : (s : State) (header : Header) (bytes image : List ℕ) (graph : Graph) → NextGraph s bytes header graph → Renews s header bytes image → opened image ≡ Ok (next_graph s header graph)
renewed_opened s header bytes image graph next new =
    let same = same_count image bytes new.length in
    opened_with bytes image (other s.slot) header graph new.heads next.found next.first
    (λ page used. let is = next.next page used in (is.from_2, (let there = is.there in omega (arith, same)), new.pages page is.from_2))

current_now : (uses : ℕ → PageUse) (page : ℕ) → 2 ≤ page → is_next (uses page) ≡ true → keeps_by true (renewed_uses uses page) ≡ true
current_now uses page low next =
    let past : nat_lt page 2 ≡ false = grind (arith) in
    ap (λ (b : Bool). keeps_by true (if b then Current else renewed (uses page))) past ∙ renewed_next (uses page) next
  where
    renewed_next : (u : PageUse) → is_next u ≡ true → keeps_by true (renewed u) ≡ true
    renewed_next Free is = absurd (cc)
    renewed_next Current is = absurd (cc)
    renewed_next Claimed is = refl
    renewed_next Kept is = refl

was_next : (uses : ℕ → PageUse) (page : ℕ) → 2 ≤ page → keeps_by true (renewed_uses uses page) ≡ true → is_next (uses page) ≡ true
was_next uses page low kept =
    let past : nat_lt page 2 ≡ false = grind (arith) in
    next_renewed (uses page) (sym (ap (λ (b : Bool). keeps_by true (if b then Current else renewed (uses page))) past) ∙ kept)
  where
    next_renewed : (u : PageUse) → keeps_by true (renewed u) ≡ true → is_next u ≡ true
    next_renewed Free is = absurd (cc)
    next_renewed Current is = absurd (cc)
    next_renewed Claimed is = refl
    next_renewed Kept is = refl

-- and keeps that one
pub renewed_keeps : (s : State) (header : Header) (bytes image : List ℕ) (graph : Graph) → NextGraph s bytes header graph → Renews s header bytes image → KeepsGraph (published s header) image graph
renewed_keeps s header bytes image graph next new =
    let same = same_count image bytes new.length in
    record {
      found = graph_too (pages_of bytes) (pages_of image) header graph next.found (λ page used. let is = next.next page used in ((let there = is.there in omega (arith, same)), new.pages page is.from_2));
      first = next.first;
      kept = λ page used. let is = next.next page used in record { from_2 = is.from_2; settled = is.counted; kept = current_now s.uses page is.from_2 is.next };
      only = λ known page low kept. next.only page (was_next s.uses page low kept);
    }

-- the graph is kept where the same pages are
pub keeps_still : (s t : State) (bytes : List ℕ) (graph : Graph) → KeepsSamePages s t → KeepsGraph s bytes graph → KeepsGraph t bytes graph
keeps_still s t bytes graph same keeps = record {
  found = subst (λ (header : Header). graph_of (pages_of bytes) header ≡ Ok graph) (sym same.header) keeps.found;
  first = subst (λ (header : Header). Contains (used_pages graph) header.first) (sym same.header) keeps.first;
  kept = λ page used. let is = keeps.kept page used in record { from_2 = is.from_2; settled = (let had = is.settled in omega (arith, same.settled)); kept = same.kept page ∙ is.kept };
  only = λ known page low kept. keeps.only (sym same.known ∙ known) page low (sym (same.kept page) ∙ kept);
}

-- a page that has another use now, as which the current copy stands on it where it did
changed_keeps : (s : State) (page : ℕ) (u : PageUse) → keeps_by s.known u ≡ keeps s page → (q : ℕ) → keeps_by s.known (with_use page u s.uses q) ≡ keeps s q
changed_keeps s page u here q = by_test (q == page) refl
  where
    by_test : (b : Bool) → (q == page) ≡ b → keeps_by s.known (if b then u else s.uses q) ≡ keeps s q
    by_test true is = let same : q ≡ page = grind (arith) in here ∙ ap (keeps s) (sym same)
    by_test false is = refl

-- a page that was free is claimed: no page of the current copy
pub claimed_keeps : (s : State) (page : ℕ) → s.known ≡ true → s.uses page ≡ Free → KeepsSamePages s (with_claimed s page)
claimed_keeps s page known free = record {
  slot = refl;
  header = refl;
  settled = refl;
  known = refl;
  kept = changed_keeps s page Claimed (sym (ap (keeps_by s.known) free ∙ ap (λ (b : Bool). keeps_by b Free) known));
}

-- a page of the current copy is kept for the next one
pub kept_keeps : (s : State) (page : ℕ) → keeps s page ≡ true → KeepsSamePages s (with_kept s page)
kept_keeps s page kept = record { slot = refl; header = refl; settled = refl; known = refl; kept = changed_keeps s page Kept (sym kept) }

-- the next copy is given up
pub abandoned_keeps : (s : State) → s.known ≡ true → KeepsSamePages s (abandoned_in s)
abandoned_keeps s known = record {
  slot = refl;
  header = refl;
  settled = refl;
  known = refl;
  kept = λ page. ap (λ (b : Bool). keeps_by b (abandoned (s.uses page))) known ∙ still_kept (s.uses page) ∙ ap (λ (b : Bool). keeps_by b (s.uses page)) (sym known);
}

none_abandoned : (u : PageUse) → is_next (abandoned u) ≡ false
none_abandoned Free = refl
none_abandoned Current = refl
none_abandoned Claimed = refl
none_abandoned Kept = refl

pub abandoned_idle : (s : State) → IsIdle (abandoned_in s)
abandoned_idle s page = none_abandoned (s.uses page)

none_renewed : (low : Bool) (u : PageUse) → is_next (if low then Current else renewed u) ≡ false
none_renewed true u = refl
none_renewed false Free = refl
none_renewed false Current = refl
none_renewed false Claimed = refl
none_renewed false Kept = refl

pub published_idle : (s : State) (header : Header) → IsIdle (published s header)
published_idle s header page = none_renewed (nat_lt page 2) (s.uses page)

pub listed_idle : (pages : List ℕ) (uses : ℕ → PageUse) → UsesOnlyListed pages uses → (page : ℕ) → is_next (uses page) ≡ false
listed_idle pages uses listed page =
    elim (cases_lt page 2) [
      | inl low ↦ ap is_next (listed.headers page low)
      | inr high ↦ elim (in_or_not pages page) [
        | inl within ↦ ap is_next (listed.listed page within)
        | inr apart ↦ ap is_next (listed.others page high apart)
      ]
    ]

-- ---- the lowest page that may be claimed

free_or_claimed : (u : PageUse) → (keeps_by true u ≡ true → ⊥) → (u ≡ Claimed → ⊥) → u ≡ Free
free_or_claimed Free kept claimed = refl
free_or_claimed Current kept claimed = absurd (kept refl)
free_or_claimed Claimed kept claimed = absurd (claimed refl)
free_or_claimed Kept kept claimed = absurd (kept refl)

pub lowest_unused : (s : State) (bytes : List ℕ) (graph : Graph) (page : ℕ) → s.known ≡ true → KeepsGraph s bytes graph → IsLowestFree s.uses page → IsLowestUnused s graph page
lowest_unused s bytes graph page known stands is = record {
  unused = record {
    from_2 = is.from_2;
    apart = λ used.
        let kept = (stands.kept page used).kept in
        let not_kept : keeps s page ≡ false = ap (keeps_by s.known) is.free ∙ ap (λ (b : Bool). keeps_by b Free) known in
        absurd (cc (kept, not_kept));
    unclaimed = λ claimed. let free = is.free in absurd (cc (claimed, free));
  };
  lowest = λ below lt other.
      is.lowest below lt (free_or_claimed (s.uses below) (λ kept. other.apart (stands.only known below other.from_2 (ap (λ (b : Bool). keeps_by b (s.uses below)) known ∙ kept))) other.unclaimed);
}

-- ---- the pages of the current copy are listed

listed_current : (pages : List ℕ) (uses : ℕ → PageUse) (page : ℕ) → UsesOnlyListed pages uses → 2 ≤ page → keeps_by true (uses page) ≡ true → Contains pages page
listed_current pages uses page listed low kept =
    elim (in_or_not pages page) [
      | inl within ↦ within
      | inr apart ↦ let free : keeps_by true (uses page) ≡ false = ap (keeps_by true) (listed.others page low apart) in absurd (cc (kept, free))
    ]

pub listed_graph : (s : State) (uses : ℕ → PageUse) (bytes pages : List ℕ) (used : AreUsed s bytes pages) → All (IsListable s) pages → UsesOnlyListed pages uses → KeepsGraph (known_by s uses) bytes used.graph
listed_graph s uses bytes pages used there listed = record {
  found = used.found;
  first = graph_first (pages_of bytes) s.header used.graph used.found;
  kept = λ page is.
      let within = used.all page is in
      let one : IsListable s page = subst (IsListable s) within.2 (there within.0 page within.1) in
      record { from_2 = one.from_2; settled = one.there; kept = ap (keeps_by true) (listed.listed page within) };
  only = λ known page low kept. used.only page (listed_current pages uses page listed low kept);
}

pub listed_keeps : (s : State) (uses : ℕ → PageUse) (bytes pages : List ℕ) → AreUsed s bytes pages → All (IsListable s) pages → UsesOnlyListed pages uses → (graph : Graph) × KeepsGraph (known_by s uses) bytes graph
listed_keeps s uses bytes pages used there listed = (used.graph, listed_graph s uses bytes pages used there listed)
