-- How the list of uses, and that of the free pages, go on.
use Rattle.std.proofs.Common.{◌≡◌, ◌≢◌, ℕ, zero, suc, Bool, true, false, ◌+◌, ◌-◌, ◌<◌, ◌≤◌, List, [], ◌∷◌, ◌++◌, length, map, get_or, take, drop, refl, sym, ◌∙◌, ap, arith, add-one, drop-cons, length-append, eqb, inl, inr, subst, replicate, length-set}
use Rattle.std.proofs.Math.ListN.{set}
use Rattle.std.proofs.Math.Seq.{set-append_seam}
use Rattle.std.specs.Prelude.{All, reverse, if◌then◌else◌}
use Rattle.pm_shadow.specs.Uses.{UsesOnlyListed, marked, use_of, free_from, is_current, abandoned, abandoned_uses, IsLowestFree, with_use}
use Rattle.pm_shadow.specs.declared.page_use.PageUse.{PageUse}
use Rattle.pm_shadow.specs.declared.page_use.PageUse.TheVariants.{Free, Current, Claimed, Kept}
use Rattle.std.proofs.lemmas.List.{map-append, take_more, length-map, length-take-le, append_assoc, get_or-append_right, get_or_past, get_or_append_left, reverse-append, reverse-reverse, get_or-set_other, get_or-map, get_or-replicate, length-replicate, get_or_default}
use Rattle.std.proofs.lemmas.Grind.{get_or-set_at}
use Rattle.std.proofs.lemmas.Bool.{cases_lt, cases_eq, lt-ltb, le-ltb, eqb-true, eq-eqb}

module _ {A : Type 0} (f : A → A) where
  -- the next element of a list is changed
  pub map_step : (us xs : List A) (i : ℕ) (v d : A) → us ≡ map f (take i xs) ++ drop i xs → i < length xs → v ≡ f (get_or us i d) → set us i v ≡ map f (take (i + 1) xs) ++ drop (i + 1) xs
  map_step us xs i v d is lt value =
      let x = get_or xs i d in
      let front = map f (take i xs) in
      let back = drop (i + 1) xs in
      let long : length front ≡ i = length-map (take i xs) f ∙ length-take-le i xs (omega arith) in
      let next : drop i xs ≡ x ∷ back = rw add-one (drop-cons xs i d lt) in
      let cut : us ≡ front ++ x ∷ back = is ∙ ap (λ (t : List A). front ++ t) next in
      let there : get_or us i d ≡ x = ap (λ (t : List A). get_or t i d) cut ∙ get_or-append_right front (x ∷ back) i i d long (omega arith) ∙ ap (λ (n : ℕ). get_or (x ∷ back) n d) (let zero : i - i ≡ 0 = omega arith in zero) in
      let put : set us i v ≡ front ++ v ∷ back = ap (λ (t : List A). set t i v) cut ∙ ap (λ (n : ℕ). set (front ++ x ∷ back) n v) (sym long) ∙ set-append_seam front x back v in
      let more : map f (take (i + 1) xs) ≡ front ++ f x ∷ [] = ap (map f) (take_more xs i d lt) ∙ map-append f (take i xs) (x ∷ []) in
      put ∙ ap (λ (y : A). front ++ y ∷ back) (value ∙ ap f there) ∙ sym (append_assoc front (f x ∷ []) back) ∙ ap (λ (t : List A). t ++ back) (sym more)

-- a page that was claimed is none of the headers' pages, and stands in the list
pub claimed_from_2 : (uses : List PageUse) (page : ℕ) → use_of uses page ≡ Claimed → 2 ≤ page
claimed_from_2 uses page is =
    elim (cases_lt page 2) [
      | inl low ↦ let current : use_of uses page ≡ Current = ap (λ (b : Bool). if b then Current else get_or uses (page - 2) Free) (lt-ltb page 2 low) in absurd (cc (is, current))
      | inr high ↦ high
    ]

pub claimed_in_list : (uses : List PageUse) (page : ℕ) → use_of uses page ≡ Claimed → page < length uses + 2
claimed_in_list uses page is =
    elim (cases_lt (page - 2) (length uses)) [
      | inl inside ↦ let low = claimed_from_2 uses page is in omega arith
      | inr past ↦ let low = claimed_from_2 uses page is in
          let free : use_of uses page ≡ Free = ap (λ (b : Bool). if b then Current else get_or uses (page - 2) Free) (le-ltb page 2 low) ∙ get_or_past uses (page - 2) Free past in absurd (cc (is, free))
    ]

-- where no page is used none was claimed
pub none_claimed : (uses : ℕ → PageUse) (page : ℕ) → uses ≡ use_of [] → 2 ≤ page → uses page ≡ Claimed → ⊥
none_claimed uses page unused low is =
    let free : use_of [] page ≡ Free = ap (λ (b : Bool). if b then Current else get_or [] (page - 2) Free) (le-ltb page 2 low) ∙ get_or_past [] (page - 2) Free (omega arith) in
    let claimed : use_of [] page ≡ Claimed = ap (λ (u : ℕ → PageUse). u page) (sym unused) ∙ is in
    cc (free, claimed)

-- ---- the free pages

-- the first of the free pages is that of place i, and what is left once it was claimed
pub record IsFirst (n : ℕ) (uses : List PageUse) (page : ℕ) (rest : List ℕ) : Type 0 where
  pub i : ℕ
  pub is_page : page ≡ n + i
  pub inside : i < length uses
  pub free : get_or uses i Free ≡ Free
  pub lowest : (j : ℕ) → j < i → get_or uses j Free ≢ Free
  pub left : free_from n (set uses i Claimed) ≡ rest

head_is : (n : ℕ) (ns : List ℕ) (page : ℕ) (rest : List ℕ) → n ∷ ns ≡ page ∷ rest → page ≡ n + 0
head_is n ns page rest is = let same : n ≡ page = cc in omega arith

rest_is : (n : ℕ) (ns : List ℕ) (page : ℕ) (rest : List ℕ) → n ∷ ns ≡ page ∷ rest → ns ≡ rest
rest_is n ns page rest is = cc

pub first_free : (n : ℕ) (uses : List PageUse) (page : ℕ) (rest : List ℕ) → free_from n uses ≡ page ∷ rest → IsFirst n uses page rest
first_free n [] page rest is = absurd (cc)
first_free n (Free ∷ uses) page rest is = record { i = 0; is_page = head_is n (free_from (n + 1) uses) page rest is; inside = omega arith; free = refl; lowest = λ j lt. absurd (omega arith); left = rest_is n (free_from (n + 1) uses) page rest is }
first_free n (Current ∷ uses) page rest is =
    let t = first_free (n + 1) uses page rest is in
    record { i = suc t.i; is_page = omega (arith, t.is_page); inside = omega (arith, t.inside); free = t.free; lowest = later t; left = t.left }
  where
    later : (t : IsFirst (n + 1) uses page rest) (j : ℕ) → j < suc t.i → get_or (Current ∷ uses) j Free ≢ Free
    later t zero lt = λ e. absurd (cc)
    later t (suc j) lt = t.lowest j (omega arith)
first_free n (Claimed ∷ uses) page rest is =
    let t = first_free (n + 1) uses page rest is in
    record { i = suc t.i; is_page = omega (arith, t.is_page); inside = omega (arith, t.inside); free = t.free; lowest = later t; left = t.left }
  where
    later : (t : IsFirst (n + 1) uses page rest) (j : ℕ) → j < suc t.i → get_or (Claimed ∷ uses) j Free ≢ Free
    later t zero lt = λ e. absurd (cc)
    later t (suc j) lt = t.lowest j (omega arith)
first_free n (Kept ∷ uses) page rest is =
    let t = first_free (n + 1) uses page rest is in
    record { i = suc t.i; is_page = omega (arith, t.is_page); inside = omega (arith, t.inside); free = t.free; lowest = later t; left = t.left }
  where
    later : (t : IsFirst (n + 1) uses page rest) (j : ℕ) → j < suc t.i → get_or (Kept ∷ uses) j Free ≢ Free
    later t zero lt = λ e. absurd (cc)
    later t (suc j) lt = t.lowest j (omega arith)

-- no page of the list is free
pub none_free : (n : ℕ) (uses : List PageUse) → free_from n uses ≡ [] → (j : ℕ) → j < length uses → get_or uses j Free ≢ Free
none_free n [] is j lt = absurd (omega arith)
none_free n (Free ∷ uses) is j lt = absurd (cc)
none_free n (Current ∷ uses) is zero lt = λ e. absurd (cc)
none_free n (Current ∷ uses) is (suc j) lt = none_free (n + 1) uses is j (omega arith)
none_free n (Claimed ∷ uses) is zero lt = λ e. absurd (cc)
none_free n (Claimed ∷ uses) is (suc j) lt = none_free (n + 1) uses is j (omega arith)
none_free n (Kept ∷ uses) is zero lt = λ e. absurd (cc)
none_free n (Kept ∷ uses) is (suc j) lt = none_free (n + 1) uses is j (omega arith)

-- a claimed page behind the list is not free
pub free_push : (n : ℕ) (uses : List PageUse) → free_from n (uses ++ Claimed ∷ []) ≡ free_from n uses
free_push n [] = refl
free_push n (Free ∷ uses) = ap (λ (t : List ℕ). n ∷ t) (free_push (n + 1) uses)
free_push n (Current ∷ uses) = free_push (n + 1) uses
free_push n (Claimed ∷ uses) = free_push (n + 1) uses
free_push n (Kept ∷ uses) = free_push (n + 1) uses

-- nor is one in it that is kept, where it was not free
pub free_kept : (n : ℕ) (uses : List PageUse) (i : ℕ) → is_current (get_or uses i Free) ≡ true → free_from n (set uses i Kept) ≡ free_from n uses
free_kept n [] i is = refl
free_kept n (Free ∷ uses) zero is = absurd (cc)
free_kept n (Current ∷ uses) zero is = refl
free_kept n (Claimed ∷ uses) zero is = absurd (cc)
free_kept n (Kept ∷ uses) zero is = refl
free_kept n (Free ∷ uses) (suc i) is = ap (λ (t : List ℕ). n ∷ t) (free_kept (n + 1) uses i is)
free_kept n (Current ∷ uses) (suc i) is = free_kept (n + 1) uses i is
free_kept n (Claimed ∷ uses) (suc i) is = free_kept (n + 1) uses i is
free_kept n (Kept ∷ uses) (suc i) is = free_kept (n + 1) uses i is

-- ---- the use of a page

pub use_low : (uses : List PageUse) (page : ℕ) → page < 2 → use_of uses page ≡ Current
use_low uses page low = ap (λ (b : Bool). if b then Current else get_or uses (page - 2) Free) (lt-ltb page 2 low)

pub use_high : (uses : List PageUse) (page : ℕ) → 2 ≤ page → use_of uses page ≡ get_or uses (page - 2) Free
use_high uses page high = ap (λ (b : Bool). if b then Current else get_or uses (page - 2) Free) (le-ltb page 2 high)

lowest_below : (uses : List PageUse) (i : ℕ) → ((j : ℕ) → j < i → get_or uses j Free ≢ Free) → (below : ℕ) → below < 2 + i → use_of uses below ≢ Free
lowest_below uses i lowest below lt =
    elim (cases_lt below 2) [
      | inl low ↦ λ e. let is = use_low uses below low in absurd (cc)
      | inr high ↦ λ e. lowest (below - 2) (omega arith) (sym (use_high uses below high) ∙ e)
    ]

pub lowest_of_first : (uses : List PageUse) (page : ℕ) (rest : List ℕ) → IsFirst 2 uses page rest → IsLowestFree (use_of uses) page
lowest_of_first uses page rest t =
    let back : page - 2 ≡ t.i = omega (arith, t.is_page) in
    record {
      from_2 = omega (arith, t.is_page);
      free = use_high uses page (omega (arith, t.is_page)) ∙ ap (λ (j : ℕ). get_or uses j Free) back ∙ t.free;
      lowest = λ below lt. lowest_below uses t.i t.lowest below (omega (arith, t.is_page));
    }

-- the page behind the list, where none in it is free
pub lowest_behind : (uses : List PageUse) → free_from 2 uses ≡ [] → IsLowestFree (use_of uses) (2 + length uses)
lowest_behind uses none = record {
  from_2 = omega arith;
  free = use_high uses (2 + length uses) (omega arith) ∙ get_or_past uses (2 + length uses - 2) Free (omega arith);
  lowest = lowest_below uses (length uses) (none_free 2 uses none);
}

differs : (a b : ℕ) → (a ≡ b → ⊥) → eqb a b ≡ false
differs a b ne = by_test (eqb a b) refl
  where
    by_test : (test : Bool) → eqb a b ≡ test → eqb a b ≡ false
    by_test true is = absurd (ne (eqb-true a b is))
    by_test false is = is

use_push : (uses : List PageUse) (page q : ℕ) → page ≡ 2 + length uses → use_of (uses ++ Claimed ∷ []) q ≡ with_use page Claimed (use_of uses) q
use_push uses page q is =
    elim (cases_lt q 2) [
      | inl low ↦ use_low (uses ++ Claimed ∷ []) q low ∙ sym (other_use (omega arith) ∙ use_low uses q low)
      | inr high ↦ elim (cases_lt q page) [
        | inl before ↦ use_high (uses ++ Claimed ∷ []) q high ∙ get_or_append_left uses (Claimed ∷ []) Free (q - 2) (omega arith) ∙ sym (other_use (omega arith) ∙ use_high uses q high)
        | inr behind ↦ elim (cases_lt page q) [
          | inl past ↦ use_high (uses ++ Claimed ∷ []) q high ∙ get_or_past (uses ++ Claimed ∷ []) (q - 2) Free (omega (arith, length-append uses (Claimed ∷ []))) ∙ sym (other_use (omega arith) ∙ use_high uses q high ∙ get_or_past uses (q - 2) Free (omega arith))
          | inr not_past ↦ let here : q - 2 ≡ length uses = omega arith in
              use_high (uses ++ Claimed ∷ []) q high ∙ ap (λ (j : ℕ). get_or (uses ++ Claimed ∷ []) j Free) here ∙ get_or-append_right uses (Claimed ∷ []) (length uses) (length uses) Free refl (omega arith)
              ∙ ap (λ (j : ℕ). get_or (Claimed ∷ []) j Free) (let none : length uses - length uses ≡ 0 = omega arith in none) ∙ sym (this_use (omega arith))
        ]
      ]
    ]
  where
    other_use : (q ≡ page → ⊥) → with_use page Claimed (use_of uses) q ≡ use_of uses q
    other_use ne = ap (λ (b : Bool). if b then Claimed else use_of uses q) (differs q page ne)

    this_use : q ≡ page → with_use page Claimed (use_of uses) q ≡ Claimed
    this_use e = ap (λ (b : Bool). if b then Claimed else use_of uses q) (eq-eqb q page e)

-- a page behind the list was claimed
pub uses_push : (uses : List PageUse) (page : ℕ) → page ≡ 2 + length uses → use_of (uses ++ Claimed ∷ []) ≡ with_use page Claimed (use_of uses)
uses_push uses page is = λ i q. use_push uses page q is i

-- what a list read backwards ends with, it begins with
pub pop_first : (all rest : List ℕ) (page : ℕ) → reverse all ≡ rest ++ page ∷ [] → all ≡ page ∷ reverse rest
pop_first all rest page is = sym (reverse-reverse all) ∙ ap reverse is ∙ reverse-append rest (page ∷ [])

-- ---- pages that are listed

keeps_current : (pages : List ℕ) (uses : List PageUse) (i : ℕ) → get_or uses i Free ≡ Current → get_or (marked pages uses) i Free ≡ Current
keeps_current [] uses i is = is
keeps_current (page ∷ pages) uses i is = keeps_current pages (set uses (page - 2) Current) i there
  where
    there : get_or (set uses (page - 2) Current) i Free ≡ Current
    there =
        elim (cases_lt i (length uses)) [
          | inr past ↦ let free = get_or_past uses i Free past in absurd (cc (is, free))
          | inl inside ↦ elim (cases_lt i (page - 2)) [
            | inl before ↦ get_or-set_other uses (page - 2) i Current Free (λ e. absurd (omega arith)) ∙ is
            | inr not_before ↦ elim (cases_lt (page - 2) i) [
              | inl behind ↦ get_or-set_other uses (page - 2) i Current Free (λ e. absurd (omega arith)) ∙ is
              | inr here ↦ get_or-set_at uses (page - 2) i Current Free (omega arith) (omega arith)
            ]
          ]
        ]

marked_here : (pages : List ℕ) (uses : List PageUse) (page k : ℕ) → k < length pages → get_or pages k page ≡ page → page - 2 < length uses → get_or (marked pages uses) (page - 2) Free ≡ Current
marked_here [] uses page k lt is inside = absurd (omega arith)
marked_here (q ∷ pages) uses page zero lt is inside =
    keeps_current pages (set uses (q - 2) Current) (page - 2) (get_or-set_at uses (q - 2) (page - 2) Current Free (omega (arith, is)) (omega (arith, is)))
marked_here (q ∷ pages) uses page (suc k) lt is inside = marked_here pages (set uses (q - 2) Current) page k (omega arith) is (omega (arith, length-set uses (q - 2) Current))

marked_others : (pages : List ℕ) (uses : List PageUse) (i : ℕ) → ((k : ℕ) → k < length pages → i ≢ get_or pages k 0 - 2) → get_or (marked pages uses) i Free ≡ get_or uses i Free
marked_others [] uses i none = refl
marked_others (page ∷ pages) uses i none =
    marked_others pages (set uses (page - 2) Current) i (λ k lt. none (suc k) (omega arith)) ∙ get_or-set_other uses (page - 2) i Current Free (none 0 (omega arith))

pub length-marked : (pages : List ℕ) (uses : List PageUse) → length (marked pages uses) ≡ length uses
length-marked [] uses = refl
length-marked (page ∷ pages) uses = length-marked pages (set uses (page - 2) Current) ∙ length-set uses (page - 2) Current

-- the list made anew, before the pages are marked
all_free : (n i : ℕ) → get_or (replicate n Free) i Free ≡ Free
all_free n i = elim (cases_lt i n) [ inl lt ↦ get_or-replicate n i Free Free lt | inr past ↦ get_or_past (replicate n Free) i Free (omega (arith, length-replicate {A = PageUse} n Free)) ]

pub is_listed : (pages : List ℕ) (new : List PageUse) (len : ℕ) → new ≡ marked pages (replicate len Free) → All (λ page. 2 ≤ page) pages → All (λ page. page < len + 2) pages → UsesOnlyListed pages (use_of new)
is_listed pages new len is low within = record {
  headers = λ page under. use_low new page under;
  listed = λ page there.
      let from_2 : 2 ≤ page = subst (λ (p : ℕ). 2 ≤ p) there.2 (low there.0 page there.1) in
      let below : page < len + 2 = subst (λ (p : ℕ). p < len + 2) there.2 (within there.0 page there.1) in
      use_high new page from_2 ∙ ap (λ (t : List PageUse). get_or t (page - 2) Free) is
      ∙ marked_here pages (replicate len Free) page there.0 there.1 there.2 (omega (arith, length-replicate {A = PageUse} len Free));
  others = λ page from_2 not_there.
      use_high new page from_2 ∙ ap (λ (t : List PageUse). get_or t (page - 2) Free) is
      ∙ marked_others pages (replicate len Free) (page - 2) (λ k lt e. not_there (k, lt, same_page page from_2 k lt e)) ∙ all_free len (page - 2);
}
  where
    same_page : (page : ℕ) → 2 ≤ page → (k : ℕ) → k < length pages → page - 2 ≡ get_or pages k 0 - 2 → get_or pages k page ≡ page
    same_page page from_2 k lt e = get_or_default pages k page 0 lt ∙ (let at_least = low k 0 lt in omega arith)

-- ---- a page of the current copy is kept

-- it stands in the list
pub current_in_list : (uses : List PageUse) (page : ℕ) → 2 ≤ page → is_current (use_of uses page) ≡ true → page - 2 < length uses
current_in_list uses page low is =
    elim (cases_lt (page - 2) (length uses)) [
      | inl inside ↦ inside
      | inr past ↦ let free : is_current (use_of uses page) ≡ false = ap is_current (use_high uses page low ∙ get_or_past uses (page - 2) Free past) in absurd (cc (is, free))
    ]

use_kept : (uses : List PageUse) (page q : ℕ) → 2 ≤ page → page - 2 < length uses → use_of (set uses (page - 2) Kept) q ≡ with_use page Kept (use_of uses) q
use_kept uses page q low inside =
    elim (cases_lt q 2) [
      | inl under ↦ use_low (set uses (page - 2) Kept) q under ∙ sym (other_use (omega arith) ∙ use_low uses q under)
      | inr high ↦ elim (cases_eq q page) [
        | inl here ↦ use_high (set uses (page - 2) Kept) q high ∙ get_or-set_at uses (page - 2) (q - 2) Kept Free (omega (arith, here)) inside ∙ sym (this_use here)
        | inr apart ↦ use_high (set uses (page - 2) Kept) q high ∙ get_or-set_other uses (page - 2) (q - 2) Kept Free (λ e. apart (omega (arith, e))) ∙ sym (other_use apart ∙ use_high uses q high)
      ]
    ]
  where
    other_use : (q ≡ page → ⊥) → with_use page Kept (use_of uses) q ≡ use_of uses q
    other_use ne = ap (λ (b : Bool). if b then Kept else use_of uses q) (differs q page ne)

    this_use : q ≡ page → with_use page Kept (use_of uses) q ≡ Kept
    this_use e = ap (λ (b : Bool). if b then Kept else use_of uses q) (eq-eqb q page e)

pub uses_kept : (uses : List PageUse) (page : ℕ) → 2 ≤ page → page - 2 < length uses → use_of (set uses (page - 2) Kept) ≡ with_use page Kept (use_of uses)
uses_kept uses page low inside = λ i q. use_kept uses page q low inside i

-- ---- the next copy is given up

use_abandoned : (uses : List PageUse) (page : ℕ) → use_of (map abandoned uses) page ≡ abandoned (use_of uses page)
use_abandoned uses page =
    elim (cases_lt page 2) [
      | inl low ↦ use_low (map abandoned uses) page low ∙ ap abandoned (sym (use_low uses page low))
      | inr high ↦ use_high (map abandoned uses) page high ∙ there (page - 2) ∙ ap abandoned (sym (use_high uses page high))
    ]
  where
    there : (i : ℕ) → get_or (map abandoned uses) i Free ≡ abandoned (get_or uses i Free)
    there i =
        elim (cases_lt i (length uses)) [
          | inl inside ↦ get_or-map abandoned uses i Free Free inside
          | inr past ↦ get_or_past (map abandoned uses) i Free (omega (arith, length-map uses abandoned)) ∙ ap abandoned (sym (get_or_past uses i Free past))
        ]

pub uses_abandoned : (uses : List PageUse) → use_of (map abandoned uses) ≡ abandoned_uses (use_of uses)
uses_abandoned uses = λ i page. use_abandoned uses page i

-- where no page is used, none is then
pub none_abandoned : (uses : ℕ → PageUse) → uses ≡ use_of [] → abandoned_uses uses ≡ use_of []
none_abandoned uses unused = ap abandoned_uses unused ∙ sym (uses_abandoned [])
