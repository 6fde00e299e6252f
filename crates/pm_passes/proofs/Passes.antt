-- What the rule says of all passes, once one of them changes.
use Rattle.std.proofs.Common.{◌≡◌, ◌≢◌, ◌⊎◌, ℕ, zero, suc, ◌<◌, ◌≤◌, ◌+◌, Bool, List, [], ◌∷◌, ◌++◌, set, length, true, false, true≢false, refl, sym, ap, ◌∙◌, subst, inl, inr, ⊎_elim, arith}
use Rattle.std.specs.List.{AllByRecursion}
use mathlib.Core.Option.{some, some-ne-none, some-injective}
use mathlib.Core.Logic.{dite}
use native.Mathlib.Decide.{ℕ_discrete}
use lib.ListN.{get_elem?}
use base.Stored.{Gv}
use Rattle.atomic_table.proofs.Lists.{at_set, set_here, set_else}
use Rattle.pm_passes.specs.declared.view.Numbers.{Numbers}
use Rattle.pm_passes.specs.declared.view.View.{View}
use Rattle.pm_passes.specs.Numbering.{NotLess}
use Rattle.pm_passes.specs.Views.{AreApart, Has, IsOf, calls_by, spent}
use Rattle.pm_passes.specs.Rule.{Standing, IsGone, Fits, IsCovered, AreViews}
use Rattle.pm_passes.proofs.Calls.{calls_other, longer}
use Rattle.pm_passes.proofs.Sums.{at_less, sum_set}

pub at_end : {A : Type 0} (l : List A) (a b : A) (j : ℕ) → get_elem? (l ++ a ∷ []) j ≡ some b → (get_elem? l j ≡ some b) ⊎ ((j ≡ length l) × (a ≡ b))
at_end [] a b zero e = inr (refl, some-injective a b e)
at_end [] a b (suc j) e = absurd (some-ne-none b (sym e))
at_end (x ∷ xs) a b zero e = inl e
at_end (x ∷ xs) a b (suc j) e = ⊎_elim (λ (t : get_elem? xs j ≡ some b). inl t) (λ (t : (j ≡ length xs) × (a ≡ b)). inr (ap suc t.0, t.1)) (at_end xs a b j e)

pub not_true : (b : Bool) → (b ≡ true → ⊥) → b ≡ false
not_true true never = absurd (never refl)
not_true false never = refl

pub all_map : {X : Type 0} {P Q : X → Type 0} → ((x : X) → P x → Q x) → (xs : List X) → AllByRecursion P xs → AllByRecursion Q xs
all_map f [] all = tt
all_map f (x ∷ xs) all = (f x all.0, all_map f xs all.1)

pub all_more : {X : Type 0} (P : X → Type 0) (xs ys : List X) → AllByRecursion P xs → AllByRecursion P ys → AllByRecursion P (xs ++ ys)
all_more P [] ys a b = b
all_more P (x ∷ xs) ys a b = (a.0, all_more P xs ys a.1 b)

-- numbers of two passes differ
pub numbers_differ : (owner : ℕ → ℕ) (i j m n : ℕ) → owner m ≡ i → owner n ≡ j → j ≢ i → m ≢ n
numbers_differ owner i j m n a b ne same = ne (sym b ∙ sym (ap owner same) ∙ a)

module _ {E : Type 0} where
  pub has_left : (xs ys : List (ℕ × List E)) (n : ℕ) → Has xs n → Has (xs ++ ys) n
  has_left [] ys n p = absurd p
  has_left (x ∷ xs) ys n p = ⊎_elim (λ (q : x.0 ≡ n). inl q) (λ (q : Has xs n). inr (has_left xs ys n q)) p

  pub has_right : (xs ys : List (ℕ × List E)) (n : ℕ) → Has ys n → Has (xs ++ ys) n
  has_right [] ys n p = p
  has_right (x ∷ xs) ys n p = inr (has_right xs ys n p)

  pub has_either : (xs ys : List (ℕ × List E)) (n : ℕ) → Has (xs ++ ys) n → Has xs n ⊎ Has ys n
  has_either [] ys n p = inr p
  has_either (x ∷ xs) ys n p = ⊎_elim
      (λ (q : x.0 ≡ n). inl (inl q))
      (λ (q : Has (xs ++ ys) n). ⊎_elim (λ (a : Has xs n). inl (inr a)) (λ (b : Has ys n). inr b) (has_either xs ys n q))
      p

  -- numbers of two lists that have none in common differ
  pub apart_more : (xs ys : List (ℕ × List E)) → AreApart xs → AreApart ys → ((n : ℕ) → Has xs n → Has ys n → ⊥) → AreApart (xs ++ ys)
  apart_more [] ys a b none = b
  apart_more (x ∷ xs) ys a b none = (
    λ p. ⊎_elim (λ (q : Has xs x.0). a.0 q) (λ (q : Has ys x.0). none x.0 (inl refl) q) (has_either xs ys x.0 p),
    apart_more xs ys a.1 b (λ n p q. none n (inr p) q),
  )

  module _ (st : Standing E) (owner : ℕ → ℕ) (i : ℕ) (v : View E) where
    -- the numbers of those that were met belong to the pass
    pub gone_owned : (xs : List (ℕ × List E)) → AllByRecursion (IsGone st owner i v) xs → (n : ℕ) → Has xs n → owner n ≡ i
    gone_owned [] all n has = absurd has
    gone_owned (x ∷ xs) all n has = ⊎_elim
        (λ (p : x.0 ≡ n). subst (λ (k : ℕ). owner k ≡ i) p all.0.owned)
        (λ (p : Has xs n). gone_owned xs all.1 n p)
        has

    -- none is its own
    pub gone_other : (xs : List (ℕ × List E)) → AllByRecursion (IsGone st owner i v) xs → Has xs v.number → ⊥
    gone_other [] all has = has
    gone_other (x ∷ xs) all has = ⊎_elim (λ (p : x.0 ≡ v.number). all.0.other p) (λ (p : Has xs v.number). gone_other xs all.1 p) has

  -- a fact of each pass
  abbrev pub OfEach : (ℕ → View E → Type 0) → List (View E) → Type 0
  OfEach P views = (i : ℕ) (v : View E) → get_elem? views i ≡ some v → P i v

  abbrev pub One : List (View E) → Type 0
  One views = (i j : ℕ) (v w : View E) → get_elem? views i ≡ some v → get_elem? views j ≡ some w → i ≢ j → v.holds ≡ true → w.holds ≡ true → ⊥

  -- no other than this pass holds the value
  abbrev pub NoOther : List (View E) → ℕ → Type 0
  NoOther views id = (j : ℕ) (u : View E) → get_elem? views j ≡ some u → j ≢ id → u.holds ≡ true → ⊥

  pub set_each : (P : ℕ → View E → Type 0) (views : List (View E)) (id : ℕ) (w : View E)
      → ((i : ℕ) (v : View E) → get_elem? views i ≡ some v → i ≢ id → P i v) → P id w → OfEach P (set views id w)
  set_each P views id w others mine i v at = ⊎_elim
      (λ (x : (i ≡ id) × (w ≡ v)). subst (λ (k : ℕ). P k v) (sym x.0) (subst (P id) x.1 mine))
      (λ (x : (i ≢ id) × (get_elem? views i ≡ some v)). others i v x.1 x.0)
      (at_set views id i w v at)

  pub more_each : (P : ℕ → View E → Type 0) (views : List (View E)) (w : View E) → OfEach P views → P (length views) w → OfEach P (views ++ w ∷ [])
  more_each P views w others mine i v at = ⊎_elim
      (λ (x : get_elem? views i ≡ some v). others i v x)
      (λ (x : (i ≡ length views) × (w ≡ v)). subst (λ (k : ℕ). P k v) (sym x.0) (subst (P (length views)) x.1 mine))
      (at_end views w v i at)

  pub one_set : (views : List (View E)) (id : ℕ) (w : View E) → One views → (w.holds ≡ true → NoOther views id) → One (set views id w)
  one_set views id w one free i j a b ai bj ne ha hb = ⊎_elim
      (λ (x : (i ≡ id) × (w ≡ a)). ⊎_elim
      (λ (y : (j ≡ id) × (w ≡ b)). ne (x.0 ∙ sym y.0))
      (λ (y : (j ≢ id) × (get_elem? views j ≡ some b)). free (ap (λ u. u.holds) x.1 ∙ ha) j b y.1 y.0 hb)
      (at_set views id j w b bj))
      (λ (x : (i ≢ id) × (get_elem? views i ≡ some a)). ⊎_elim
      (λ (y : (j ≡ id) × (w ≡ b)). free (ap (λ u. u.holds) y.1 ∙ hb) i a x.1 x.0 ha)
      (λ (y : (j ≢ id) × (get_elem? views j ≡ some b)). one i j a b x.1 y.1 ne ha hb)
      (at_set views id j w b bj))
      (at_set views id i w a ai)

  pub one_more : (views : List (View E)) (w : View E) → One views → w.holds ≡ false → One (views ++ w ∷ [])
  one_more views w one free i j a b ai bj ne ha hb = ⊎_elim
      (λ (x : get_elem? views i ≡ some a). ⊎_elim
      (λ (y : get_elem? views j ≡ some b). one i j a b x y ne ha hb)
      (λ (y : (j ≡ length views) × (w ≡ b)). true≢false (sym hb ∙ sym (ap (λ u. u.holds) y.1) ∙ free))
      (at_end views w b j bj))
      (λ (x : (i ≡ length views) × (w ≡ a)). true≢false (sym ha ∙ sym (ap (λ u. u.holds) x.1) ∙ free))
      (at_end views w a i ai)

  pub no_other : (views : List (View E)) (id : ℕ) (v : View E) → One views → get_elem? views id ≡ some v → v.holds ≡ true → NoOther views id
  no_other views id v one at holds j u aj ne hu = one id j v u at aj (λ q. ne (sym q)) holds hu

  -- a number belongs to the pass that it belonged to
  pub covered_set : (views : List (View E)) (id : ℕ) (v w : View E) → get_elem? views id ≡ some v → w.speaks ≡ true → ((n : ℕ) → IsOf v n → IsOf w n)
      → (i n : ℕ) → IsCovered views i n → IsCovered (set views id w) i n
  covered_set views id v w at speaks keeps i n c = dite (ℕ_discrete i id)
      (λ (e : i ≡ id).
      let same : c.view ≡ v = some-injective c.view v (sym c.at ∙ ap (get_elem? views) e ∙ at) in
      record {
        view = w;
        at = ap (get_elem? (set views id w)) e ∙ set_here views id w (at_less views id v at);
        speaks = speaks;
        is_of = keeps n (subst (λ (u : View E). IsOf u n) same c.is_of);
      })
      (λ (ne : i ≢ id). record { view = c.view; at = set_else views id i w ne ∙ c.at; speaks = c.speaks; is_of = c.is_of })

  -- one pass changes, and keeps its number, those that were met into it, and its shares
  pub views_set : (st now : Standing E) (origin : Gv) (owner : ℕ → ℕ) (views : List (View E)) (id : ℕ) (v w : View E) → AreViews st origin owner views → get_elem? views id ≡ some v
      → now.next ≡ st.next → w.speaks ≡ true → ((n : ℕ) → IsOf v n → IsOf w n) → w.shares ≡ v.shares
      → ((j : ℕ) (u : View E) → get_elem? views j ≡ some u → j ≢ id → u.speaks ≡ true → Fits now origin owner j u)
      → Fits now origin owner id w
      → (w.holds ≡ true → NoOther views id)
      → ((n : ℕ) → now.next ≤ n → calls_by n now.all ≡ [])
      → w.made + st.numbers.made ≡ v.made + now.numbers.made
      → w.flushed + st.numbers.flushed ≡ v.flushed + now.numbers.flushed
      → w.struck + st.numbers.struck ≡ v.struck + now.numbers.struck
      → AreViews now origin owner (set views id w)
  views_set st now origin owner views id v w h at next speaks keeps shares others mine free unused made flushed struck = record {
    knows = set_each (λ i u. u.speaks ≡ true → Fits now origin owner i u) views id w (λ i u ai ne su. others i u ai ne su) (λ _. mine);
    quiet = set_each (λ i u. u.speaks ≡ false → u ≡ spent) views id w (λ i u ai ne su. h.quiet i u ai su) (λ off. absurd (true≢false (sym speaks ∙ off)));
    one = one_set views id w h.one free;
    covered = λ n lt. covered_set views id v w at speaks keeps (owner n) n (h.covered n (subst (λ (k : ℕ). n < k) next lt));
    unused = unused;
    shares = (let s = sum_set (λ (u : View E). u.shares) views id v w at in let p = h.shares in omega (arith, s, p, shares));
    made = (let s = sum_set (λ (u : View E). u.made) views id v w at in let p = h.made in omega (arith, s, p, made));
    flushed = (let s = sum_set (λ (u : View E). u.flushed) views id v w at in let p = h.flushed in omega (arith, s, p, flushed));
    struck = (let s = sum_set (λ (u : View E). u.struck) views id v w at in let p = h.struck in omega (arith, s, p, struck));
  }

  -- the log has one entry more, of another pass
  pub grown : (st : Standing E) (origin : Gv) (owner : ℕ → ℕ) (id j by : ℕ) (e : E) (u : View E) → owner by ≡ id → j ≢ id → (u.holds ≡ true → ⊥)
      → Fits st origin owner j u → Fits (record st { all = st.all ++ (by, e) ∷ [] }) origin owner j u
  grown st origin owner id j by e u of ne free f = record {
    below = f.below;
    owned = f.owned;
    part = f.part;
    faults = f.faults;
    events = f.events;
    tied = f.tied;
    front = longer st.all u.front (by, e) f.front;
    also = longer st.all u.also (by, e) f.also;
    mine = calls_other by u.number st.all e (numbers_differ owner id j by u.number of f.owned ne) ∙ f.mine;
    own = f.own;
    ended = all_map
        (λ (x : ℕ × List E) (g : IsGone st owner j u x). record {
          below = g.below;
          owned = g.owned;
          other = g.other;
          calls = calls_other by x.0 st.all e (numbers_differ owner id j by x.0 of g.owned ne) ∙ g.calls;
          seen = g.seen;
        }) u.ended f.ended;
    apart = f.apart;
    whole = λ hu. absurd (free hu);
  }

  -- more is counted
  pub later : (st : Standing E) (numbers : Numbers) (origin : Gv) (owner : ℕ → ℕ) (j : ℕ) (u : View E) → NotLess st.numbers numbers → (u.holds ≡ true → ⊥)
      → Fits st origin owner j u → Fits (record st { numbers = numbers }) origin owner j u
  later st numbers origin owner j u more free f = record {
    below = f.below;
    owned = f.owned;
    part = f.part;
    faults = (let a = f.faults in let b = more.faults in omega (arith, a, b));
    events = (let a = f.events in let b = more.events in omega (arith, a, b));
    tied = f.tied;
    front = f.front;
    also = f.also;
    mine = f.mine;
    own = f.own;
    ended = all_map (λ (x : ℕ × List E) (g : IsGone st owner j u x). record { below = g.below; owned = g.owned; other = g.other; calls = g.calls; seen = g.seen }) u.ended f.ended;
    apart = f.apart;
    whole = λ hu. absurd (free hu);
  }
