-- Each kind of step keeps the rule.
use Rattle.std.proofs.Common.{◌≡◌, ◌≢◌, ◌⊎◌, ℕ, suc, ◌<◌, ◌≤◌, ◌+◌, ◌-◌, ◌/◌, cond, nat_eq, List, [], ◌∷◌, ◌++◌, set, length, Option as Opt, Some, true, false, true≢false, refl, sym, ap, ◌∙◌, subst, inl, inr, ⊎_elim, arith}
use Rattle.std.proofs.Common.{append-nil}
use Rattle.std.proofs.lemmas.Bool.Decides.{nat_tests}
use Rattle.std.specs.Prelude.{slice_index, slice_set}
use Rattle.std.specs.List.{AllByRecursion}
use mathlib.Core.Option.{some, none, some-ne-none, some-injective}
use mathlib.Core.Logic.{dite}
use native.Mathlib.Decide.{ℕ_discrete, dec_le}
use lib.ListN.{get_elem?}
use base.Stored.{Gv}
use Rattle.atomic_table.specs.Table.{opening, rest, State, Me, Act, Valid, stepped, carried_after, step, takes, gives, keeps, Allows, Joins, Splits}
use Rattle.atomic_table.proofs.Lists.{at_set, set_here, set_else, at_longer, at_last}
use Rattle.pm_passes.specs.declared.view.Numbers.{Numbers}
use Rattle.pm_passes.specs.declared.view.View.{View}
use Rattle.pm_passes.specs.declared.value.Logged.{Ghosts}
use Rattle.pm_passes.specs.Numbering.{NotLess, every, total}
use Rattle.pm_passes.specs.Views.{StartsWith, Has, HasOwn, IsOf, calls_by, entered, first_pass, given_unseen, logged, met, other_part, parted, spent}
use Rattle.pm_passes.specs.Rule.{Standing, IsGone, Fits, AreViews, Kept}
use Rattle.pm_passes.specs.Steps.{Enters, HasAll, HasLog, IsHolding, IsIdle, IsNew, IsReady, Looks, PutsBack, PutsBackTelling, PutsBackUnseen, TakesOut}
use Rattle.pm_passes.proofs.Calls.{all_there, between, calls_mine, calls_other, longer, none_first, of_two}
use Rattle.pm_passes.proofs.Sums.{at_less, alone, one_of, sum_more, sum_set, two_of}
use Rattle.pm_passes.proofs.Passes.{NoOther, OfEach, all_map, all_more, apart_more, covered_set, gone_other, gone_owned, grown, has_either, has_left, has_right, later, more_each, no_other, not_true, numbers_differ, one_more, one_set, set_each, views_set}

zero_one : (z : ℕ) → z ≡ 0 → z ≡ 1 → ⊥
zero_one z a b = omega (arith, a, b)

module _ {E : Type 0} (st : Standing E) (origin : Gv) (owner : ℕ → ℕ) where
  -- where no front waits, the front has all calls of those that were met
  gone_there : (i : ℕ) (v : View E) → v.also ≡ [] → StartsWith st.all v.front → (x : ℕ × List E) → IsGone st owner i v x → calls_by x.0 v.front ≡ x.1
  gone_there i v idle front x g = ⊎_elim
      (λ (p : calls_by x.0 v.front ≡ x.1). p)
      (λ (p : calls_by x.0 v.also ≡ x.1).
      let empty : x.1 ≡ [] = sym p ∙ ap (calls_by x.0) idle in
      none_first x.0 st.all v.front front (g.calls ∙ empty) ∙ sym empty)
      g.seen

  -- so it has all calls of each number that is its own
  own_there : (i : ℕ) (v : View E) (xs : List (ℕ × List E)) → v.also ≡ [] → StartsWith st.all v.front → AllByRecursion (IsGone st owner i v) xs → (n : ℕ) → Has xs n → calls_by n st.all ≡ calls_by n v.front
  own_there i v [] idle front all n has = absurd has
  own_there i v (x ∷ xs) idle front all n has = ⊎_elim
      (λ (p : x.0 ≡ n). subst (λ (k : ℕ). calls_by k st.all ≡ calls_by k v.front) p (all.0.calls ∙ sym (gone_there i v idle front x all.0)))
      (λ (p : Has xs n). own_there i v xs idle front all.1 n p)
      has

  is_of_there : (i : ℕ) (v : View E) → v.also ≡ [] → Fits st origin owner i v → (n : ℕ) → IsOf v n → calls_by n st.all ≡ calls_by n v.front
  is_of_there i v idle f n of = ⊎_elim
      (λ (p : v.number ≡ n). subst (λ (k : ℕ). calls_by k st.all ≡ calls_by k v.front) p (f.mine ∙ sym f.own))
      (λ (p : Has v.ended n). own_there i v v.ended idle f.front f.ended n p)
      of

  -- each number that is its own was drawn
  gone_below : (i : ℕ) (v : View E) (xs : List (ℕ × List E)) → AllByRecursion (IsGone st owner i v) xs → (n : ℕ) → Has xs n → n < st.next
  gone_below i v [] all n has = absurd has
  gone_below i v (x ∷ xs) all n has = ⊎_elim
      (λ (p : x.0 ≡ n). subst (λ (k : ℕ). k < st.next) p all.0.below)
      (λ (p : Has xs n). gone_below i v xs all.1 n p)
      has

  is_of_below : (i : ℕ) (v : View E) → Fits st origin owner i v → (n : ℕ) → IsOf v n → n < st.next
  is_of_below i v f n of = ⊎_elim
      (λ (p : v.number ≡ n). subst (λ (k : ℕ). k < st.next) p f.below)
      (λ (p : Has v.ended n). gone_below i v v.ended f.ended n p)
      of

  -- a pass that has all shares is the only one
  only : (views : List (View E)) (id : ℕ) (v : View E) → AreViews st origin owner views → get_elem? views id ≡ some v → v.shares ≡ every → (j : ℕ) (u : View E) → get_elem? views j ≡ some u → j ≢ id → u ≡ spent
  only views id v h at has j u aj ne =
      let both = two_of (λ (z : View E). z.shares) views id j v u at aj ne in
      let sum = h.shares in
      h.quiet j u aj (not_true u.speaks (λ su. let p = (h.knows j u aj su).part in omega (arith, p, both, sum, has)))

  has_all : (views : List (View E)) (id : ℕ) (v : View E) → AreViews st origin owner views → get_elem? views id ≡ some v → v.speaks ≡ true → v.also ≡ [] → v.shares ≡ every
      → HasAll v (record v { holds = true; all = st.all; next = st.next; was = st.numbers })
  has_all views id v h at speaks idle has =
      let f = h.knows id v at speaks in
      let lonely : (j : ℕ) (u : View E) → get_elem? views j ≡ some u → j ≢ id → u ≡ spent = only views id v h at has in
      let covers : (n : ℕ) → (calls_by n st.all ≡ []) ⊎ IsOf v n = λ n. dite (dec_le st.next n)
      (λ (le : st.next ≤ n). inl (h.unused n le))
      (λ (lt : ¬ (st.next ≤ n)).
      let c = h.covered n (omega arith) in
      inr (dite (ℕ_discrete (owner n) id)
      (λ (e : owner n ≡ id). subst (λ (u : View E). IsOf u n) (some-injective c.view v (sym c.at ∙ ap (get_elem? views) e ∙ at)) c.is_of)
      (λ (ne : owner n ≢ id). absurd (true≢false (sym c.speaks ∙ ap (λ u. u.speaks) (lonely (owner n) c.view c.at ne)))))) in
      let same : (n : ℕ) → calls_by n st.all ≡ calls_by n v.front = λ n. ⊎_elim
      (λ (p : calls_by n st.all ≡ []). p ∙ sym (none_first n st.all v.front f.front p))
      (λ (p : IsOf v n). is_of_there id v idle f n p)
      (covers n) in
      record {
        front = sym (all_there st.all v.front f.front.0 f.front.1 same);
        made = sym h.made ∙ alone (λ (z : View E). z.made) views id v at (λ j u aj ne. ap (λ z. z.made) (lonely j u aj ne));
        flushed = sym h.flushed ∙ alone (λ (z : View E). z.flushed) views id v at (λ j u aj ne. ap (λ z. z.flushed) (lonely j u aj ne));
        struck = sym h.struck ∙ alone (λ (z : View E). z.struck) views id v at (λ j u aj ne. ap (λ z. z.struck) (lonely j u aj ne));
        covers = λ n. ⊎_elim (λ (p : calls_by n st.all ≡ []). inl (none_first n st.all v.front f.front p)) (λ (p : IsOf v n). inr p) (covers n);
      }

module _ {B E T : Type 0} (shows : Ghosts B E T) (code : T → Gv) (origin : Gv) where
  abbrev Rule : State (Opt B) (View E) → Type 0
  Rule s = Kept shows code origin s

  taking : (slots id : ℕ) (v : View E) → v.speaks ≡ true → v.holds ≡ false → v.also ≡ []
      → Allows Rule slots id (v, []) 0 (λ _. 0) (TakesOut shows code (step slots 0 0 0 none) (v, []))
  taking slots id v speaks free idle s h len at lt =
      let st = h.st in
      let f = h.views.knows id v at speaks in
      let found : slice_index s.words 0 ≡ h.turn = ap (λ ws. slice_index ws 0) h.words in
      let out : s.words ≡ h.turn ∷ length st.all ∷ [] → slice_set s.words 0 0 ≡ 0 ∷ length st.all ∷ [] = λ p. ap (λ ws. slice_set ws 0 0) p in
      dite (ℕ_discrete (slice_index s.words 0) 1)
      (λ (e : slice_index s.words 0 ≡ 1).
      let home = h.home (sym found ∙ e) in
      let is = home.is_value in
      let w : View E = record v { holds = true; all = st.all; next = st.next; was = st.numbers } in
      let fits : Fits st origin h.owner id w = record {
        below = f.below;
        owned = f.owned;
        part = f.part;
        faults = f.faults;
        events = f.events;
        tied = f.tied;
        front = f.front;
        also = f.also;
        mine = f.mine;
        own = f.own;
        ended = all_map (λ (x : ℕ × List E) (g : IsGone st h.owner id v x). record { below = g.below; owned = g.owned; other = g.other; calls = g.calls; seen = g.seen }) v.ended f.ended;
        apart = f.apart;
        whole = λ _. record { all_is = refl; next = refl; was = refl };
      } in (
        w,
        takes 0 (Some home.value),
        home.here,
        record {
          st = st;
          owner = h.owner;
          turn = 0;
          words = out h.words;
          views = views_set st st origin h.owner s.views id v w h.views at refl speaks (λ n o. o) refl (λ j u aj ne su. h.views.knows j u aj su) fits
              (λ _ j u aj ne hu. true≢false (sym hu ∙ home.free j u aj)) h.views.unused refl refl refl;
          home = λ z. absurd (zero_one 0 refl z);
        },
        record {
          missed = λ n. absurd (n e);
          out = λ _. record { value = home.value; held = refl; log_is = is.log_is; next_is = is.next_is; was = is.numbers_are; tied = is.tied ∙ sym f.tied; is_sound = is.is_sound };
          sees = λ _. record {
            view = refl;
            starts = f.front;
            own = record { mine = f.mine; ended = all_map (λ (x : ℕ × List E) (g : IsGone st h.owner id v x). g.calls) v.ended f.ended; other = gone_other st h.owner id v v.ended f.ended; apart = f.apart };
            kept = record { mine = f.own; ended = all_map (λ (x : ℕ × List E) (g : IsGone st h.owner id v x). gone_there st origin h.owner id v idle f.front x g) v.ended f.ended; other = gone_other st h.owner id v v.ended f.ended; apart = f.apart };
            unused = none_first st.next st.all v.front f.front (h.views.unused st.next (omega arith));
            drawn = λ n own. is_of_below st origin h.owner id v f n own;
            faults = f.faults;
            events = f.events;
            whole = has_all st origin h.owner s.views id v h.views at speaks idle;
          };
        },
      ))
      (λ (n : slice_index s.words 0 ≢ 1). (
        v,
        keeps,
        tt,
        record {
          st = st;
          owner = h.owner;
          turn = 0;
          words = out h.words;
          views = views_set st st origin h.owner s.views id v v h.views at refl speaks (λ n o. o) refl (λ j u aj ne su. h.views.knows j u aj su) f (λ hv. absurd (true≢false (sym hv ∙ free))) h.views.unused refl refl refl;
          home = λ z. absurd (zero_one 0 refl z);
        },
        record { missed = λ _. refl; out = λ e. absurd (n e); sees = λ e. absurd (n e) },
      ))

  entering : (slots id : ℕ) (v : View E) (b : B) (e : E) (count : ℕ) → v.speaks ≡ true → v.holds ≡ true → shows.log b ≡ logged v e → count ≡ length (shows.log b)
      → Allows Rule slots id (v, (0, Some b) ∷ []) 1 (λ _. count) (λ _. Enters shows (step slots 1 count 0 none) (v, (0, Some b) ∷ []) count)
  entering slots id v b e count speaks holds is counted s h len at lt =
      let st = h.st in
      let f = h.views.knows id v at speaks in
      let w : View E = entered v e in
      let now : Standing E = record st { all = st.all ++ (v.number, e) ∷ [] } in
      let has = f.whole holds in
      let same : logged v e ≡ now.all = ap (λ l. l ++ (v.number, e) ∷ []) has.all_is in
      let alone_holds : NoOther s.views id = no_other s.views id v h.views.one at holds in
      let fits : Fits now origin h.owner id w = record {
        below = f.below;
        owned = f.owned;
        part = f.part;
        faults = f.faults;
        events = f.events;
        tied = f.tied;
        front = ([], sym same ∙ sym (append-nil (logged v e)));
        also = longer st.all v.also (v.number, e) f.also;
        mine = calls_mine v.number st.all e ∙ ap (λ l. l ++ e ∷ []) f.mine;
        own = ap (calls_by v.number) same ∙ calls_mine v.number st.all e ∙ ap (λ l. l ++ e ∷ []) f.mine;
        ended = all_map
            (λ (x : ℕ × List E) (g : IsGone st h.owner id v x).
            let apart : v.number ≢ x.0 = λ q. g.other (sym q) in
            let all : calls_by x.0 now.all ≡ x.1 = calls_other v.number x.0 st.all e apart ∙ g.calls in
            record { below = g.below; owned = g.owned; other = g.other; calls = all; seen = inl (ap (calls_by x.0) same ∙ all) }) v.ended f.ended;
        apart = f.apart;
        whole = λ _. record { all_is = same; next = has.next; was = has.was };
      } in
      let own : HasOwn w = record {
        mine = fits.own;
        ended = all_map
            (λ (x : ℕ × List E) (g : IsGone st h.owner id v x). ap (calls_by x.0) same ∙ calls_other v.number x.0 st.all e (λ q. g.other (sym q)) ∙ g.calls) v.ended f.ended;
        other = gone_other st h.owner id v v.ended f.ended;
        apart = f.apart;
      } in (
        w,
        keeps,
        tt,
        record {
          st = now;
          owner = h.owner;
          turn = h.turn;
          words = ap (λ ws. slice_set ws 1 count) h.words ∙ ap (λ n. h.turn ∷ n ∷ []) (counted ∙ ap length (is ∙ same));
          views = views_set st now origin h.owner s.views id v w h.views at refl speaks (λ n o. o) refl
              (λ j u aj ne su. grown st origin h.owner id j v.number e u f.owned ne (alone_holds j u aj ne) (h.views.knows j u aj su)) fits (λ _. alone_holds)
              (λ n le. calls_other v.number n st.all e (let b = f.below in λ q. omega (arith, q, b, le)) ∙ h.views.unused n le) refl refl refl;
          home = λ one. absurd (true≢false (sym holds ∙ (h.home one).free id v at));
        },
        record { value = b; entry = e; held = refl; last = is; after = refl; own = own },
      )

  -- the value is back, and the pass has this front, and was told of so many faults and events
  giving : (slots id : ℕ) (v : View E) (b : B) (front : List (ℕ × E)) (faults events : ℕ) → v.speaks ≡ true → v.holds ≡ true → shows.log b ≡ v.all → shows.next b ≡ v.next → NotLess v.was (shows.numbers b) → code (shows.tie b) ≡ v.origin → shows.sound b → 0 < slots
      → (front ≡ v.all) ⊎ (front ≡ v.front)
      → (v.faults ≤ v.was.faults → v.events ≤ v.was.events → (faults ≤ (shows.numbers b).faults) × (events ≤ (shows.numbers b).events))
      → (P : ℕ → Me (Opt B) (View E) → Type 0) → ((n : ℕ) → P n (record (given_unseen v (shows.numbers b)) { front = front; faults = faults; events = events }, []))
      → Allows Rule slots id (v, (0, Some b) ∷ []) 0 (λ _. 1) P
  giving slots id v b front faults events speaks holds is drew more tied fair room shown told P then s h len at lt =
      let st = h.st in
      let f = h.views.knows id v at speaks in
      let has = f.whole holds in
      let w : View E = record (given_unseen v (shows.numbers b)) { front = front; faults = faults; events = events } in
      let now : Standing E = record st { numbers = shows.numbers b } in
      let rises : NotLess st.numbers (shows.numbers b) = subst (λ (z : Numbers). NotLess z (shows.numbers b)) has.was more in
      let alone_holds : NoOther s.views id = no_other s.views id v h.views.one at holds in
      let fair_told = told (let a = f.faults in let c : v.was.faults ≡ st.numbers.faults = ap (λ z. z.faults) has.was in omega (arith, a, c)) (let a = f.events in let c : v.was.events ≡ st.numbers.events = ap (λ z. z.events) has.was in omega (arith, a, c)) in
      let starts : StartsWith st.all front = ⊎_elim
      (λ (p : front ≡ v.all). ([], sym (p ∙ has.all_is) ∙ sym (append-nil front)))
      (λ (p : front ≡ v.front). subst (StartsWith st.all) (sym p) f.front)
      shown in
      let own : calls_by v.number front ≡ v.mine = ⊎_elim
      (λ (p : front ≡ v.all). ap (calls_by v.number) (p ∙ has.all_is) ∙ f.mine)
      (λ (p : front ≡ v.front). ap (calls_by v.number) p ∙ f.own)
      shown in
      let seen : (x : ℕ × List E) → IsGone st h.owner id v x → (calls_by x.0 front ≡ x.1) ⊎ (calls_by x.0 v.also ≡ x.1) = λ x g. ⊎_elim
      (λ (p : front ≡ v.all). inl (ap (calls_by x.0) (p ∙ has.all_is) ∙ g.calls))
      (λ (p : front ≡ v.front). ⊎_elim (λ (q : calls_by x.0 v.front ≡ x.1). inl (ap (calls_by x.0) p ∙ q)) (λ (q : calls_by x.0 v.also ≡ x.1). inr q) g.seen)
      shown in
      let fits : Fits now origin h.owner id w = record {
        below = f.below;
        owned = f.owned;
        part = f.part;
        faults = fair_told.0;
        events = fair_told.1;
        tied = f.tied;
        front = starts;
        also = f.also;
        mine = f.mine;
        own = own;
        ended = all_map (λ (x : ℕ × List E) (g : IsGone st h.owner id v x). record { below = g.below; owned = g.owned; other = g.other; calls = g.calls; seen = seen x g }) v.ended f.ended;
        apart = f.apart;
        whole = λ hw. absurd (true≢false (sym hw));
      } in
      let made : (v.made + ((shows.numbers b).made - v.was.made)) + st.numbers.made ≡ v.made + (shows.numbers b).made = (let a = more.made in let c : v.was.made ≡ st.numbers.made = ap (λ z. z.made) has.was in omega (arith, a, c)) in
      let flushed : (v.flushed + ((shows.numbers b).flushed - v.was.flushed)) + st.numbers.flushed ≡ v.flushed + (shows.numbers b).flushed = (let a = more.flushed in let c : v.was.flushed ≡ st.numbers.flushed = ap (λ z. z.flushed) has.was in omega (arith, a, c)) in
      let struck : (v.struck + ((shows.numbers b).struck - v.was.struck)) + st.numbers.struck ≡ v.struck + (shows.numbers b).struck = (let a = more.struck in let c : v.was.struck ≡ st.numbers.struck = ap (λ z. z.struck) has.was in omega (arith, a, c)) in (
        w,
        gives,
        tt,
        record {
          st = now;
          owner = h.owner;
          turn = 1;
          words = ap (λ ws. slice_set ws 0 1) h.words;
          views = views_set st now origin h.owner s.views id v w h.views at refl speaks (λ n o. o) refl
              (λ j u aj ne su. later st (shows.numbers b) origin h.owner j u rises (alone_holds j u aj ne) (h.views.knows j u aj su)) fits (λ hw. absurd (true≢false (sym hw))) h.views.unused made flushed struck;
          home = λ _. record {
            value = b;
            here = set_here s.homes 0 (some (Some b)) (subst (λ (n : ℕ). 0 < n) (sym len) room);
            is_value = record { log_is = is ∙ has.all_is; next_is = drew ∙ has.next; numbers_are = refl; tied = tied ∙ f.tied; is_sound = fair };
            free = set_each (λ i u. u.holds ≡ false) s.views id w (λ j u aj ne. not_true u.holds (alone_holds j u aj ne)) refl;
          };
        },
        then _,
      )

  looking : (slots id : ℕ) (v : View E) → v.speaks ≡ true → v.holds ≡ false → Allows Rule slots id (v, []) 1 (λ n. n) (Looks (step slots 1 0 0 none) (v, []))
  looking slots id v speaks free s h len at lt =
      let st = h.st in
      let f = h.views.knows id v at speaks in
      dite (dec_le (length v.front) (length v.also))
      (λ (le : length v.front ≤ length v.also).
      let more = of_two st.all v.front v.also f.front.0 f.also.0 f.front.1 f.also.1 le in
      sees s h at v.also f.also more ([], sym (append-nil v.also)) (inr refl))
      (λ (not : ¬ (length v.front ≤ length v.also)).
      let more = of_two st.all v.also v.front f.also.0 f.front.0 f.also.1 f.front.1 (omega arith) in
      sees s h at v.front f.front ([], sym (append-nil v.front)) more (inl refl))
    where
      sees : (s : State (Opt B) (View E)) (h : Rule s) → get_elem? s.views id ≡ some v → (front : List (ℕ × E)) → StartsWith h.st.all front → StartsWith front v.front → StartsWith front v.also
          → (front ≡ v.front) ⊎ (front ≡ v.also)
          → (w : View E) × (a : Act (Opt B)) × Valid s.homes [] a
          × Rule (stepped s 1 (slice_index s.words 1) id [] w a) × Looks (step slots 1 0 0 none) (v, []) (slice_index s.words 1) (w, carried_after [] a)
      sees s h at front starts one two which =
          let st = h.st in
          let f = h.views.knows id v at speaks in
          let w : View E = record v { front = front; also = [] } in
          let own : calls_by v.number front ≡ v.mine = between v.number v.front front st.all (f.mine ∙ sym f.own) one starts ∙ f.own in
          let seen : (x : ℕ × List E) → IsGone st h.owner id v x → calls_by x.0 front ≡ x.1 = λ x g. ⊎_elim
          (λ (p : calls_by x.0 v.front ≡ x.1). between x.0 v.front front st.all (g.calls ∙ sym p) one starts ∙ p)
          (λ (p : calls_by x.0 v.also ≡ x.1). between x.0 v.also front st.all (g.calls ∙ sym p) two starts ∙ p)
          g.seen in
          let fits : Fits st origin h.owner id w = record {
            below = f.below;
            owned = f.owned;
            part = f.part;
            faults = f.faults;
            events = f.events;
            tied = f.tied;
            front = starts;
            also = (st.all, refl);
            mine = f.mine;
            own = own;
            ended = all_map (λ (x : ℕ × List E) (g : IsGone st h.owner id v x). record { below = g.below; owned = g.owned; other = g.other; calls = g.calls; seen = inl (seen x g) }) v.ended f.ended;
            apart = f.apart;
            whole = λ hw. absurd (true≢false (sym hw ∙ free));
          } in (
            w,
            keeps,
            tt,
            record {
              st = st;
              owner = h.owner;
              turn = h.turn;
              words = ap (λ ws. slice_set ws 1 (slice_index ws 1)) h.words;
              views = views_set st st origin h.owner s.views id v w h.views at refl speaks (λ n o. o) refl (λ j u aj ne su. h.views.knows j u aj su) fits (λ hw. absurd (true≢false (sym hw ∙ free))) h.views.unused refl refl refl;
              home = λ t. let home = h.home t in record {
                value = home.value;
                here = home.here;
                is_value = home.is_value;
                free = set_each (λ i u. u.holds ≡ false) s.views id w (λ j u aj ne. home.free j u aj) free;
              };
            },
            record { view = refl; front = one; also = two; one = which; own = record { mine = own; ended = all_map seen v.ended f.ended; other = gone_other st h.owner id v v.ended f.ended; apart = f.apart }; few = subst (λ (n : ℕ). v.shares ≤ n) h.views.shares (one_of (λ (z : View E). z.shares) s.views id v at) },
          )

  only_number : (m n : ℕ) → (m ≡ n) ⊎ ⊥ → m ≡ n
  only_number m n has = ⊎_elim (λ (p : m ≡ n). p) (λ (p : ⊥). absurd p) has

  -- the numbers of the pass that was met now belong to the one that it was met into
  abbrev moved : (ℕ → ℕ) → ℕ → ℕ → ℕ → ℕ
  moved owner id other n = cond (nat_eq (owner n) other) id (owner n)

  moved_yes : (owner : ℕ → ℕ) (id other n : ℕ) → owner n ≡ other → moved owner id other n ≡ id
  moved_yes owner id other n e = grind (arith, nat_tests, e)

  moved_no : (owner : ℕ → ℕ) (id other n : ℕ) → owner n ≢ other → moved owner id other n ≡ owner n
  moved_no owner id other n ne = grind (arith, nat_tests, ne)

  joining : (id : ℕ) (v : View E) (other : ℕ) (w : View E) → v.speaks ≡ true → v.holds ≡ false → v.also ≡ [] → w.speaks ≡ true → w.holds ≡ false → w.also ≡ [] → Joins Rule id v other w (met v w) spent
  joining id v other w speaks free idle talks rests quiet s h at apart there =
      let st = h.st in
      let m : View E = met v w in
      let f = h.views.knows id v at speaks in
      let theirs : get_elem? s.views other ≡ some w = ⊎_elim
      (λ (x : (other ≡ id) × (m ≡ w)). absurd (apart x.0))
      (λ (x : (other ≢ id) × (get_elem? s.views other ≡ some w)). x.1)
      (at_set s.views id other m w there) in
      let g = h.views.knows other w theirs talks in
      let now : ℕ → ℕ = moved h.owner id other in
      let stays : (j n : ℕ) → j ≢ other → h.owner n ≡ j → now n ≡ j = λ j n ne e. moved_no h.owner id other n (λ q. ne (sym e ∙ q)) ∙ e in
      let here : id ≢ other = λ q. apart (sym q) in
      let other_fits : (j : ℕ) (u : View E) → get_elem? s.views j ≡ some u → j ≢ other → u.speaks ≡ true → Fits st origin now j u = λ j u aj ne su.
      let k = h.views.knows j u aj su in record {
        below = k.below;
        owned = stays j u.number ne k.owned;
        part = k.part;
        faults = k.faults;
        events = k.events;
        tied = k.tied;
        front = k.front;
        also = k.also;
        mine = k.mine;
        own = k.own;
        ended = all_map (λ (x : ℕ × List E) (y : IsGone st h.owner j u x). record { below = y.below; owned = stays j x.0 ne y.owned; other = y.other; calls = y.calls; seen = y.seen }) u.ended k.ended;
        apart = k.apart;
        whole = k.whole;
      } in
      let theirs_all : (n : ℕ) → Has (w.ended ++ (w.number, w.mine) ∷ []) n → h.owner n ≡ other = λ n has. ⊎_elim
      (λ (p : Has w.ended n). gone_owned st h.owner other w w.ended g.ended n p)
      (λ (p : (w.number ≡ n) ⊎ ⊥). subst (λ (k : ℕ). h.owner k ≡ other) (only_number w.number n p) g.owned)
      (has_either w.ended ((w.number, w.mine) ∷ []) n has) in
      let differ : w.number ≢ v.number = numbers_differ h.owner other id w.number v.number g.owned f.owned here in
      let fits : Fits st origin now id m = record {
        below = f.below;
        owned = stays id v.number here f.owned;
        part = (let p = f.part in omega (arith, p));
        faults = (let a = f.faults in let b = g.faults in omega (arith, a, b));
        events = (let a = f.events in let b = g.events in omega (arith, a, b));
        tied = f.tied;
        front = f.front;
        also = g.front;
        mine = f.mine;
        own = f.own;
        ended = all_more (IsGone st now id m) v.ended (w.ended ++ (w.number, w.mine) ∷ [])
            (all_map (λ (x : ℕ × List E) (y : IsGone st h.owner id v x). record { below = y.below; owned = stays id x.0 here y.owned; other = y.other; calls = y.calls; seen = inl (gone_there st origin h.owner id v idle f.front x y) }) v.ended f.ended)
            (all_more (IsGone st now id m) w.ended ((w.number, w.mine) ∷ [])
            (all_map
            (λ (x : ℕ × List E) (y : IsGone st h.owner other w x). record {
              below = y.below;
              owned = moved_yes h.owner id other x.0 y.owned;
              other = numbers_differ h.owner other id x.0 v.number y.owned f.owned here;
              calls = y.calls;
              seen = inr (gone_there st origin h.owner other w quiet g.front x y);
            }) w.ended g.ended)
            (record { below = g.below; owned = moved_yes h.owner id other w.number g.owned; other = differ; calls = g.mine; seen = inr g.own }, tt));
        apart = apart_more v.ended (w.ended ++ (w.number, w.mine) ∷ []) f.apart
            (apart_more w.ended ((w.number, w.mine) ∷ []) g.apart (λ p. p, tt)
            (λ n p q. gone_other st h.owner other w w.ended g.ended (subst (Has w.ended) (sym (only_number w.number n q)) p)))
            (λ n p q. here (sym (gone_owned st h.owner id v v.ended f.ended n p) ∙ theirs_all n q));
        whole = λ hm. absurd (true≢false (sym hm ∙ free));
      } in
      let views : List (View E) = set s.views id m in
      let sums : (k : View E → ℕ) → k m ≡ k v + k w → k spent ≡ 0 → total k (set views other spent) ≡ total k s.views = λ k adds none_left.
      let a = sum_set k s.views id v m at in
      let b = sum_set k views other w spent there in
      omega (arith, a, b, adds, none_left) in
      let own_old : (n : ℕ) → IsOf v n → IsOf m n = λ n of. ⊎_elim (λ (p : v.number ≡ n). inl p) (λ (p : Has v.ended n). inr (has_left v.ended _ n p)) of in
      let own_new : (n : ℕ) → IsOf w n → IsOf m n = λ n of. ⊎_elim
      (λ (p : w.number ≡ n). inr (has_right v.ended _ n (has_right w.ended _ n (inl p))))
      (λ (p : Has w.ended n). inr (has_right v.ended _ n (has_left w.ended _ n p)))
      of in
      let there_now : get_elem? (set views other spent) id ≡ some m = set_else views other id spent here ∙ set_here s.views id m (at_less s.views id v at) in
      record {
        st = st;
        owner = now;
        turn = h.turn;
        words = h.words;
        views = record {
          knows = set_each (λ i u. u.speaks ≡ true → Fits st origin now i u) views other spent
              (λ i u ai ne su. set_each (λ j z. j ≢ other → z.speaks ≡ true → Fits st origin now j z) s.views id m (λ j z aj _ no sz. other_fits j z aj no sz) (λ _ _. fits) i u ai ne su)
              (λ off. absurd (true≢false (sym off)));
          quiet = set_each (λ i u. u.speaks ≡ false → u ≡ spent) views other spent
              (λ i u ai ne off. set_each (λ j z. z.speaks ≡ false → z ≡ spent) s.views id m (λ j z aj _ o. h.views.quiet j z aj o) (λ o. absurd (true≢false (sym speaks ∙ o))) i u ai off)
              (λ _. refl);
          one = one_set views other spent (one_set s.views id m h.views.one (λ hm. absurd (true≢false (sym hm ∙ free)))) (λ hs. absurd (true≢false (sym hs)));
          covered = λ n lt.
              let c = h.views.covered n lt in
              dite (ℕ_discrete (h.owner n) other)
              (λ (e : h.owner n ≡ other).
              let is : c.view ≡ w = some-injective c.view w (sym c.at ∙ ap (get_elem? s.views) e ∙ theirs) in
              record {
                view = m;
                at = ap (get_elem? (set views other spent)) (moved_yes h.owner id other n e) ∙ there_now;
                speaks = speaks;
                is_of = own_new n (subst (λ (u : View E). IsOf u n) is c.is_of);
              })
              (λ (ne : h.owner n ≢ other).
              let d = covered_set s.views id v m at speaks own_old (h.owner n) n c in
              record {
                view = d.view;
                at = ap (get_elem? (set views other spent)) (moved_no h.owner id other n ne) ∙ set_else views other (h.owner n) spent ne ∙ d.at;
                speaks = d.speaks;
                is_of = d.is_of;
              });
          unused = h.views.unused;
          shares = sums (λ z. z.shares) refl refl ∙ h.views.shares;
          made = sums (λ z. z.made) refl refl ∙ h.views.made;
          flushed = sums (λ z. z.flushed) refl refl ∙ h.views.flushed;
          struck = sums (λ z. z.struck) refl refl ∙ h.views.struck;
        };
        home = λ t. let home = h.home t in record {
          value = home.value;
          here = home.here;
          is_value = home.is_value;
          free = set_each (λ i u. u.holds ≡ false) views other spent (λ i u ai ne. set_each (λ j z. z.holds ≡ false) s.views id m (λ j z aj _. home.free j z aj) free i u ai) refl;
        };
      }

  -- the next number belongs to the new pass
  abbrev drawn : (ℕ → ℕ) → ℕ → ℕ → ℕ → ℕ
  drawn owner number place n = cond (nat_eq n number) place (owner n)

  drawn_yes : (owner : ℕ → ℕ) (number place n : ℕ) → n ≡ number → drawn owner number place n ≡ place
  drawn_yes owner number place n e = grind (arith, nat_tests, e)

  drawn_no : (owner : ℕ → ℕ) (number place n : ℕ) → n ≢ number → drawn owner number place n ≡ owner n
  drawn_no owner number place n ne = grind (arith, nat_tests, ne)

  splitting : (id : ℕ) (v : View E) → v.speaks ≡ true → v.holds ≡ true → 2 ≤ v.shares → Splits Rule id v (parted v) (other_part v)
  splitting id v speaks holds two s h at =
      let st = h.st in
      let f = h.views.knows id v at speaks in
      let has = f.whole holds in
      let m : View E = parted v in
      let n : View E = other_part v in
      let later_on : Standing E = record st { next = suc st.next } in
      let views : List (View E) = set s.views id m in
      let place : ℕ = length views in
      let now : ℕ → ℕ = drawn h.owner st.next place in
      let stays : (j k : ℕ) → k < st.next → h.owner k ≡ j → now k ≡ j = λ j k lt e. drawn_no h.owner st.next place k (λ q. omega (arith, q, lt)) ∙ e in
      let half : (v.shares - v.shares / 2) + v.shares / 2 ≡ v.shares = omega arith in
      let alone_holds : NoOther s.views id = no_other s.views id v h.views.one at holds in
      let others : (j : ℕ) (u : View E) → get_elem? s.views j ≡ some u → j ≢ id → u.speaks ≡ true → Fits later_on origin now j u = λ j u aj ne su.
      let k = h.views.knows j u aj su in record {
        below = (let b = k.below in omega (arith, b));
        owned = stays j u.number k.below k.owned;
        part = k.part;
        faults = k.faults;
        events = k.events;
        tied = k.tied;
        front = k.front;
        also = k.also;
        mine = k.mine;
        own = k.own;
        ended = all_map (λ (x : ℕ × List E) (y : IsGone st h.owner j u x). record { below = (let b = y.below in omega (arith, b)); owned = stays j x.0 y.below y.owned; other = y.other; calls = y.calls; seen = y.seen }) u.ended k.ended;
        apart = k.apart;
        whole = λ hu. absurd (alone_holds j u aj ne hu);
      } in
      let fits : Fits later_on origin now id m = record {
        below = (let b = f.below in omega (arith, b));
        owned = stays id v.number f.below f.owned;
        part = omega arith;
        faults = f.faults;
        events = f.events;
        tied = f.tied;
        front = f.front;
        also = f.also;
        mine = f.mine;
        own = f.own;
        ended = all_map (λ (x : ℕ × List E) (y : IsGone st h.owner id v x). record { below = (let b = y.below in omega (arith, b)); owned = stays id x.0 y.below y.owned; other = y.other; calls = y.calls; seen = y.seen }) v.ended f.ended;
        apart = f.apart;
        whole = λ _. record { all_is = has.all_is; next = ap suc has.next; was = has.was };
      } in
      let none_yet : calls_by v.next st.all ≡ [] = h.views.unused v.next (let d = has.next in omega (arith, d)) in
      let fresh : Fits later_on origin now place n = record {
        below = (let d = has.next in omega (arith, d));
        owned = drawn_yes h.owner st.next place v.next has.next;
        part = omega arith;
        faults = f.faults;
        events = f.events;
        tied = f.tied;
        front = f.front;
        also = (st.all, refl);
        mine = none_yet;
        own = none_first v.next st.all v.front f.front none_yet;
        ended = tt;
        apart = tt;
        whole = λ hn. absurd (true≢false (sym hn));
      } in
      let sums : (k : View E → ℕ) → k m + k n ≡ k v → total k (views ++ n ∷ []) ≡ total k s.views = λ k adds.
      let a = sum_set k s.views id v m at in
      let b = sum_more k views n in
      omega (arith, a, b, adds) in
      record {
        st = later_on;
        owner = now;
        turn = h.turn;
        words = h.words;
        views = record {
          knows = more_each (λ i u. u.speaks ≡ true → Fits later_on origin now i u) views n (set_each (λ i u. u.speaks ≡ true → Fits later_on origin now i u) s.views id m others (λ _. fits)) (λ _. fresh);
          quiet = more_each (λ i u. u.speaks ≡ false → u ≡ spent) views n (set_each (λ i u. u.speaks ≡ false → u ≡ spent) s.views id m (λ i u ai ne off. h.views.quiet i u ai off) (λ off. absurd (true≢false (sym speaks ∙ off)))) (λ off. absurd (true≢false off));
          one = one_more views n (one_set s.views id m h.views.one (λ _. alone_holds)) refl;
          covered = λ k lt. dite (ℕ_discrete k st.next)
              (λ (e : k ≡ st.next). record {
                view = n;
                at = ap (get_elem? (views ++ n ∷ [])) (drawn_yes h.owner st.next place k e) ∙ at_last views n place refl;
                speaks = refl;
                is_of = inl (has.next ∙ sym e);
              })
              (λ (ne : k ≢ st.next).
              let d = covered_set s.views id v m at speaks (λ j o. o) (h.owner k) k (h.views.covered k (omega (arith, lt, ne))) in
              record {
                view = d.view;
                at = ap (get_elem? (views ++ n ∷ [])) (drawn_no h.owner st.next place k ne) ∙ at_longer views (n ∷ []) (h.owner k) d.view d.at;
                speaks = d.speaks;
                is_of = d.is_of;
              });
          unused = λ k le. h.views.unused k (omega (arith, le));
          shares = sums (λ z. z.shares) half ∙ h.views.shares;
          made = sums (λ z. z.made) (omega arith) ∙ h.views.made;
          flushed = sums (λ z. z.flushed) (omega arith) ∙ h.views.flushed;
          struck = sums (λ z. z.struck) (omega arith) ∙ h.views.struck;
        };
        home = λ one. absurd (true≢false (sym holds ∙ (h.home one).free id v at));
      }

  -- ---- what a seat asks

  pub takes_out : (slots id : ℕ) (me : Me (Opt B) (View E)) → IsIdle me → Allows Rule slots id me 0 (λ _. 0) (TakesOut shows code (step slots 0 0 0 none) me)
  takes_out slots id me idle = subst (λ (c : List (ℕ × Opt B)). Allows Rule slots id (me.0, c) 0 (λ _. 0) (TakesOut shows code (step slots 0 0 0 none) (me.0, c))) (sym idle.empty)
      (taking slots id me.0 idle.speaks idle.free idle.still)

  pub enters : (slots id : ℕ) (me : Me (Opt B) (View E)) (b : B) (e : E) (count : ℕ) → IsHolding me → me.1 ≡ (0, Some b) ∷ [] → shows.log b ≡ logged me.0 e → count ≡ length (shows.log b)
      → Allows Rule slots id me 1 (λ _. count) (λ _. Enters shows (step slots 1 count 0 none) me count)
  enters slots id me b e count holding held is counted = subst (λ (c : List (ℕ × Opt B)). Allows Rule slots id (me.0, c) 1 (λ _. count) (λ _. Enters shows (step slots 1 count 0 none) (me.0, c) count)) (sym held)
      (entering slots id me.0 b e count holding.speaks holding.holds is counted)

  pub looks : (slots id : ℕ) (me : Me (Opt B) (View E)) → me.0.speaks ≡ true → me.0.holds ≡ false → me.1 ≡ [] → Allows Rule slots id me 1 (λ n. n) (Looks (step slots 1 0 0 none) me)
  looks slots id me speaks free held = subst (λ (c : List (ℕ × Opt B)). Allows Rule slots id (me.0, c) 1 (λ n. n) (Looks (step slots 1 0 0 none) (me.0, c))) (sym held) (looking slots id me.0 speaks free)

  pub joins : (id other : ℕ) (me you : Me (Opt B) (View E)) → IsIdle me → IsIdle you → Joins Rule id me.0 other you.0 (met me.0 you.0) spent
  joins id other me you idle rests = joining id me.0 other you.0 idle.speaks idle.free idle.still rests.speaks rests.free rests.still

  pub splits : (id : ℕ) (me : Me (Opt B) (View E)) → IsHolding me → 2 ≤ me.0.shares → Splits Rule id me.0 (parted me.0) (other_part me.0)
  splits id me holding two = splitting id me.0 holding.speaks holding.holds two

  pub tells_back : (slots id : ℕ) (me : Me (Opt B) (View E)) → IsHolding me → IsReady shows code me → 0 < slots → Allows Rule slots id me 0 (λ _. 1) (λ _. PutsBackTelling shows (step slots 0 1 0 none) me 1)
  tells_back slots id me holding it room = subst (λ (c : List (ℕ × Opt B)). Allows Rule slots id (me.0, c) 0 (λ _. 1) (λ _. PutsBackTelling shows (step slots 0 1 0 none) (me.0, c) 1)) (sym it.held)
      (giving slots id me.0 it.value me.0.all (shows.numbers it.value).faults (shows.numbers it.value).events holding.speaks holding.holds it.log_is it.next_is it.more it.tied it.is_sound room (inl refl) (λ _ _. (omega arith, omega arith))
      (λ _. PutsBackTelling shows (step slots 0 1 0 none) (me.0, (0, Some it.value) ∷ []) 1) (λ _. (it.value, refl, refl)))

  pub puts_back : (slots id : ℕ) (me : Me (Opt B) (View E)) → IsHolding me → IsReady shows code me → 0 < slots → Allows Rule slots id me 0 (λ _. 1) (λ _. PutsBack shows (step slots 0 1 0 none) me 1)
  puts_back slots id me holding it room = subst (λ (c : List (ℕ × Opt B)). Allows Rule slots id (me.0, c) 0 (λ _. 1) (λ _. PutsBack shows (step slots 0 1 0 none) (me.0, c) 1)) (sym it.held)
      (giving slots id me.0 it.value me.0.all me.0.faults me.0.events holding.speaks holding.holds it.log_is it.next_is it.more it.tied it.is_sound room (inl refl)
      (λ p q. ((let a = it.more.faults in omega (arith, a, p)), (let a = it.more.events in omega (arith, a, q))))
      (λ _. PutsBack shows (step slots 0 1 0 none) (me.0, (0, Some it.value) ∷ []) 1) (λ _. (it.value, refl, refl)))

  pub puts_unseen : (slots id : ℕ) (me : Me (Opt B) (View E)) → IsHolding me → IsReady shows code me → 0 < slots → Allows Rule slots id me 0 (λ _. 1) (λ _. PutsBackUnseen shows (step slots 0 1 0 none) me 1)
  puts_unseen slots id me holding it room = subst (λ (c : List (ℕ × Opt B)). Allows Rule slots id (me.0, c) 0 (λ _. 1) (λ _. PutsBackUnseen shows (step slots 0 1 0 none) (me.0, c) 1)) (sym it.held)
      (giving slots id me.0 it.value me.0.front me.0.faults me.0.events holding.speaks holding.holds it.log_is it.next_is it.more it.tied it.is_sound room (inr refl)
      (λ p q. ((let a = it.more.faults in omega (arith, a, p)), (let a = it.more.events in omega (arith, a, q))))
      (λ _. PutsBackUnseen shows (step slots 0 1 0 none) (me.0, (0, Some it.value) ∷ []) 1) (λ _. (it.value, refl, refl)))

  -- a value that is new may be laid into a table
  pub opens : (b : B) → IsNew shows b → code (shows.tie b) ≡ origin
      → Rule (opening (1 ∷ 0 ∷ []) (Some b ∷ []) (first_pass (shows.numbers b) origin))
  opens b new tied =
      let v : View E = first_pass (shows.numbers b) origin in
      let st : Standing E = record { all = []; next = 1; numbers = shows.numbers b } in
      let fits : Fits st origin (λ _. 0) 0 v = record {
        below = omega arith;
        owned = refl;
        part = omega arith;
        faults = omega arith;
        events = omega arith;
        tied = refl;
        front = ([], refl);
        also = ([], refl);
        mine = refl;
        own = refl;
        ended = tt;
        apart = tt;
        whole = λ hv. absurd (true≢false (sym hv));
      } in
      let only_one : (P : ℕ → View E → Type 0) → P 0 v → OfEach P (v ∷ []) = λ P it. more_each P [] v (λ i u at. absurd (some-ne-none u (sym at))) it in
      record {
        st = st;
        owner = λ _. 0;
        turn = 1;
        words = refl;
        views = record {
          knows = only_one (λ i u. u.speaks ≡ true → Fits st origin (λ _. 0) i u) (λ _. fits);
          quiet = only_one (λ i u. u.speaks ≡ false → u ≡ spent) (λ off. absurd (true≢false off));
          one = λ i j u w ai aj ne hu hw. true≢false (sym hu ∙ only_one (λ k z. z.holds ≡ false) refl i u ai);
          covered = λ n lt. record { view = v; at = refl; speaks = refl; is_of = inl (omega (arith, lt)) };
          unused = λ n le. refl;
          shares = refl;
          made = sym new.made;
          flushed = sym new.flushed;
          struck = sym new.struck;
        };
        home = λ _. record {
          value = b;
          here = refl;
          is_value = record { log_is = new.log_is; next_is = new.next_is; numbers_are = refl; tied = tied; is_sound = new.is_sound };
          free = only_one (λ i u. u.holds ≡ false) refl;
        };
      }

  pub opens_as : (b key : B) (items : List (Opt B)) → items ≡ Some b ∷ [] → key ≡ b → IsNew shows b → code (shows.tie key) ≡ origin
      → Rule (opening (1 ∷ 0 ∷ []) items (first_pass (shows.numbers key) origin))
  opens_as b key items is same new tied =
      subst (λ (l : List (Opt B)). Rule (opening (1 ∷ 0 ∷ []) l (first_pass (shows.numbers key) origin))) (sym is)
      (subst (λ (k : B). Rule (opening (1 ∷ 0 ∷ []) (Some b ∷ []) (first_pass (shows.numbers k) origin))) (sym same) (opens b new (ap (λ x. code (shows.tie x)) (sym same) ∙ tied)))

module _ {B E T : Type 0} (shows : Ghosts B E T) (code : T → Gv) where
  -- what a seat holds lies in the slot
  pub slot_held : (me : Me (Opt B) (View E)) → HasLog shows code me → (x : Opt B) × (me.1 ≡ (0, x) ∷ rest me.1)
  slot_held me it = (Some it.value, it.held ∙ ap (λ l. (0, Some it.value) ∷ rest l) (sym it.held))
