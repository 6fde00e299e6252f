-- What effective sets give once the references of an object were withdrawn.
use Rattle.std.proofs.Common.{◌≡◌, ℕ, ◌==◌, ◌&&◌, Bool, true, false, cond, refl, ap, sym, ◌∙◌, List, [], ◌++◌, Option, Some, None, is_some}
use Rattle.std.specs.Option.{option_map, option_flatten}
use Rattle.std.specs.List.{slice_get}
use Rattle.std.specs.FinMap.{get}
use Rattle.std.proofs.lemmas.Bool.{eq-eqb, and_from, true≢false}
use Rattle.std.proofs.lemmas.List.{append-nil}
use Rattle.pm_types.specs.declared.address.Addr.{Addr}
use Rattle.pm_types.specs.declared.source.RefSource.{RefSource}
use Rattle.pm_types.specs.declared.source.RefSource.TheVariants.{Root, Handle, Field}
use Rattle.pm_types.specs.declared.source.Change.{Change}
use Rattle.pm_view.specs.Sources.{same_source, same_address, is_field_at, slot_in}
use Rattle.pm_view.specs.View.{Sources}
use Rattle.pm_view.specs.Effective.{applied, effective_in}
use Rattle.pm_view.specs.Barrier.{left, barrier, news}
use Rattle.pm_view.specs.Collecting.{field_news}
use Rattle.pm_law_commands.proofs.RowLemmas.Spreading.{by_slots, hears, heard_change, changed}
use Rattle.pm_law_commands.proofs.RowLemmas.News.{as_changes, effective-told, news_of_barrier}
use Rattle.pm_law_collect.proofs.PhasesLemmas.FieldNews.{folded_none, folded_field, effective_fields}

left_is : (aside : ℕ → Bool) (x : RefSource) (f : Option Addr) → left aside x f ++ [] ≡ barrier aside x f None
left_is aside x None = refl
left_is aside x (Some a) = refl

-- what one car hears of a source that stores nothing any more
pub news_of_left : (aside : ℕ → Bool) (x : RefSource) (f : Option Addr) (e : ℕ) → news e (left aside x f) ≡ as_changes x (heard_change aside x f None e)
news_of_left aside x f e = ap (news e) (sym (append-nil (left aside x f)) ∙ left_is aside x f) ∙ news_of_barrier aside x f None e

-- what a set gives after a change of a source, or none
pub after_changes : (set : Sources) (x : RefSource) (w : Option (Option ℕ)) (y : RefSource) → get (applied set (as_changes x w)) y ≡ cond (same_source x y) (changed w (get set y)) (get set y)
after_changes set x w y = effective-told (Some set) (Some []) x w y refl (λ none. absurd (true≢false none))

pub same_itself : (a : Addr) → same_address a a ≡ true
same_itself a = and_from _ _ (eq-eqb a.car a.car refl) (eq-eqb a.slot a.slot refl)

-- a field of an object is the source only where the source is such a field
pub apart_source : (a : Addr) (n : ℕ) (y : RefSource) → is_field_at a y ≡ false → same_source (Field a n) y ≡ false
apart_source a n (Root k) is = refl
apart_source a n (Handle c r) is = refl
apart_source a n (Field b j) is = ap (λ c. c && (n == j)) is

module _ (aside : ℕ → Bool) (at : Addr) (fs : List (Option Addr)) (e : ℕ) (set : Option Sources) (queue : Option (List Change)) (both : is_some set ≡ is_some queue) where
  abbrev pub withdrawn : Option (List Change)
  withdrawn = option_map (λ q. q ++ news e (field_news (λ index field. left aside (Field at index) field) 0 fs)) queue

  abbrev heard : ℕ → Option Addr → Option (Option ℕ)
  heard n f = heard_change aside (Field at n) f None e

  one_at : (y : RefSource) (n : ℕ) (f : Option Addr) (s : Sources) → get (applied s (news e (left aside (Field at n) f))) y ≡ cond (same_source (Field at n) y) (changed (heard n f) (get s y)) (get s y)
  one_at y n f s = ap (λ cs. get (applied s cs) y) (news_of_left aside (Field at n) f e) ∙ after_changes s (Field at n) (heard n f) y

  -- every other source keeps what it had
  pub withdrawn_apart : (y : RefSource) → is_field_at at y ≡ false → effective_in set withdrawn y ≡ effective_in set queue y
  withdrawn_apart y apart =
      effective_fields e y (λ index field. left aside (Field at index) field) (λ n f o. o)
      (λ n f s. one_at y n f s ∙ ap (λ b. cond b (changed (heard n f) (get s y)) (get s y)) (apart_source at n y apart))
      set queue fs both (λ none. folded_none (λ n f o. o) (λ n f o. refl) 0 fs None)
      ∙ folded_none (λ n f o. o) (λ n f o. refl) 0 fs (effective_in set queue y)

  abbrev own : ℕ → Option Addr → Option ℕ → Option ℕ
  own i f o = changed (heard i f) o

  own_null : (i : ℕ) (o : Option ℕ) → own i None o ≡ o
  own_null i o = by_hears (hears aside (Field at i) e)
    where
      by_hears : (b : Bool) → changed (cond b None None) o ≡ o
      by_hears true = refl
      by_hears false = refl

  at_index : (i n : ℕ) (f : Option Addr) (o : Option ℕ) → cond (same_address at at && (n == i)) (changed (heard n f) o) o ≡ cond (n == i) (own i f o) o
  at_index i n f o = ap (λ b. cond (b && (n == i)) (changed (heard n f) o) o) (same_itself at)

  -- a field of the object has what is left of what it stored
  pub withdrawn_here : (i : ℕ) → effective_in set withdrawn (Field at i) ≡ changed (heard i (option_flatten (slice_get fs i))) (effective_in set queue (Field at i))
  withdrawn_here i =
      effective_fields e (Field at i) (λ index field. left aside (Field at index) field) (λ n f o. cond (n == i) (own i f o) o)
      (λ n f s. one_at (Field at i) n f s ∙ at_index i n f (get s (Field at i)))
      set queue fs both (λ none. folded_field (own i) (own_null i) i fs None ∙ none_left (hears aside (Field at i) e) (slot_in e (option_flatten (slice_get fs i))))
      ∙ folded_field (own i) (own_null i) i fs (effective_in set queue (Field at i))
    where
      none_left : (b : Bool) (o : Option ℕ) → changed (cond b (by_slots None o) None) None ≡ None
      none_left true None = refl
      none_left true (Some m) = refl
      none_left false o = refl
