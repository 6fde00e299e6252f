-- What effective sets give once the cars heard of the fields of an object that moved.
use Rattle.std.proofs.Common.{◌≡◌, ℕ, ◌==◌, ◌&&◌, Bool, true, false, cond, refl, ap, ◌∙◌, List, ◌++◌, Option, Some, None, is_some}
use Rattle.std.specs.Option.{option_map, option_flatten}
use Rattle.std.specs.List.{slice_get}
use Rattle.std.specs.FinMap.{get}
use Rattle.std.proofs.lemmas.Bool.{eqb-true}
use Rattle.pm_types.specs.declared.address.Addr.{Addr}
use Rattle.pm_types.specs.declared.source.RefSource.{RefSource}
use Rattle.pm_types.specs.declared.source.RefSource.TheVariants.{Field}
use Rattle.pm_types.specs.declared.source.Change.{Change}
use Rattle.pm_view.specs.Sources.{same_source, same_address, is_field_at, slot_in}
use Rattle.pm_view.specs.View.{Sources}
use Rattle.pm_view.specs.Effective.{applied, effective_in}
use Rattle.pm_view.specs.Barrier.{left, entered, barrier, news}
use Rattle.pm_view.specs.Collecting.{field_news}
use Rattle.pm_law_commands.proofs.RowLemmas.Spreading.{by_slots, hears, heard_change, changed}
use Rattle.pm_law_commands.proofs.RowLemmas.News.{news-append, as_changes, news_of_barrier}
use Rattle.pm_law_collect.proofs.PhasesLemmas.FieldNews.{folded_none, folded_field, effective_fields, applied-both}
use Rattle.pm_law_collect.proofs.PhasesLemmas.Withdrawn.{news_of_left, after_changes, same_itself, apart_source}

entered_is : (aside : ℕ → Bool) (x : RefSource) (f : Option Addr) → entered aside x f ≡ barrier aside x None f
entered_is aside x None = refl
entered_is aside x (Some a) = refl

-- what one car hears of a source that stored nothing
pub news_of_entered : (aside : ℕ → Bool) (x : RefSource) (f : Option Addr) (e : ℕ) → news e (entered aside x f) ≡ as_changes x (heard_change aside x None f e)
news_of_entered aside x f e = ap (news e) (entered_is aside x f) ∙ news_of_barrier aside x None f e

module _ (aside : ℕ → Bool) (from to : Addr) (go : Addr → Addr) (fs : List (Option Addr)) (e : ℕ) (set : Option Sources) (queue : Option (List Change)) (both : is_some set ≡ is_some queue)
    (apart : same_address from to ≡ false) (apart_back : same_address to from ≡ false) where
  abbrev tell : ℕ → Option Addr → List (ℕ × Change)
  tell index field = left aside (Field from index) field ++ entered aside (Field to index) (option_map go field)

  abbrev pub told_all : Option (List Change)
  told_all = option_map (λ q. q ++ news e (field_news tell 0 fs)) queue

  abbrev leaves : ℕ → Option Addr → Option (Option ℕ)
  leaves n f = heard_change aside (Field from n) f None e

  abbrev comes : ℕ → Option Addr → Option (Option ℕ)
  comes n f = heard_change aside (Field to n) None (option_map go f) e

  -- both changes of a field, one after the other
  two : (y : RefSource) (n : ℕ) (f : Option Addr) (s : Sources)
      → get (applied s (news e (tell n f))) y
      ≡ cond (same_source (Field to n) y) (changed (comes n f) (cond (same_source (Field from n) y) (changed (leaves n f) (get s y)) (get s y))) (cond (same_source (Field from n) y) (changed (leaves n f) (get s y)) (get s y))
  two y n f s =
      ap (λ cs. get (applied s cs) y) (news-append e (left aside (Field from n) f) (entered aside (Field to n) (option_map go f)))
      ∙ ap (λ t. get t y) (applied-both s (news e (left aside (Field from n) f)) (news e (entered aside (Field to n) (option_map go f))))
      ∙ ap (λ cs. get (applied (applied s (news e (left aside (Field from n) f))) cs) y) (news_of_entered aside (Field to n) (option_map go f) e)
      ∙ after_changes (applied s (news e (left aside (Field from n) f))) (Field to n) (comes n f) y
      ∙ ap (λ o. cond (same_source (Field to n) y) (changed (comes n f) o) o) (ap (λ cs. get (applied s cs) y) (news_of_left aside (Field from n) f e) ∙ after_changes s (Field from n) (leaves n f) y)

  -- every other source keeps what it had
  pub moved_apart : (y : RefSource) → is_field_at from y ≡ false → is_field_at to y ≡ false → effective_in set told_all y ≡ effective_in set queue y
  moved_apart y not_from not_to =
      effective_fields e y tell (λ n f o. o)
      (λ n f s. two y n f s
      ∙ (λ i. cond (apart_source to n y not_to i) (changed (comes n f) (cond (apart_source from n y not_from i) (changed (leaves n f) (get s y)) (get s y))) (cond (apart_source from n y not_from i) (changed (leaves n f) (get s y)) (get s y))))
      set queue fs both (λ none. folded_none (λ n f o. o) (λ n f o. refl) 0 fs None)
      ∙ folded_none (λ n f o. o) (λ n f o. refl) 0 fs (effective_in set queue y)

  null_heard : (x : RefSource) (o : Option ℕ) → changed (heard_change aside x None None e) o ≡ o
  null_heard x o = by_hears (hears aside x e)
    where
      by_hears : (b : Bool) → changed (cond b None None) o ≡ o
      by_hears true = refl
      by_hears false = refl

  -- a field at the old place has what is left of what it stored
  pub moved_from : (i : ℕ) → effective_in set told_all (Field from i) ≡ changed (leaves i (option_flatten (slice_get fs i))) (effective_in set queue (Field from i))
  moved_from i =
      effective_fields e (Field from i) tell (λ n f o. cond (n == i) (changed (leaves i f) o) o)
      (λ n f s. two (Field from i) n f s ∙ at_index n f (get s (Field from i)))
      set queue fs both (λ none. folded_field (λ f o. changed (leaves i f) o) (null_heard (Field from i)) i fs None ∙ none_left (hears aside (Field from i) e) (slot_in e (option_flatten (slice_get fs i))))
      ∙ folded_field (λ f o. changed (leaves i f) o) (null_heard (Field from i)) i fs (effective_in set queue (Field from i))
    where
      same_index : (n : ℕ) (b : Bool) → (n == i) ≡ b → (f : Option Addr) (o : Option ℕ) → cond b (changed (leaves n f) o) o ≡ cond b (changed (leaves i f) o) o
      same_index n true same f o = ap (λ n. changed (leaves n f) o) (eqb-true n i same)
      same_index n false same f o = refl

      at_index : (n : ℕ) (f : Option Addr) (o : Option ℕ)
          → cond (same_address to from && (n == i)) (changed (comes n f) (cond (same_address from from && (n == i)) (changed (leaves n f) o) o)) (cond (same_address from from && (n == i)) (changed (leaves n f) o) o)
          ≡ cond (n == i) (changed (leaves i f) o) o
      at_index n f o =
          (λ j. cond (apart_back j && (n == i)) (changed (comes n f) (cond (same_itself from j && (n == i)) (changed (leaves n f) o) o)) (cond (same_itself from j && (n == i)) (changed (leaves n f) o) o))
          ∙ same_index n (n == i) refl f o

      none_left : (b : Bool) (o : Option ℕ) → changed (cond b (by_slots None o) None) None ≡ None
      none_left true None = refl
      none_left true (Some m) = refl
      none_left false o = refl

  -- and one at the new place what comes to it, where only cars that stand are named
  pub moved_to : (i : ℕ) → (is_some queue ≡ false → slot_in e (option_map go (option_flatten (slice_get fs i))) ≡ None)
      → effective_in set told_all (Field to i) ≡ changed (comes i (option_flatten (slice_get fs i))) (effective_in set queue (Field to i))
  moved_to i deaf =
      effective_fields e (Field to i) tell (λ n f o. cond (n == i) (changed (comes i f) o) o)
      (λ n f s. two (Field to i) n f s ∙ at_index n f (get s (Field to i)))
      set queue fs both (λ none. folded_field (λ f o. changed (comes i f) o) (null_heard (Field to i)) i fs None ∙ none_comes (hears aside (Field to i) e) (slot_in e (option_map go (option_flatten (slice_get fs i)))) (deaf none))
      ∙ folded_field (λ f o. changed (comes i f) o) (null_heard (Field to i)) i fs (effective_in set queue (Field to i))
    where
      same_index : (n : ℕ) (b : Bool) → (n == i) ≡ b → (f : Option Addr) (o : Option ℕ) → cond b (changed (comes n f) o) o ≡ cond b (changed (comes i f) o) o
      same_index n true same f o = ap (λ n. changed (comes n f) o) (eqb-true n i same)
      same_index n false same f o = refl

      at_index : (n : ℕ) (f : Option Addr) (o : Option ℕ)
          → cond (same_address to to && (n == i)) (changed (comes n f) (cond (same_address from to && (n == i)) (changed (leaves n f) o) o)) (cond (same_address from to && (n == i)) (changed (leaves n f) o) o)
          ≡ cond (n == i) (changed (comes i f) o) o
      at_index n f o =
          (λ j. cond (same_itself to j && (n == i)) (changed (comes n f) (cond (apart j && (n == i)) (changed (leaves n f) o) o)) (cond (apart j && (n == i)) (changed (leaves n f) o) o))
          ∙ same_index n (n == i) refl f o

      none_comes : (b : Bool) (o : Option ℕ) → o ≡ None → changed (cond b (by_slots o None) None) None ≡ None
      none_comes true o none = ap (λ o. changed (by_slots o None) None) none
      none_comes false o none = refl
