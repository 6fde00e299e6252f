-- A phase that begins: the heap law is kept, and what the space stands for.
use Rattle.std.proofs.Common.{◌≡◌, ℕ, ◌+◌, ◌≤◌, ◌==◌, ◌||◌, Bool, true, false, cond, refl, sym, subst, ◌∙◌, List, [], ◌∷◌, Option, Some}
use Rattle.std.specs.List.{sum_by}
use Rattle.std.specs.FinMap.{get}
use Rattle.std.proofs.lemmas.Bool.{or_parts, eq-eqb, both_ways, false_from_ne_true}
use Rattle.std.proofs.lemmas.List.Sums.{sum_by-cons}
use Rattle.pm_types.specs.declared.address.Addr.{Addr}
use Rattle.pm_types.specs.declared.source.RefSource.{RefSource}
use Rattle.pm_types.specs.declared.source.RefSource.TheVariants.{Root, Handle, Field}
use Rattle.pm_trains.specs.Trains.{is_among, youngest}
use Rattle.pm_view.specs.declared.phase.Phase.{Phase}
use Rattle.pm_view.specs.View.{SpaceView}
use Rattle.pm_view.specs.Reading.{stored, cars_of, aside_in, from_in, is_aside, is_from}
use Rattle.pm_view.specs.Counts.{standing_in, live_in}
use Rattle.pm_view.specs.Seen.{seen}
use Rattle.pm_view.specs.Law.{IsPhaseOf, IsAnchor, HeapLaw}
use Rattle.pm_law_commands.proofs.RowLemmas.OpenTrain.{among_home, open_free}
use Rattle.pm_law_collect.proofs.PhasesLemmas.MeansSame.{MeansSame}
use Rattle.pm_law_collect.proofs.PhasesLemmas.SetAside.{NoOutside, FromPasses, law_after_set_aside}
use Rattle.pm_law_collect.proofs.PhasesLemmas.Small.{or_left, or_right}

-- sums over a list are one where each item counts for as much
pub same_sums : (f g : ℕ → ℕ) (xs : List ℕ) → ((x : ℕ) → is_among x xs ≡ true → f x ≡ g x) → sum_by f xs ≡ sum_by g xs
same_sums f g [] same = refl
same_sums f g (x ∷ xs) same =
    sum_by-cons f x xs
    ∙ (λ i. same x (or_left (x == x) _ (eq-eqb x x refl)) i + same_sums f g xs (λ y among. same y (or_right (x == y) among)) i)
    ∙ sym (sum_by-cons g x xs)

-- the space in another phase with another anchor, in which the cars that pass are set aside too
pub record IsPhased (view : SpaceView) (anchor : Option (Addr × ℕ)) (phase : Phase) (p : ℕ → Bool) : Type 0 where
  pub aside : (e : ℕ) → aside_in phase view.trains.trains e ≡ (is_aside view e || p e)
  pub from : (e : ℕ) → is_from view e ≡ true → from_in phase e ≡ true
  pub none : NoOutside (seen view) p
  pub passes : FromPasses (seen view) p
  pub at : IsPhaseOf phase view.trains.trains anchor
  pub anchors : (a : Addr) (to : ℕ) → anchor ≡ Some (a, to) → IsAnchor (record view { anchor = anchor; phase = phase }) a to

module _ (view : SpaceView) (anchor : Option (Addr × ℕ)) (phase : Phase) (p : ℕ → Bool) (law : HeapLaw view) (is : IsPhased view anchor phase p) where
  abbrev pub phased : SpaceView
  phased = record view { anchor = anchor; phase = phase }

  free_was : (e : ℕ) → is_aside phased e ≡ false → is_aside view e ≡ false
  free_was e free = (or_parts (is_aside view e) (p e) (sym (is.aside e) ∙ free)).0

  not_from_was : (e : ℕ) → is_from phased e ≡ false → is_from view e ≡ false
  not_from_was e not_from = false_from_ne_true (is_from view e) (λ was. both_ways (is_from phased e) not_from (is.from e was))

  same_stored : (y : RefSource) → stored phased y ≡ stored view y
  same_stored (Root n) = refl
  same_stored (Handle c r) = refl
  same_stored (Field a i) = refl

  -- a car of the open train is not set aside, in the one phase or in the other
  open_counts : (c : ℕ) → is_among c (cars_of view.trains.trains (youngest view.trains.trains)) ≡ true → standing_in view c ≡ standing_in phased c
  open_counts c among =
      let home = among_home view.trains.trains (youngest view.trains.trains) c law.built.trains.single among in
      let was = open_free view.phase view.trains.trains view.anchor c law.built.trains.single law.phase home in
      let now = open_free phase view.trains.trains anchor c law.built.trains.single is.at home in
      λ i. cond ((was ∙ sym now) i) 0 (live_in (get view.cars c))

  -- the heap law is kept
  pub phase_keeps_law : HeapLaw phased
  phase_keeps_law = record {
    built = record {
      trains = law.built.trains;
      linked = law.built.linked;
      sets = law.built.sets;
      queues = law.built.queues;
      cars = λ n car at_n.
          let was = law.built.cars n car at_n in
          record { numbered = was.numbered; from_one = was.from_one; sound = was.sound; live = λ from free. was.live (not_from_was n from) (free_was n free); moved = λ from. was.moved (not_from_was n from) };
      objects = λ a object at_a. let was = law.built.objects a object at_a in record { first = was.first; given = was.given; fields = was.fields; bytes = was.bytes };
      apart = law.built.apart;
      next = law.built.next;
      births = subst (λ n. view.trains.births ≤ n) (same_sums (standing_in view) (standing_in phased) (cars_of view.trains.trains (youngest view.trains.trains)) open_counts) law.built.births;
    };
    named = record { numbers = law.named.numbers; few = law.named.few; registers = law.named.registers };
    tied = law_after_set_aside (seen view) (seen phased) p law.tied
        (record { stored = same_stored; look = λ a. refl; from = is.from; effective = λ e y. refl; aside = is.aside }) is.none is.passes;
    phase = is.at;
    anchor = is.anchors;
  }

  -- and so is what the space stands for
  pub phase_means_same : MeansSame view phased
  phase_means_same = record {
    roots = λ name. refl;
    registers = λ place. refl;
    next = refl;
    objects = λ a object free at_a. record { at = a; was = object; kept = free_was a.car free; there = at_a; id = refl; meaning = refl };
  }
