-- Each kind of step keeps the rule.
use Rattle.std.proofs.Common.{◌≡◌, ◌≢◌, ◌⊎◌, ℕ, List, [], ◌∷◌, ◌++◌, set, Option as Opt, Some, None, refl, sym, ◌∙◌, ap, subst, inl, inr, ⊎_elim, arith}
use Rattle.std.specs.Prelude.{slice_index, slice_set}
use mathlib.Core.Option.{Option, some, none}
use lib.ListN.{get_elem?}
use Rattle.atomic_table.specs.Table.{Me, step, rest, takes, gives, keeps, Allows, Splits, Joins}
use Rattle.atomic_table.proofs.Lists.{at_set, at_snoc}
use Rattle.pm_turns.specs.declared.rule.View.{View}
use Rattle.pm_turns.specs.Views.{spent, Speaks, AllKnow}
use Rattle.pm_turns.specs.Rule.{IsIdle, Holds, IsAtHome, IsOut, IsKept, TakesOut, PutsBack}

abbrev IsNothing : {T : Type 0} → Opt T → Type 0
IsNothing None = Unit {0}
IsNothing (Some x) = ⊥

none_not : {T : Type 0} {x : T} → None ≡ Some x → ⊥
none_not e = subst IsNothing e tt

module _ {T : Type 0} where
  -- what the rule says of one view
  abbrev Knows : T → View T → Type 0
  Knows t v = (known : T) → v.tie ≡ Some known → known ≡ t

  -- one view changes
  AllKnow-set : (t : T) (views : List (View T)) (id : ℕ) (v : View T)
      → AllKnow t views → Knows t v → AllKnow t (set views id v)
  AllKnow-set t views id v all mine j other at =
      ⊎_elim
      (λ (x : (j ≡ id) × (v ≡ other)). subst (Knows t) x.1 mine)
      (λ (x : (j ≢ id) × (get_elem? views j ≡ some other)). all j other x.1)
      (at_set views id j v other at)

  -- one view is added
  AllKnow-snoc : (t : T) (views : List (View T)) (v : View T)
      → AllKnow t views → Knows t v → AllKnow t (views ++ v ∷ [])
  AllKnow-snoc t views v all mine j other at =
      ⊎_elim
      (λ (x : get_elem? views j ≡ some other). all j other x)
      (λ (x : v ≡ other). subst (Knows t) x mine)
      (at_snoc views v other j at)

module _ {B T : Type 0} (tie : B → T) (sound : B → Type 0) where
  -- what a seat holds lies in the slot
  pub slot_held : (me : Me (Opt B) (View T)) → Holds tie sound me → (x : Opt B) × (me.1 ≡ (0, x) ∷ rest me.1)
  slot_held me it = (Some it.value, it.held ∙ ap (λ l. (0, Some it.value) ∷ rest l) (sym it.held))

module _ {B T : Type 0} (tie : B → T) (sound : B → Type 0) (t : T) where
  -- a seat may take the value out
  abbrev MayTake : ℕ → ℕ → Me (Opt B) (View T) → Type 0
  MayTake slots id me =
      Allows (IsKept tie sound t) slots id me 0 (λ _. 0) (TakesOut tie sound (step slots 0 0 0 none) me)

  -- a seat may put the value back
  abbrev MayGive : ℕ → ℕ → Me (Opt B) (View T) → Type 0
  MayGive slots id me =
      Allows (IsKept tie sound t) slots id me 0 (λ _. 1) (λ _. PutsBack (step slots 0 1 0 none) me 1)

  -- the seat holds the value that was at home
  held : (v : View T) (words : List ℕ) (homes : List (Option (Opt B))) → Speaks v → Knows t v
      → (home : IsAtHome tie sound t words homes) → Holds tie sound (v, (0, Some home.value) ∷ [])
  held v words homes speaks mine home = record {
    value = home.value;
    held = refl;
    tied = speaks.1 ∙ ap Some (mine speaks.0 speaks.1 ∙ sym home.tied);
    is_sound = home.is_sound;
  }

  taking : (slots id : ℕ) (v : View T) → Speaks v → MayTake slots id (v, [])
  taking slots id v speaks s kept len at lt =
      let mine : Knows t v = kept.know id v at in
      let know : AllKnow t (set s.views id v) = AllKnow-set t s.views id v kept.know mine in
      ⊎_elim
      (λ (home : IsAtHome tie sound t s.words s.homes).
      let word = ap (λ l. slice_set l 0 0) home.word in
      let away = ap (λ l. slice_set l 0 none) home.here in
      let found = ap (λ l. slice_index l 0) home.word in (
        v,
        takes 0 (Some home.value),
        ap (λ l. get_elem? l 0) home.here,
        record { know = know; place = inr (record { word = word; away = away }) },
        record {
          view = refl;
          out = λ _. held v s.words s.homes speaks mine home;
          missed = λ n. absurd (n found);
        },
      ))
      (λ (out : IsOut s.words s.homes).
      let word = ap (λ l. slice_set l 0 0) out.word in
      let found = ap (λ l. slice_index l 0) out.word in (
        v,
        keeps,
        tt,
        record { know = know; place = inr (record { word = word; away = out.away }) },
        record { view = refl; out = λ e. absurd (omega (arith, found, e)); missed = λ _. refl },
      ))
      kept.place

  -- the value is taken out
  pub takes_out : (slots id : ℕ) (me : Me (Opt B) (View T)) → IsIdle me → MayTake slots id me
  takes_out slots id me idle =
      subst (λ (c : List (ℕ × Opt B)). MayTake slots id (me.0, c)) (sym idle.empty) (taking slots id me.0 idle.speaks)

  -- a value that is given back is at home
  given : (words : List ℕ) (homes : List (Option (Opt B))) (b : B) → tie b ≡ t → sound b
      → IsAtHome tie sound t words homes ⊎ IsOut words homes
      → IsAtHome tie sound t (slice_set words 0 1) (slice_set homes 0 (some (Some b)))
  given words homes b tied is_sound place =
      ⊎_elim
      (λ (home : IsAtHome tie sound t words homes). record {
        value = b;
        word = ap (λ l. slice_set l 0 1) home.word;
        here = ap (λ l. slice_set l 0 (some (Some b))) home.here;
        tied = tied;
        is_sound = is_sound;
      })
      (λ (out : IsOut words homes). record {
        value = b;
        word = ap (λ l. slice_set l 0 1) out.word;
        here = ap (λ l. slice_set l 0 (some (Some b))) out.away;
        tied = tied;
        is_sound = is_sound;
      })
      place

  giving : (slots id : ℕ) (v : View T) (b : B) → v.tie ≡ Some (tie b) → sound b
      → MayGive slots id (v, (0, Some b) ∷ [])
  giving slots id v b tied is_sound s kept len at lt =
      let mine : Knows t v = kept.know id v at in (
        v,
        gives,
        tt,
        record {
          know = AllKnow-set t s.views id v kept.know mine;
          place = inl (given s.words s.homes b (mine (tie b) tied) is_sound kept.place);
        },
        refl,
      )

  -- the value is put back
  pub puts_back : (slots id : ℕ) (me : Me (Opt B) (View T)) → Holds tie sound me → MayGive slots id me
  puts_back slots id me it =
      subst (λ (c : List (ℕ × Opt B)). MayGive slots id (me.0, c)) (sym it.held)
      (giving slots id me.0 it.value it.tied it.is_sound)

  -- a seat is split
  pub splits : (id : ℕ) (v : View T) → Splits (IsKept tie sound t) id v v v
  splits id v s kept at =
      let mine : Knows t v = kept.know id v at in
      let know = AllKnow-set t s.views id v kept.know mine in
      record { know = AllKnow-snoc t (set s.views id v) v know mine; place = kept.place }

  -- a seat is taken in
  pub joins : (id : ℕ) (v : View T) (other : ℕ) (w : View T) → Joins (IsKept tie sound t) id v other w v spent
  joins id v other w s kept at apart there =
      let know = AllKnow-set t s.views id v kept.know (kept.know id v at) in
      record { know = AllKnow-set t (set s.views id v) other spent know (λ u e. absurd (none_not e)); place = kept.place }
