-- A name that is bound or unbound: the heap law is kept, and the world has the name too.
use Rattle.std.proofs.Common.{◌≡◌, ◌⊎◌, inl, inr, ⊎_elim, ℕ, ◌+◌, ◌-◌, ◌<◌, ◌≤◌, ◌==◌, Bool, true, false, cond, refl, ap, sym, subst, ◌∙◌, List, Option, Some, None, arith, is_some}
use Rattle.std.specs.Option.{IsSome, option_and_then}
use Rattle.std.specs.Ordering.{eq_by_cmp, is_eq}
use Rattle.std.specs.Cmp.{tied_itself}
use Rattle.std.specs.FinMap.{get, insert, remove, len, get-insert, get-remove, len-insert, len-remove}
use Rattle.std.proofs.lemmas.Bool.{eqb-true, eq-eqb, both_ways, cond-true, cond-false, false_from_ne_true}
use Rattle.std.proofs.lemmas.Map.Views.{tells_apart}
use Rattle.pm_types.specs.Orders.{name_cmp}
use Rattle.pm_types.proofs.Orders.{names_total, names_antisymmetric}
use Rattle.pm_types.specs.declared.limits.TheConstants.{ROOTS}
use Rattle.pm_types.specs.declared.address.Addr.{Addr}
use Rattle.pm_types.specs.declared.source.RefSource.{RefSource}
use Rattle.pm_types.specs.declared.source.RefSource.TheVariants.{Root, Handle, Field}
use Rattle.pm_roots.specs.Bindings.{Bindings, address_at, AllNumbersDiffer, IsFree}
use Rattle.pm_model.specs.World.{World, naming, unbinding}
use Rattle.pm_view.specs.Sources.{same_source}
use Rattle.pm_view.specs.View.{SpaceView}
use Rattle.pm_view.specs.Reading.{stored, is_aside, named_by}
use Rattle.pm_view.specs.Seen.{seen, MayStore}
use Rattle.pm_view.specs.Effective.{effective_in}
use Rattle.pm_view.specs.Barrier.{barrier, told}
use Rattle.pm_view.specs.Law.{HeapLaw}
use Rattle.pm_view.specs.Represents.{Represents}
use Rattle.pm_view.specs.Rows.{with_name, without_name}
use Rattle.pm_law_commands.proofs.RowLemmas.Spreading.{IsSpread}
use Rattle.pm_law_commands.proofs.RowLemmas.SpreadLaw.{law_after_spread}
use Rattle.pm_law_commands.proofs.RowLemmas.Spread.{effective_for}
use Rattle.pm_law_commands.proofs.RowLemmas.Numbers.{owner, found_by_number}
use Rattle.pm_law_commands.proofs.RowLemmas.Built.{IsReshaped, built_still, phase_still, anchor_still}
use Rattle.pm_law_commands.proofs.RowLemmas.Meaning.{named_same, names_same, meaning_same}
use Rattle.pm_law_commands.proofs.RowLemmas.Reaches.{Means}
use Rattle.pm_law_commands.proofs.RowLemmas.SpreadKept.{reshaped_itself, reshaped_news}
use Rattle.pm_law_commands.proofs.RowLemmas.SpreadMeans.{stands_for, apart_ids, cond_either}

-- ---- addresses by number

same_options : (o p : Option Addr) → ((a : Addr) → o ≡ Some a → p ≡ Some a) → ((a : Addr) → p ≡ Some a → o ≡ Some a) → o ≡ p
same_options None None f g = refl
same_options None (Some a) f g = g a refl
same_options (Some a) p f g = sym (f a refl)

-- the address of a number is that of a name that has the number
addressed : (roots : Bindings) → AllNumbersDiffer roots → (name : List ℕ) (k : ℕ) (a : Addr) → get roots name ≡ Some (k, a) → address_at roots k ≡ Some a
addressed roots differ name k a is = found_by_number roots differ name (k, a) is

none_owned : (roots : Bindings) (n : ℕ) → IsFree roots n → (o : Option Addr) → address_at roots n ≡ o → o ≡ None
none_owned roots n free None is = refl
none_owned roots n free (Some a) is = let name = owner roots n a is in absurd (free name.0 a name.1)

pub free_is_none : (roots : Bindings) (n : ℕ) → IsFree roots n → address_at roots n ≡ None
free_is_none roots n free = none_owned roots n free (address_at roots n) refl

some_is_some : {A : Type 0} (x y : A) → Some x ≡ Some y → x ≡ y
some_is_some x y is = cc

module _ (roots : Bindings) (name : List ℕ) (n : ℕ) (a : Addr) (differ : AllNumbersDiffer roots) (free : IsFree roots n) (unbound : get roots name ≡ None) where
  abbrev more : Bindings
  more = insert roots name (n, a)

  at_more : (q : List ℕ) → get more q ≡ cond (eq_by_cmp name_cmp q name) (Some (n, a)) (get roots q)
  at_more q = get-insert names_total roots name (n, a) q

  -- a name that has a number is the new one, or it had the number
  had : (q : List ℕ) (k : ℕ) (b : Addr) → get more q ≡ Some (k, b) → ((q ≡ name) × (k ≡ n)) ⊎ (get roots q ≡ Some (k, b))
  had q k b is = by_case (eq_by_cmp name_cmp q name) refl (sym (at_more q) ∙ is)
    where
      by_case : (c : Bool) → eq_by_cmp name_cmp q name ≡ c → cond c (Some (n, a)) (get roots q) ≡ Some (k, b) → ((q ≡ name) × (k ≡ n)) ⊎ (get roots q ≡ Some (k, b))
      by_case true same is = inl (tells_apart names_antisymmetric q name same, ap (λ (p : ℕ × Addr). p.0) (some_is_some (k, b) (n, a) (sym is)))
      by_case false same is = inr is

  differ_more : AllNumbersDiffer more
  differ_more p q k b c at_p at_q =
      ⊎_elim
      (λ (new_p : (p ≡ name) × (k ≡ n)).
      ⊎_elim
      (λ (new_q : (q ≡ name) × (k ≡ n)). new_p.0 ∙ sym new_q.0)
      (λ (old_q : get roots q ≡ Some (k, c)). absurd (free q c (old_q ∙ ap (λ m. Some (m, c)) new_p.1)))
      (had q k c at_q))
      (λ (old_p : get roots p ≡ Some (k, b)).
      ⊎_elim
      (λ (new_q : (q ≡ name) × (k ≡ n)). absurd (free p b (old_p ∙ ap (λ m. Some (m, b)) new_q.1)))
      (λ (old_q : get roots q ≡ Some (k, c)). differ p q k b c old_p old_q)
      (had q k c at_q))
      (had p k b at_p)

  new_is : get more name ≡ Some (n, a)
  new_is = at_more name ∙ cond-true _ _ _ (ap is_eq (tied_itself names_total name))

  old_is : (q : List ℕ) (k : ℕ) (b : Addr) → get roots q ≡ Some (k, b) → get more q ≡ Some (k, b)
  old_is q k b is = at_more q ∙ cond-false _ _ _ (false_from_ne_true (eq_by_cmp name_cmp q name) (λ same. clash (ap (get roots) (sym (tells_apart names_antisymmetric q name same)) ∙ is))) ∙ is
    where
      clash : get roots name ≡ Some (k, b) → ⊥
      clash bound = let no : Some (k, b) ≡ None = sym bound ∙ unbound in cc

  -- the address under each number
  address_more : (k : ℕ) → address_at more k ≡ cond (n == k) (Some a) (address_at roots k)
  address_more k = by_case (n == k) refl
    where
      kept : (n == k) ≡ false → (b : Addr) → address_at more k ≡ Some b → address_at roots k ≡ Some b
      kept apart b is =
          let name_of = owner more k b is in
          ⊎_elim
          (λ (new : (name_of.0 ≡ name) × (k ≡ n)). absurd (both_ways (n == k) apart (eq-eqb n k (sym new.1))))
          (λ (was : get roots name_of.0 ≡ Some (k, b)). addressed roots differ name_of.0 k b was)
          (had name_of.0 k b name_of.1)

      by_case : (c : Bool) → (n == k) ≡ c → address_at more k ≡ cond c (Some a) (address_at roots k)
      by_case true same = ap (address_at more) (sym (eqb-true n k same)) ∙ addressed more differ_more name n a new_is
      by_case false apart =
          same_options (address_at more k) (address_at roots k) (kept apart)
          (λ b is. let name_of = owner roots k b is in addressed more differ_more name_of.0 k b (old_is name_of.0 k b name_of.1))

module _ (roots : Bindings) (name : List ℕ) (n : ℕ) (a : Addr) (differ : AllNumbersDiffer roots) (bound : get roots name ≡ Some (n, a)) where
  abbrev less : Bindings
  less = remove roots name

  at_less : (q : List ℕ) → get less q ≡ cond (eq_by_cmp name_cmp q name) None (get roots q)
  at_less q = get-remove names_total roots name q

  -- a name that has a number had it
  had_more : (q : List ℕ) (k : ℕ) (b : Addr) → get less q ≡ Some (k, b) → (get roots q ≡ Some (k, b)) × (eq_by_cmp name_cmp q name ≡ false)
  had_more q k b is = by_case (eq_by_cmp name_cmp q name) refl (sym (at_less q) ∙ is)
    where
      by_case : (c : Bool) → eq_by_cmp name_cmp q name ≡ c → cond c None (get roots q) ≡ Some (k, b) → (get roots q ≡ Some (k, b)) × (eq_by_cmp name_cmp q name ≡ false)
      by_case true same is = cc
      by_case false same is = (is, same)

  differ_less : AllNumbersDiffer less
  differ_less p q k b c at_p at_q = differ p q k b c (had_more p k b at_p).0 (had_more q k c at_q).0

  kept_less : (q : List ℕ) (k : ℕ) (b : Addr) → get roots q ≡ Some (k, b) → (n == k) ≡ false → get less q ≡ Some (k, b)
  kept_less q k b is apart = at_less q ∙ cond-false _ _ _ (false_from_ne_true (eq_by_cmp name_cmp q name) (λ same. other (ap (get roots) (sym (tells_apart names_antisymmetric q name same)) ∙ is))) ∙ is
    where
      other : get roots name ≡ Some (k, b) → ⊥
      other here = both_ways (n == k) apart (eq-eqb n k (ap (λ (p : ℕ × Addr). p.0) (some_is_some (n, a) (k, b) (sym bound ∙ here))))

  -- no name has the number any more
  none_less : IsFree less n
  none_less q b is =
      let had = had_more q n b is in
      let same : q ≡ name = differ q name n b a had.0 bound in
      both_ways (eq_by_cmp name_cmp q name) had.1 (subst (λ r. eq_by_cmp name_cmp q r ≡ true) same (ap is_eq (tied_itself names_total q)))

  -- the address under each number
  address_less : (k : ℕ) → address_at less k ≡ cond (n == k) None (address_at roots k)
  address_less k = by_case (n == k) refl
    where
      by_case : (c : Bool) → (n == k) ≡ c → address_at less k ≡ cond c None (address_at roots k)
      by_case true same = ap (address_at less) (sym (eqb-true n k same)) ∙ free_is_none less n none_less
      by_case false apart =
          same_options (address_at less k) (address_at roots k)
          (λ b is. let name_of = owner less k b is in addressed roots differ name_of.0 k b (had_more name_of.0 k b name_of.1).0)
          (λ b is. let name_of = owner roots k b is in addressed less differ_less name_of.0 k b (kept_less name_of.0 k b name_of.1 apart))

some_none : (id : ℕ) → None ≡ Some id → ⊥
some_none id is = cc

-- ---- the heap law

pub fewer_than : (b : Bool) (m most : ℕ) → m < most → cond b m (m + 1) ≤ most
fewer_than true m most less = omega arith
fewer_than false m most less = omega arith

no_more_than : (b : Bool) (m most : ℕ) → m ≤ most → cond b (m - 1) m ≤ most
no_more_than true m most few = omega arith
no_more_than false m most few = few

module _ (view : SpaceView) (name : List ℕ) (n : ℕ) (a : Addr) (law : HeapLaw view) (free : IsFree view.roots n) (unbound : get view.roots name ≡ None) (room : len view.roots < ROOTS) (may : MayStore (seen view) (Some a)) where
  abbrev bare : SpaceView
  bare = record view { roots = insert view.roots name (n, a) }

  abbrev t_bound : SpaceView
  t_bound = with_name view name n a

  reshaped_bound : IsReshaped view t_bound
  reshaped_bound = reshaped_news view bare (Root n) None (Some a) (reshaped_itself view bare refl refl refl refl refl refl refl)

  stored_none : stored view (Root n) ≡ None
  stored_none = free_is_none view.roots n free

  stored_bound : (y : RefSource) → stored t_bound y ≡ cond (same_source (Root n) y) (Some a) (stored view y)
  stored_bound (Root k) = address_more view.roots name n a law.named.numbers free unbound k
  stored_bound (Handle c r) = refl
  stored_bound (Field b i) = refl

  is_bound : IsSpread (seen view) (seen t_bound) (Root n) (Some a)
  is_bound = record {
    stored = stored_bound;
    aside = λ e. refl;
    look = λ b. refl;
    from = λ e. refl;
    effective = λ e y.
        (λ i. effective_in (get view.sets e) (get (told view.queues (barrier (is_aside view) (Root n) (sym stored_none i) (Some a))) e) y)
        ∙ effective_for view (Root n) (Some a) law.built law.tied refl may bare (λ e. refl) refl refl e y;
  }

  -- a name that is bound keeps the heap law
  pub name_keeps_law : HeapLaw t_bound
  name_keeps_law = record {
    built = built_still view t_bound reshaped_bound law.built;
    named = record {
      numbers = differ_more view.roots name n a law.named.numbers free unbound;
      few = subst (λ m. m ≤ ROOTS) (sym (len-insert names_total view.roots name (n, a))) (fewer_than (is_some (get view.roots name)) (len view.roots) ROOTS room);
      registers = law.named.registers;
    };
    tied = law_after_spread (seen view) (seen t_bound) (Root n) (Some a) law.tied is_bound refl may;
    phase = phase_still view t_bound reshaped_bound law.phase;
    anchor = anchor_still view t_bound reshaped_bound law.anchor;
  }

  module _ (world : World) (id : ℕ) (stands : Represents view world) (called : named_by view a ≡ Some id) (known : IsSome (get world.heap id)) where
    name_means : Means t_bound (naming world name id)
    name_means = record {
      roots = λ q.
          get-insert names_total world.roots name id q
          ∙ root_named (eq_by_cmp name_cmp q name) q
          ∙ ap (option_and_then (λ (bound : ℕ × Addr). named_by view bound.1)) (sym (get-insert names_total view.roots name (n, a) q))
          ∙ sym (λ i. option_and_then (λ (bound : ℕ × Addr). named_same view t_bound reshaped_bound bound.1 i) (get t_bound.roots q));
      registers = λ place. stands.registers place ∙ sym (names_same view t_bound reshaped_bound (get view.registers place));
      objects = λ b object it kept is found. stands.objects b object it kept is found ∙ sym (meaning_same view t_bound reshaped_bound object);
    }
      where
        root_named : (c : Bool) (q : List ℕ) → cond c (Some id) (get world.roots q) ≡ option_and_then (λ (bound : ℕ × Addr). named_by view bound.1) (cond c (Some (n, a)) (get view.roots q))
        root_named true q = sym called
        root_named false q = stands.roots q

    -- and the world has the name too
    pub name_stands : Represents t_bound (naming world name id)
    name_stands = stands_for t_bound (naming world name id) name_keeps_law name_means stands.next stands.given
        (λ b object kept is none.
        let old = stands.leftover b object kept is none in
        record {
          name = λ q named.
              ⊎_elim
              (λ (new : Some id ≡ Some object.id). apart_ids world.heap id object.id known none (let same : id ≡ object.id = cc in same))
              (λ (was : get world.roots q ≡ Some object.id). old.name q was)
              (cond_either (eq_by_cmp name_cmp q name) (Some id) (get world.roots q) (Some object.id) (sym (get-insert names_total world.roots name id q) ∙ named));
          register = old.register;
          field = old.field;
        })

module _ (view : SpaceView) (name : List ℕ) (n : ℕ) (a : Addr) (law : HeapLaw view) (bound : get view.roots name ≡ Some (n, a)) where
  abbrev rest : SpaceView
  rest = record view { roots = remove view.roots name }

  abbrev t_unbound : SpaceView
  t_unbound = without_name view name n a

  reshaped_unbound : IsReshaped view t_unbound
  reshaped_unbound = reshaped_news view rest (Root n) (Some a) None (reshaped_itself view rest refl refl refl refl refl refl refl)

  stored_some : stored view (Root n) ≡ Some a
  stored_some = addressed view.roots law.named.numbers name n a bound

  stored_unbound : (y : RefSource) → stored t_unbound y ≡ cond (same_source (Root n) y) None (stored view y)
  stored_unbound (Root k) = address_less view.roots name n a law.named.numbers bound k
  stored_unbound (Handle c r) = refl
  stored_unbound (Field b i) = refl

  is_unbound : IsSpread (seen view) (seen t_unbound) (Root n) None
  is_unbound = record {
    stored = stored_unbound;
    aside = λ e. refl;
    look = λ b. refl;
    from = λ e. refl;
    effective = λ e y.
        (λ i. effective_in (get view.sets e) (get (told view.queues (barrier (is_aside view) (Root n) (sym stored_some i) None)) e) y)
        ∙ effective_for view (Root n) None law.built law.tied refl tt rest (λ e. refl) refl refl e y;
  }

  -- a name that is unbound keeps the heap law
  pub unbinding_keeps_law : HeapLaw t_unbound
  unbinding_keeps_law = record {
    built = built_still view t_unbound reshaped_unbound law.built;
    named = record {
      numbers = differ_less view.roots name n a law.named.numbers bound;
      few = subst (λ m. m ≤ ROOTS) (sym (len-remove names_total view.roots name)) (no_more_than (is_some (get view.roots name)) (len view.roots) ROOTS law.named.few);
      registers = law.named.registers;
    };
    tied = law_after_spread (seen view) (seen t_unbound) (Root n) None law.tied is_unbound refl tt;
    phase = phase_still view t_unbound reshaped_unbound law.phase;
    anchor = anchor_still view t_unbound reshaped_unbound law.anchor;
  }

  module _ (world : World) (stands : Represents view world) where
    unbinding_means : Means t_unbound (unbinding world name)
    unbinding_means = record {
      roots = λ q.
          get-remove names_total world.roots name q
          ∙ root_named (eq_by_cmp name_cmp q name) q
          ∙ ap (option_and_then (λ (bound : ℕ × Addr). named_by view bound.1)) (sym (get-remove names_total view.roots name q))
          ∙ sym (λ i. option_and_then (λ (bound : ℕ × Addr). named_same view t_unbound reshaped_unbound bound.1 i) (get t_unbound.roots q));
      registers = λ place. stands.registers place ∙ sym (names_same view t_unbound reshaped_unbound (get view.registers place));
      objects = λ b object it kept is found. stands.objects b object it kept is found ∙ sym (meaning_same view t_unbound reshaped_unbound object);
    }
      where
        root_named : (c : Bool) (q : List ℕ) → cond c None (get world.roots q) ≡ option_and_then (λ (bound : ℕ × Addr). named_by view bound.1) (cond c None (get view.roots q))
        root_named true q = refl
        root_named false q = stands.roots q

    -- and the world does not have the name any more
    pub unbinding_stands : Represents t_unbound (unbinding world name)
    unbinding_stands = stands_for t_unbound (unbinding world name) unbinding_keeps_law unbinding_means stands.next stands.given
        (λ b object kept is none.
        let old = stands.leftover b object kept is none in
        record {
          name = λ q named.
              ⊎_elim
              (λ (no : None ≡ Some object.id). some_none object.id no)
              (λ (was : get world.roots q ≡ Some object.id). old.name q was)
              (cond_either (eq_by_cmp name_cmp q name) None (get world.roots q) (Some object.id) (sym (get-remove names_total world.roots name q) ∙ named));
          register = old.register;
          field = old.field;
        })
