-- Engines with a nursery that go on, and what never comes in.
use Rattle.std.proofs.Common.{◌≡◌, ⊎_elim, inl, inr, ℕ, ◌<◌, ◌≤◌, true, false, List, [], ◌++◌, Option, Some, None, refl, sym, ap, subst, ◌∙◌, arith, append_assoc, append-nil}
use Rattle.std.specs.Option.{IsSome}
use Rattle.std.specs.FinMap.{get}
use Rattle.std.proofs.Math.Logic.{∥∥₁_elim}
use mathlib.Core.HLevel.{⊥_prop}
use Rattle.pm_disk.specs.declared.disk.Disk.{Ghosts}
use Rattle.pm_model.specs.Heap.{Object}
use Rattle.pm_view.specs.View.{SpaceView}
use Rattle.pm_nursery.specs.Sweeping.{among}
use Rattle.pm_young.specs.declared.engine.YoungEngine.{YoungEngine}
use Rattle.pm_young.specs.Calls.{MayEnterLater, YoungGoesOn}
use Rattle.pm_young.specs.Entering.{IsPresent}
use Rattle.pm_young.specs.Seen.{entered_in, serving, young_in}
use Rattle.pm_young.proofs.Listed.{among_both}

over : (a b c : ℕ) → a ≤ b → b ≤ c → a ≤ c
over a b c one two = omega (arith, one, two)

never_none : (o : Option Object) → o ≡ None → IsSome o → ⊥
never_none None none is = cc is
never_none (Some x) none is = cc none

module _ {D : Type 0} {F : Type 0} {g : Ghosts D} where
  pub goes_nowhere : (it : YoungEngine D F g) → YoungGoesOn it it
  goes_nowhere it = record {
    opened = refl;
    more = [];
    entered = sym (append-nil (entered_in it));
    late = λ id never. absurd (cc never);
    young = λ id is. inl is;
    next = omega arith;
  }

  before : (one two : YoungEngine D F g) → YoungGoesOn one two → (id : ℕ) → MayEnterLater two id → MayEnterLater one id
  before one two goes id may =
      ⊎_elim
      (λ (young : IsSome (get (young_in two).objects id)). goes.young id young)
      (λ (late : (serving two).view.next ≤ id). inr (over (serving one).view.next (serving two).view.next id goes.next late))
      may

  pub goes_further : (one two three : YoungEngine D F g) → YoungGoesOn one two → YoungGoesOn two three → YoungGoesOn one three
  goes_further one two three a b = record {
    opened = b.opened ∙ a.opened;
    more = a.more ++ b.more;
    entered = b.entered ∙ ap (λ (xs : List ℕ). xs ++ b.more) a.entered ∙ append_assoc (entered_in one) a.more b.more;
    late = λ id is. ⊎_elim (λ first. a.late id first) (λ second. before one two a id (b.late id second)) (among_both a.more b.more id is);
    young = λ id is. before one two a id (b.young id is);
    next = over (serving one).view.next (serving two).view.next (serving three).view.next a.next b.next;
  }

  -- what was given, and neither is young nor entered, comes into no car
  pub never_comes : (it later : YoungEngine D F g) (id : ℕ) → YoungGoesOn it later → id < (serving it).view.next → get (young_in it).objects id ≡ None → among (entered_in it) id ≡ false
      → (IsPresent (serving it).opened id → ⊥) → IsPresent (serving later).view id → ⊥
  never_comes it later id goes given none out apart here = ∥∥₁_elim later.comes_in ⊥_prop (λ keeps.
      ⊎_elim
      (λ was. apart (subst (λ (v : SpaceView). IsPresent v id) goes.opened was))
      (λ entered.
      ⊎_elim
      (λ before. cc (before, out))
      (λ more. ⊎_elim
      (λ (young : IsSome (get (young_in it).objects id)). never_none (get (young_in it).objects id) none young)
      (λ (late : (serving it).view.next ≤ id). omega (arith, late, given))
      (goes.late id more))
      (among_both (entered_in it) goes.more id (subst (λ (xs : List ℕ). among xs id ≡ true) goes.entered entered)))
      (keeps.present id here))
