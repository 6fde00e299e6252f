-- What a pass knows once it has given the logbook back.
use Rattle.std.proofs.Common.{◌≡◌, ℕ, suc, ◌+◌, ◌-◌, false, List, [], ◌∷◌, ◌++◌, Some, None, Option as Opt, arith, refl, ap, sym, ◌∙◌}
use Rattle.pm_types.specs.declared.entry.Entry.{Entry}
use Rattle.pm_passes.specs.declared.view.Numbers.{Numbers}
use Rattle.pm_passes.specs.declared.view.View.{View}
use Rattle.pm_passes.specs.Views.{HasOwn, HasOwnIn, entered, given, given_telling}

abbrev pub Log : Type 0
Log = List (ℕ × Entry)

abbrev pub V : Type 0
V = View Entry

-- a pass that gave the logbook back, of which these numbers are counted now
abbrev pub changed : V → Log → List Entry → ℕ → ℕ → ℕ → Numbers → Numbers → V
changed v all mine faults events next was now = record v {
  holds = false;
  front = all;
  mine = mine;
  made = v.made + (now.made - was.made);
  flushed = v.flushed + (now.flushed - was.flushed);
  struck = v.struck + (now.struck - was.struck);
  faults = faults;
  events = events;
  all = all;
  next = next;
  was = was;
}

-- what it knows then, by what it counted
pub told_as : (v w : V) (all : Log) (mine : List Entry) (faults events next : ℕ) (was now : Numbers) (made flushed struck : ℕ) → v.holds ≡ false → w ≡ changed v all mine faults events next was now
    → v.made + (now.made - was.made) ≡ made → v.flushed + (now.flushed - was.flushed) ≡ flushed → v.struck + (now.struck - was.struck) ≡ struck
    → w ≡ record v { front = w.front; mine = mine; made = made; flushed = flushed; struck = struck; faults = faults; events = events; all = w.all; next = w.next; was = w.was }
told_as v w all mine faults events next was now made flushed struck free is a b c =
    is ∙ (λ i. record v {
      holds = sym free i;
      front = sym (ap (λ (u : V). u.front) is) i;
      mine = mine;
      made = a i;
      flushed = b i;
      struck = c i;
      faults = faults;
      events = events;
      all = sym (ap (λ (u : V). u.all) is) i;
      next = sym (ap (λ (u : V). u.next) is) i;
      was = sym (ap (λ (u : V). u.was) is) i;
    })

-- what it counted stays where nothing was counted
pub same_count : (count now was : ℕ) → now ≡ was → count + (now - was) ≡ count
same_count count now was is = omega (arith, is)

pub one_count : (count now was : ℕ) → now ≡ suc was → count + (now - was) ≡ suc count
one_count count now was is = omega (arith, is)

-- what it has made it has still
pub own_given : (v : V) (now : Numbers) → HasOwnIn v v.all → HasOwn (given v now)
own_given v now own = record { mine = own.mine; ended = own.ended; other = own.other; apart = own.apart }

pub own_telling : (v : V) (now : Numbers) → HasOwnIn v v.all → HasOwn (given_telling v now)
own_telling v now own = record { mine = own.mine; ended = own.ended; other = own.other; apart = own.apart }

pub own_entered : (v : V) (entry : Entry) (now : Numbers) → HasOwn (entered v entry) → HasOwn (given (entered v entry) now)
own_entered v entry now own = record { mine = own.mine; ended = own.ended; other = own.other; apart = own.apart }

module _ {X : Type 0} where
  abbrev or_else : X → Opt X → X
  or_else d None = d
  or_else d (Some x) = x

  abbrev slot_of : X → List (ℕ × Opt X) → X
  slot_of d [] = d
  slot_of d (x ∷ xs) = or_else d x.1

  -- what a seat has is one thing
  pub held_same : (a b : X) (slots : List (ℕ × Opt X)) → slots ≡ (0, Some a) ∷ [] → slots ≡ (0, Some b) ∷ [] → a ≡ b
  held_same a b slots p q = sym (ap (slot_of a) p) ∙ ap (slot_of a) q

  pub held_first : (a b : X) (slots more : List (ℕ × Opt X)) → slots ≡ (0, Some a) ∷ [] → slots ≡ (0, Some b) ∷ more → a ≡ b
  held_first a b slots more p q = sym (ap (slot_of a) p) ∙ ap (slot_of a) q

  abbrev last_of : X → List X → X
  last_of d [] = d
  last_of d (x ∷ []) = x
  last_of d (x ∷ y ∷ ys) = last_of d (y ∷ ys)

  last_is : (d : X) (xs : List X) (x : X) → last_of d (xs ++ x ∷ []) ≡ x
  last_is d [] x = refl
  last_is d (y ∷ []) x = refl
  last_is d (y ∷ z ∷ zs) x = last_is d (z ∷ zs) x

  -- two lists with one more are the same one
  pub same_last : (xs : List X) (x y : X) → xs ++ x ∷ [] ≡ xs ++ y ∷ [] → x ≡ y
  same_last xs x y is = sym (last_is x xs x) ∙ ap (last_of x) is ∙ last_is x xs y
