-- What tries that were interrupted, and the one behind them, say together.
use Rattle.std.proofs.Common.{◌≡◌, ◌∙◌, ℕ, ◌+◌, ◌≤◌, Option, Some, None, inl, inr, refl, sym, ap, subst, arith, option_map}
use Rattle.pm_types.specs.Counts.{greatest_count}
use Rattle.pm_io.specs.Tries.{Tries, failed_once, interrupted_more, NoneFailed, ShowsFault}

-- so many calls were interrupted, and where that is told nothing else changed
abbrev pub OnlyInterrupted : ℕ → Option Tries → Option Tries → Type 0
OnlyInterrupted many before after = after ≡ option_map (interrupted_more many) before

-- tries of which so many were interrupted
abbrev told : Tries → ℕ → Option Tries
told before many = Some (record { failed = before.failed; interrupted = many })

-- none was yet
pub none_interrupted : (tries : Option Tries) → OnlyInterrupted 0 tries tries
none_interrupted None = refl
none_interrupted (Some before) =
    let same : before.interrupted ≡ before.interrupted + 0 = omega arith in ap (told before) same

-- one more was
pub one_interrupted : (many : ℕ) (before now after : Option Tries) → OnlyInterrupted many before now → after ≡ option_map (interrupted_more 1) now
    → OnlyInterrupted (many + 1) before after
one_interrupted many None now after so_far once = once ∙ ap (option_map (interrupted_more 1)) so_far
one_interrupted many (Some before) now after so_far once =
    let sum : before.interrupted + many + 1 ≡ before.interrupted + (many + 1) = omega arith in
    once ∙ ap (option_map (interrupted_more 1)) so_far ∙ ap (told before) sum

-- where calls were interrupted and no more, none failed
pub only_interrupted : (many : ℕ) (before after : Option Tries) → OnlyInterrupted many before after → NoneFailed before after
only_interrupted many None after so_far = tt
only_interrupted many (Some before) after so_far = subst (NoneFailed (Some before)) (sym so_far) (refl, omega arith)

-- a call that failed behind them is the cause of a fault
pub one_failed : (many : ℕ) (before now after : Option Tries) → OnlyInterrupted many before now → after ≡ option_map failed_once now → ShowsFault before after
one_failed many None now after so_far once = tt
one_failed many (Some before) now after so_far once =
    subst (ShowsFault (Some before)) (sym (once ∙ ap (option_map failed_once) so_far)) (inl refl)

-- and so are as many that were interrupted as a count has numbers
pub too_often : (many : ℕ) (before after : Option Tries) → greatest_count ≤ many → OnlyInterrupted many before after → ShowsFault before after
too_often many None after enough so_far = tt
too_often many (Some before) after enough so_far = subst (ShowsFault (Some before)) (sym so_far) (inr (omega (arith, enough)))

-- where none failed, and none behind them, none failed of them all
pub none_failed_more : (before now after : Option Tries) → NoneFailed before now → NoneFailed now after → NoneFailed before after
none_failed_more None now after first then = tt
none_failed_more (Some before) None after first then = absurd first
none_failed_more (Some before) (Some now) None first then = absurd then
none_failed_more (Some before) (Some now) (Some after) first then = (then.0 ∙ first.0, omega (arith, first.1, then.1))

-- what is the cause of a fault behind calls of which none failed is the cause of it over them all
pub shown_behind : (before now after : Option Tries) → NoneFailed before now → ShowsFault now after → ShowsFault before after
shown_behind None now after first then = tt
shown_behind (Some before) None after first then = absurd first
shown_behind (Some before) (Some now) None first then = absurd then
shown_behind (Some before) (Some now) (Some after) first (inl failed) = inl (omega (arith, first.0, failed))
shown_behind (Some before) (Some now) (Some after) first (inr often) = inr (omega (arith, first.1, often))
