-- Pages of a standby that are known now.
use Rattle.std.proofs.Common.{◌≡◌, ℕ, true, false, List, ap, sym, subst, ◌∙◌}
use Rattle.pm_shadow.specs.State.{IsIdle, State, abandoned_in, known_by}
use Rattle.pm_shadow.specs.Uses.{UsesOnlyListed}
use Rattle.pm_shadow.proofs.CopyLemmas.{abandoned_idle, listed_idle}
use Rattle.pm_ship.specs.Stores.{IsKnownFrom}

-- what was claimed or kept was given up
pub abandoned_known : (s t : State) → t ≡ abandoned_in s → s.known ≡ true → IsKnownFrom s t
abandoned_known s t is now = record {
  known = ap (λ (u : State). u.known) is ∙ now;
  idle = subst IsIdle (sym is) (abandoned_idle s);
  first = λ none. absurd (cc (now, none));
  again = λ same. is;
}

-- they were listed
pub listed_known : (pages : List ℕ) (s t : State) → t ≡ known_by s t.uses → s.known ≡ false → UsesOnlyListed pages t.uses → IsKnownFrom s t
listed_known pages s t is none listed = record {
  known = ap (λ (u : State). u.known) is;
  idle = listed_idle pages t.uses listed;
  first = λ same. is;
  again = λ now. absurd (cc (now, none));
}
