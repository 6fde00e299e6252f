-- What stays while pages are claimed, kept, written and given up.
use Rattle.std.proofs.Common.{◌≡◌, ℕ, true, false, List, Option, None, ap, subst, ◌∙◌, arith}
use Rattle.std.specs.List.{AllByRecursion}
use Rattle.pm_image.specs.declared.settled.KeptPage.{KeptPage}
use Rattle.pm_image.specs.Opening.{is_open}
use Rattle.pm_shadow.specs.Uses.{is_next}
use Rattle.pm_shadow.specs.State.{State, IsIdle, other}
use Rattle.pm_shadow.specs.Images.{Heads, Holds}
use Rattle.pm_shadow.specs.Copies.{KeepsSamePages}
use Rattle.pm_shadow.proofs.CopyLemmas.{held_keeps, keeps_still}
use Rattle.pm_law_copies.proofs.GraphsLemmas.Lists.{all_follow}
use Rattle.pm_saving.specs.Tied.{AreItsPages, AreSettled, IsOnPage}

pub still_settled : (settled : List KeptPage) (s t : State) (bytes : List ℕ) → KeepsSamePages s t → AreSettled settled s bytes → AreSettled settled t bytes
still_settled settled s t bytes same are = record { graph = are.graph; keeps = keeps_still s t bytes are.graph same are.keeps; cars = are.cars }

-- in an image that holds the current copy
pub held_settled : (settled : List KeptPage) (s : State) (bytes image : List ℕ) → Holds s bytes image → AreSettled settled s bytes → AreSettled settled s image
held_settled settled s bytes image held are = record { graph = are.graph; keeps = held_keeps s bytes image are.graph are.keeps held; cars = are.cars }

pub still_on_pages : (settled : List KeptPage) (s t : State) → KeepsSamePages s t → AllByRecursion (IsOnPage s) settled → AllByRecursion (IsOnPage t) settled
still_on_pages settled s t same on =
    all_follow (IsOnPage s) (IsOnPage t) settled (λ kept is. record { from_2 = is.from_2; keeps = same.kept kept.page ∙ is.keeps }) on

-- where nothing is claimed or kept
pub idle_pages : (s : State) (contents : Option (List ℕ)) → IsIdle s → AreItsPages None s contents
idle_pages s contents idle = record {
  claimed = λ page is. let here : is_next (s.uses page) ≡ true = ap is_next is in let none = idle page in absurd (cc (here, none));
  written = tt;
  apart = λ number. omega arith;
  read = tt;
  kept = λ page is. let here : is_next (s.uses page) ≡ true = ap is_next is in let none = idle page in absurd (cc (here, none));
  are_kept = tt;
}

-- what holds the current copy as one state knows it does so as the other does
pub held_same : (s t : State) (bytes image : List ℕ) → KeepsSamePages s t → t.closed ≡ s.closed → Holds t bytes image → Holds s bytes image
held_same s t bytes image same closed held = record {
  heads = subst (λ (slot : ℕ). Heads image slot s.header) same.slot (subst (Heads image t.slot) same.header held.heads);
  shut = λ is. subst (λ (slot : ℕ). is_open image (other slot) ≡ false) same.slot (held.shut (closed ∙ is));
  outdone = λ is. held.outdone (closed ∙ is) ∙ same.slot;
  pages = λ page kept low there. held.pages page (same.kept page ∙ kept) low (let settled = same.settled in omega (arith, settled, there));
}
