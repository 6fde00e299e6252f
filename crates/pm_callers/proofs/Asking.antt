-- The tasks of all that lines ask.
use Rattle.std.proofs.Common.{◌≡◌, ◌≢◌, ℕ, suc, zero, ◌+◌, ◌<◌, ◌≤◌, Bool, true, false, if◌then◌else◌, nat_eq, List, [], ◌∷◌, ◌++◌, map, length, arith, refl, ap, sym, subst, ◌∙◌}
use Rattle.std.specs.List.{AllByRecursion}
use Rattle.std.specs.VecDeque.{deque_items}
use Rattle.std.specs.declared.collections.VecDeque.{VecDeque}
use Rattle.std.specs.declared.alloc.Global.{Global}
use Rattle.std.proofs.lemmas.List.{append-nil}
use Rattle.pm_types.specs.declared.command.Cmd.{Cmd}
use Rattle.pm_model.specs.Journal.{commands_of}
use Rattle.pm_script.specs.declared.line.Line.{Line}
use Rattle.pm_script.specs.Parted.Asked.{events_asked, flushes_asked, requests_asked, steps_asked}
use Rattle.pm_script.specs.Parted.Lists.{list_of}
use Rattle.pm_seats.specs.declared.limits.TheConstants.{LAST_EVENT}
use Rattle.pm_callers.specs.declared.task.Task.{Task}
use Rattle.pm_callers.specs.declared.task.Task.TheVariants.{Collector, Flusher}
use Rattle.pm_callers.specs.Tasks.{AreApart, IsTask, calls_left, client_tasks, collects_left, flushes_left, who_of}
use Rattle.pm_callers.specs.Runs.{AreAsked}

abbrev Lists : Type 0
Lists = List (VecDeque Cmd Global)

eq-true : (a b : ℕ) → a ≡ b → nat_eq a b ≡ true
eq-true a b is = grind (arith, is)

eq-false : (a b : ℕ) → (a ≡ b → ⊥) → nat_eq a b ≡ false
eq-false a b apart = grind (arith, apart)

module _ (collects flushes : ℕ) where
  abbrev others : List Task
  others = Collector collects ∷ Flusher flushes ∷ []

  abbrev all_from : ℕ → Lists → List Task
  all_from k lists = client_tasks k lists ++ others

  long : (k : ℕ) (lists : Lists) → length (all_from k lists) ≡ length lists + 2
  long k [] = refl
  long k (q ∷ lists) = let rest = long (suc k) lists in omega (arith, rest)

  are_tasks : (k : ℕ) (lists : Lists) → k + length lists ≤ 8 → AllByRecursion IsTask (all_from k lists)
  are_tasks k [] few = (tt, (tt, tt))
  are_tasks k (q ∷ lists) few = (omega (arith, few), are_tasks (suc k) lists (omega (arith, few)))

  others_than : (j k : ℕ) (lists : Lists) → j < k → k + length lists ≤ 8 → AllByRecursion (λ (other : Task). j ≢ who_of other) (all_from k lists)
  others_than j k [] less few = ((λ is. omega (arith, less, few, is)), ((λ is. omega (arith, less, few, is)), tt))
  others_than j k (q ∷ lists) less few = ((λ is. omega (arith, less, is)), others_than j (suc k) lists (omega (arith, less)) (omega (arith, few)))

  are_apart : (k : ℕ) (lists : Lists) → k + length lists ≤ 8 → AreApart (all_from k lists)
  are_apart k [] few = (((λ is. omega (arith, is)), tt), (tt, tt))
  are_apart k (q ∷ lists) few = (others_than k (suc k) lists (omega arith) (omega (arith, few)), are_apart (suc k) lists (omega (arith, few)))

  no_calls : (client k : ℕ) (lists : Lists) → client < k → calls_left client (all_from k lists) ≡ []
  no_calls client k [] less = refl
  no_calls client k (q ∷ lists) less =
      (λ i. ap (λ (b : Bool). if b then deque_items q else []) (eq-false k client (λ is. omega (arith, less, is))) i ++ no_calls client (suc k) lists (omega (arith, less)) i)

  their_calls : (client k j : ℕ) (lists : Lists) → client ≡ k + j → calls_left client (all_from k lists) ≡ list_of (map deque_items lists) j
  their_calls client k j [] is = refl
  their_calls client k zero (q ∷ lists) is =
      (λ i. ap (λ (b : Bool). if b then deque_items q else []) (eq-true k client (omega (arith, is))) i ++ no_calls client (suc k) lists (omega (arith, is)) i) ∙ append-nil (deque_items q)
  their_calls client k (suc j) (q ∷ lists) is =
      (λ i. ap (λ (b : Bool). if b then deque_items q else []) (eq-false k client (λ same. omega (arith, is, same))) i ++ their_calls client (suc k) j lists (omega (arith, is)) i)

  all_collects : (k : ℕ) (lists : Lists) → collects_left (all_from k lists) ≡ collects
  all_collects k [] = omega arith
  all_collects k (q ∷ lists) = let rest = all_collects (suc k) lists in omega (arith, rest)

  all_flushes : (k : ℕ) (lists : Lists) → flushes_left (all_from k lists) ≡ flushes
  all_flushes k [] = omega arith
  all_flushes k (q ∷ lists) = let rest = all_flushes (suc k) lists in omega (arith, rest)

pub are_asked : (lines : List Line) (tasks : List Task) (lists : Lists) (collects flushes : ℕ) → tasks ≡ client_tasks 0 lists ++ Collector collects ∷ Flusher flushes ∷ [] → length lists ≡ 8
    → ((client : ℕ) → list_of (map deque_items lists) client ≡ commands_of client (requests_asked lines)) → collects ≡ steps_asked lines → flushes ≡ flushes_asked lines → events_asked lines < LAST_EVENT → AreAsked lines tasks
are_asked lines tasks lists collects flushes is eight each steps flushed few =
    subst (AreAsked lines) (sym is) (record {
      ten = let l = long collects flushes 0 lists in omega (arith, l, eight);
      are = are_tasks collects flushes 0 lists (omega (arith, eight));
      apart = are_apart collects flushes 0 lists (omega (arith, eight));
      calls = λ client. their_calls collects flushes client 0 client lists (omega arith) ∙ each client;
      collects = all_collects collects flushes 0 lists ∙ steps;
      flushes = all_flushes collects flushes 0 lists ∙ flushed;
      few = few;
    })
