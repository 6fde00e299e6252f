-- That a book with nothing left has made all that its lines ask.
use Rattle.std.proofs.Common.{◌≡◌, ℕ, ◌+◌, ◌<◌, arith, List, [], ◌∷◌, ◌++◌, length, refl, ap, sym, subst, ◌∙◌}
use Rattle.std.specs.List.{AllByRecursion}
use Rattle.std.proofs.lemmas.List.{append-nil}
use native.Mathlib.Decide.{dec_lt}
use Rattle.pm_types.specs.declared.limits.TheConstants.{CLIENTS}
use Rattle.pm_types.specs.declared.command.Cmd.{Cmd}
use Rattle.pm_disk.specs.declared.disk.Disk.{Ghosts}
use Rattle.pm_model.specs.Journal.{commands_of, part}
use Rattle.pm_script.specs.declared.line.Line.{Line}
use Rattle.pm_script.specs.declared.line.Line.TheVariants.{Client, Gc, Flush}
use Rattle.pm_script.specs.Script.{AreLines, first_of}
use Rattle.pm_script.specs.Words.{IsFirst}
use Rattle.pm_script.specs.Parted.Asked.{flushes_asked, request_of, requests_asked, steps_asked}
use Rattle.pm_script.specs.Parted.Lists.{list_of}
use Rattle.pm_script.proofs.PartedLemmas.Parting.{commands_both, commands_elsewhere}
use Rattle.pm_turns.specs.declared.limits.TheConstants.{WORKERS}
use Rattle.pm_engine.specs.Shown.{serving}
use Rattle.pm_lock.specs.declared.book.Book.{Book}
use Rattle.pm_lock.specs.declared.workers.TheConstants.{COLLECTOR, FLUSHER}
use Rattle.pm_lock.specs.Shown.{collects_in, engine_in, flushes_in, left_in, lines_in}
use Rattle.pm_lock.specs.Turns.{HasNothing}
use Rattle.pm_lock.specs.Crew.Whole.{MakesAllOf}

-- who is no client asks nothing
none_of_line : (line : Line) (client : ℕ) → IsFirst (first_of line) → (client < CLIENTS → ⊥) → commands_of client (request_of line) ≡ []
none_of_line (Client who cmd) client is beyond = commands_elsewhere client who cmd (λ same. beyond (subst (λ (k : ℕ). k < CLIENTS) same is))
none_of_line (Gc count) client is beyond = refl
none_of_line (Flush count) client is beyond = refl

none_asked : (lines : List Line) (client : ℕ) → AllByRecursion (λ line. IsFirst (first_of line)) lines → (client < CLIENTS → ⊥) → commands_of client (requests_asked lines) ≡ []
none_asked [] client are beyond = refl
none_asked (line ∷ lines) client are beyond =
    commands_both client (request_of line) (requests_asked lines)
    ∙ (λ i. none_of_line line client are.0 beyond i ++ none_asked lines client are.1 beyond i)

-- what is in front of nothing is nothing
no_front : (front back : List Cmd) → front ++ back ≡ [] → front ≡ []
no_front [] back none = refl
no_front (cmd ∷ front) back none = absurd (cc none)

module _ {D : Type 0} {F : Type 0} {g : Ghosts D} (book : Book D F g) (lines : List Line) (same : lines_in book ≡ lines) (are : AreLines (lines_in book)) (nothing : (who : ℕ) → who < WORKERS → HasNothing who book)
    (parts : (client : ℕ) → part client (serving (engine_in book)).journal ++ list_of (left_in book) client ≡ commands_of client (requests_asked (lines_in book))) where
  served : (client : ℕ) → part client (serving (engine_in book)).journal ≡ commands_of client (requests_asked (lines_in book))
  served client = by (dec_lt client CLIENTS)
    where
      by : Dec (client < CLIENTS) → part client (serving (engine_in book)).journal ≡ commands_of client (requests_asked (lines_in book))
      by (yes less) =
          let none = (nothing client (omega (arith, less))).client less in
          sym (append-nil (part client (serving (engine_in book)).journal)) ∙ ap (λ (l : List Cmd). part client (serving (engine_in book)).journal ++ l) (sym none) ∙ parts client
      by (no beyond) =
          let none = none_asked (lines_in book) client are.clients beyond in
          no_front (part client (serving (engine_in book)).journal) (list_of (left_in book) client) (parts client ∙ none) ∙ sym none

  -- nothing is left
  pub made_all : (serving (engine_in book)).steps + collects_in book ≡ steps_asked (lines_in book)
      → (serving (engine_in book)).events + flushes_in book ≡ length (serving (engine_in book)).journal + (serving (engine_in book)).steps + flushes_asked (lines_in book) → MakesAllOf lines (serving (engine_in book))
  made_all steps events =
      let collects = (nothing COLLECTOR (omega arith)).collector refl in
      let flushes = (nothing FLUSHER (omega arith)).flusher refl in
      subst (λ (l : List Line). MakesAllOf l (serving (engine_in book))) same (record {
        serves = served;
        steps = omega (arith, steps, collects);
        events = omega (arith, steps, collects, events, flushes);
      })
