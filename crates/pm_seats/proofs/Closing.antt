-- The engine that is given up, and what a pass has seen of it.
use Rattle.std.proofs.Common.{◌≡◌, ◌⊎◌, ℕ, ◌+◌, ◌≤◌, List, [], length, Some, None, Option as Opt, arith, refl, ap, sym, subst, ◌∙◌}
use Rattle.std.proofs.lemmas.List.{map-append}
use Rattle.pm_types.specs.declared.entry.Entry.{Entry}
use Rattle.pm_disk.specs.declared.disk.Disk.{Ghosts}
use Rattle.pm_model.specs.Journal.{IsFirstPart, IsLegal}
use Rattle.pm_saving.specs.Serving.{opening}
use Rattle.pm_engine.specs.declared.engine.Engine.{Engine}
use Rattle.pm_engine.specs.declared.events.stop.Stop.{Stop}
use Rattle.pm_engine.specs.Shown.{serving}
use Rattle.pm_engine.specs.Events.Events.{EngineGoesOn}
use Rattle.pm_passes.specs.declared.view.View.{View}
use Rattle.pm_passes.specs.Views.{IsOf, StartsWith, calls_by}
use Rattle.pm_seats.specs.declared.logbook.Logbook.{Logbook}
use Rattle.pm_seats.specs.Kept.{IsPaired}
use Rattle.pm_seats.specs.Shown.{callers_in, engine_in, first_in, log_in, next_in, numbers_in, struck_of}
use Rattle.pm_seats.specs.Sharing.{IsWholeEngine, entries_of}
use Rattle.pm_seats.proofs.Answered.{log_legal, second_parts}

pub first_part : (log front : List (ℕ × Entry)) → StartsWith log front → IsFirstPart (entries_of front) (entries_of log)
first_part log front starts = (entries_of starts.0, sym (ap (λ (l : List (ℕ × Entry)). entries_of l) starts.1 ∙ map-append (λ (x : ℕ × Entry). x.1) front starts.0))

-- no call was answered with a fault of the disk where the engine is not stopped
none_struck : (stopped : Opt ℕ) → stopped ≡ None → struck_of stopped ≡ 0
none_struck stopped is = ap struck_of is

not_stopped : (stopped : Opt ℕ) → struck_of stopped ≡ 0 → stopped ≡ None
not_stopped None is = refl
not_stopped (Some count) is = absurd (omega (arith, is))

module _ {D : Type 0} {F : Type 0} {g : Ghosts D} (first : Engine D F g) (book : Logbook D F g) (now : Engine D F g) (is : now ≡ engine_in book) (paired : IsPaired (callers_in book) (serving (engine_in book)).journal (next_in book)) where
  entries_are : entries_of (log_in book) ≡ (serving now).journal
  entries_are = second_parts (callers_in book) (serving (engine_in book)).journal paired.each ∙ ap (λ (e : Engine D F g). (serving e).journal) (sym is)

  pub closes_legal : (stop : Opt Stop) → first_in book ≡ first → ∥ EngineGoesOn (first_in book) (engine_in book) stop ∥₁ → IsLegal (opening (serving (engine_in book))) (serving (engine_in book)).journal → IsLegal (opening (serving first)) (serving now).journal
  closes_legal stop tied goes legal = subst (λ (l : List Entry). IsLegal (opening (serving first)) l) entries_are (log_legal first book stop tied goes legal paired.each)

  pub closes_first : (front : List (ℕ × Entry)) → StartsWith (log_in book) front → IsFirstPart (entries_of front) (serving now).journal
  closes_first front starts = subst (λ (l : List Entry). IsFirstPart (entries_of front) l) entries_are (first_part (log_in book) front starts)

  pub closes_whole : (v : View Entry) → log_in book ≡ v.front → (numbers_in book).made ≡ v.made → (numbers_in book).flushed ≡ v.flushed → (numbers_in book).struck ≡ v.struck → ((n : ℕ) → (calls_by n v.front ≡ []) ⊎ IsOf v n)
      → length (serving (engine_in book)).journal + (serving (engine_in book)).steps ≤ (serving (engine_in book)).events → IsWholeEngine v now
  closes_whole v log made flushed struck covers counted = subst (IsWholeEngine v) (sym is) (record {
    journal = sym (second_parts (callers_in book) (serving (engine_in book)).journal paired.each) ∙ ap (λ (l : List (ℕ × Entry)). entries_of l) log;
    steps = made;
    events = omega (arith, made, flushed, counted);
    struck = λ none. sym struck ∙ none_struck (serving (engine_in book)).stopped none;
    stopped = λ none. not_stopped (serving (engine_in book)).stopped (struck ∙ none);
    covers = covers;
  })
