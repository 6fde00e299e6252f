-- What a run does to disk and sink, from its parts.
use Rattle.std.proofs.Common.{◌≡◌, ℕ, ◌<◌, List, [], Option, Some, None, IsSome, refl, sym, subst, arith}
use Rattle.std.specs.Prelude.{IfSome, IfNone}
use Rattle.pm_disk.specs.declared.disk.Disk as disk
use Rattle.pm_io.specs.declared.source.Source as source
use Rattle.pm_io.specs.declared.sink.Sink as sink
use Rattle.pm_model.specs.Journal.{commands_of}
use Rattle.pm_model.specs.Text.{text}
use Rattle.pm_script.specs.declared.line.Line.{Line}
use Rattle.pm_model.specs.World.{begin}
use Rattle.pm_image.specs.Stands.{StandsForCopy}
use Rattle.pm_engine.specs.declared.tally.Tally.{Tally}
use Rattle.pm_engine.specs.Shown.{tally_of}
use Rattle.pm_script.specs.Parted.Asked.{requests_asked}
use Rattle.pm_serial.specs.Writing.{tail_of}
use Rattle.pm_runs.specs.declared.ends.ended.Detail.{Detail}
use Rattle.pm_runs.specs.declared.ends.ended.Alone.{Alone as Ended}
use Rattle.pm_runs.specs.declared.writes.Writes.{Writes}
use Rattle.pm_runs.specs.Ends.Ends.{stop_in}
use Rattle.pm_runs.specs.Ends.Stages.{IsPast, unreached, the_words, the_store, the_events, the_output}
use Rattle.pm_runs.specs.Ends.Journals.{FollowsLines, IsBegun, IsShortRun, ServesInOrder, ServesLines}
use Rattle.pm_runs.specs.Ends.Disks.{LeavesDisk, SyncsAtMost}
use Rattle.pm_runs.specs.declared.way.Way.{Way}
use Rattle.pm_runs.specs.declared.way.Way.TheVariants.{Turns, Passes}
use Rattle.pm_runs.specs.Threads.Ordered.{EndsInSomeOrder, ServesInSomeOrder}
use Rattle.pm_runs.specs.Threads.Together.{IsToldScript, ServesBy, ServesByPasses, ServesInTurns, ServesTogether}
use Rattle.pm_types.specs.declared.entry.Entry.{Entry}
use Rattle.pm_runs.specs.Ends.Tallies.{ComesTo, IsOfEngine}
use Rattle.pm_runs.specs.Wrote.{Wrote}
use Rattle.pm_runs.specs.Runs.{RunsBy, RunsStore, RunsTogether}
use Rattle.pm_serial.proofs.Cutting.{on_stop}
use Rattle.pm_runs.proofs.EndsLemmas.Parts.{with_parts}
use Rattle.pm_runs.proofs.Ran.{none_begun}

-- what holds anyway holds of a tally
pub if_there : {A : Type 0} (tally : Option Tally) → A → IfSome tally (λ it. A)
if_there None a = tt
if_there (Some tally) a = a

module _ {D S K : Type 0} (d : disk.Ghosts D) (k : sink.Ghosts K) where
  -- no store was opened
  pub store_unrun : {F : Type 0} (place : F) (writes : Writes) (start end : D) (source : S) (sink : K) (it : Ended D S K) (detail : Detail) → it.journal.items ≡ []
      → (IsPast the_store detail → ⊥) → LeavesDisk d start end detail [] → SyncsAtMost d start end
      → RunsStore d k place writes start sink (with_parts it detail None None end source sink)
  store_unrun place writes start end source sink it detail empty undone leaves synced = record {
    begun = subst IsBegun (sym empty) none_begun;
    none = empty;
    stands = λ there. absurd (cc there);
    tallies = record {
      opened = λ past. absurd (undone past);
      unopened = λ before. refl;
      comes_to = tt;
    };
    no_young = refl;
    leaves = subst (LeavesDisk d start end detail) (sym empty) leaves;
    synced = synced;
    quiet = refl;
    replies = tt;
  }

  -- lines were run
  pub store_run : {F : Type 0} (place : F) (writes : Writes) (disk : D) (sink : K) (it : Ended D S K) (begun : IsBegun it.journal.items) → the_events < unreached it.detail
      → IsSome it.tally → it.young ≡ None → ((bytes : List ℕ) → d.contents disk ≡ Some bytes → StandsForCopy bytes begun.number begun.copy)
      → IfSome it.tally (λ tally. ComesTo (IsOfEngine d place disk it.disk) (begin begun.number begun.copy) it.journal.items (tally_of tally))
      → LeavesDisk d disk it.disk it.detail it.journal.items
      → IfSome it.tally (λ tally. Wrote k writes sink it.sink (text it.journal.items) (tail_of (tally_of tally)) (stop_in it.detail))
      → RunsStore d k place writes disk sink it
  store_run place writes disk sink it begun late there no_young stands comes leaves replies = record {
    begun = begun;
    none = told (it.journal.items ≡ []) it.tally there;
    stands = λ is. stands;
    tallies = record { opened = λ past. there; unopened = λ before. absurd (omega (arith, before, late)); comes_to = comes };
    no_young = no_young;
    leaves = leaves;
    synced = told (SyncsAtMost d disk it.disk) it.tally there;
    quiet = told (it.sink ≡ sink) it.tally there;
    replies = replies;
  }
    where
      told : (A : Type 0) (tally : Option Tally) → IsSome tally → IfNone tally A
      told A None is = absurd (cc is)
      told A (Some tally) is = tt

-- no line was served
pub serves_none : (lines : List Line) (detail : Detail) → IsPast the_words detail → the_store < unreached detail → (IsPast the_output detail → ⊥) → ServesLines lines detail [] None
serves_none lines detail ends tried undone = record {
  ends = ends;
  tried = tried;
  parts = λ client. (commands_of client (requests_asked lines), refl);
  serves = λ past. absurd (undone past);
  long = λ past. absurd (undone past);
  steps = λ past. tt;
  events = λ past. tt;
}

follows_none : (lines : List Line) (detail : Detail) → (IsPast the_output detail → ⊥) → FollowsLines lines detail [] None
follows_none lines detail undone = record {
  rest = requests_asked lines;
  served = refl;
  all = λ past. absurd (undone past);
  ordered = λ few. tt;
  all_ordered = λ past few. tt;
  stopped = on_stop (stop_in detail) (λ few. tt);
}

short_none : (lines : List Line) (detail : Detail) → IsShortRun lines detail None
short_none lines detail = λ ran done more client parted few. tt

pub orders_none : (lines : List Line) (detail : Detail) → (IsPast the_output detail → ⊥) → ServesInOrder lines detail [] None
orders_none lines detail undone = record { order = follows_none lines detail undone; short = short_none lines detail }

-- in any order
some_order_none : (lines : List Line) (detail : Detail) → (IsPast the_output detail → ⊥) → ServesInSomeOrder lines detail [] None
some_order_none lines detail undone = record {
  other = lines;
  is_order = record { clients = λ client. refl; steps = refl; flushes = refl };
  as_many = refl;
  serves = follows_none lines detail undone;
}

-- of whichever lines it is said
pub together_none : (Asked : List Line → Type 0) (detail : Detail) (journal : List Entry) → journal ≡ [] → (IsPast the_output detail → ⊥) → ServesTogether Asked detail journal None
together_none Asked detail journal empty undone =
    λ lines said. subst (λ (j : List Entry). ∥ ServesInSomeOrder lines detail j None ∥₁) (sym empty) ∣ some_order_none lines detail undone ∣₁

pub turns_none : (Asked : List Line → Type 0) (detail : Detail) (journal : List Entry) → journal ≡ [] → (IsPast the_output detail → ⊥) → ServesInTurns Asked detail journal None
turns_none Asked detail journal empty undone = record {
  order = λ lines said.
      subst (λ (j : List Entry). ∥ EndsInSomeOrder lines detail j None ∥₁) (sym empty) ∣ record { some = some_order_none lines detail undone; short = λ ran done more client parted few. tt; stops = tt } ∣₁;
  short = λ ran lines said. tt;
  noted = λ whole. tt;
}

pub passes_none : (Asked : List Line → Type 0) (detail : Detail) (journal : List Entry) → ServesByPasses Asked detail journal None
passes_none Asked detail journal = λ ran lines said. tt

pub by_none : (way : Way) (Asked : List Line → Type 0) (detail : Detail) (journal : List Entry) → journal ≡ [] → (IsPast the_output detail → ⊥) → ServesBy way Asked detail journal None
by_none Turns Asked detail journal empty undone = turns_none Asked detail journal empty undone
by_none Passes Asked detail journal empty undone = passes_none Asked detail journal

-- and what is served of these lines is served of those of which less is said
pub by_of : (way : Way) (Asked Others : List Line → Type 0) (detail : Detail) (journal : List Entry) (tally : Option Tally) → ((lines : List Line) → Others lines → Asked lines) → ServesBy way Asked detail journal tally → ServesBy way Others detail journal tally
by_of Turns Asked Others detail journal tally all is = record {
  order = λ lines said. is.order lines (all lines said);
  short = λ ran lines said. is.short ran lines (all lines said);
  noted = is.noted;
}
by_of Passes Asked Others detail journal tally all is = λ ran lines said. is ran lines (all lines said)

module _ {D S K : Type 0} (d : disk.Ghosts D) (s : source.Ghosts S) (k : sink.Ghosts K) where
  -- what a run by workers does that share the engine this way
  pub runs_by : {F : Type 0} (way : Way) (place : F) (disk : D) (source : S) (sink : K) (it : Ended D S K) → RunsTogether d s k place disk source sink it
      → ServesBy way (IsToldScript (s.left source)) it.detail it.journal.items it.tally → RunsBy d s k way place disk source sink it
  runs_by Turns place disk source sink it together by = record { together = together; turns = by }
  runs_by Passes place disk source sink it together by = record { together = together; left = by }
