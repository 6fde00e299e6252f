-- A turn that is finished, and a whole conversation.
use Rattle.std.proofs.Common.{◌≡◌, inl, ℕ, List, length, None, Result, Ok, Err, refl, subst, sym}
use Rattle.pm_disk.specs.declared.disk.Disk.{Ghosts}
use Rattle.pm_script.specs.declared.fault.Cause.{Cause}
use Rattle.pm_peer.specs.declared.asked.Asked.{Asked}
use Rattle.pm_peer.specs.declared.next.Next.{Next}
use Rattle.pm_saving.specs.Serving.{Serving}
use Rattle.pm_engine.specs.declared.engine.Engine.{Engine}
use Rattle.pm_engine.specs.Shown.{serving}
use Rattle.pm_talk.specs.declared.ending.Ending.{Ending}
use Rattle.pm_talk.specs.declared.ending.Ending.TheVariants.{Hearing, Telling, Device}
use Rattle.pm_talk.specs.Ends.{CountsPeer, disk_stop, lines_behind}
use Rattle.pm_talk.specs.Going.{TalkGoesOn}
use Rattle.pm_talk.specs.Replies.{Says}
use Rattle.pm_talk.specs.Stepping.{AnswersTo, CountsTurn, FinishesTurn, TakesAll, TakesTurns, took, turn_stop}
use Rattle.pm_talk.specs.Wires.{TellsFirst, TellsLines, Wire}
use Rattle.pm_talk.proofs.Turning.{ends_by}

-- what was ready is told
pub answers_finished : (events : ℕ) (asked : Result Asked Cause) (line : List ℕ) (due : ℕ) (before mid after : Serving) (old new : Wire) (result : Result (Unit {0}) Ending) → Says events asked before mid line due → FinishesTurn line due mid after old new result → AnswersTo events asked before after old new result
answers_finished events asked line due before mid after old new (Ok done) says turn = record { line = line; mid = mid; due = due; says = says; behind = turn.1; tells = turn.0 }
answers_finished events asked line due before mid after old new (Err Hearing) says turn = absurd turn
answers_finished events asked line due before mid after old new (Err Telling) says turn = record { line = line; due = due; says = subst (λ (it : Serving). Says events asked before it line due) (sym turn.0) says; tells = turn.1 }
answers_finished events asked line due before mid after old new (Err Device) says turn = absurd turn

-- the disk did not fail in it
pub stops_finished : {D F : Type 0} {g : Ghosts D} (old new : Engine D F g) (line : List ℕ) (due : ℕ) (mid : Serving) (w v : Wire) (result : Result (Unit {0}) Ending) → FinishesTurn line due mid (serving new) w v result → TalkGoesOn old new None → TalkGoesOn old new (turn_stop result)
stops_finished old new line due mid w v (Ok done) turn goes = goes
stops_finished old new line due mid w v (Err Hearing) turn goes = absurd turn
stops_finished old new line due mid w v (Err Telling) turn goes = goes
stops_finished old new line due mid w v (Err Device) turn goes = absurd turn

-- a conversation ends with the turn that ended it
pub same_stop : (ending : Ending) → turn_stop {T = Next} (Err ending) ≡ disk_stop (Err ending)
same_stop Hearing = refl
same_stop Telling = refl
same_stop Device = refl

pub same_counts : (ending : Ending) (before after : ℕ) → CountsTurn {T = Next} (Err ending) before after → CountsPeer (Err ending) before after
same_counts Hearing before after counts = counts
same_counts Telling before after counts = counts
same_counts Device before after counts = counts

-- the same of what took a turn
pub took_stop : (result : Result (Unit {0}) Ending) (next : Next) → turn_stop (took next result) ≡ turn_stop result
took_stop (Ok done) next = refl
took_stop (Err Hearing) next = refl
took_stop (Err Telling) next = refl
took_stop (Err Device) next = refl

-- ---- the end

-- turns that came to the end of the input, and then the last lines, or not all of them
pub ends_told : (events : ℕ) (kept : List ℕ) (from to : Serving) (answer : Next) (old mid new : Wire) → TakesTurns events (Ok answer) kept from to old mid → TellsLines (lines_behind answer to) mid new → TakesAll events (Ok tt) kept from to old new
ends_told events kept from to answer old mid new takes tells = record {
  turns = takes.turns;
  behind = takes.behind;
  it = takes.it;
  mid = takes.mid;
  has = takes.has;
  ends = (takes.ends.0, record { answer = answer; mid = mid; meets = takes.ends.1; tells = subst (λ (it : Serving). TellsLines (lines_behind answer it) mid new) takes.ends.0 tells });
}

pub ends_broken : (events : ℕ) (kept : List ℕ) (from to : Serving) (answer : Next) (old mid new : Wire) → TakesTurns events (Ok answer) kept from to old mid → TellsFirst (lines_behind answer to) mid new → TakesAll events (Err Telling) kept from to old new
ends_broken events kept from to answer old mid new takes tells = record {
  turns = takes.turns;
  behind = takes.behind;
  it = takes.it;
  mid = takes.mid;
  has = takes.has;
  ends = inl (takes.ends.0, record { answer = answer; mid = mid; meets = takes.ends.1; tells = subst (λ (it : Serving). TellsFirst (lines_behind answer it) mid new) takes.ends.0 tells });
}

-- turns the last of which ended it
pub ends_early : (events : ℕ) (kept : List ℕ) (from to : Serving) (ending : Ending) (old new : Wire) → TakesTurns events (Err ending) kept from to old new → TakesAll events (Err ending) kept from to old new
ends_early events kept from to ending old new takes = record {
  turns = takes.turns;
  behind = takes.behind;
  it = takes.it;
  mid = takes.mid;
  has = takes.has;
  ends = ends_by events takes.behind (length takes.turns) takes.it to takes.mid new ending takes.ends;
}

pub counts_peer_from : (result : Result (Unit {0}) Ending) (before mid after : ℕ) → mid ≡ before → CountsPeer result mid after → CountsPeer result before after
counts_peer_from result before mid after same counts = subst (λ (n : ℕ). CountsPeer result n after) same counts
