-- Where a command has what it needs, and nothing fails, it is done, or memory ran out.
use Rattle.std.proofs.Common.{◌≡◌, ◌⊎◌, inl, inr, ℕ, List, [], Option, Some, refl, subst, arith}
use Rattle.std.proofs.Math.Logic.{∥∥₁_elim}
use Rattle.std.proofs.Props.{props}
use Rattle.pm_types.specs.Counts.{Rose, ShowsRise}
use Rattle.pm_disk.specs.declared.disk.Disk as disk
use Rattle.pm_io.specs.declared.source.Source as source
use Rattle.pm_io.specs.declared.sink.Sink as sink
use Rattle.pm_script.specs.declared.fault.ScriptFault.{ScriptFault}
use Rattle.pm_script.specs.Bad.{IsBad, IsYoungBad}
use Rattle.pm_script.proofs.BadLaws.{no_fault}
use Rattle.pm_script.proofs.YoungLaws.{no_young_fault}
use Rattle.pm_dump.specs.Dump.{Dump as Dumped}
use Rattle.pm_words.specs.declared.command.Command.{Command}
use Rattle.pm_words.specs.declared.command.Command.TheVariants.{Init, Run, RunThreads, RunSeats, RunYoung, Inspect, Dump, Restore, Why, Make, Trial}
use Rattle.pm_runs.specs.declared.ends.ended.Detail.{Detail}
use Rattle.pm_runs.specs.declared.ends.ended.Detail.TheVariants.{Fine, Usage, Script, Dump as BadDump, Reading, Writing, Device, NotEmpty, Refused, Standby, Ahead, Foreign, OtherDevice, Memory}
use Rattle.pm_runs.specs.declared.ends.ended.Alone.{Alone as Ended}
use Rattle.pm_runs.specs.Ends.Ends.{ShowsReading, ShowsWriting, ShowsDevice, status_of}
use Rattle.pm_runs.specs.Ends.Stages.{IsPast, the_words}
use Rattle.pm_runs.specs.Ends.Journals.{IsScriptEndOf}
use Rattle.pm_runs.specs.Ends.Disks.{IsRefusedFor}
use Rattle.pm_top.specs.Stores.{LeavesMade, LeavesRestored}
use Rattle.pm_top.specs.Dumps.{HoldsDump, RefusesBytes}
use Rattle.pm_runs.specs.declared.writes.Writes.TheVariants.{Replies}
use Rattle.pm_runs.specs.Ends.Causes.{ShowsCauses}
use Rattle.pm_top.specs.Commands.{EndsTelling, EndsMaking, EndsRestoring, EndsTrying, Does}
use Rattle.pm_runs.specs.Runs.{RunsStore, RunsTogether}
use Rattle.pm_top.specs.Needs.{HasNeeds, HoldsScript, HoldsStore, NothingFails}
use Rattle.pm_runs.proofs.EndsLemmas.Opened.{never_shut}
use Rattle.pm_top.proofs.Restored.{no_dump_fault}

abbrev pub IsComplete : Detail → Type 0
IsComplete detail = (status_of detail ≡ 0) ⊎ (status_of detail ≡ 7)

pub rises : (before after was now : ℕ) → ShowsRise before after was now → Rose was now
rises before after was now shown = subst (λ (n : ℕ). Rose n now) shown.0 (subst (λ (n : ℕ). Rose before n) shown.1 shown.2)

-- ---- what a command with its needs may end with

-- done, for want of memory, or where something failed
abbrev MayEnd : Detail → Type 0
MayEnd Usage = ⊥
MayEnd (Script fault) = ⊥
MayEnd (BadDump fault) = ⊥
MayEnd (NotEmpty bytes) = ⊥
MayEnd (Standby fault) = ⊥
MayEnd (Ahead to from) = ⊥
MayEnd (Foreign number) = ⊥
MayEnd (OtherDevice before after) = ⊥
MayEnd (Refused fault) = ⊥
MayEnd detail = Unit {0}

-- in one way at most
may_once : (detail : Detail) → IsProp (MayEnd detail)
may_once Fine = hlevel props
may_once Usage = hlevel props
may_once (Script fault) = hlevel props
may_once (BadDump fault) = hlevel props
may_once (Reading before after) = hlevel props
may_once (Writing before after) = hlevel props
may_once (Device before after opened) = hlevel props
may_once (NotEmpty bytes) = hlevel props
may_once (Standby fault) = hlevel props
may_once (Ahead to from) = hlevel props
may_once (Foreign number) = hlevel props
may_once (OtherDevice before after) = hlevel props
may_once (Refused fault) = hlevel props
may_once (Memory opened _) = hlevel props

module _ {D : Type 0} (d : disk.Ghosts D) where
  make_ends : (start end : D) (detail : Detail) → LeavesMade d start end detail → d.contents start ≡ Some [] → MayEnd detail
  make_ends start end Fine makes empty = tt
  make_ends start end Usage makes empty = makes
  make_ends start end (Script fault) makes empty = makes
  make_ends start end (BadDump fault) makes empty = makes
  make_ends start end (Reading before after) makes empty = tt
  make_ends start end (Writing before after) makes empty = tt
  make_ends start end (Device before after opened) makes empty = tt
  make_ends start end (NotEmpty n) makes empty =
      let some = makes.0 in
      let zero : n ≡ 0 = makes.1 [] empty in
      absurd (omega (arith, some, zero))
  make_ends start end (Standby fault) makes empty = makes
  make_ends start end (Ahead to from) makes empty = makes
  make_ends start end (Foreign number) makes empty = makes
  make_ends start end (OtherDevice before after) makes empty = makes
  make_ends start end (Refused fault) makes empty = makes
  make_ends start end (Memory opened _) makes empty = tt

run_ends : (told : Option (List ℕ)) (store : HoldsStore told) (IsFault : ScriptFault → Type 0) (detail : Detail) → ((fault : ScriptFault) → IsFault fault → ⊥)
    → IsPast the_words detail → IsScriptEndOf IsFault detail → IsRefusedFor store.bytes detail → MayEnd detail
run_ends told store IsFault Fine none past bad refused = tt
run_ends told store IsFault Usage none past bad refused = absurd (omega (arith, past))
run_ends told store IsFault (Script fault) none past bad refused = absurd (none fault bad)
run_ends told store IsFault (BadDump fault) none past bad refused = absurd (omega (arith, past))
run_ends told store IsFault (Reading before after) none past bad refused = tt
run_ends told store IsFault (Writing before after) none past bad refused = tt
run_ends told store IsFault (Device before after opened) none past bad refused = tt
run_ends told store IsFault (NotEmpty bytes) none past bad refused = absurd (omega (arith, past))
run_ends told store IsFault (Standby fault) none past bad refused = absurd (omega (arith, past))
run_ends told store IsFault (Ahead to from) none past bad refused = absurd (omega (arith, past))
run_ends told store IsFault (Foreign number) none past bad refused = absurd (omega (arith, past))
run_ends told store IsFault (OtherDevice before after) none past bad refused = absurd (omega (arith, past))
run_ends told store IsFault (Refused fault) none past bad refused = never_shut store.bytes store.number store.copy fault store.stands refused
run_ends told store IsFault (Memory opened _) none past bad refused = tt

telling_ends : (told : Option (List ℕ)) (store : HoldsStore told) (detail : Detail) → EndsTelling detail → IsRefusedFor store.bytes detail → MayEnd detail
telling_ends told store Fine ends refused = tt
telling_ends told store Usage ends refused = ends
telling_ends told store (Script fault) ends refused = ends
telling_ends told store (BadDump fault) ends refused = ends
telling_ends told store (Reading before after) ends refused = tt
telling_ends told store (Writing before after) ends refused = tt
telling_ends told store (Device before after opened) ends refused = tt
telling_ends told store (NotEmpty bytes) ends refused = ends
telling_ends told store (Standby fault) ends refused = ends
telling_ends told store (Ahead to from) ends refused = ends
telling_ends told store (Foreign number) ends refused = ends
telling_ends told store (OtherDevice before after) ends refused = ends
telling_ends told store (Refused fault) ends refused = never_shut store.bytes store.number store.copy fault store.stands refused
telling_ends told store (Memory opened _) ends refused = tt

make_script_ends : (detail : Detail) → EndsMaking detail → MayEnd detail
make_script_ends Fine ends = tt
make_script_ends Usage ends = ends
make_script_ends (Script fault) ends = ends
make_script_ends (BadDump fault) ends = ends
make_script_ends (Reading before after) ends = tt
make_script_ends (Writing before after) ends = tt
make_script_ends (Device before after opened) ends = tt
make_script_ends (NotEmpty bytes) ends = ends
make_script_ends (Standby fault) ends = ends
make_script_ends (Ahead to from) ends = ends
make_script_ends (Foreign number) ends = ends
make_script_ends (OtherDevice before after) ends = ends
make_script_ends (Refused fault) ends = ends
make_script_ends (Memory opened _) ends = tt

module _ {D : Type 0} (d : disk.Ghosts D) where
  restore_ends : (read : Option (List ℕ)) (holds : HoldsDump read) (dump : Dumped) (start end : D) (detail : Detail) → EndsRestoring detail → RefusesBytes holds.bytes detail
      → LeavesRestored d dump start end detail → d.contents start ≡ Some [] → MayEnd detail
  restore_ends read holds dump start end Fine ends refuses leaves empty = tt
  restore_ends read holds dump start end Usage ends refuses leaves empty = ends
  restore_ends read holds dump start end (Script fault) ends refuses leaves empty = let long = refuses.refused in let short = holds.short in absurd (omega (arith, long, short))
  restore_ends read holds dump start end (BadDump fault) ends refuses leaves empty = no_dump_fault holds.bytes holds.dump fault holds.spelled holds.sound refuses.refused
  restore_ends read holds dump start end (Reading before after) ends refuses leaves empty = tt
  restore_ends read holds dump start end (Writing before after) ends refuses leaves empty = tt
  restore_ends read holds dump start end (Device before after opened) ends refuses leaves empty = tt
  restore_ends read holds dump start end (NotEmpty n) ends refuses leaves empty = make_ends d start end (NotEmpty n) leaves.leaves empty
  restore_ends read holds dump start end (Standby fault) ends refuses leaves empty = ends
  restore_ends read holds dump start end (Ahead to from) ends refuses leaves empty = ends
  restore_ends read holds dump start end (Foreign number) ends refuses leaves empty = ends
  restore_ends read holds dump start end (OtherDevice before after) ends refuses leaves empty = ends
  restore_ends read holds dump start end (Refused fault) ends refuses leaves empty = ends
  restore_ends read holds dump start end (Memory opened _) ends refuses leaves empty = tt

-- a trial ends as what tells of a store may
trial_ends : (detail : Detail) → EndsTrying detail → EndsTelling detail
trial_ends Fine ends = tt
trial_ends Usage ends = ends
trial_ends (Script fault) ends = ends
trial_ends (BadDump fault) ends = ends
trial_ends (Reading before after) ends = ends
trial_ends (Writing before after) ends = tt
trial_ends (Device before after opened) ends = tt
trial_ends (NotEmpty bytes) ends = ends
trial_ends (Standby fault) ends = ends
trial_ends (Ahead to from) ends = ends
trial_ends (Foreign number) ends = ends
trial_ends (OtherDevice before after) ends = ends
trial_ends (Refused fault) ends = tt
trial_ends (Memory opened _) ends = tt

-- where nothing failed, no end of those is left but two
stands_done : (detail : Detail) (source_was source_now sink_was sink_now disk_was disk_now : ℕ) → MayEnd detail
    → ShowsReading detail source_was source_now → ShowsWriting detail sink_was sink_now → ShowsDevice detail disk_was disk_now
    → ¬ (Rose source_was source_now) → ¬ (Rose sink_was sink_now) → ¬ (Rose disk_was disk_now) → IsComplete detail
stands_done Fine a b c d e f may reading writing device source sink disk = inl refl
stands_done Usage a b c d e f may reading writing device source sink disk = absurd may
stands_done (Script fault) a b c d e f may reading writing device source sink disk = absurd may
stands_done (BadDump fault) a b c d e f may reading writing device source sink disk = absurd may
stands_done (Reading before after) a b c d e f may reading writing device source sink disk = absurd (source (rises before after a b reading))
stands_done (Writing before after) a b c d e f may reading writing device source sink disk = absurd (sink (rises before after c d writing))
stands_done (Device before after opened) a b c d e f may reading writing device source sink disk = absurd (disk (rises before after e f device))
stands_done (NotEmpty bytes) a b c d e f may reading writing device source sink disk = absurd may
stands_done (Standby fault) a b c d e f may reading writing device source sink disk = absurd may
stands_done (Ahead to from) a b c d e f may reading writing device source sink disk = absurd may
stands_done (Foreign number) a b c d e f may reading writing device source sink disk = absurd may
stands_done (OtherDevice before after) a b c d e f may reading writing device source sink disk = absurd may
stands_done (Refused fault) a b c d e f may reading writing device source sink disk = absurd may
stands_done (Memory opened _) a b c d e f may reading writing device source sink disk = inr refl

module _ {D S K : Type 0} (d : disk.Ghosts D) (s : source.Ghosts S) (k : sink.Ghosts K) where
  -- a run by workers
  together_ends : {F : Type 0} (place : F) (disk : D) (source : S) (sink : K) (it : Ended D S K) → RunsTogether d s k place disk source sink it → HoldsStore (d.contents disk) → HoldsScript (s.left source) → MayEnd it.detail
  together_ends place disk source sink it runs holds script =
      ∥∥₁_elim runs.store (may_once it.detail) (λ (store : RunsStore d k place Replies disk sink it).
      run_ends (d.contents disk) holds (λ fault. IsBad fault script.bytes) it.detail (λ fault bad. no_fault script.bytes fault script.lines bad script.script) runs.ends
      (runs.script script.bytes script.is_told).refused (store.leaves.refused holds.bytes holds.is_told))

  may_end : {F : Type 0} (place : F) (command : Command) (disk : D) (source : S) (sink : K) (it : Ended D S K)
      → Does d s k place command disk source sink it → HasNeeds d s command disk source → MayEnd it.detail
  may_end place Init disk source sink it does needs = make_ends d disk it.disk it.detail does.makes needs
  may_end place Run disk source sink it does needs =
      run_ends (d.contents disk) needs.0 (λ fault. IsBad fault needs.1.bytes) it.detail (λ fault bad. no_fault needs.1.bytes fault needs.1.lines bad needs.1.script) does.ends
      (does.script needs.1.bytes needs.1.is_told).refused (does.store.leaves.refused needs.0.bytes needs.0.is_told)
  may_end place RunThreads disk source sink it does needs = together_ends place disk source sink it does.together needs.0 needs.1
  may_end place RunSeats disk source sink it does needs = together_ends place disk source sink it does.together needs.0 needs.1
  may_end place RunYoung disk source sink it does needs =
      run_ends (d.contents disk) needs.0 (λ fault. IsYoungBad fault needs.1.bytes) it.detail (λ fault bad. no_young_fault needs.1.bytes fault needs.1.lines bad needs.1.script) does.ends
      (does.script needs.1.bytes needs.1.is_told).refused (does.store.leaves.refused needs.0.bytes needs.0.is_told)
  may_end place Inspect disk source sink it does needs =
      telling_ends (d.contents disk) needs it.detail does.ends (does.refused needs.bytes needs.is_told)
  may_end place Dump disk source sink it does needs =
      telling_ends (d.contents disk) needs it.detail does.ends (does.refused needs.bytes needs.is_told)
  may_end place Restore disk source sink it does needs =
      restore_ends d (s.left source) needs.1 does.dump disk it.disk it.detail does.ends (does.reads needs.1.bytes needs.1.is_told).refuses does.leaves needs.0
  may_end place (Why id) disk source sink it does needs =
      telling_ends (d.contents disk) needs it.detail does.ends (does.refused needs.bytes needs.is_told)
  may_end place (Make seed turns) disk source sink it does needs = make_script_ends it.detail does.ends
  may_end place (Trial seed turns) disk source sink it does needs =
      telling_ends (d.contents disk) needs it.detail (trial_ends it.detail does.ends) (does.store.leaves.refused needs.bytes needs.is_told)

  -- whatever the command is
  pub complete : {F : Type 0} (place : F) (command : Command) (disk : D) (source : S) (sink : K) (it : Ended D S K)
      → Does d s k place command disk source sink it → ShowsCauses d s k disk source sink it
      → HasNeeds d s command disk source → NothingFails d s k disk source sink it → IsComplete it.detail
  complete place command disk source sink it does causes needs none =
      stands_done it.detail (s.count source) (s.count it.source) (k.count sink) (k.count it.sink) (d.count disk) (d.count it.disk)
      (may_end place command disk source sink it does needs) causes.reading causes.writing causes.device
      none.source_stands none.sink_stands none.disk_stands
