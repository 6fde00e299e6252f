-- What each command does, where nothing was called, and where it writes one text.
use Rattle.std.proofs.Common.{false, inl, ◌≡◌, ℕ, ◌<◌, List, [], None, refl, arith}
use Rattle.pm_types.specs.Memory.{no_memory}
use Rattle.pm_types.specs.declared.entry.Entry.{Entry}
use Rattle.pm_disk.specs.declared.disk.Disk as disk
use Rattle.pm_disk.specs.Disk.{SameImages}
use Rattle.pm_disk.proofs.RunLemmas.{started}
use Rattle.pm_io.specs.declared.source.Source as source
use Rattle.pm_io.specs.declared.sink.Sink as sink
use Rattle.pm_shadow.specs.Init.{shut_store}
use Rattle.pm_shadow.proofs.OrderLemmas.{cut_none, early}
use Rattle.pm_script.specs.declared.line.Line.{Line}
use Rattle.pm_script.specs.Script.{IsScript}
use Rattle.pm_make.specs.Made.{made_text}
use Rattle.pm_inspect.specs.Tell.Told.{Telling, Reports, Dumps, GivesPath}
use Rattle.pm_words.specs.declared.command.Command.{Command}
use Rattle.pm_words.specs.declared.command.Command.TheVariants.{Init, Run, RunThreads, RunSeats, RunYoung, Inspect, Dump, Restore, Why, Make, Trial}
use Rattle.pm_runs.specs.declared.ends.ended.Detail.{Detail}
use Rattle.pm_runs.specs.declared.ends.ended.Detail.TheVariants.{Fine, Usage, Script, Dump as BadDump, Reading, Writing, Device, NotEmpty, Refused, Standby, Ahead, Foreign, OtherDevice, Memory}
use Rattle.pm_runs.specs.declared.ends.ended.Alone.{Alone as Ended}
use Rattle.pm_runs.specs.declared.writes.Writes.{Writes}
use Rattle.pm_runs.specs.declared.writes.Writes.TheVariants.{Replies, Digest}
use Rattle.pm_runs.specs.Ends.Stages.{IsPast, unreached, the_words, the_store}
use Rattle.pm_runs.specs.Ends.Ends.{IsUnwritten}
use Rattle.pm_runs.specs.Ends.Journals.{ReadsScript, ServesAll, ServesInOrder, ServesLines}
use Rattle.pm_runs.specs.Ends.Wrote.{WroteText}
use Rattle.pm_runs.specs.Ends.Causes.{ShowsCauses}
use Rattle.pm_runs.specs.Runs.{RunsStore, RunsTogether}
use Rattle.pm_top.specs.Commands.{EndsTrying, TriesScript, TellsStore, Does}
use Rattle.pm_runs.proofs.EndsLemmas.Parts.{with_parts}
use Rattle.pm_runs.proofs.EndsLemmas.Opened.{uncalled_run}
use Rattle.pm_runs.specs.Threads.Together.{IsToldScript}
use Rattle.pm_runs.proofs.Stores.{passes_none, store_unrun, together_none, turns_none}
use Rattle.pm_runs.specs.Young.Journals.{ReadsYoung}
use Rattle.pm_runs.proofs.YoungLemmas.Read.{young_unordered, young_unread}
use Rattle.pm_runs.proofs.YoungLemmas.Stores.{young_unrun}
use Rattle.pm_runs.proofs.EndsLemmas.Scripts.{order_read, script_read, script_unknown, unordered, unserved}

module _ {K : Type 0} (k : sink.Ghosts K) where
  -- no text was written
  untouched_text : (sink : K) (text : List ℕ) → WroteText k sink sink text (Memory false no_memory)
  untouched_text sink text = record { all = λ never. absurd never; all_finished = λ never. absurd never; part = λ never. absurd never; none = λ not. refl }

-- no byte was read
pub unread : (bytes : List ℕ) (journal : List Entry) → journal ≡ [] → ReadsScript bytes (Memory false no_memory) journal None
unread bytes journal empty = unserved bytes (Memory false no_memory) journal empty (script_unknown bytes (Memory false no_memory) tt (λ fault. tt) (λ past. absurd (omega arith)))

young_script_unread : (bytes : List ℕ) (journal : List Entry) → ReadsYoung bytes (Memory false no_memory) journal None
young_script_unread bytes journal = young_unread bytes (Memory false no_memory) journal refl (record { refused = tt; told = λ fault is. tt })

module _ {D S K : Type 0} (d : disk.Ghosts D) (k : sink.Ghosts K) where
  -- ---- nothing was called

  untouched_store : {F : Type 0} (place : F) (writes : Writes) (disk : D) (source : S) (sink : K) (it : Ended D S K) → it.journal.items ≡ []
      → ((at : List ℕ) → d.since disk (d.moment disk) at → d.image disk at)
      → RunsStore d k place writes disk sink (with_parts it (Memory false no_memory) None None disk source sink)
  untouched_store place writes disk source sink it empty now =
      store_unrun d k place writes disk disk source sink it (Memory false no_memory) empty (λ past. absurd (omega arith))
      (uncalled_run d disk (Memory false no_memory) now (λ past. absurd (omega arith)) (λ bytes. tt)) (inl refl)

  pub untouched_trial : {F : Type 0} (place : F) (seed turns : ℕ) (disk : D) (source : S) (sink : K) (it : Ended D S K) → it.journal.items ≡ []
      → ((at : List ℕ) → d.since disk (d.moment disk) at → d.image disk at)
      → TriesScript d k place seed turns disk source sink (with_parts it (Memory false no_memory) None None disk source sink)
  untouched_trial place seed turns disk source sink it empty now = record {
    ends = tt;
    script = unread (made_text seed turns) it.journal.items empty;
    order = unordered (made_text seed turns) (Memory false no_memory) it.journal.items empty (λ past. absurd (omega (arith, past)));
    store = untouched_store place Digest disk source sink it empty now;
    last = λ unwritten. absurd unwritten;
    source_stays = refl;
  }

  pub untouched_telling : (Says : Telling) (disk : D) (source : S) (sink : K) (it : Ended D S K) → it.journal.items ≡ []
      → ((at : List ℕ) → d.since disk (d.moment disk) at → d.image disk at)
      → TellsStore d k Says disk source sink (with_parts it (Memory false no_memory) None None disk source sink)
  untouched_telling Says disk source sink it empty now = record {
    ends = tt;
    text = [];
    told = λ never. absurd never;
    some = λ never. absurd never;
    wrote = untouched_text k sink [];
    refused = λ bytes told. tt;
    disk_stays = refl;
    images = started d.moment d.since disk (d.image disk) now;
    unwritten = refl;
    synced = inl refl;
    source_stays = refl;
    no_event = empty;
    no_tally = refl;
    no_young = refl;
  }

  -- ---- a trial, from the run of its lines

  pub tried : {F : Type 0} (place : F) (seed turns : ℕ) (lines : List Line) (disk : D) (source : S) (sink : K) (it : Ended D S K)
      → IsScript (made_text seed turns) lines → ServesLines lines it.detail it.journal.items it.tally
      → ServesInOrder lines it.detail it.journal.items it.tally → RunsStore d k place Digest disk sink it
      → (IsUnwritten it.detail → ServesAll lines it.journal.items it.tally) → it.source ≡ source
      → TriesScript d k place seed turns disk source sink it
  tried place seed turns lines disk source sink it script serves order store last stays = record {
    ends = by it.detail serves.ends serves.tried;
    script = script_read (made_text seed turns) lines it.detail it.journal.items it.tally script serves;
    order = order_read (made_text seed turns) lines it.detail it.journal.items it.tally script order;
    store = store;
    last = λ unwritten. (
      script_read (made_text seed turns) lines Fine it.journal.items it.tally script (last unwritten).serves,
      order_read (made_text seed turns) lines Fine it.journal.items it.tally script (last unwritten).order,
    );
    source_stays = stays;
  }
    where
      by : (detail : Detail) → IsPast the_words detail → the_store < unreached detail → EndsTrying detail
      by Fine past reached = tt
      by Usage past reached = absurd (omega (arith, past))
      by (Script fault) past reached = absurd (omega (arith, reached))
      by (BadDump fault) past reached = absurd (omega (arith, past))
      by (Reading before after) past reached = absurd (omega (arith, reached))
      by (Writing before after) past reached = tt
      by (Device before after opened) past reached = tt
      by (NotEmpty n) past reached = absurd (omega (arith, past))
      by (Standby fault) past reached = absurd (omega (arith, past))
      by (Ahead to from) past reached = absurd (omega (arith, past))
      by (Foreign number) past reached = absurd (omega (arith, past))
      by (OtherDevice before after) past reached = absurd (omega (arith, past))
      by (Refused fault) past reached = tt
      by (Memory opened _) past reached = tt

module _ {D S K : Type 0} (d : disk.Ghosts D) (s : source.Ghosts S) (k : sink.Ghosts K) where
  -- a run by workers
  untouched_together : {F : Type 0} (place : F) (disk : D) (source : S) (sink : K) (it : Ended D S K) → it.journal.items ≡ []
      → ((at : List ℕ) → d.since disk (d.moment disk) at → d.image disk at)
      → RunsTogether d s k place disk source sink (with_parts it (Memory false no_memory) None None disk source sink)
  untouched_together place disk source sink it empty now = record {
    ends = omega arith;
    read = λ past. absurd (omega (arith, past));
    script = λ bytes told. unread bytes it.journal.items empty;
    store = ∣ untouched_store d k place Replies disk source sink it empty now ∣₁;
    last = λ unwritten. absurd unwritten;
    order = together_none (IsToldScript (s.left source)) (Memory false no_memory) it.journal.items empty (λ past. absurd (omega (arith, past)));
    saved = tt;
  }

  pub untouched_does : {F : Type 0} (place : F) (command : Command) (disk : D) (source : S) (sink : K) (it : Ended D S K) → it.journal.items ≡ []
      → ((at : List ℕ) → d.since disk (d.moment disk) at → d.image disk at) → SameImages (d.image disk) (d.image disk)
      → Does d s k place command disk source sink (with_parts it (Memory false no_memory) None None disk source sink)
  untouched_does place Init disk source sink it empty now same = record {
    makes = (refl, same);
    calls = record {
      made = record { writes = omega arith; syncs = omega arith; past = refl };
      order = λ bytes told none. early d shut_store disk disk (started d.moment d.since disk _ (λ at here. cut_none _ _ at (now at here))) (omega arith);
    };
    leaves = λ bytes told some. started d.moment d.since disk (d.image disk) now;
    source_stays = refl;
    sink_stays = refl;
    no_event = empty;
    no_tally = refl;
    no_young = refl;
  }
  untouched_does place Run disk source sink it empty now same = record {
    ends = omega arith;
    read = λ past. absurd (omega (arith, past));
    script = λ bytes told. unread bytes it.journal.items empty;
    order = λ bytes told. unordered bytes (Memory false no_memory) it.journal.items empty (λ past. absurd (omega (arith, past)));
    store = untouched_store d k place Replies disk source sink it empty now;
    saved = tt;
  }
  untouched_does place RunThreads disk source sink it empty now same = record {
    together = untouched_together place disk source sink it empty now;
    turns = turns_none (IsToldScript (s.left source)) (Memory false no_memory) it.journal.items empty (λ past. absurd (omega (arith, past)));
  }
  untouched_does place RunSeats disk source sink it empty now same = record {
    together = untouched_together place disk source sink it empty now;
    left = passes_none (IsToldScript (s.left source)) (Memory false no_memory) it.journal.items;
  }
  untouched_does place RunYoung disk source sink it empty now same = record {
    ends = omega arith;
    read = λ past. absurd (omega (arith, past));
    script = λ bytes told. young_script_unread bytes it.journal.items;
    order = λ bytes told. young_unordered bytes (Memory false no_memory) it.journal.items;
    store =
        young_unrun d k place disk disk source sink it (Memory false no_memory) empty (λ past. absurd (omega arith))
        (uncalled_run d disk (Memory false no_memory) now (λ past. absurd (omega arith)) (λ bytes. tt)) (inl refl);
    entered = λ bytes told lines script past. tt;
    saved = tt;
  }
  untouched_does place Inspect disk source sink it empty now same = untouched_telling d k Reports disk source sink it empty now
  untouched_does place Dump disk source sink it empty now same = untouched_telling d k Dumps disk source sink it empty now
  untouched_does place Restore disk source sink it empty now same = record {
    ends = tt;
    dump = record { next = 1; objects = []; roots = [] };
    sound = λ never. absurd never;
    reads = λ bytes told. record {
      refuses = record { refused = tt; told = λ fault short is. tt; long = λ long. tt };
      spelled = λ never. absurd never;
      emptied = λ never. absurd never;
    };
    leaves = inl refl;
    keeps = λ bytes told some. started d.moment d.since disk (d.image disk) now;
    sink_stays = refl;
    no_event = empty;
    no_tally = refl;
    no_young = refl;
  }
  untouched_does place (Why id) disk source sink it empty now same = untouched_telling d k (GivesPath id) disk source sink it empty now
  untouched_does place (Make seed turns) disk source sink it empty now same = record {
    ends = tt;
    wrote = untouched_text k sink (made_text seed turns);
    disk_stays = refl;
    source_stays = refl;
    no_event = empty;
    no_tally = refl;
    no_young = refl;
  }
  untouched_does place (Trial seed turns) disk source sink it empty now same = untouched_trial d k place seed turns disk source sink it empty now

  -- nothing was called
  pub memory_causes : (disk : D) (source : S) (sink : K) (it : Ended D S K) → ShowsCauses d s k disk source sink (with_parts it (Memory false no_memory) None None disk source sink)
  memory_causes disk source sink it = record { reading = refl; writing = tt; device = refl; rule = tt; opened = refl; one = tt; reads = refl }
