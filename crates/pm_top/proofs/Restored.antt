-- How restoring a dump ends, and how it leaves the disk, from its parts.
use Rattle.std.proofs.Common.{◌≡◌, inl, inr, ℕ, ◌<◌, ◌≤◌, List, [], length, Option, Some, None, refl, sym, ap, subst, ◌∙◌, arith}
use Rattle.std.specs.Prelude.{option_map}
use Rattle.pm_types.specs.declared.limits.TheConstants.{SOURCE_BYTES}
use Rattle.pm_types.specs.declared.fault.InitFault.{InitFault}
use Rattle.pm_types.specs.declared.fault.InitFault.TheVariants as init_fault
use Rattle.pm_disk.specs.declared.disk.Disk as disk
use Rattle.pm_disk.specs.Disk.{IfTold, LeavesOnly}
use Rattle.pm_disk.proofs.RunLemmas.{started}
use Rattle.pm_io.specs.declared.source.Source as source
use Rattle.pm_io.specs.declared.sink.Sink as sink
use Rattle.pm_model.specs.World.{empty_copy}
use Rattle.pm_image.specs.Blank.{blank_store}
use Rattle.pm_image.specs.Stands.{StandsForCopy}
use Rattle.pm_image.proofs.BlankLaws.{blank_stands}
use Rattle.pm_shadow.specs.Pages.{disk_of}
use Rattle.pm_shadow.specs.declared.pages.Pages.{Pages}
use Rattle.pm_dump.specs.declared.fault.DumpFault.{DumpFault}
use Rattle.pm_dump.specs.declared.fault.DumpFault.TheVariants as dump_fault
use Rattle.pm_dump.specs.Dump.{Dump}
use Rattle.pm_dump.specs.Spelled.{Spells}
use Rattle.pm_dump.specs.Sound.{IsSoundDump}
use Rattle.pm_dump.specs.Answers.{IsDumpFault}
use Rattle.pm_dump.proofs.DumpLaws.{not_both}
use Rattle.pm_restore.specs.Restored.{IsRestored, LeavesEither}
use Rattle.pm_runs.specs.declared.ends.ended.Detail.{Detail}
use Rattle.pm_runs.specs.declared.ends.ended.Detail.TheVariants.{Fine, Usage, Script, Dump as BadDump, Reading, Writing, Device, NotEmpty, Refused, Standby, Ahead, Foreign, OtherDevice, Memory}
use Rattle.pm_runs.specs.declared.ends.ended.Alone.{Alone as Ended}
use Rattle.pm_runs.specs.Ends.Ends.{not_made}
use Rattle.pm_top.specs.Stores.{CallsMaking, CallsToSettle, LeavesMade, LeavesRestored, LeavesSettled}
use Rattle.pm_top.specs.Dumps.{EndsSettling, EndsUnrestored, HasDump, IsDumpEnd, IsReadWhole, RefusesBytes}
use Rattle.pm_top.specs.Commands.{EndsRestoring, RestoresStore}
use Rattle.pm_runs.proofs.EndsLemmas.Parts.{with_parts}

-- ---- what is read

-- a dump has no fault
pub no_dump_fault : (bytes : List ℕ) (dump : Dump) (fault : DumpFault) → Spells bytes dump → IsSoundDump dump → IsDumpFault fault bytes → ⊥
no_dump_fault bytes dump (dump_fault.Line number cause) spelled sound is = not_both bytes dump number cause spelled sound is
no_dump_fault bytes dump (dump_fault.Memory _) spelled sound is = is

-- a dump was read, so its bytes are not refused
pub taken_bytes : (bytes : List ℕ) (dump : Dump) (detail : Detail) → EndsSettling detail → length bytes ≤ SOURCE_BYTES → Spells bytes dump → IsSoundDump dump → RefusesBytes bytes detail
taken_bytes bytes dump detail ends short spelled sound = record {
  refused = by detail ends;
  told = λ fault few is. absurd (no_dump_fault bytes dump fault spelled sound is);
  long = λ long. absurd (omega (arith, long, short));
}
  where
    by : (detail : Detail) → EndsSettling detail → IsDumpEnd bytes detail
    by Fine ends = tt
    by Usage ends = tt
    by (Script fault) ends = absurd ends
    by (BadDump fault) ends = absurd ends
    by (Reading before after) ends = tt
    by (Writing before after) ends = tt
    by (Device before after opened) ends = tt
    by (NotEmpty n) ends = tt
    by (Standby fault) ends = tt
    by (Ahead to from) ends = tt
    by (Foreign number) ends = tt
    by (OtherDevice before after) ends = tt
    by (Refused fault) ends = tt
    by (Memory opened _) ends = tt

-- ---- settling

module _ {D : Type 0} (d : disk.Ghosts D) where
  -- it was settled
  pub leaves_settled : (dump : Dump) (before after : Pages D d) → LeavesEither dump before after → IsRestored dump before after → LeavesSettled d dump (disk_of before) (disk_of after) Fine
  leaves_settled dump before after leaves restored was told = (leaves was told, restored.laid was told, restored.stands was told)

  -- what is told of a store that was just made
  pub blank_told : (was now : Option (List ℕ)) → now ≡ option_map (λ (bytes : List ℕ). blank_store) was → IfTold now (λ bytes. bytes ≡ blank_store)
  blank_told None now is bytes told = absurd (let never : ◌≡◌ {A = Option (List ℕ)} (Some bytes) None = sym told ∙ is in cc never)
  blank_told (Some was) now is bytes told = let same : ◌≡◌ {A = Option (List ℕ)} (Some bytes) (Some blank_store) = sym told ∙ is in cc same

  pub store_made : (start made : D) → d.contents made ≡ option_map (λ (bytes : List ℕ). blank_store) (d.contents start) → IfTold (d.contents start) (λ bytes. length bytes ≡ 0)
      → IfTold (d.contents made) (λ told. (left : List ℕ) → d.image made left → left ≡ told) → LeavesMade d start made Fine
  store_made start made blank empty only bytes told =
      let is : d.contents made ≡ Some blank_store = blank ∙ ap (option_map (λ (bytes : List ℕ). blank_store)) told in
      (empty bytes told, is, λ left now. subst (λ (image : List ℕ). StandsForCopy image 0 empty_copy) (sym (only blank_store is left now)) blank_stands)

  -- a store was made, and the dump settled in it
  pub then_settled : (dump : Dump) (start made end : D) (detail : Detail) → EndsSettling detail → CallsMaking d start made Fine → LeavesMade d start made Fine
      → LeavesSettled d dump made end detail → CallsToSettle dump detail (d.made made) (d.made end) → LeavesRestored d dump start end detail
  then_settled dump start made end Fine ends calls store settles settling = record { made = made; calls = calls; store = store; settles = settles; settling = settling }
  then_settled dump start made end Usage ends calls store settles settling = absurd ends
  then_settled dump start made end (Script fault) ends calls store settles settling = absurd ends
  then_settled dump start made end (BadDump fault) ends calls store settles settling = absurd ends
  then_settled dump start made end (Reading before after) ends calls store settles settling = absurd ends
  then_settled dump start made end (Writing before after) ends calls store settles settling = absurd ends
  then_settled dump start made end (Device before after opened) ends calls store settles settling = inr (record { made = made; calls = calls; store = store; settles = settles; settling = settling })
  then_settled dump start made end (NotEmpty n) ends calls store settles settling = absurd settles
  then_settled dump start made end (Standby fault) ends calls store settles settling = absurd settles
  then_settled dump start made end (Ahead to from) ends calls store settles settling = absurd settles
  then_settled dump start made end (Foreign number) ends calls store settles settling = absurd settles
  then_settled dump start made end (OtherDevice before after) ends calls store settles settling = absurd settles
  then_settled dump start made end (Refused fault) ends calls store settles settling = absurd ends
  then_settled dump start made end (Memory opened _) ends calls store settles settling = inr (inr (record { made = made; calls = calls; store = store; settles = settles; settling = settling }))

  -- none was made
  pub none_restored : (dump : Dump) (start end : D) (fault : InitFault) → LeavesMade d start end (not_made fault) → CallsMaking d start end (not_made fault)
      → LeavesRestored d dump start end (not_made fault)
  none_restored dump start end (init_fault.NotEmpty n) leaves calls = record { leaves = leaves; calls = calls }
  none_restored dump start end (init_fault.Disk b a) leaves calls = inl (record { leaves = leaves; calls = calls })
  none_restored dump start end (init_fault.Memory _) leaves calls = inr (inl (record { leaves = leaves; calls = calls }))

  -- the disk was not called
  pub uncalled_restored : (dump : Dump) (start : D) (detail : Detail) → EndsUnrestored detail → LeavesRestored d dump start start detail
  uncalled_restored dump start Fine ends = absurd ends
  uncalled_restored dump start Usage ends = refl
  uncalled_restored dump start (Script fault) ends = refl
  uncalled_restored dump start (BadDump fault) ends = refl
  uncalled_restored dump start (Reading before after) ends = refl
  uncalled_restored dump start (Writing before after) ends = refl
  uncalled_restored dump start (Device before after opened) ends = absurd ends
  uncalled_restored dump start (NotEmpty n) ends = absurd ends
  uncalled_restored dump start (Standby fault) ends = absurd ends
  uncalled_restored dump start (Ahead to from) ends = absurd ends
  uncalled_restored dump start (Foreign number) ends = absurd ends
  uncalled_restored dump start (OtherDevice before after) ends = absurd ends
  uncalled_restored dump start (Refused fault) ends = refl
  uncalled_restored dump start (Memory opened _) ends = inl refl

-- ---- the ends of the command

pub ends_restored : (detail : Detail) → EndsSettling detail → EndsRestoring detail
ends_restored Fine ends = tt
ends_restored Usage ends = ends
ends_restored (Script fault) ends = absurd ends
ends_restored (BadDump fault) ends = tt
ends_restored (Reading before after) ends = tt
ends_restored (Writing before after) ends = ends
ends_restored (Device before after opened) ends = tt
ends_restored (NotEmpty n) ends = tt
ends_restored (Standby fault) ends = absurd ends
ends_restored (Ahead to from) ends = absurd ends
ends_restored (Foreign number) ends = absurd ends
ends_restored (OtherDevice before after) ends = absurd ends
ends_restored (Refused fault) ends = ends
ends_restored (Memory opened _) ends = tt

pub ends_unrestored : (detail : Detail) → EndsUnrestored detail → EndsRestoring detail
ends_unrestored Fine ends = tt
ends_unrestored Usage ends = ends
ends_unrestored (Script fault) ends = ends
ends_unrestored (BadDump fault) ends = tt
ends_unrestored (Reading before after) ends = tt
ends_unrestored (Writing before after) ends = ends
ends_unrestored (Device before after opened) ends = tt
ends_unrestored (NotEmpty n) ends = tt
ends_unrestored (Standby fault) ends = absurd ends
ends_unrestored (Ahead to from) ends = absurd ends
ends_unrestored (Foreign number) ends = absurd ends
ends_unrestored (OtherDevice before after) ends = absurd ends
ends_unrestored (Refused fault) ends = ends
ends_unrestored (Memory opened _) ends = tt

-- no dump was read
pub none_read : (detail : Detail) → EndsUnrestored detail → HasDump detail → ⊥
none_read Fine ends has = ends
none_read Usage ends has = has
none_read (Script fault) ends has = has
none_read (BadDump fault) ends has = has
none_read (Reading before after) ends has = has
none_read (Writing before after) ends has = has
none_read (Device before after opened) ends has = ends
none_read (NotEmpty n) ends has = ends
none_read (Standby fault) ends has = ends
none_read (Ahead to from) ends has = ends
none_read (Foreign number) ends has = ends
none_read (OtherDevice before after) ends has = ends
none_read (Refused fault) ends has = has
none_read (Memory opened _) ends has = has

module _ {D S K : Type 0} (d : disk.Ghosts D) (s : source.Ghosts S) (k : sink.Ghosts K) where
  -- a dump was read
  pub restores_read : (dump : Dump) (disk end : D) (source left : S) (sink : K) (it : Ended D S K) (detail : Detail) → it.journal.items ≡ [] → EndsSettling detail → IsSoundDump dump
      → ((bytes : List ℕ) → s.left source ≡ Some bytes → s.left left ≡ Some []) → ((bytes : List ℕ) → s.left source ≡ Some bytes → Spells bytes dump)
      → ((bytes : List ℕ) → s.left source ≡ Some bytes → length bytes ≤ SOURCE_BYTES) → LeavesRestored d dump disk end detail
      → ((bytes : List ℕ) → d.contents disk ≡ Some bytes → 0 < length bytes → LeavesOnly d.moment d.since disk end (d.image disk))
      → RestoresStore d s k disk source sink (with_parts it detail None None end left sink)
  restores_read dump disk end source left sink it detail empty ends sound emptied spelled short leaves keeps = record {
    ends = ends_restored detail ends;
    dump = dump;
    sound = λ has. sound;
    reads = λ bytes told. record {
      refuses = taken_bytes bytes dump detail ends (short bytes told) (spelled bytes told) sound;
      spelled = λ has. spelled bytes told;
      emptied = λ whole. emptied bytes told;
    };
    leaves = leaves;
    keeps = keeps;
    sink_stays = refl;
    no_event = empty;
    no_tally = refl;
    no_young = refl;
  }

  -- none was
  pub restores_unread : (disk : D) (source left : S) (sink : K) (it : Ended D S K) (detail : Detail) → it.journal.items ≡ [] → EndsUnrestored detail
      → ((bytes : List ℕ) → s.left source ≡ Some bytes → RefusesBytes bytes detail) → ((bytes : List ℕ) → s.left source ≡ Some bytes → IsReadWhole detail → s.left left ≡ Some [])
      → ((at : List ℕ) → d.since disk (d.moment disk) at → d.image disk at)
      → RestoresStore d s k disk source sink (with_parts it detail None None disk left sink)
  restores_unread disk source left sink it detail empty ends refuses emptied now =
      let dump : Dump = record { next = 1; objects = []; roots = [] } in
      record {
        ends = ends_unrestored detail ends;
        dump = dump;
        sound = λ has. absurd (none_read detail ends has);
        reads = λ bytes told. record {
          refuses = refuses bytes told;
          spelled = λ has. absurd (none_read detail ends has);
          emptied = λ whole. emptied bytes told whole;
        };
        leaves = uncalled_restored d dump disk detail ends;
        keeps = λ bytes told some. started d.moment d.since disk (d.image disk) now;
        sink_stays = refl;
        no_event = empty;
        no_tally = refl;
        no_young = refl;
      }
