-- How a run leaves the disk, from its parts.
use Rattle.std.proofs.Common.{◌≡◌, ◌⊎◌, inl, inr, ℕ, ◌<◌, List, [], Some, Result, Ok, Err, refl, sym, ap, subst, ◌∙◌, arith}
use Rattle.pm_types.specs.declared.entry.Entry.{Entry}
use Rattle.pm_types.specs.declared.fault.OpenFault.{OpenFault}
use Rattle.pm_types.specs.declared.fault.OpenFault.TheVariants.{NotAStore, Version, Damaged, Malformed, Disk, Memory as NoRoom}
use Rattle.pm_disk.specs.declared.disk.Disk as disk
use Rattle.pm_disk.specs.Disk.{LeavesOnly}
use Rattle.pm_disk.proofs.RunLemmas.{started, weaker, joined}
use Rattle.pm_model.specs.World.{World, Copy, begin}
use Rattle.pm_model.specs.Journal.{IsLegal, after}
use Rattle.pm_image.specs.Stands.{Opened, StandsForCopy, opened}
use Rattle.pm_image.proofs.StandsLaws.{one_copy}
use Rattle.pm_saving.specs.Images.{IsTold}
use Rattle.pm_reopen.specs.Refused.{IsRefusal}
use Rattle.pm_runs.specs.declared.ends.ended.Detail.{Detail}
use Rattle.pm_runs.specs.declared.ends.ended.Detail.TheVariants.{Fine, Usage, Script, Dump as BadDump, Reading, Writing, Device, NotEmpty, Refused, Standby, Ahead, Foreign, OtherDevice, Memory}
use Rattle.pm_runs.specs.Ends.Ends.{IsUnwritten, not_opened}
use Rattle.pm_runs.specs.Ends.Stages.{IsPast, unreached, the_store, the_events}
use Rattle.pm_runs.specs.Ends.Disks.{IsLastOf, IsOfRun, IsRefusedFor, LeavesDisk}

-- a run over a store that was opened refuses nothing
stopped_for : (bytes : List ℕ) (detail : Detail) → the_events < unreached detail → IsRefusedFor bytes detail
stopped_for bytes Fine is = tt
stopped_for bytes Usage is = tt
stopped_for bytes (Script fault) is = tt
stopped_for bytes (BadDump fault) is = tt
stopped_for bytes (Reading before after) is = tt
stopped_for bytes (Writing before after) is = tt
stopped_for bytes (Device before after opened) is = tt
stopped_for bytes (NotEmpty n) is = tt
stopped_for bytes (Standby fault) is = tt
stopped_for bytes (Ahead to from) is = tt
stopped_for bytes (Foreign number) is = tt
stopped_for bytes (OtherDevice before after) is = tt
stopped_for bytes (Refused fault) is = absurd (omega arith)
stopped_for bytes (Memory opened _) is = tt

-- a store that is not opened is not run
pub none_opened : (fault : OpenFault) → IsPast the_store (not_opened fault) → ⊥
none_opened NotAStore past = absurd (omega arith)
none_opened (Version version) past = absurd (omega arith)
none_opened (Damaged page kept found) past = absurd (omega arith)
none_opened (Malformed page at) past = absurd (omega arith)
none_opened (Disk before after) past = absurd (omega arith)
none_opened (NoRoom _) past = absurd (omega arith)

-- no sink failed
pub unopened_unwritten : (fault : OpenFault) → IsUnwritten (not_opened fault) → ⊥
unopened_unwritten NotAStore unwritten = unwritten
unopened_unwritten (Version version) unwritten = unwritten
unopened_unwritten (Damaged page kept found) unwritten = unwritten
unopened_unwritten (Malformed page at) unwritten = unwritten
unopened_unwritten (Disk before after) unwritten = unwritten
unopened_unwritten (NoRoom _) unwritten = unwritten

-- it was tried
pub tried_open : (fault : OpenFault) → the_store < unreached (not_opened fault)
tried_open NotAStore = omega arith
tried_open (Version version) = omega arith
tried_open (Damaged page kept found) = omega arith
tried_open (Malformed page at) = omega arith
tried_open (Disk before after) = omega arith
tried_open (NoRoom _) = omega arith

-- bytes that stand for a copy break no rule
pub never_shut : (bytes : List ℕ) (number : ℕ) (copy : Copy) (fault : OpenFault) → StandsForCopy bytes number copy → opened bytes ≡ Err fault → ⊥
never_shut bytes number copy fault stands shut =
    let same : ◌≡◌ {A = Result Opened OpenFault} (Ok stands.found) (Err fault) = sym stands.is_found ∙ shut in
    cc same

-- a store is refused for its bytes
pub refused_for : (bytes : List ℕ) (fault : OpenFault) → IsRefusal bytes fault → IsRefusedFor bytes (not_opened fault)
refused_for bytes NotAStore is = is
refused_for bytes (Version version) is = is
refused_for bytes (Damaged page kept found) is = is
refused_for bytes (Malformed page at) is = is
refused_for bytes (Disk before after) is = tt
refused_for bytes (NoRoom _) is = tt

module _ {D : Type 0} (d : disk.Ghosts D) where
  -- a store that was opened, and run
  pub opened_run : (start mid end : D) (number : ℕ) (copy : Copy) (detail : Detail) (journal : List Entry)
      → d.contents mid ≡ d.contents start → LeavesOnly d.moment d.since start mid (d.image start)
      → ((bytes : List ℕ) → d.contents start ≡ Some bytes → StandsForCopy bytes number copy)
      → IsLegal (begin number copy) journal
      → (IsTold (d.contents start) → LeavesOnly d.moment d.since mid end (IsOfRun detail (begin number copy) journal))
      → (IsTold (d.contents start) → (left : List ℕ) → d.image end left → IsLastOf detail (after (begin number copy) journal) left)
      → (journal ≡ [] → end ≡ mid) → the_events < unreached detail
      → LeavesDisk d start end detail journal
  opened_run start mid end number copy detail journal same_told leaves stands legal images last still late = record {
    legal = λ bytes told number_ copy_ there. subst (λ (w : World). IsLegal w journal) (same bytes told number_ copy_ there) legal;
    images = λ bytes told number_ copy_ there.
        let P : List ℕ → Type 0 = λ left. d.image start left ⊎ IsOfRun detail (begin number_ copy_) journal left in
        joined d.moment d.since start mid end P
        (weaker d.moment d.since start mid (d.image start) P leaves (λ left was. inl was))
        (weaker d.moment d.since mid end (IsOfRun detail (begin number copy) journal) P (images (bytes, told))
        (λ left of. inr (subst (λ (w : World). IsOfRun detail w journal left) (same bytes told number_ copy_ there) of)));
    last = λ bytes told number_ copy_ there has left here.
        subst (λ (w : World). IsLastOf detail (after w journal) left) (same bytes told number_ copy_ there)
        (last (bytes, told) left here);
    opened = λ bytes told has. (number, copy, stands bytes told);
    refused = λ bytes told. stopped_for bytes detail late;
    shut = λ bytes told fault shut has. never_shut bytes number copy fault (stands bytes told) shut;
    quiet = λ none. (
      ap d.contents (still none) ∙ same_told,
      subst (λ (it : D). LeavesOnly d.moment d.since start it (d.image start)) (sym (still none)) leaves,
    );
    uncalled = λ before. absurd (omega (arith, before, late));
  }
    where
      same : (bytes : List ℕ) → d.contents start ≡ Some bytes → (number_ : ℕ) (copy_ : Copy) → StandsForCopy bytes number_ copy_
          → begin number copy ≡ begin number_ copy_
      same bytes told number_ copy_ there =
          let one = one_copy bytes number number_ copy copy_ (stands bytes told) there in
          λ i. begin (one.0 i) (one.1 i)

  -- a store that was not opened
  pub refused_run : (start end : D) (detail : Detail) → (IsPast the_store detail → ⊥) → the_store < unreached detail
      → d.contents end ≡ d.contents start → LeavesOnly d.moment d.since start end (d.image start)
      → ((bytes : List ℕ) → d.contents start ≡ Some bytes → IsRefusedFor bytes detail) → LeavesDisk d start end detail []
  refused_run start end detail none tried told leaves refused = record {
    legal = λ bytes is number copy stands. tt;
    images = λ bytes is number copy stands.
        weaker d.moment d.since start end (d.image start) (λ left. d.image start left ⊎ IsOfRun detail (begin number copy) [] left)
        leaves (λ left was. inl was);
    last = λ bytes is number copy stands has. absurd (none has);
    opened = λ bytes is has. absurd (none has);
    refused = refused;
    shut = λ bytes is fault shut. none;
    quiet = λ empty. (told, leaves);
    uncalled = λ before. absurd (omega (arith, before, tried));
  }

  -- a disk that was not called
  pub uncalled_run : (disk : D) (detail : Detail) → ((left : List ℕ) → d.since disk (d.moment disk) left → d.image disk left)
      → (IsPast the_store detail → ⊥) → ((bytes : List ℕ) → IsRefusedFor bytes detail) → LeavesDisk d disk disk detail []
  uncalled_run disk detail now none refused =
      let leaves = started d.moment d.since disk (d.image disk) now in
      record {
        legal = λ bytes is number copy stands. tt;
        images = λ bytes is number copy stands.
            weaker d.moment d.since disk disk (d.image disk) (λ left. d.image disk left ⊎ IsOfRun detail (begin number copy) [] left)
            leaves (λ left was. inl was);
        last = λ bytes is number copy stands has. absurd (none has);
        opened = λ bytes is has. absurd (none has);
        refused = λ bytes is. refused bytes;
        shut = λ bytes is fault shut. none;
        quiet = λ empty. (refl, leaves);
        uncalled = λ before. refl;
      }
