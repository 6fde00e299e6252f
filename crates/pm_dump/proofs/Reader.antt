-- What the reader of dumps answers is what the bytes are.
use Rattle.std.proofs.Common.{◌≡◌, ◌⊎◌, inl, inr, ℕ, ◌&&◌, T, List, [], ◌∷◌, ◌++◌, Option, Result, Ok, Err, refl, sym, ap, subst, ◌∙◌, arith}
use Rattle.std.specs.List.{AllByRecursion}
use Rattle.std.specs.Ordering.{nat_cmp, is_lt}
use Rattle.std.specs.FinMap.{is_sorted}
use Rattle.std.specs.FinMap.Entries.{below_all}
use Rattle.pm_model.specs.Heap.{Object}
use Rattle.pm_dump.specs.declared.fault.DumpCause.TheVariants as why
use Rattle.pm_dump.specs.declared.fault.DumpFault.{DumpFault}
use Rattle.pm_dump.specs.declared.fault.DumpFault.TheVariants as dump_fault
use Rattle.pm_dump.specs.declared.parts.Place.{Place}
use Rattle.pm_dump.specs.Dump.{Dump, HeadLine, object_lines, root_lines, EndLine, dump_lines}
use Rattle.pm_dump.specs.Spelled.{pieces_of, SpellsLines, Spells}
use Rattle.pm_dump.specs.Sound.{IsSoundDump}
use Rattle.pm_dump.specs.Faults.{AreInPlace, objects_in, NamesListed, IsFirstDangling, FaultOf}
use Rattle.pm_dump.specs.Answers.{IsDumpFault, Answers}
use Rattle.pm_dump.specs.Read.{objects_shown, keyed}
use Rattle.pm_dump.proofs.Placed.{all_proper, parts}
use Rattle.pm_dump.proofs.Listed.{objects_there}
use Rattle.pm_dump.proofs.DumpLaws.{one_reading, read, not_both, one_fault}
use Rattle.pm_types.specs.Memory.{no_memory}

below_keyed : (x from start : ℕ) (places : List Place) (fields : List (Option ℕ)) (bytes : List ℕ) → below_all nat_cmp x (objects_shown from start places fields bytes) ≡ below_all nat_cmp x (keyed places)
below_keyed x from start [] fields bytes = refl
below_keyed x from start (place ∷ places) fields bytes = ap (λ b. is_lt (nat_cmp x place.id) && b) (below_keyed x place.fields place.bytes places fields bytes)

-- the objects ascend where their places do
pub sorted_keyed : (from start : ℕ) (places : List Place) (fields : List (Option ℕ)) (bytes : List ℕ) → is_sorted nat_cmp (objects_shown from start places fields bytes) ≡ is_sorted nat_cmp (keyed places)
sorted_keyed from start [] fields bytes = refl
sorted_keyed from start (place ∷ places) fields bytes = λ i. below_keyed place.id place.fields place.bytes places fields bytes i && sorted_keyed place.fields place.bytes places fields bytes i

-- the objects of lines in their places ascend
placed_ascend : (bytes : List ℕ) (dump : Dump) → SpellsLines bytes (dump_lines dump) → AreInPlace [] (dump_lines dump) → T (is_sorted nat_cmp dump.objects)
placed_ascend bytes dump spelled placed =
    let rest = object_lines dump.objects ++ (root_lines dump.roots ++ EndLine ∷ []) in
    let proper = all_proper (dump_lines dump) (pieces_of bytes) spelled in
    let it = parts (HeadLine dump.next ∷ []) rest tt (omega arith) placed.1 proper.1 in
    let same : it.objects ≡ dump.objects = sym (objects_there it.objects it.roots) ∙ ap objects_in (sym it.whole) ∙ objects_there dump.objects dump.roots in
    subst (λ (objects : List (ℕ × Object)). T (is_sorted nat_cmp objects)) same it.ascend

pub places_ascend : (bytes : List ℕ) (dump : Dump) (places : List Place) (fields : List (Option ℕ)) (written : List ℕ) → dump.objects ≡ objects_shown 0 0 places fields written → SpellsLines bytes (dump_lines dump) → AreInPlace [] (dump_lines dump)
    → T (is_sorted nat_cmp (keyed places))
places_ascend bytes dump places fields written is spelled placed =
    subst T (ap (is_sorted nat_cmp) is ∙ sorted_keyed 0 0 places fields written) (placed_ascend bytes dump spelled placed)

-- such lines, of which all that they name is listed, are a dump that keeps what a dump keeps
pub sound_read : (bytes : List ℕ) (dump : Dump) → Spells bytes dump → AreInPlace [] (dump_lines dump) → AllByRecursion (NamesListed dump.objects) (dump_lines dump) → IsSoundDump dump
sound_read bytes dump spelled placed listed =
    let it = read bytes (dump_lines dump) spelled placed (subst (λ (objects : List (ℕ × Object)). AllByRecursion (NamesListed objects) (dump_lines dump)) (sym (objects_there dump.objects dump.roots)) listed) in
    subst IsSoundDump (one_reading bytes it.0 dump it.1 spelled) it.2

-- the first line that dangles is their fault
pub dangling_fault : (bytes : List ℕ) (dump : Dump) (number : ℕ) → Spells bytes dump → AreInPlace [] (dump_lines dump) → IsFirstDangling dump.objects 1 (dump_lines dump) number → FaultOf bytes number why.Dangling
dangling_fault bytes dump number spelled placed dangles =
    inr (
      refl,
      record {
        lines = dump_lines dump;
        spelled = spelled;
        placed = placed;
        first = subst (λ (objects : List (ℕ × Object)). IsFirstDangling objects 1 (dump_lines dump) number) (sym (objects_there dump.objects dump.roots)) dangles;
      },
    )

pub found_only : (bytes : List ℕ) (dump other : Dump) → Spells bytes dump → Spells bytes other → ◌≡◌ {A = Result Dump DumpFault} (Ok other) (Ok dump)
found_only bytes dump other is so = ap (λ (dump : Dump). Ok dump) (one_reading bytes other dump so is)

pub fault_only : (f : DumpFault) (bytes : List ℕ) (dump : Dump) → (f ≡ dump_fault.Memory no_memory) ⊎ IsDumpFault f bytes → Spells bytes dump → IsSoundDump dump → Answers {X = Dump} (Err f) (Ok dump)
fault_only (dump_fault.Memory _) bytes dump bad spelled sound = tt
fault_only (dump_fault.Line number cause) bytes dump (inl is) spelled sound = absurd (cc is)
fault_only (dump_fault.Line number cause) bytes dump (inr bad) spelled sound = absurd (not_both bytes dump number cause spelled sound bad)

pub told_not : (f : DumpFault) (bytes : List ℕ) (dump : Dump) → IsDumpFault f bytes → Spells bytes dump → IsSoundDump dump → ⊥
told_not (dump_fault.Line number cause) bytes dump bad spelled sound = not_both bytes dump number cause spelled sound bad
told_not (dump_fault.Memory _) bytes dump bad spelled sound = bad

pub told_only : (f other : DumpFault) (bytes : List ℕ) → (f ≡ dump_fault.Memory no_memory) ⊎ IsDumpFault f bytes → IsDumpFault other bytes → Answers {X = Dump} (Err f) (Err other)
told_only (dump_fault.Memory _) other bytes bad told = tt
told_only (dump_fault.Line number cause) other bytes (inl is) told = absurd (cc is)
told_only (dump_fault.Line number cause) (dump_fault.Memory _) bytes (inr bad) told = absurd told
told_only (dump_fault.Line number cause) (dump_fault.Line line another) bytes (inr bad) told =
    let same = one_fault bytes line number another cause told bad in
    λ i. Err (dump_fault.Line (same.0 i) (same.1 i))
