-- Bytes spell a dump or have a fault.
use Rattle.std.proofs.Common.{◌≡◌, ◌⊎◌, inl, inr, ℕ, ◌≤◌, List, [], ◌∷◌, ◌++◌, refl, sym, ap, subst, ◌∙◌, arith}
use Rattle.std.specs.List.{AllByRecursion}
use Rattle.pm_model.specs.Heap.{Object}
use Rattle.pm_dump.specs.declared.fault.DumpCause.{DumpCause}
use Rattle.pm_dump.specs.declared.fault.DumpCause.TheVariants as why
use Rattle.pm_dump.specs.Dump.{Dump, DumpLine, HeadLine, ObjectLine, RootLine, EndLine, object_lines, root_lines, dump_lines}
use Rattle.pm_dump.specs.Spelled.{pieces_of, SpellsLines, Spells}
use Rattle.pm_dump.specs.Sound.{IsSoundDump}
use Rattle.pm_dump.specs.Faults.{AreInPlace, objects_in, NamesListed, IsFirstDangling, FaultOf}
use Rattle.pm_dump.proofs.Placed.{IsProper, all_proper, Parts, parts, objects_placed}
use Rattle.pm_dump.proofs.Scanned.{Scanned, scanned, one_among, not_among, one_lines}
use Rattle.pm_dump.proofs.Listed.{Followed, followed, one_dangling, not_dangling, objects_there, one_dump, named_roots, named_fields, lines_listed}

-- bytes spell one dump at most
pub one_reading : (bytes : List ℕ) (some other : Dump) → Spells bytes some → Spells bytes other → some ≡ other
one_reading bytes some other is_some is_other = one_dump some other (one_lines (pieces_of bytes) (dump_lines some) (dump_lines other) is_some is_other)

-- what is told of lines: a dump whose lines they are, and that it keeps what a dump keeps
abbrev Read : List DumpLine → Type 0
Read lines = (dump : Dump) × (lines ≡ dump_lines dump) × IsSoundDump dump

read_parts : (next : ℕ) (lines : List DumpLine) → 1 ≤ next → next ≤ 4294967296 → Parts (HeadLine next ∷ []) lines → AllByRecursion (NamesListed (objects_in lines)) lines → Read (HeadLine next ∷ lines)
read_parts next lines first last it listed =
    let whole = object_lines it.objects ++ (root_lines it.roots ++ EndLine ∷ []) in
    let same : objects_in lines ≡ it.objects = ap objects_in it.whole ∙ objects_there it.objects it.roots in
    let all : AllByRecursion (NamesListed it.objects) whole =
    subst (λ (ls : List DumpLine). AllByRecursion (NamesListed it.objects) ls) it.whole (subst (λ (os : List (ℕ × Object)). AllByRecursion (NamesListed os) lines) same listed) in (
      record { next = next; objects = it.objects; roots = it.roots },
      ap (λ (ls : List DumpLine). HeadLine next ∷ ls) it.whole,
      record {
        first = first;
        last = last;
        objects = it.sound;
        ascend = it.ascend;
        few = (let few = it.few in omega (arith, few));
        named = it.named;
        names = it.names;
        fields = named_fields it.objects it.objects it.roots all;
        roots = named_roots it.objects it.objects it.roots all;
      },
    )

read_lines : (lines : List DumpLine) → AllByRecursion IsProper lines → AreInPlace [] lines → AllByRecursion (NamesListed (objects_in lines)) lines → Read lines
read_lines [] so placed listed = absurd placed
read_lines (HeadLine next ∷ lines) so placed listed = read_parts next lines so.0 placed.0.within (parts (HeadLine next ∷ []) lines tt (omega arith) placed.1 so.1) listed.1
read_lines (ObjectLine id object ∷ lines) so placed listed = absurd placed.0.may
read_lines (RootLine name id ∷ lines) so placed listed = absurd placed.0.may
read_lines (EndLine ∷ lines) so placed listed = absurd placed.0.may

-- lines that the bytes spell, in their places, with all that they name listed, are those of a dump
pub read : (bytes : List ℕ) (lines : List DumpLine) → SpellsLines bytes lines → AreInPlace [] lines → AllByRecursion (NamesListed (objects_in lines)) lines → (dump : Dump) × Spells bytes dump × IsSoundDump dump
read bytes lines spelled placed listed =
    let it = read_lines lines (all_proper lines (pieces_of bytes) spelled) placed listed in
    (it.0, subst (SpellsLines bytes) it.1 spelled, it.2)

-- the lines of a dump stand in their places
pub dump_placed : (dump : Dump) → IsSoundDump dump → AreInPlace [] (dump_lines dump)
dump_placed dump is =
    (record { may = tt; ordered = tt; within = is.last }, objects_placed (HeadLine dump.next ∷ []) dump.objects dump.roots tt tt is.ascend is.objects is.names (let few = is.few in omega (arith, few)) is.named)

-- and all that they name is listed
dump_listed : (dump : Dump) → IsSoundDump dump → AllByRecursion (NamesListed (objects_in (dump_lines dump))) (dump_lines dump)
dump_listed dump is =
    let same : objects_in (dump_lines dump) ≡ dump.objects = objects_there dump.objects dump.roots in
    subst (λ (os : List (ℕ × Object)). AllByRecursion (NamesListed os) (dump_lines dump)) (sym same) (tt, lines_listed dump.objects dump.objects dump.roots is.fields is.roots)

abbrev Either : List ℕ → Type 0
Either bytes = ((dump : Dump) × Spells bytes dump × IsSoundDump dump) ⊎ ((number : ℕ) × (cause : DumpCause) × FaultOf bytes number cause)

followed_lines : (bytes : List ℕ) (lines : List DumpLine) → SpellsLines bytes lines → AreInPlace [] lines → Followed (objects_in lines) 1 lines → Either bytes
followed_lines bytes lines spelled placed (inl all) = inl (read bytes lines spelled placed all)
followed_lines bytes lines spelled placed (inr (number, dangles)) = inr (number, why.Dangling, inr (refl, record { lines = lines; spelled = spelled; placed = placed; first = dangles }))

either_by : (bytes : List ℕ) → Scanned [] 1 (pieces_of bytes) → Either bytes
either_by bytes (inl (lines, spelled, placed)) = followed_lines bytes lines spelled placed (followed (objects_in lines) 1 lines)
either_by bytes (inr (number, cause, bad)) = inr (number, cause, inl bad)

-- bytes spell a dump, or have a fault
pub either : (bytes : List ℕ) → ((dump : Dump) × Spells bytes dump × IsSoundDump dump) ⊎ ((number : ℕ) × (cause : DumpCause) × FaultOf bytes number cause)
either bytes = either_by bytes (scanned bytes)

-- and not both
pub not_both : (bytes : List ℕ) (dump : Dump) (number : ℕ) (cause : DumpCause) → Spells bytes dump → IsSoundDump dump → FaultOf bytes number cause → ⊥
not_both bytes dump number cause spelled is (inl bad) = not_among [] 1 (pieces_of bytes) (dump_lines dump) number cause spelled (dump_placed dump is) bad
not_both bytes dump number cause spelled is (inr (same, bad)) =
    not_dangling (objects_in (dump_lines dump)) 1 (dump_lines dump) number (dump_listed dump is)
    (subst (λ (ls : List DumpLine). IsFirstDangling (objects_in ls) 1 ls number) (one_lines (pieces_of bytes) bad.lines (dump_lines dump) bad.spelled spelled) bad.first)

-- and they have one fault at most
pub one_fault : (bytes : List ℕ) (number other : ℕ) (cause another : DumpCause) → FaultOf bytes number cause → FaultOf bytes other another → (number ≡ other) × (cause ≡ another)
one_fault bytes number other cause another (inl a) (inl b) = one_among [] 1 (pieces_of bytes) number other cause another a b
one_fault bytes number other cause another (inl a) (inr b) = absurd (not_among [] 1 (pieces_of bytes) b.1.lines number cause b.1.spelled b.1.placed a)
one_fault bytes number other cause another (inr a) (inl b) = absurd (not_among [] 1 (pieces_of bytes) a.1.lines other another a.1.spelled a.1.placed b)
one_fault bytes number other cause another (inr (is, a)) (inr (so, b)) = (
  one_dangling (objects_in a.lines) 1 a.lines number other a.first (subst (λ (ls : List DumpLine). IsFirstDangling (objects_in ls) 1 ls other) (one_lines (pieces_of bytes) b.lines a.lines b.spelled a.spelled) b.first),
  is ∙ sym so,
)
