-- Why bytes are no dump: the first line that is bad in its form, its order or its limits, with its first such cause; and
-- where no line is, the first line that names an object that is not listed.
use Rattle.std.specs.Prelude.{◌≡◌, ◌⊎◌, ℕ, ◌+◌, ◌<◌, ◌≤◌, List, [], ◌∷◌, length, Option, IfSome}
use Rattle.std.specs.List.{AllByRecursion}
use Rattle.std.specs.declared.cmp.Ordering.TheVariants.{Less}
use Rattle.pm_types.specs.declared.limits.TheConstants.{FIELDS, OBJECT_BYTES, ROOTS, END_ID}
use Rattle.pm_types.specs.Orders.{name_cmp}
use Rattle.pm_model.specs.Heap.{Object}
use Rattle.pm_model.specs.Copying.{held_ids}
use Rattle.pm_dump.specs.declared.fault.DumpCause.{DumpCause}
use Rattle.pm_dump.specs.declared.fault.DumpCause.TheVariants as why
use Rattle.pm_dump.specs.Dump.{DumpLine, HeadLine, ObjectLine, RootLine, EndLine}
use Rattle.pm_dump.specs.Spelled.{IsSpelledLine, pieces_of, SpellsLines}
use Rattle.pm_dump.specs.Sound.{IsListed}

-- In what follows, the lines before one are listed the nearest first.

-- a line of this kind may stand there: the head first, then objects, then names, then the end, and nothing behind it
abbrev pub MayStand : List DumpLine → DumpLine → Type 0
MayStand [] (HeadLine next) = Unit {0}
MayStand (HeadLine first ∷ before) (ObjectLine id object) = Unit {0}
MayStand (HeadLine first ∷ before) (RootLine name id) = Unit {0}
MayStand (HeadLine first ∷ before) EndLine = Unit {0}
MayStand (ObjectLine other held ∷ before) (ObjectLine id object) = Unit {0}
MayStand (ObjectLine other held ∷ before) (RootLine name id) = Unit {0}
MayStand (ObjectLine other held ∷ before) EndLine = Unit {0}
MayStand (RootLine other held ∷ before) (RootLine name id) = Unit {0}
MayStand (RootLine other held ∷ before) EndLine = Unit {0}
MayStand before line = ⊥

-- the line before is the end, so that no more is due
abbrev pub IsEnded : List DumpLine → Type 0
IsEnded (EndLine ∷ before) = Unit {0}
IsEnded before = ⊥

-- an identity or a name is greater than that of the object or the name in the line before
abbrev pub IsInOrder : List DumpLine → DumpLine → Type 0
IsInOrder (ObjectLine other held ∷ before) (ObjectLine id object) = other < id
IsInOrder (RootLine other held ∷ before) (RootLine name id) = name_cmp other name ≡ Less
IsInOrder before line = Unit {0}

-- the next identity that the head gives
abbrev pub next_in : List DumpLine → ℕ
next_in [] = 0
next_in (HeadLine next ∷ before) = next
next_in (line ∷ before) = next_in before

-- how many names stand in the lines
abbrev pub names_in : List DumpLine → ℕ
names_in [] = 0
names_in (RootLine name id ∷ before) = names_in before + 1
names_in (line ∷ before) = names_in before

-- the numbers of an object are within their limits
pub record IsWithinObject (next id : ℕ) (object : Object) : Type 0 where
  pub is_id : id < next
  pub few : length object.fields ≤ FIELDS
  pub held : AllByRecursion (λ (field : Option ℕ). IfSome field (λ to. to < next)) object.fields
  pub short : length object.bytes ≤ OBJECT_BYTES

-- the numbers of the line are within their limits
abbrev pub IsWithin : List DumpLine → DumpLine → Type 0
IsWithin before (HeadLine next) = next ≤ END_ID
IsWithin before (ObjectLine id object) = IsWithinObject (next_in before) id object
IsWithin before (RootLine name id) = (id < next_in before) × (names_in before < ROOTS)
IsWithin before EndLine = Unit {0}

-- the line may stand there, in its order and within its limits
pub record IsInPlace (before : List DumpLine) (line : DumpLine) : Type 0 where
  pub may : MayStand before line
  pub ordered : IsInOrder before line
  pub within : IsWithin before line

-- each of these lines may stand there, one after the other, and they go up to the end
abbrev pub AreInPlace : List DumpLine → List DumpLine → Type 0
AreInPlace before [] = IsEnded before
AreInPlace before (line ∷ lines) = IsInPlace before line × AreInPlace (line ∷ before) lines

-- the bytes spell a line that may stand there, and it is not in order
pub record HasOrderFault (before : List DumpLine) (body : List ℕ) : Type 0 where
  pub line : DumpLine
  pub spelled : IsSpelledLine line body
  pub may : MayStand before line
  pub fails : IsInOrder before line → ⊥

-- they spell one in order, and it is not within its limits
pub record HasLimitFault (before : List DumpLine) (body : List ℕ) : Type 0 where
  pub line : DumpLine
  pub spelled : IsSpelledLine line body
  pub may : MayStand before line
  pub ordered : IsInOrder before line
  pub fails : IsWithin before line → ⊥

-- this is the first cause why the line is bad, whatever the lines behind it are
abbrev pub IsLineFault : List DumpLine → List ℕ → DumpCause → Type 0
IsLineFault before body why.Form = (line : DumpLine) → IsSpelledLine line body → MayStand before line → ⊥
IsLineFault before body why.Order = HasOrderFault before body
IsLineFault before body why.Limit = HasLimitFault before body
IsLineFault before body why.Dangling = ⊥

-- the line is not bad: it spells this one, which may stand there
pub record IsGoodLine (before : List DumpLine) (body : List ℕ) (line : DumpLine) : Type 0 where
  pub spelled : IsSpelledLine line body
  pub placed : IsInPlace before line

-- Of these pieces, the first of which is the line of this number, this one is bad for this cause, and those before it are
-- not. The last piece has no newline: nothing may stand there, and only behind the end is nothing due.
abbrev pub IsFaultAmong : List DumpLine → ℕ → List (List ℕ) → ℕ → DumpCause → Type 0
IsFaultAmong before start [] number cause = ⊥
IsFaultAmong before start (body ∷ []) number cause = (number ≡ start) × (cause ≡ why.Form) × (body ≡ [] → IsEnded before → ⊥)
IsFaultAmong before start (body ∷ next ∷ bodies) number cause =
    ((number ≡ start) × IsLineFault before body cause)
    ⊎ ((line : DumpLine) × IsGoodLine before body line × IsFaultAmong (line ∷ before) (start + 1) (next ∷ bodies) number cause)

-- the objects of lines, in order
abbrev pub objects_in : List DumpLine → List (ℕ × Object)
objects_in [] = []
objects_in (ObjectLine id object ∷ lines) = (id, object) ∷ objects_in lines
objects_in (line ∷ lines) = objects_in lines

-- each object that the line names is listed
abbrev pub NamesListed : List (ℕ × Object) → DumpLine → Type 0
NamesListed objects (ObjectLine id object) = AllByRecursion (IsListed objects) (held_ids object)
NamesListed objects (RootLine name id) = IsListed objects id
NamesListed objects line = Unit {0}

-- of these lines, the first of which has this number, the one of that number is the first that names one that is not
abbrev pub IsFirstDangling : List (ℕ × Object) → ℕ → List DumpLine → ℕ → Type 0
IsFirstDangling objects start [] number = ⊥
IsFirstDangling objects start (line ∷ lines) number =
    ((number ≡ start) × (NamesListed objects line → ⊥)) ⊎ (NamesListed objects line × IsFirstDangling objects (start + 1) lines number)

-- no line of the bytes is bad in its form, its order or its limits, and this is the first one that dangles
pub record HasDangling (bytes : List ℕ) (number : ℕ) : Type 0 where
  pub lines : List DumpLine
  pub spelled : SpellsLines bytes lines
  pub placed : AreInPlace [] lines
  pub first : IsFirstDangling (objects_in lines) 1 lines number

-- the line of this number, counted from 1, is the one that is told, for this cause
abbrev pub FaultOf : List ℕ → ℕ → DumpCause → Type 0
FaultOf bytes number cause = IsFaultAmong [] 1 (pieces_of bytes) number cause ⊎ ((cause ≡ why.Dangling) × HasDangling bytes number)
