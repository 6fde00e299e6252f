-- What the reader of dumps has read: the parts of a dump, and the lines that they are.
use Rattle.std.specs.Prelude.{◌≡◌, ℕ, zero, suc, ◌≤◌, ◌<◌, Bool, true, false, List, [], ◌∷◌, ◌++◌, map, length, Option, Some, None, ◌-◌, slice_get, slice_range, IfSome, IsSome}
use Rattle.std.specs.Ordering.{nat_cmp}
use Rattle.std.specs.FinMap.{find}
use Rattle.std.specs.declared.cmp.Ordering.TheVariants.{Less}
use Rattle.std.specs.Option.{MatchOption}
use Rattle.std.specs.Borrow.{Bor}
use Rattle.pm_types.specs.Orders.{name_cmp}
use Rattle.std.specs.List.{AllByRecursion}
use Rattle.pm_types.specs.Counts.{capped}
use Rattle.pm_types.specs.declared.limits.TheConstants.{END_ID}
use Rattle.pm_model.specs.Heap.{Object}
use Rattle.pm_script.specs.Lines.{parts_in}
use Rattle.pm_dump.specs.declared.fault.DumpCause.{DumpCause}
use Rattle.pm_types.specs.declared.caused.Fault.{Fault}
use Rattle.pm_types.specs.declared.caused.Fault.TheVariants as line_fault
use Rattle.pm_dump.specs.declared.fault.DumpFault.{DumpFault}
use Rattle.pm_dump.specs.declared.fault.DumpFault.TheVariants as dump_fault
use Rattle.pm_dump.specs.declared.parts.Place.{Place}
use Rattle.pm_dump.specs.declared.parts.DumpRoot.{DumpRoot}
use Rattle.pm_dump.specs.declared.parts.Parts.{Parts}
use Rattle.pm_dump.specs.Dump.{Dump, DumpLine, HeadLine, ObjectLine, RootLine, EndLine}
use Rattle.pm_dump.specs.Reading.{numeral_at, fields_at, object_at, root_at, head_at}
use Rattle.pm_dump.specs.declared.fault.DumpCause.TheVariants as why
use Rattle.pm_dump.specs.Faults.{MayStand, IsInOrder, IsWithin, IsInPlace, IsLineFault, IsGoodLine, IsFaultAmong}
use Rattle.pm_dump.specs.Spelled.{pieces_of}

-- the words that are left
abbrev pub words_in : Option (Bor (List ℕ)) → List (List ℕ)
words_in left = parts_in 32 left

-- the objects that stand one after the other in a list of fields and a list of bytes, each up to its ends
abbrev pub objects_shown : ℕ → ℕ → List Place → List (Option ℕ) → List ℕ → List (ℕ × Object)
objects_shown from start [] fields bytes = []
objects_shown from start (place ∷ places) fields bytes =
    (place.id, record { fields = slice_range fields from place.fields; bytes = slice_range bytes start place.bytes }) ∷ objects_shown place.fields place.bytes places fields bytes

-- each object ends where the next begins, and the last ends where the lists end
abbrev pub AreEnds : ℕ → ℕ → List Place → ℕ → ℕ → Type 0
AreEnds from start [] fields bytes = (from ≡ fields) × (start ≡ bytes)
AreEnds from start (place ∷ places) fields bytes = (from ≤ place.fields) × (start ≤ place.bytes) × AreEnds place.fields place.bytes places fields bytes

-- a name and its identity
abbrev pub root_shown : DumpRoot → List ℕ × ℕ
root_shown root = (root.name, root.id)

-- what the parts are
abbrev pub dump_in : Parts → Dump
dump_in parts = record {
  next = parts.next;
  objects = objects_shown 0 0 parts.places.items parts.fields.items parts.bytes.items;
  roots = map root_shown parts.roots.items;
}

-- the lines before, the nearest first, of these objects and names
abbrev pub head_before : ℕ → List DumpLine
head_before zero = []
head_before (suc next) = HeadLine (suc next) ∷ []

abbrev pub objects_before : List (ℕ × Object) → List DumpLine → List DumpLine
objects_before [] before = before
objects_before (e ∷ objects) before = objects_before objects (ObjectLine e.0 e.1 ∷ before)

abbrev pub roots_before : List (List ℕ × ℕ) → List DumpLine → List DumpLine
roots_before [] before = before
roots_before (e ∷ roots) before = roots_before roots (RootLine e.0 e.1 ∷ before)

abbrev pub end_before : Bool → List DumpLine → List DumpLine
end_before true before = EndLine ∷ before
end_before false before = before

-- the lines that were read, the nearest first
abbrev pub before_in : Parts → List DumpLine
before_in parts = end_before parts.ended (roots_before (dump_in parts).roots (objects_before (dump_in parts).objects (head_before parts.next)))

-- the identity is above that of the last object
abbrev pub IsAboveObjects : List (ℕ × Object) → ℕ → Type 0
IsAboveObjects objects id = MatchOption (slice_get objects (length objects - 1)) (Unit {0}) (λ e. e.0 < id)

-- the name is above the last one
abbrev pub IsAboveRoots : List (List ℕ × ℕ) → List ℕ → Type 0
IsAboveRoots roots name = MatchOption (slice_get roots (length roots - 1)) (Unit {0}) (λ e. name_cmp e.0 name ≡ Less)

-- what the parts keep: nothing stands before the head, whose number is within its limit, and the ends of objects are in order
pub record AreKept (parts : Parts) : Type 0 where
  pub last : parts.next ≤ END_ID
  pub ends : AreEnds 0 0 parts.places.items (length parts.fields.items) (length parts.bytes.items)
  pub no_objects : parts.next ≡ 0 → parts.places.items ≡ []
  pub no_roots : parts.next ≡ 0 → parts.roots.items ≡ []
  pub no_end : parts.next ≡ 0 → parts.ended ≡ false

-- a good line was read behind these
pub record ReadsLine (before : List DumpLine) (body : List ℕ) (after : List DumpLine) : Type 0 where
  pub line : DumpLine
  pub good : IsGoodLine before body line
  pub is : after ≡ line ∷ before

-- a fault of a line is its first cause, but that memory may run out at any time
abbrev pub FailsLine : List DumpLine → List ℕ → Fault DumpCause → Type 0
FailsLine before body (line_fault.Bad cause) = IsLineFault before body cause
FailsLine before body (line_fault.Memory _) = Unit {0}

-- the fault of the line of this number is its first cause, but that memory may run out at any time
abbrev pub FailsAt : List DumpLine → List ℕ → ℕ → DumpFault → Type 0
FailsAt before body start (dump_fault.Line number cause) = (number ≡ start) × IsLineFault before body cause
FailsAt before body start (dump_fault.Memory _) = Unit {0}

-- the fault of lines is that of the first that is bad in its form, its order or its limits, but that memory may run out
abbrev pub FailsLines : List ℕ → DumpFault → Type 0
FailsLines bytes (dump_fault.Line number cause) = IsFaultAmong [] 1 (pieces_of bytes) number cause
FailsLines bytes (dump_fault.Memory _) = Unit {0}

-- a line was read of words, and it stands in its place behind these
pub record ReadsWords (before : List DumpLine) (read : Option DumpLine) (after : List DumpLine) : Type 0 where
  pub line : DumpLine
  pub found : read ≡ Some line
  pub placed : IsInPlace before line
  pub is : after ≡ line ∷ before

-- the line that was read of words, if there is one, may not stand there
abbrev pub HasNoForm : List DumpLine → Option DumpLine → Type 0
HasNoForm before None = Unit {0}
HasNoForm before (Some line) = MayStand before line → ⊥

-- a fault of what was read of words is its first cause, but that memory may run out at any time
abbrev pub FailsWords : List DumpLine → Option DumpLine → Fault DumpCause → Type 0
FailsWords before read (line_fault.Bad why.Form) = HasNoForm before read
FailsWords before read (line_fault.Bad why.Order) = (line : DumpLine) × (read ≡ Some line) × MayStand before line × (IsInOrder before line → ⊥)
FailsWords before read (line_fault.Bad why.Limit) = (line : DumpLine) × (read ≡ Some line) × MayStand before line × IsInOrder before line × (IsWithin before line → ⊥)
FailsWords before read (line_fault.Bad why.Dangling) = ⊥
FailsWords before read (line_fault.Memory _) = Unit {0}

-- no line was read of words, which is a fault of form, but that memory may run out at any time
abbrev pub LacksForm : Option DumpLine → Fault DumpCause → Type 0
LacksForm read (line_fault.Bad why.Form) = read ≡ None
LacksForm read (line_fault.Bad cause) = ⊥
LacksForm read (line_fault.Memory _) = Unit {0}

-- the words behind `pmos` spell a head with this number, or with a greater one where it is the greatest of 64 bits
pub record IsHead (words : List (List ℕ)) (number : ℕ) : Type 0 where
  pub next : ℕ
  pub read : head_at words ≡ Some (HeadLine next)
  pub some : 1 ≤ next
  pub is : number ≡ capped next

-- the words behind `root` spell this name with this number, or with a greater one where it is the greatest of 64 bits
pub record IsRoot (words : List (List ℕ)) (name : List ℕ) (number : ℕ) : Type 0 where
  pub id : ℕ
  pub read : root_at words ≡ Some (RootLine name id)
  pub some : 1 ≤ id
  pub is : number ≡ capped id

-- The words behind `object` spell an object of these bytes and so many fields, which the words that are left spell, with
-- this number, or with a greater one where it is the greatest of 64 bits.
pub record IsObject (words : List (List ℕ)) (number : ℕ) (bytes : List ℕ) (count : ℕ) (left : List (List ℕ)) : Type 0 where
  pub id : ℕ
  pub fields : List (Option ℕ)
  pub read : object_at words ≡ Some (ObjectLine id (record { fields = fields; bytes = bytes }))
  pub is : number ≡ capped id
  pub counted : count ≡ length fields
  pub each : fields_at left ≡ Some fields

-- fields that words spell were put behind others, each within its limit
pub record PutsFields (words : List (List ℕ)) (next : ℕ) (old new : List (Option ℕ)) : Type 0 where
  pub fields : List (Option ℕ)
  pub read : fields_at words ≡ Some fields
  pub held : AllByRecursion (λ (field : Option ℕ). IfSome field (λ to. to < next)) fields
  pub is : new ≡ old ++ fields

-- a fault of fields that words spell is that one is over its limit, but that memory may run out at any time
abbrev pub FailsFields : List (List ℕ) → ℕ → Fault DumpCause → Type 0
FailsFields words next (line_fault.Bad why.Limit) =
    (fields : List (Option ℕ)) → fields_at words ≡ Some fields → AllByRecursion (λ (field : Option ℕ). IfSome field (λ to. to < next)) fields → ⊥
FailsFields words next (line_fault.Bad cause) = ⊥
FailsFields words next (line_fault.Memory _) = Unit {0}

-- a word that is no name has no form
abbrev pub LacksName : Option (List ℕ) → Fault DumpCause → Type 0
LacksName read (line_fault.Bad why.Form) = read ≡ None
LacksName read (line_fault.Bad cause) = ⊥
LacksName read (line_fault.Memory _) = Unit {0}

-- the identity is above that of the last of these
abbrev pub IsAbovePlaces : List Place → ℕ → Type 0
IsAbovePlaces places id = MatchOption (slice_get places (length places - 1)) (Unit {0}) (λ place. place.id < id)

-- the words spell so many fields, which the word before them says
pub record HasFields (count : List ℕ) (words : List (List ℕ)) (said : ℕ) : Type 0 where
  pub fields : List (Option ℕ)
  pub each : fields_at words ≡ Some fields
  pub read : numeral_at count ≡ Some said
  pub is : said ≡ length fields

-- they do not
abbrev pub LacksFields : List ℕ → List (List ℕ) → Type 0
LacksFields count words = (fields : List (Option ℕ)) → fields_at words ≡ Some fields → numeral_at count ≡ Some (length fields) → ⊥

-- the objects by their identities
abbrev pub keyed : List Place → List (ℕ × Place)
keyed places = map (λ place. (place.id, place)) places

-- an object of this identity is among these
abbrev pub IsAmong : List Place → ℕ → Type 0
IsAmong places id = IsSome (find nat_cmp id (keyed places))

-- each of these fields is null or holds an object that is among these
abbrev pub AreAmong : List Place → List (Option ℕ) → Type 0
AreAmong places fields = AllByRecursion (λ (field : Option ℕ). IfSome field (IsAmong places)) fields

-- what an object's fields hold is among these
abbrev pub IsFollowed : List Place → ℕ × Object → Type 0
IsFollowed places e = AreAmong places e.1.fields

-- what a name stands for is among these
abbrev pub IsNamed : List Place → List ℕ × ℕ → Type 0
IsNamed places e = IsAmong places e.1

-- the entry at this place is the first without the property
abbrev pub IsFirstWithout : {X : Type 0} → (X → Type 0) → List X → ℕ → Type 0
IsFirstWithout P [] at = ⊥
IsFirstWithout P (x ∷ xs) zero = P x → ⊥
IsFirstWithout P (x ∷ xs) (suc at) = P x × IsFirstWithout P xs at
