-- Lines that stand in their places up to the end are those of a dump that keeps its limits and orders, and such a dump's
-- lines stand so.
use Rattle.std.proofs.Common.{◌≡◌, ℕ, ◌+◌, ◌<◌, ◌≤◌, T, List, [], ◌∷◌, ◌++◌, length, Option, Some, None, IfSome, refl, ap, ◌∙◌, arith}
use Rattle.std.specs.List.{AllByRecursion}
use Rattle.std.specs.Cmp.{nat_cmp_total}
use Rattle.std.specs.Cmp.Lexicographic.{nat_list_cmp_total}
use Rattle.std.specs.Ordering.{nat_cmp}
use Rattle.std.specs.FinMap.{is_sorted}
use Rattle.std.specs.FinMap.Entries.{below_all}
use Rattle.pm_types.specs.Names.{IsName}
use Rattle.pm_types.specs.Orders.{name_cmp}
use Rattle.pm_model.specs.Heap.{Object}
use Rattle.pm_script.specs.Lines.{words_of}
use Rattle.pm_dump.specs.Dump.{DumpLine, HeadLine, ObjectLine, RootLine, EndLine, object_lines, root_lines}
use Rattle.pm_dump.specs.Spelled.{AreFieldWords, AreLineWords, AreLinePieces}
use Rattle.pm_dump.specs.Sound.{IsIdBelow, IsSoundObject}
use Rattle.pm_dump.specs.Faults.{MayStand, IsEnded, IsInOrder, next_in, names_in, IsWithinObject, IsInPlace, AreInPlace}
use Rattle.pm_dump.proofs.Sorted.{less_below, below_less, below_front, sorted_front, sorted_below, sorted_rest, below_first}

-- the numbers of the line are not 0, and its name is a name
abbrev pub IsProper : DumpLine → Type 0
IsProper (HeadLine next) = 1 ≤ next
IsProper (ObjectLine id object) = (1 ≤ id) × AllByRecursion (λ (field : Option ℕ). IfSome field (λ to. 1 ≤ to)) object.fields
IsProper (RootLine name id) = IsName name × (1 ≤ id)
IsProper EndLine = Unit {0}

proper_fields : (fields : List (Option ℕ)) (words : List (List ℕ)) → AreFieldWords fields words → AllByRecursion (λ (field : Option ℕ). IfSome field (λ to. 1 ≤ to)) fields
proper_fields [] words are = tt
proper_fields (field ∷ fields) [] are = absurd are
proper_fields (None ∷ fields) (word ∷ words) are = (tt, proper_fields fields words are.1)
proper_fields (Some to ∷ fields) (word ∷ words) are = (are.0.0, proper_fields fields words are.1)

proper : (line : DumpLine) (words : List (List ℕ)) → AreLineWords line words → IsProper line
proper (HeadLine next) words are = are.some
proper (ObjectLine id object) words are = (are.some, proper_fields object.fields are.fields are.each)
proper (RootLine name id) words are = (are.named, are.some)
proper EndLine words are = tt

-- of lines that are spelled, all numbers are not 0
pub all_proper : (lines : List DumpLine) (pieces : List (List ℕ)) → AreLinePieces lines pieces → AllByRecursion IsProper lines
all_proper [] pieces are = tt
all_proper (line ∷ lines) [] are = absurd are
all_proper (line ∷ lines) (piece ∷ pieces) are = (proper line (words_of piece) are.0, all_proper lines pieces are.1)

held_fields : (next : ℕ) (fields : List (Option ℕ)) → AllByRecursion (λ (field : Option ℕ). IfSome field (λ to. 1 ≤ to)) fields → AllByRecursion (λ (field : Option ℕ). IfSome field (λ to. to < next)) fields
    → AllByRecursion (λ (field : Option ℕ). IfSome field (IsIdBelow next)) fields
held_fields next [] some below = tt
held_fields next (None ∷ fields) some below = (tt, held_fields next fields some.1 below.1)
held_fields next (Some to ∷ fields) some below = ((some.0, below.0), held_fields next fields some.1 below.1)

below_fields : (next : ℕ) (fields : List (Option ℕ)) → AllByRecursion (λ (field : Option ℕ). IfSome field (IsIdBelow next)) fields → AllByRecursion (λ (field : Option ℕ). IfSome field (λ to. to < next)) fields
below_fields next [] held = tt
below_fields next (None ∷ fields) held = (tt, below_fields next fields held.1)
below_fields next (Some to ∷ fields) held = (held.0.1, below_fields next fields held.1)

sound_object : (next id : ℕ) (object : Object) → IsProper (ObjectLine id object) → IsWithinObject next id object → IsSoundObject next id object
sound_object next id object is within = record { is_id = (is.0, within.is_id); few = within.few; held = held_fields next object.fields is.1 within.held; short = within.short }

within_object : (next id : ℕ) (object : Object) → IsSoundObject next id object → IsWithinObject next id object
within_object next id object is = record { is_id = is.is_id.1; few = is.few; held = below_fields next object.fields is.held; short = is.short }

-- the lines begin with the head and have not ended
abbrev pub IsOpen : List DumpLine → Type 0
IsOpen [] = ⊥
IsOpen (EndLine ∷ before) = ⊥
IsOpen (line ∷ before) = Unit {0}

-- objects that may follow these lines: with greater identities, and none behind a name
abbrev pub FollowObjects : List DumpLine → List (ℕ × Object) → Type 0
FollowObjects (ObjectLine id object ∷ before) objects = T (below_all nat_cmp id objects)
FollowObjects (RootLine name id ∷ before) objects = objects ≡ []
FollowObjects before objects = Unit {0}

-- names that may follow these lines: greater ones
abbrev pub FollowRoots : List DumpLine → List (List ℕ × ℕ) → Type 0
FollowRoots (RootLine name id ∷ before) roots = T (below_all name_cmp name roots)
FollowRoots before roots = Unit {0}

-- the objects and names of lines that follow others
pub record Parts (before lines : List DumpLine) : Type 0 where
  pub objects : List (ℕ × Object)
  pub roots : List (List ℕ × ℕ)
  pub whole : lines ≡ object_lines objects ++ (root_lines roots ++ EndLine ∷ [])
  pub sound : AllByRecursion (λ (e : ℕ × Object). IsSoundObject (next_in before) e.0 e.1) objects
  pub ascend : T (is_sorted nat_cmp objects)
  pub above : FollowObjects before objects
  pub few : names_in before + length roots ≤ 4096
  pub named : AllByRecursion (λ (e : List ℕ × ℕ). IsName e.0 × IsIdBelow (next_in before) e.1) roots
  pub names : T (is_sorted name_cmp roots)
  pub later : FollowRoots before roots

pub no_more : (before lines : List DumpLine) → AreInPlace (EndLine ∷ before) lines → lines ≡ []
no_more before [] are = refl
no_more before (HeadLine next ∷ lines) are = absurd are.0.may
no_more before (ObjectLine id object ∷ lines) are = absurd are.0.may
no_more before (RootLine name id ∷ lines) are = absurd are.0.may
no_more before (EndLine ∷ lines) are = absurd are.0.may

follow_none : (before : List DumpLine) → FollowObjects before []
follow_none [] = tt
follow_none (HeadLine next ∷ before) = tt
follow_none (ObjectLine id object ∷ before) = tt
follow_none (RootLine name id ∷ before) = refl
follow_none (EndLine ∷ before) = tt

follow_no_root : (before : List DumpLine) → FollowRoots before []
follow_no_root [] = tt
follow_no_root (HeadLine next ∷ before) = tt
follow_no_root (ObjectLine id object ∷ before) = tt
follow_no_root (RootLine name id ∷ before) = tt
follow_no_root (EndLine ∷ before) = tt

pub not_ended : (before : List DumpLine) → IsOpen before → IsEnded before → ⊥
not_ended [] opened ended = ended
not_ended (HeadLine next ∷ before) opened ended = ended
not_ended (ObjectLine id object ∷ before) opened ended = ended
not_ended (RootLine name id ∷ before) opened ended = ended
not_ended (EndLine ∷ before) opened ended = opened

pub no_head : (before : List DumpLine) (next : ℕ) → IsOpen before → MayStand before (HeadLine next) → ⊥
no_head [] next opened may = opened
no_head (HeadLine first ∷ before) next opened may = may
no_head (ObjectLine id object ∷ before) next opened may = may
no_head (RootLine name id ∷ before) next opened may = may
no_head (EndLine ∷ before) next opened may = may

-- one object more in front
follow_object : (before : List DumpLine) (id : ℕ) (object : Object) (objects : List (ℕ × Object)) → IsInPlace before (ObjectLine id object) → T (below_all nat_cmp id objects) → FollowObjects before ((id, object) ∷ objects)
follow_object [] id object objects is above = tt
follow_object (HeadLine next ∷ before) id object objects is above = tt
follow_object (ObjectLine other held ∷ before) id object objects is above = below_front nat_cmp_total other (id, object) objects (below_less other id is.ordered) above
follow_object (RootLine name held ∷ before) id object objects is above = absurd is.may
follow_object (EndLine ∷ before) id object objects is above = tt

-- names that may follow an object may follow what is before it, which is no name
roots_before : (before : List DumpLine) (id : ℕ) (object : Object) (roots : List (List ℕ × ℕ)) → MayStand before (ObjectLine id object) → FollowRoots before roots
roots_before [] id object roots may = tt
roots_before (HeadLine next ∷ before) id object roots may = tt
roots_before (ObjectLine other held ∷ before) id object roots may = tt
roots_before (RootLine name held ∷ before) id object roots may = absurd may
roots_before (EndLine ∷ before) id object roots may = tt

-- one name more in front
follow_root : (before : List DumpLine) (name : List ℕ) (id : ℕ) (roots : List (List ℕ × ℕ)) → IsInPlace before (RootLine name id) → T (below_all name_cmp name roots) → FollowRoots before ((name, id) ∷ roots)
follow_root [] name id roots is above = tt
follow_root (HeadLine next ∷ before) name id roots is above = tt
follow_root (ObjectLine other held ∷ before) name id roots is above = tt
follow_root (RootLine other held ∷ before) name id roots is above = below_front nat_list_cmp_total other (name, id) roots is.ordered above
follow_root (EndLine ∷ before) name id roots is above = tt

object_more : (before : List DumpLine) (id : ℕ) (object : Object) (lines : List DumpLine) → IsInPlace before (ObjectLine id object) → IsProper (ObjectLine id object) → Parts (ObjectLine id object ∷ before) lines
    → Parts before (ObjectLine id object ∷ lines)
object_more before id object lines is so rest = record {
  objects = (id, object) ∷ rest.objects;
  roots = rest.roots;
  whole = ap (λ (ls : List DumpLine). ObjectLine id object ∷ ls) rest.whole;
  sound = (sound_object (next_in before) id object so is.within, rest.sound);
  ascend = sorted_front nat_cmp_total (id, object) rest.objects rest.above rest.ascend;
  above = follow_object before id object rest.objects is rest.above;
  few = rest.few;
  named = rest.named;
  names = rest.names;
  later = roots_before before id object rest.roots is.may;
}

root_more : (before : List DumpLine) (name : List ℕ) (id : ℕ) (lines : List DumpLine) → IsInPlace before (RootLine name id) → IsProper (RootLine name id) → Parts (RootLine name id ∷ before) lines → Parts before (RootLine name id ∷ lines)
root_more before name id lines is so rest = record {
  objects = [];
  roots = (name, id) ∷ rest.roots;
  whole = ap (λ (ls : List DumpLine). RootLine name id ∷ ls) (rest.whole ∙ ap (λ (os : List (ℕ × Object)). object_lines os ++ (root_lines rest.roots ++ EndLine ∷ [])) rest.above);
  sound = tt;
  ascend = tt;
  above = follow_none before;
  few = (let more = rest.few in omega (arith, more));
  named = ((so.0, (so.1, is.within.0)), rest.named);
  names = sorted_front nat_list_cmp_total (name, id) rest.roots rest.later rest.names;
  later = follow_root before name id rest.roots is rest.later;
}

-- lines in their places are objects, then names, then the end
pub parts : (before lines : List DumpLine) → IsOpen before → names_in before ≤ 4096 → AreInPlace before lines → AllByRecursion IsProper lines → Parts before lines
parts before [] opened few are so = absurd (not_ended before opened are)
parts before (HeadLine next ∷ lines) opened few are so = absurd (no_head before next opened are.0.may)
parts before (ObjectLine id object ∷ lines) opened few are so = object_more before id object lines are.0 so.0 (parts (ObjectLine id object ∷ before) lines tt few are.1 so.1)
parts before (RootLine name id ∷ lines) opened few are so =
    root_more before name id lines are.0 so.0 (parts (RootLine name id ∷ before) lines tt (let lt = are.0.within.1 in omega (arith, lt)) are.1 so.1)
parts before (EndLine ∷ lines) opened few are so = record {
  objects = [];
  roots = [];
  whole = ap (λ (ls : List DumpLine). EndLine ∷ ls) (no_more before lines are.1);
  sound = tt;
  ascend = tt;
  above = follow_none before;
  few = omega (arith, few);
  named = tt;
  names = tt;
  later = follow_no_root before;
}

-- ---- back

pub may_root : (before : List DumpLine) (name : List ℕ) (id : ℕ) → IsOpen before → MayStand before (RootLine name id)
may_root [] name id opened = opened
may_root (HeadLine next ∷ before) name id opened = tt
may_root (ObjectLine other held ∷ before) name id opened = tt
may_root (RootLine other held ∷ before) name id opened = tt
may_root (EndLine ∷ before) name id opened = opened

pub may_end : (before : List DumpLine) → IsOpen before → MayStand before EndLine
may_end [] opened = opened
may_end (HeadLine next ∷ before) opened = tt
may_end (ObjectLine other held ∷ before) opened = tt
may_end (RootLine other held ∷ before) opened = tt
may_end (EndLine ∷ before) opened = opened

end_ordered : (before : List DumpLine) → IsInOrder before EndLine
end_ordered [] = tt
end_ordered (HeadLine next ∷ before) = tt
end_ordered (ObjectLine other held ∷ before) = tt
end_ordered (RootLine other held ∷ before) = tt
end_ordered (EndLine ∷ before) = tt

root_ordered : (before : List DumpLine) (name : List ℕ) (id : ℕ) (roots : List (List ℕ × ℕ)) → FollowRoots before ((name, id) ∷ roots) → IsInOrder before (RootLine name id)
root_ordered [] name id roots later = tt
root_ordered (HeadLine next ∷ before) name id roots later = tt
root_ordered (ObjectLine other held ∷ before) name id roots later = tt
root_ordered (RootLine other held ∷ before) name id roots later = below_first nat_list_cmp_total other (name, id) roots later
root_ordered (EndLine ∷ before) name id roots later = tt

-- names in their order, and the end, stand in their places
pub roots_placed : (before : List DumpLine) (roots : List (List ℕ × ℕ)) → IsOpen before → FollowRoots before roots → T (is_sorted name_cmp roots) → names_in before + length roots ≤ 4096
    → AllByRecursion (λ (e : List ℕ × ℕ). IsName e.0 × IsIdBelow (next_in before) e.1) roots → AreInPlace before (root_lines roots ++ EndLine ∷ [])
roots_placed before [] opened later sorted few named = (record { may = may_end before opened; ordered = end_ordered before; within = tt }, tt)
roots_placed before (e ∷ roots) opened later sorted few named = (
  record { may = may_root before e.0 e.1 opened; ordered = root_ordered before e.0 e.1 roots later; within = (named.0.1.1, omega (arith, few)) },
  roots_placed (RootLine e.0 e.1 ∷ before) roots tt (sorted_below nat_list_cmp_total e roots sorted) (sorted_rest nat_list_cmp_total e roots sorted) (omega (arith, few)) named.1,
)

-- what stands before is the head or an object
abbrev pub IsBeforeObjects : List DumpLine → Type 0
IsBeforeObjects (HeadLine next ∷ before) = Unit {0}
IsBeforeObjects (ObjectLine id object ∷ before) = Unit {0}
IsBeforeObjects before = ⊥

pub may_object : (before : List DumpLine) (id : ℕ) (object : Object) → IsBeforeObjects before → MayStand before (ObjectLine id object)
may_object [] id object opened = opened
may_object (HeadLine next ∷ before) id object opened = tt
may_object (ObjectLine other held ∷ before) id object opened = tt
may_object (RootLine other held ∷ before) id object opened = opened
may_object (EndLine ∷ before) id object opened = opened

object_ordered : (before : List DumpLine) (id : ℕ) (object : Object) (objects : List (ℕ × Object)) → IsBeforeObjects before → FollowObjects before ((id, object) ∷ objects) → IsInOrder before (ObjectLine id object)
object_ordered [] id object objects opened above = tt
object_ordered (HeadLine next ∷ before) id object objects opened above = tt
object_ordered (ObjectLine other held ∷ before) id object objects opened above = less_below other id (below_first nat_cmp_total other (id, object) objects above)
object_ordered (RootLine other held ∷ before) id object objects opened above = absurd opened
object_ordered (EndLine ∷ before) id object objects opened above = tt

pub opened_by : (before : List DumpLine) → IsBeforeObjects before → IsOpen before
opened_by [] opened = opened
opened_by (HeadLine next ∷ before) opened = tt
opened_by (ObjectLine other held ∷ before) opened = tt
opened_by (RootLine other held ∷ before) opened = tt
opened_by (EndLine ∷ before) opened = opened

no_root_yet : (before : List DumpLine) (roots : List (List ℕ × ℕ)) → IsBeforeObjects before → FollowRoots before roots
no_root_yet [] roots opened = tt
no_root_yet (HeadLine next ∷ before) roots opened = tt
no_root_yet (ObjectLine other held ∷ before) roots opened = tt
no_root_yet (RootLine other held ∷ before) roots opened = absurd opened
no_root_yet (EndLine ∷ before) roots opened = tt

-- objects in their order, names and the end stand in their places
pub objects_placed : (before : List DumpLine) (objects : List (ℕ × Object)) (roots : List (List ℕ × ℕ)) → IsBeforeObjects before → FollowObjects before objects → T (is_sorted nat_cmp objects)
    → AllByRecursion (λ (e : ℕ × Object). IsSoundObject (next_in before) e.0 e.1) objects → T (is_sorted name_cmp roots) → names_in before + length roots ≤ 4096
    → AllByRecursion (λ (e : List ℕ × ℕ). IsName e.0 × IsIdBelow (next_in before) e.1) roots → AreInPlace before (object_lines objects ++ (root_lines roots ++ EndLine ∷ []))
objects_placed before [] roots opened above ascend sound names few named = roots_placed before roots (opened_by before opened) (no_root_yet before roots opened) names few named
objects_placed before (e ∷ objects) roots opened above ascend sound names few named = (
  record { may = may_object before e.0 e.1 opened; ordered = object_ordered before e.0 e.1 objects opened above; within = within_object (next_in before) e.0 e.1 sound.0 },
  objects_placed (ObjectLine e.0 e.1 ∷ before) objects roots tt (sorted_below nat_cmp_total e objects ascend) (sorted_rest nat_cmp_total e objects ascend) sound.1 names few named,
)
