-- What may stand behind the lines of a dump's parts, and in which order.
use Rattle.std.proofs.Common.{◌≡◌, ℕ, zero, suc, ◌+◌, ◌-◌, ◌<◌, Bool, true, false, List, [], ◌∷◌, ◌++◌, length, slice_get, Option, refl, sym, ap, subst, ◌∙◌, arith}
use Rattle.std.specs.declared.cmp.Ordering.TheVariants.{Less}
use Rattle.std.specs.Option.{MatchOption}
use Rattle.pm_types.specs.Orders.{name_cmp}
use Rattle.pm_model.specs.Heap.{Object}
use Rattle.pm_dump.specs.Dump.{DumpLine, HeadLine, ObjectLine, RootLine, EndLine, object_lines, root_lines}
use Rattle.pm_dump.specs.Faults.{MayStand, IsEnded, IsInOrder, next_in, names_in}
use Rattle.pm_dump.specs.Read.{head_before, objects_before, roots_before, end_before, IsAboveObjects, IsAboveRoots}
use Rattle.pm_dump.proofs.Placed.{IsOpen, IsBeforeObjects, may_object, may_root, may_end, opened_by, no_head, not_ended}

-- the lines of these parts, the nearest first
abbrev pub seen : Bool → List (List ℕ × ℕ) → List (ℕ × Object) → ℕ → List DumpLine
seen ended roots objects next = end_before ended (roots_before roots (objects_before objects (head_before next)))

-- ---- one more

pub objects_snoc : (objects : List (ℕ × Object)) (id : ℕ) (object : Object) (before : List DumpLine) → objects_before (objects ++ (id, object) ∷ []) before ≡ ObjectLine id object ∷ objects_before objects before
objects_snoc [] id object before = refl
objects_snoc (e ∷ objects) id object before = objects_snoc objects id object (ObjectLine e.0 e.1 ∷ before)

pub roots_snoc : (roots : List (List ℕ × ℕ)) (name : List ℕ) (id : ℕ) (before : List DumpLine) → roots_before (roots ++ (name, id) ∷ []) before ≡ RootLine name id ∷ roots_before roots before
roots_snoc [] name id before = refl
roots_snoc (e ∷ roots) name id before = roots_snoc roots name id (RootLine e.0 e.1 ∷ before)

-- ---- numbers

next_objects : (objects : List (ℕ × Object)) (before : List DumpLine) → next_in (objects_before objects before) ≡ next_in before
next_objects [] before = refl
next_objects (e ∷ objects) before = next_objects objects (ObjectLine e.0 e.1 ∷ before)

next_roots : (roots : List (List ℕ × ℕ)) (before : List DumpLine) → next_in (roots_before roots before) ≡ next_in before
next_roots [] before = refl
next_roots (e ∷ roots) before = next_roots roots (RootLine e.0 e.1 ∷ before)

next_head : (next : ℕ) → next_in (head_before next) ≡ next
next_head zero = refl
next_head (suc next) = refl

-- the next identity is that of the head
pub next_seen : (ended : Bool) (roots : List (List ℕ × ℕ)) (objects : List (ℕ × Object)) (next : ℕ) → next_in (seen ended roots objects next) ≡ next
next_seen true roots objects next = next_roots roots (objects_before objects (head_before next)) ∙ next_objects objects (head_before next) ∙ next_head next
next_seen false roots objects next = next_roots roots (objects_before objects (head_before next)) ∙ next_objects objects (head_before next) ∙ next_head next

names_objects : (objects : List (ℕ × Object)) (before : List DumpLine) → names_in (objects_before objects before) ≡ names_in before
names_objects [] before = refl
names_objects (e ∷ objects) before = names_objects objects (ObjectLine e.0 e.1 ∷ before)

names_roots : (roots : List (List ℕ × ℕ)) (before : List DumpLine) → names_in (roots_before roots before) ≡ names_in before + length roots
names_roots [] before = omega arith
names_roots (e ∷ roots) before = names_roots roots (RootLine e.0 e.1 ∷ before) ∙ omega arith

names_head : (next : ℕ) → names_in (head_before next) ≡ 0
names_head zero = refl
names_head (suc next) = refl

-- and there are as many names as were read
pub names_seen : (ended : Bool) (roots : List (List ℕ × ℕ)) (objects : List (ℕ × Object)) (next : ℕ) → names_in (seen ended roots objects next) ≡ length roots
names_seen true roots objects next = names_roots roots (objects_before objects (head_before next)) ∙ ap (λ n. n + length roots) (names_objects objects (head_before next) ∙ names_head next) ∙ omega arith
names_seen false roots objects next = names_roots roots (objects_before objects (head_before next)) ∙ ap (λ n. n + length roots) (names_objects objects (head_before next) ∙ names_head next) ∙ omega arith

-- ---- places

objects_open : (objects : List (ℕ × Object)) (before : List DumpLine) → IsBeforeObjects before → IsBeforeObjects (objects_before objects before)
objects_open [] before is = is
objects_open (e ∷ objects) before is = objects_open objects (ObjectLine e.0 e.1 ∷ before) tt

roots_open : (roots : List (List ℕ × ℕ)) (before : List DumpLine) → IsOpen before → IsOpen (roots_before roots before)
roots_open [] before is = is
roots_open (e ∷ roots) before is = roots_open roots (RootLine e.0 e.1 ∷ before) tt

seen_open : (roots : List (List ℕ × ℕ)) (objects : List (ℕ × Object)) (next : ℕ) → 0 < next → IsOpen (seen false roots objects next)
seen_open roots objects zero some = absurd (omega (arith, some))
seen_open roots objects (suc next) some =
    roots_open roots (objects_before objects (HeadLine (suc next) ∷ [])) (opened_by (objects_before objects (HeadLine (suc next) ∷ [])) (objects_open objects (HeadLine (suc next) ∷ []) tt))

pub takes_object : (objects : List (ℕ × Object)) (next id : ℕ) (object : Object) → 0 < next → MayStand (seen false [] objects next) (ObjectLine id object)
takes_object objects zero id object some = absurd (omega (arith, some))
takes_object objects (suc next) id object some = may_object (objects_before objects (HeadLine (suc next) ∷ [])) id object (objects_open objects (HeadLine (suc next) ∷ []) tt)

pub takes_root : (roots : List (List ℕ × ℕ)) (objects : List (ℕ × Object)) (next : ℕ) (name : List ℕ) (id : ℕ) → 0 < next → MayStand (seen false roots objects next) (RootLine name id)
takes_root roots objects next name id some = may_root (seen false roots objects next) name id (seen_open roots objects next some)

pub takes_end : (roots : List (List ℕ × ℕ)) (objects : List (ℕ × Object)) (next : ℕ) → 0 < next → MayStand (seen false roots objects next) EndLine
takes_end roots objects next some = may_end (seen false roots objects next) (seen_open roots objects next some)

-- the nearest line is one of a name
abbrev IsRootFirst : List DumpLine → Type 0
IsRootFirst (RootLine name id ∷ before) = Unit {0}
IsRootFirst before = ⊥

root_first : (roots : List (List ℕ × ℕ)) (before : List DumpLine) → IsRootFirst before → IsRootFirst (roots_before roots before)
root_first [] before is = is
root_first (e ∷ roots) before is = root_first roots (RootLine e.0 e.1 ∷ before) tt

no_object_there : (before : List DumpLine) (id : ℕ) (object : Object) → IsRootFirst before → MayStand before (ObjectLine id object) → ⊥
no_object_there [] id object is may = is
no_object_there (HeadLine next ∷ before) id object is may = is
no_object_there (ObjectLine other held ∷ before) id object is may = is
no_object_there (RootLine other held ∷ before) id object is may = may
no_object_there (EndLine ∷ before) id object is may = is

-- where an object may stand
pub object_may : (ended : Bool) (roots : List (List ℕ × ℕ)) (objects : List (ℕ × Object)) (next id : ℕ) (object : Object) → (next ≡ 0 → objects ≡ []) → MayStand (seen ended roots objects next) (ObjectLine id object)
    → (ended ≡ false) × (roots ≡ []) × (0 < next)
object_may true roots objects next id object started may = absurd may
object_may false (e ∷ roots) objects next id object started may =
    absurd (no_object_there (seen false (e ∷ roots) objects next) id object (root_first roots (RootLine e.0 e.1 ∷ objects_before objects (head_before next)) tt) may)
object_may false [] objects (suc next) id object started may = (refl, refl, omega arith)
object_may false [] objects zero id object started may = absurd (subst (λ (os : List (ℕ × Object)). MayStand (objects_before os []) (ObjectLine id object)) (started refl) may)

-- where a name may stand
pub root_may : (ended : Bool) (roots : List (List ℕ × ℕ)) (objects : List (ℕ × Object)) (next : ℕ) (name : List ℕ) (id : ℕ) → (next ≡ 0 → objects ≡ []) → (next ≡ 0 → roots ≡ []) → MayStand (seen ended roots objects next) (RootLine name id)
    → (ended ≡ false) × (0 < next)
root_may true roots objects next name id started rooted may = absurd may
root_may false roots objects (suc next) name id started rooted may = (refl, omega arith)
root_may false roots objects zero name id started rooted may =
    absurd (subst (λ (os : List (ℕ × Object)). MayStand (objects_before os []) (RootLine name id)) (started refl) (subst (λ (rs : List (List ℕ × ℕ)). MayStand (roots_before rs (objects_before objects [])) (RootLine name id)) (rooted refl) may))

-- where the end may stand
pub end_may : (ended : Bool) (roots : List (List ℕ × ℕ)) (objects : List (ℕ × Object)) (next : ℕ) → (next ≡ 0 → objects ≡ []) → (next ≡ 0 → roots ≡ []) → MayStand (seen ended roots objects next) EndLine → (ended ≡ false) × (0 < next)
end_may true roots objects next started rooted may = absurd may
end_may false roots objects (suc next) started rooted may = (refl, omega arith)
end_may false roots objects zero started rooted may =
    absurd (subst (λ (os : List (ℕ × Object)). MayStand (objects_before os []) EndLine) (started refl) (subst (λ (rs : List (List ℕ × ℕ)). MayStand (roots_before rs (objects_before objects [])) EndLine) (rooted refl) may))

-- where the head may stand
pub head_may : (ended : Bool) (roots : List (List ℕ × ℕ)) (objects : List (ℕ × Object)) (next head : ℕ) → MayStand (seen ended roots objects next) (HeadLine head) → next ≡ 0
head_may true roots objects next head may = absurd may
head_may false roots objects zero head may = refl
head_may false roots objects (suc next) head may = absurd (no_head (seen false roots objects (suc next)) head (seen_open roots objects (suc next) (omega arith)) may)

-- ---- orders

shifted : (n : ℕ) → suc (suc n) - 1 ≡ suc (suc n - 1)
shifted n = omega arith

-- the last entry is that of those behind the first
pub last_later : {X : Type 0} (e f : X) (es : List X) → slice_get (e ∷ f ∷ es) (length (e ∷ f ∷ es) - 1) ≡ slice_get (f ∷ es) (length (f ∷ es) - 1)
last_later e f es = ap (slice_get (e ∷ f ∷ es)) (shifted (length es))

objects_ordered : (e : ℕ × Object) (objects : List (ℕ × Object)) (before : List DumpLine) (id : ℕ) (object : Object) → IsAboveObjects (e ∷ objects) id → IsInOrder (objects_before (e ∷ objects) before) (ObjectLine id object)
objects_ordered e [] before id object is = is
objects_ordered e (f ∷ objects) before id object is =
    objects_ordered f objects (ObjectLine e.0 e.1 ∷ before) id object (subst (λ (o : Option (ℕ × Object)). MatchOption o (Unit {0}) (λ e. e.0 < id)) (last_later e f objects) is)

order_above : (e : ℕ × Object) (objects : List (ℕ × Object)) (before : List DumpLine) (id : ℕ) (object : Object) → IsInOrder (objects_before (e ∷ objects) before) (ObjectLine id object) → IsAboveObjects (e ∷ objects) id
order_above e [] before id object is = is
order_above e (f ∷ objects) before id object is =
    subst (λ (o : Option (ℕ × Object)). MatchOption o (Unit {0}) (λ e. e.0 < id)) (sym (last_later e f objects)) (order_above f objects (ObjectLine e.0 e.1 ∷ before) id object is)

head_orders : (next : ℕ) (line : DumpLine) → IsInOrder (head_before next) line
head_orders zero (HeadLine head) = tt
head_orders zero (ObjectLine id object) = tt
head_orders zero (RootLine name id) = tt
head_orders zero EndLine = tt
head_orders (suc next) (HeadLine head) = tt
head_orders (suc next) (ObjectLine id object) = tt
head_orders (suc next) (RootLine name id) = tt
head_orders (suc next) EndLine = tt

-- an object is in order just where its identity is above the last one
pub object_ordered : (objects : List (ℕ × Object)) (next id : ℕ) (object : Object) → IsAboveObjects objects id → IsInOrder (seen false [] objects next) (ObjectLine id object)
object_ordered [] next id object is = head_orders next (ObjectLine id object)
object_ordered (e ∷ objects) next id object is = objects_ordered e objects (head_before next) id object is

pub object_above : (objects : List (ℕ × Object)) (next id : ℕ) (object : Object) → IsInOrder (seen false [] objects next) (ObjectLine id object) → IsAboveObjects objects id
object_above [] next id object is = tt
object_above (e ∷ objects) next id object is = order_above e objects (head_before next) id object is

roots_ordered : (e : List ℕ × ℕ) (roots : List (List ℕ × ℕ)) (before : List DumpLine) (name : List ℕ) (id : ℕ) → IsAboveRoots (e ∷ roots) name → IsInOrder (roots_before (e ∷ roots) before) (RootLine name id)
roots_ordered e [] before name id is = is
roots_ordered e (f ∷ roots) before name id is =
    roots_ordered f roots (RootLine e.0 e.1 ∷ before) name id (subst (λ (o : Option (List ℕ × ℕ)). MatchOption o (Unit {0}) (λ e. name_cmp e.0 name ≡ Less)) (last_later e f roots) is)

names_above : (e : List ℕ × ℕ) (roots : List (List ℕ × ℕ)) (before : List DumpLine) (name : List ℕ) (id : ℕ) → IsInOrder (roots_before (e ∷ roots) before) (RootLine name id) → IsAboveRoots (e ∷ roots) name
names_above e [] before name id is = is
names_above e (f ∷ roots) before name id is =
    subst (λ (o : Option (List ℕ × ℕ)). MatchOption o (Unit {0}) (λ e. name_cmp e.0 name ≡ Less)) (sym (last_later e f roots)) (names_above f roots (RootLine e.0 e.1 ∷ before) name id is)

objects_no_order : (objects : List (ℕ × Object)) (before : List DumpLine) (name : List ℕ) (id : ℕ) → IsInOrder before (RootLine name id) → IsInOrder (objects_before objects before) (RootLine name id)
objects_no_order [] before name id is = is
objects_no_order (e ∷ objects) before name id is = objects_no_order objects (ObjectLine e.0 e.1 ∷ before) name id tt

-- a name is in order just where it is above the last one
pub root_ordered : (roots : List (List ℕ × ℕ)) (objects : List (ℕ × Object)) (next : ℕ) (name : List ℕ) (id : ℕ) → IsAboveRoots roots name → IsInOrder (seen false roots objects next) (RootLine name id)
root_ordered [] objects next name id is = objects_no_order objects (head_before next) name id (head_orders next (RootLine name id))
root_ordered (e ∷ roots) objects next name id is = roots_ordered e roots (objects_before objects (head_before next)) name id is

pub root_above : (roots : List (List ℕ × ℕ)) (objects : List (ℕ × Object)) (next : ℕ) (name : List ℕ) (id : ℕ) → IsInOrder (seen false roots objects next) (RootLine name id) → IsAboveRoots roots name
root_above [] objects next name id is = tt
root_above (e ∷ roots) objects next name id is = names_above e roots (objects_before objects (head_before next)) name id is

-- the end is always in order
pub end_ordered : (before : List DumpLine) → IsInOrder before EndLine
end_ordered [] = tt
end_ordered (HeadLine next ∷ before) = tt
end_ordered (ObjectLine other held ∷ before) = tt
end_ordered (RootLine other held ∷ before) = tt
end_ordered (EndLine ∷ before) = tt

-- ---- all lines, from the first on

-- lines with those before them, the first one first
abbrev pub onto : List DumpLine → List DumpLine → List DumpLine
onto [] lines = lines
onto (line ∷ before) lines = onto before (line ∷ lines)

onto_objects : (objects : List (ℕ × Object)) (before lines : List DumpLine) → onto (objects_before objects before) lines ≡ onto before (object_lines objects ++ lines)
onto_objects [] before lines = refl
onto_objects (e ∷ objects) before lines = onto_objects objects (ObjectLine e.0 e.1 ∷ before) lines

onto_roots : (roots : List (List ℕ × ℕ)) (before lines : List DumpLine) → onto (roots_before roots before) lines ≡ onto before (root_lines roots ++ lines)
onto_roots [] before lines = refl
onto_roots (e ∷ roots) before lines = onto_roots roots (RootLine e.0 e.1 ∷ before) lines

-- up to the end they are those of the dump
pub onto_seen : (roots : List (List ℕ × ℕ)) (objects : List (ℕ × Object)) (next : ℕ) → 0 < next → onto (seen true roots objects next) [] ≡ HeadLine next ∷ (object_lines objects ++ (root_lines roots ++ EndLine ∷ []))
onto_seen roots objects zero some = absurd (omega (arith, some))
onto_seen roots objects (suc next) some = onto_roots roots (objects_before objects (HeadLine (suc next) ∷ [])) (EndLine ∷ []) ∙ onto_objects objects (HeadLine (suc next) ∷ []) (root_lines roots ++ EndLine ∷ [])

-- where the end was not read, no more is due
pub seen_not_ended : (ended : Bool) (roots : List (List ℕ × ℕ)) (objects : List (ℕ × Object)) (next : ℕ) → (next ≡ 0 → objects ≡ []) → (next ≡ 0 → roots ≡ []) → ended ≡ false → IsEnded (seen ended roots objects next) → ⊥
seen_not_ended true roots objects next started rooted is ended = let bad : true ≡ false = is in cc bad
seen_not_ended false roots objects (suc next) started rooted is ended = not_ended (seen false roots objects (suc next)) (seen_open roots objects (suc next) (omega arith)) ended
seen_not_ended false roots objects zero started rooted is ended =
    subst (λ (os : List (ℕ × Object)). IsEnded (objects_before os [])) (started refl) (subst (λ (rs : List (List ℕ × ℕ)). IsEnded (roots_before rs (objects_before objects []))) (rooted refl) ended)
