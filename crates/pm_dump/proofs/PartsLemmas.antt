-- What one more line makes of the parts of a dump, and why one is refused.
use Rattle.std.proofs.Common.{◌≡◌, ℕ, suc, ◌-◌, ◌<◌, ◌≤◌, ◌^◌, ◌==◌, Bool, true, false, List, [], ◌∷◌, ◌++◌, length, map, take, drop, Option, Some, None, IfSome, slice_get, slice_range, refl, sym, ap, subst, ◌∙◌, arith, length-append, length-drop}
use Rattle.std.proofs.lemmas.List.{take_all, take-append-le, drop-append-le, map-append, length-map}
use Rattle.std.proofs.Math.Seq.{drop-append_seam}
use Rattle.std.proofs.lemmas.Bool.{eqb-true}
use Rattle.std.specs.List.{AllByRecursion}
use Rattle.std.specs.Option.{MatchOption}
use Rattle.pm_types.specs.Counts.{capped}
use Rattle.pm_model.specs.Heap.{Object}
use Rattle.pm_dump.specs.declared.fault.DumpCause.TheVariants as why
use Rattle.pm_dump.specs.declared.fault.DumpCause.{DumpCause}
use Rattle.pm_types.specs.declared.caused.Fault.{Fault}
use Rattle.pm_types.specs.declared.caused.Fault.TheVariants as line_fault
use Rattle.pm_dump.specs.declared.parts.Place.{Place}
use Rattle.pm_dump.specs.declared.parts.DumpRoot.{DumpRoot}
use Rattle.pm_dump.specs.Dump.{DumpLine, HeadLine, ObjectLine, RootLine, EndLine}
use Rattle.pm_dump.specs.Faults.{MayStand, IsWithinObject}
use Rattle.pm_dump.specs.Reading.{head_at, root_at, end_at, object_at}
use Rattle.pm_dump.specs.Read.{objects_shown, AreEnds, head_before, IsHead, IsRoot, IsObject, PutsFields, FailsFields, ReadsWords, FailsWords, HasNoForm, IsAbovePlaces, IsAboveObjects, IsAboveRoots, root_shown}
use Rattle.pm_dump.proofs.Behind.{seen, objects_snoc, roots_snoc, next_seen, names_seen, takes_object, takes_root, takes_end, object_may, end_may, head_may, object_ordered, object_above, root_ordered, root_above, end_ordered, last_later}

-- ---- refusals of form

pub unplaced : (before : List DumpLine) (read : Option DumpLine) (line : DumpLine) → read ≡ Some line → (MayStand before line → ⊥) → HasNoForm before read
unplaced before read line is never = subst (HasNoForm before) (sym is) never

pub unread : (before : List DumpLine) (read : Option DumpLine) → read ≡ None → HasNoForm before read
unread before read is = subst (HasNoForm before) (sym is) tt

-- ---- the head

pub head_again : (ended : Bool) (roots : List (List ℕ × ℕ)) (objects : List (ℕ × Object)) (next number : ℕ) (words : List (List ℕ)) → 0 < next → IsHead words number → HasNoForm (seen ended roots objects next) (head_at words)
head_again ended roots objects next number words some is =
    unplaced (seen ended roots objects next) (head_at words) (HeadLine is.next) is.read (λ may. let zero = head_may ended roots objects next is.next may in omega (arith, zero, some))

-- ---- the end

end_alone : (words : List (List ℕ)) → (length words == 0) ≡ true → end_at words ≡ Some EndLine
unfolding end_at
end_alone [] is = refl
end_alone (word ∷ words) is = absurd (let bad : suc (length words) ≡ 0 = eqb-true (suc (length words)) 0 is in omega (arith, bad))

end_more : (words : List (List ℕ)) → (length words == 0) ≡ false → end_at words ≡ None
unfolding end_at
end_more [] is = absurd (let bad : true ≡ false = is in cc bad)
end_more (word ∷ words) is = refl

pub end_spelled_more : (before : List DumpLine) (words : List (List ℕ)) → (length words == 0) ≡ false → HasNoForm before (end_at words)
end_spelled_more before words is = unread before (end_at words) (end_more words is)

pub end_closed : (ended : Bool) (roots : List (List ℕ × ℕ)) (objects : List (ℕ × Object)) (next : ℕ) (words : List (List ℕ)) → (length words == 0) ≡ true → (next ≡ 0 → objects ≡ []) → (next ≡ 0 → roots ≡ []) → ((0 < next) × (ended ≡ false) → ⊥)
    → HasNoForm (seen ended roots objects next) (end_at words)
end_closed ended roots objects next words none started rooted closed =
    unplaced (seen ended roots objects next) (end_at words) EndLine (end_alone words none) (λ may. let it = end_may ended roots objects next started rooted may in closed (it.1, it.0))

pub end_put : (ended : Bool) (roots : List (List ℕ × ℕ)) (objects : List (ℕ × Object)) (next : ℕ) (words : List (List ℕ)) → (length words == 0) ≡ true → 0 < next → ended ≡ false
    → ReadsWords (seen ended roots objects next) (end_at words) (seen true roots objects next)
end_put ended roots objects next words none some opened =
    let before = seen false roots objects next in
    subst (λ (b : Bool). ReadsWords (seen b roots objects next) (end_at words) (seen true roots objects next)) (sym opened)
    (record { line = EndLine; found = end_alone words none; placed = record { may = takes_end roots objects next some; ordered = end_ordered before; within = tt }; is = refl })

-- ---- names

pub root_behind : (ended : Bool) (roots : List (List ℕ × ℕ)) (objects : List (ℕ × Object)) (next number : ℕ) (words : List (List ℕ)) (name : List ℕ) → IsRoot words name number → 0 < next → ended ≡ false → (IsAboveRoots roots name → ⊥)
    → FailsWords (seen ended roots objects next) (root_at words) (line_fault.Bad why.Order)
root_behind ended roots objects next number words name is some opened never =
    subst (λ (b : Bool). FailsWords (seen b roots objects next) (root_at words) (line_fault.Bad why.Order)) (sym opened)
    (RootLine name is.id, is.read, takes_root roots objects next name is.id some, λ order. never (root_above roots objects next name is.id order))

under : (n number next : ℕ) → number ≡ capped n → number < next → next ≤ 4294967296 → number ≡ n
under n number next is lt last = omega (arith, is, lt, last)

pub not_under : (n number next : ℕ) → number ≡ capped n → next ≤ number → next ≤ 4294967296 → n < next → ⊥
not_under n number next is le last lt = omega (arith, is, le, last, lt)

small_cap : (n number next : ℕ) → number ≡ capped n → n < next → next ≤ 4294967296 → number < next
small_cap n number next is lt last = omega (arith, is, lt, last)

pub root_over : (ended : Bool) (roots : List (List ℕ × ℕ)) (objects : List (ℕ × Object)) (next number : ℕ) (words : List (List ℕ)) (name : List ℕ) → IsRoot words name number → 0 < next → ended ≡ false → IsAboveRoots roots name
    → next ≤ 4294967296 → (number < next → length roots < 4096 → ⊥) → FailsWords (seen ended roots objects next) (root_at words) (line_fault.Bad why.Limit)
root_over ended roots objects next number words name is some opened above last over =
    subst (λ (b : Bool). FailsWords (seen b roots objects next) (root_at words) (line_fault.Bad why.Limit)) (sym opened) (
      RootLine name is.id,
      is.read,
      takes_root roots objects next name is.id some,
      root_ordered roots objects next name is.id above,
      λ within. let a = within.0 in let b = within.1 in let m = next_seen false roots objects next in let k = names_seen false roots objects next in let it = is.is in
          over (small_cap is.id number next it (omega (arith, a, m)) last) (omega (arith, b, k)),
    )

pub root_put : (ended : Bool) (roots : List (List ℕ × ℕ)) (objects : List (ℕ × Object)) (next number : ℕ) (words : List (List ℕ)) (name : List ℕ) → IsRoot words name number → 0 < next → ended ≡ false → IsAboveRoots roots name
    → next ≤ 4294967296 → number < next → length roots < 4096 → ReadsWords (seen ended roots objects next) (root_at words) (seen ended (roots ++ (name, number) ∷ []) objects next)
root_put ended roots objects next number words name is some opened above last lt few =
    let same = under is.id number next is.is lt last in
    let m = next_seen false roots objects next in
    let k = names_seen false roots objects next in
    subst (λ (b : Bool). ReadsWords (seen b roots objects next) (root_at words) (seen b (roots ++ (name, number) ∷ []) objects next)) (sym opened) (
    record {
      line = RootLine name is.id;
      found = is.read;
      placed = record {
        may = takes_root roots objects next name is.id some;
        ordered = root_ordered roots objects next name is.id above;
        within = ((let id = is.id in omega (arith, same, lt, m)), omega (arith, few, k));
      };
      is = roots_snoc roots name number (seen false [] objects next) ∙ ap (λ n. RootLine name n ∷ seen false roots objects next) same;
    }
    )

-- ---- objects

pub ends_below : (from start : ℕ) (places : List Place) (m n : ℕ) → AreEnds from start places m n → (from ≤ m) × (start ≤ n)
ends_below from start [] m n are = (omega (arith, are.0), omega (arith, are.1))
ends_below from start (place ∷ places) m n are =
    let rest = ends_below place.fields place.bytes places m n are.2 in
    (omega (arith, are.0, rest.0), omega (arith, are.1, rest.1))

front_range : {X : Type 0} (xs ys : List X) (i j : ℕ) → j ≤ length xs → i ≤ j → slice_range (xs ++ ys) i j ≡ slice_range xs i j
front_range xs ys i j le up = ap (take (j - i)) (drop-append-le i xs ys (omega (arith, le, up))) ∙ take-append-le (j - i) (drop i xs) ys (omega (arith, length-drop i xs, le, up))

back_range : {X : Type 0} (xs ys : List X) (i : ℕ) → i ≡ length xs → slice_range (xs ++ ys) i (length (xs ++ ys)) ≡ ys
back_range xs ys i is =
    ap (λ i. take (length (xs ++ ys) - i) (drop i (xs ++ ys))) is ∙ ap (take (length (xs ++ ys) - length xs)) (drop-append_seam xs ys)
    ∙ take_all (length (xs ++ ys) - length xs) ys (omega (arith, length-append xs ys))

-- one more object at the end
pub shown_more : (from start : ℕ) (places : List Place) (fields more : List (Option ℕ)) (bytes text : List ℕ) (id : ℕ) → AreEnds from start places (length fields) (length bytes)
    → objects_shown from start (places ++ record { id = id; fields = length (fields ++ more); bytes = length (bytes ++ text) } ∷ []) (fields ++ more) (bytes ++ text)
    ≡ objects_shown from start places fields bytes ++ (id, record { fields = more; bytes = text }) ∷ []
shown_more from start [] fields more bytes text id are = λ i. (id, record { fields = back_range fields more from are.0 i; bytes = back_range bytes text start are.1 i }) ∷ []
shown_more from start (place ∷ places) fields more bytes text id are =
    let below = ends_below place.fields place.bytes places (length fields) (length bytes) are.2 in
    λ i. (place.id, record { fields = front_range fields more from place.fields below.0 are.0 i; bytes = front_range bytes text start place.bytes below.1 are.1 i })
    ∷ shown_more place.fields place.bytes places fields more bytes text id are.2 i

pub ends_more : (from start : ℕ) (places : List Place) (m n k l id : ℕ) → AreEnds from start places m n → m ≤ k → n ≤ l → AreEnds from start (places ++ record { id = id; fields = k; bytes = l } ∷ []) k l
ends_more from start [] m n k l id are up more = (omega (arith, are.0, up), omega (arith, are.1, more), (refl, refl))
ends_more from start (place ∷ places) m n k l id are up more = (are.0, are.1, ends_more place.fields place.bytes places m n k l id are.2 up more)

-- the last of places has the identity of the last object
same_last : (from start : ℕ) (places : List Place) (fields : List (Option ℕ)) (bytes : List ℕ) (id : ℕ) → IsAbovePlaces places id → IsAboveObjects (objects_shown from start places fields bytes) id
same_last from start [] fields bytes id is = tt
same_last from start (place ∷ []) fields bytes id is = is
same_last from start (place ∷ next ∷ places) fields bytes id is =
    subst (λ (o : Option (ℕ × Object)). MatchOption o (Unit {0}) (λ e. e.0 < id)) (sym (last_later (place.id, record { fields = slice_range fields from place.fields; bytes = slice_range bytes start place.bytes }) (next.id, record { fields = slice_range fields place.fields next.fields; bytes = slice_range bytes place.bytes next.bytes }) (objects_shown next.fields next.bytes places fields bytes)))
    (same_last place.fields place.bytes (next ∷ places) fields bytes id (subst (λ (o : Option Place). MatchOption o (Unit {0}) (λ place. place.id < id)) (last_later place next places) is))

last_same : (from start : ℕ) (places : List Place) (fields : List (Option ℕ)) (bytes : List ℕ) (id : ℕ) → IsAboveObjects (objects_shown from start places fields bytes) id → IsAbovePlaces places id
last_same from start [] fields bytes id is = tt
last_same from start (place ∷ []) fields bytes id is = is
last_same from start (place ∷ next ∷ places) fields bytes id is =
    subst (λ (o : Option Place). MatchOption o (Unit {0}) (λ place. place.id < id)) (sym (last_later place next places))
    (last_same place.fields place.bytes (next ∷ places) fields bytes id (subst (λ (o : Option (ℕ × Object)). MatchOption o (Unit {0}) (λ e. e.0 < id)) (last_later (place.id, record { fields = slice_range fields from place.fields; bytes = slice_range bytes start place.bytes }) (next.id, record { fields = slice_range fields place.fields next.fields; bytes = slice_range bytes place.bytes next.bytes }) (objects_shown next.fields next.bytes places fields bytes)) is))

pub not_both : (b : Bool) → b ≡ true → b ≡ false → ⊥
not_both b is never = let bad : true ≡ false = sym is ∙ never in cc bad

-- where no object was put there is none
pub none_shown : (places : List Place) (fields : List (Option ℕ)) (bytes : List ℕ) → places ≡ [] → objects_shown 0 0 places fields bytes ≡ []
none_shown places fields bytes is = ap (λ (places : List Place). objects_shown 0 0 places fields bytes) is

pub same_above : (places : List Place) (fields : List (Option ℕ)) (bytes : List ℕ) (id : ℕ) → IsAbovePlaces places id → IsAboveObjects (objects_shown 0 0 places fields bytes) id
same_above places fields bytes id is = same_last 0 0 places fields bytes id is

pub above_same : (places : List Place) (fields : List (Option ℕ)) (bytes : List ℕ) (id : ℕ) → IsAboveObjects (objects_shown 0 0 places fields bytes) id → IsAbovePlaces places id
above_same places fields bytes id is = last_same 0 0 places fields bytes id is

above_by : (o : Option Place) (id number : ℕ) → number ≡ capped id → MatchOption o (Unit {0}) (λ place. place.id < number) → MatchOption o (Unit {0}) (λ place. place.id < id)
above_by None id number is above = tt
above_by (Some place) id number is above = omega (arith, is, above)

-- what is below the greatest number in its place is below the number
pub above_cap : (places : List Place) (id number : ℕ) → number ≡ capped id → IsAbovePlaces places number → IsAbovePlaces places id
above_cap places id number is above = above_by (slice_get places (length places - 1)) id number is above

pub object_closed : (ended : Bool) (roots : List (List ℕ × ℕ)) (objects : List (ℕ × Object)) (next number : ℕ) (words : List (List ℕ)) (bytes : List ℕ) (count : ℕ) (left : List (List ℕ)) → IsObject words number bytes count left
    → (next ≡ 0 → objects ≡ []) → ((ended ≡ false) × (roots ≡ []) × (0 < next) → ⊥) → HasNoForm (seen ended roots objects next) (object_at words)
object_closed ended roots objects next number words bytes count left is started closed =
    let object : Object = record { fields = is.fields; bytes = bytes } in
    unplaced (seen ended roots objects next) (object_at words) (ObjectLine is.id object) is.read (λ may. closed (object_may ended roots objects next is.id object started may))

pub object_behind : (ended : Bool) (roots : List (List ℕ × ℕ)) (objects : List (ℕ × Object)) (next number : ℕ) (words : List (List ℕ)) (bytes : List ℕ) (count : ℕ) (left : List (List ℕ)) (is : IsObject words number bytes count left)
    → ended ≡ false → roots ≡ [] → 0 < next → (IsAboveObjects objects is.id → ⊥) → FailsWords (seen ended roots objects next) (object_at words) (line_fault.Bad why.Order)
object_behind ended roots objects next number words bytes count left is opened none some never =
    let object : Object = record { fields = is.fields; bytes = bytes } in
    let F : Bool → List (List ℕ × ℕ) → Type 0 = λ b rs. FailsWords (seen b rs objects next) (object_at words) (line_fault.Bad why.Order) in
    subst (λ (b : Bool). F b roots) (sym opened) (subst (λ (rs : List (List ℕ × ℕ)). F false rs) (sym none)
    (ObjectLine is.id object, is.read, takes_object objects next is.id object some, λ order. never (object_above objects next is.id object order)))

pub object_over : (ended : Bool) (roots : List (List ℕ × ℕ)) (objects : List (ℕ × Object)) (next number : ℕ) (words : List (List ℕ)) (bytes : List ℕ) (count : ℕ) (left : List (List ℕ)) (is : IsObject words number bytes count left)
    → ended ≡ false → roots ≡ [] → 0 < next → IsAboveObjects objects is.id → (IsWithinObject next is.id (record { fields = is.fields; bytes = bytes }) → ⊥)
    → FailsWords (seen ended roots objects next) (object_at words) (line_fault.Bad why.Limit)
object_over ended roots objects next number words bytes count left is opened none some above never =
    let object : Object = record { fields = is.fields; bytes = bytes } in
    let F : Bool → List (List ℕ × ℕ) → Type 0 = λ b rs. FailsWords (seen b rs objects next) (object_at words) (line_fault.Bad why.Limit) in
    subst (λ (b : Bool). F b roots) (sym opened) (subst (λ (rs : List (List ℕ × ℕ)). F false rs) (sym none) (
      ObjectLine is.id object,
      is.read,
      takes_object objects next is.id object some,
      object_ordered objects next is.id object above,
      λ within. never (subst (λ n. IsWithinObject n is.id object) (next_seen false [] objects next) within),
    ))

pub object_put : (ended : Bool) (roots : List (List ℕ × ℕ)) (objects : List (ℕ × Object)) (next number : ℕ) (words : List (List ℕ)) (bytes : List ℕ) (count : ℕ) (left : List (List ℕ)) (is : IsObject words number bytes count left)
    → ended ≡ false → roots ≡ [] → 0 < next → IsAboveObjects objects is.id → IsWithinObject next is.id (record { fields = is.fields; bytes = bytes })
    → ReadsWords (seen ended roots objects next) (object_at words) (seen ended roots (objects ++ (is.id, record { fields = is.fields; bytes = bytes }) ∷ []) next)
object_put ended roots objects next number words bytes count left is opened none some above within =
    let object : Object = record { fields = is.fields; bytes = bytes } in
    let F : Bool → List (List ℕ × ℕ) → Type 0 = λ b rs. ReadsWords (seen b rs objects next) (object_at words) (seen b rs (objects ++ (is.id, object) ∷ []) next) in
    subst (λ (b : Bool). F b roots) (sym opened) (subst (λ (rs : List (List ℕ × ℕ)). F false rs) (sym none) (
    record {
      line = ObjectLine is.id object;
      found = is.read;
      placed = record {
        may = takes_object objects next is.id object some;
        ordered = object_ordered objects next is.id object above;
        within = subst (λ n. IsWithinObject n is.id object) (sym (next_seen false [] objects next)) within;
      };
      is = objects_snoc objects is.id object (head_before next);
    }
    ))

-- one name more at the end, as it is shown
pub root_pushed : (ended : Bool) (old new : List DumpRoot) (root : DumpRoot) (objects : List (ℕ × Object)) (next : ℕ) (before : List DumpLine) (read : Option DumpLine) → new ≡ old ++ root ∷ []
    → ReadsWords before read (seen ended (map root_shown old ++ (root.name, root.id) ∷ []) objects next) → ReadsWords before read (seen ended (map root_shown new) objects next)
root_pushed ended old new root objects next before read is reads =
    subst (λ (roots : List (List ℕ × ℕ)). ReadsWords before read (seen ended roots objects next)) (sym (ap (map root_shown) is ∙ map-append root_shown old (root ∷ []))) reads

pub roots_long : (roots : List DumpRoot) → length (map root_shown roots) ≡ length roots
roots_long roots = length-map roots root_shown

pub object_pushed : (ended : Bool) (roots : List (List ℕ × ℕ)) (places : List Place) (fields more all : List (Option ℕ)) (bytes text whole : List ℕ) (next id : ℕ) (place : Place) (ps : List Place) (before : List DumpLine) (read : Option DumpLine)
    → AreEnds 0 0 places (length fields) (length bytes) → all ≡ fields ++ more → whole ≡ bytes ++ text → place ≡ record { id = id; fields = length all; bytes = length whole } → ps ≡ places ++ place ∷ []
    → ReadsWords before read (seen ended roots (objects_shown 0 0 places fields bytes ++ (id, record { fields = more; bytes = text }) ∷ []) next)
    → ReadsWords before read (seen ended roots (objects_shown 0 0 ps all whole) next)
object_pushed ended roots places fields more all bytes text whole next id place ps before read ends a w p is reads =
    let joined : fields ++ more ≡ all = sym a in
    let written : bytes ++ text ≡ whole = sym w in
    let q : places ++ record { id = id; fields = length all; bytes = length whole } ∷ [] ≡ ps = ap (λ (place : Place). places ++ place ∷ []) (sym p) ∙ sym is in
    subst (λ (objects : List (ℕ × Object)). ReadsWords before read (seen ended roots objects next)) (
    sym (shown_more 0 0 places fields more bytes text id ends)
    ∙ (λ i. objects_shown 0 0 (places ++ record { id = id; fields = length (joined i); bytes = length (written i) } ∷ []) (joined i) (written i)) ∙ ap (λ (ps : List Place). objects_shown 0 0 ps all whole) q
    ) reads

back_by : (o : Option Place) (id number : ℕ) → number ≡ capped id → MatchOption o (Unit {0}) (λ place. place.id < 2 ^ 32) → MatchOption o (Unit {0}) (λ place. place.id < id) → MatchOption o (Unit {0}) (λ place. place.id < number)
back_by None id number is small above = tt
back_by (Some place) id number is small above = omega (arith, is, small, above)

pub above_back : (places : List Place) (id number : ℕ) → number ≡ capped id → MatchOption (slice_get places (length places - 1)) (Unit {0}) (λ place. place.id < 2 ^ 32) → IsAbovePlaces places id → IsAbovePlaces places number
above_back places id number is small above = back_by (slice_get places (length places - 1)) id number is small above

pub empty_list : (roots : List DumpRoot) → (length roots == 0) ≡ true → map root_shown roots ≡ []
empty_list [] is = refl
empty_list (root ∷ roots) is = absurd (let bad : suc (length roots) ≡ 0 = eqb-true (suc (length roots)) 0 is in omega (arith, bad))

pub some_list : (roots : List DumpRoot) → (length roots == 0) ≡ false → map root_shown roots ≡ [] → ⊥
some_list [] is none = let bad : true ≡ false = is in cc bad
some_list (root ∷ roots) is none = cc none

-- an object whose fields are over their limit
pub object_fields : (f : Fault DumpCause) (ended : Bool) (roots : List (List ℕ × ℕ)) (objects : List (ℕ × Object)) (next number : ℕ) (words : List (List ℕ)) (bytes : List ℕ) (count : ℕ) (left : List (List ℕ)) (is : IsObject words number bytes count left)
    → ended ≡ false → roots ≡ [] → 0 < next → IsAboveObjects objects is.id → FailsFields left next f → FailsWords (seen ended roots objects next) (object_at words) f
object_fields (line_fault.Bad why.Form) ended roots objects next number words bytes count left is opened none some above fails = absurd fails
object_fields (line_fault.Bad why.Order) ended roots objects next number words bytes count left is opened none some above fails = absurd fails
object_fields (line_fault.Bad why.Limit) ended roots objects next number words bytes count left is opened none some above fails =
    object_over ended roots objects next number words bytes count left is opened none some above (λ within. fails is.fields is.each within.held)
object_fields (line_fault.Bad why.Dangling) ended roots objects next number words bytes count left is opened none some above fails = absurd fails
object_fields (line_fault.Memory _) ended roots objects next number words bytes count left is opened none some above fails = tt

same_fields : (x y : List (Option ℕ)) → ◌≡◌ {A = Option (List (Option ℕ))} (Some x) (Some y) → x ≡ y
same_fields x y is = cc is

-- an object that was put behind the others
pub object_done : (ended : Bool) (roots : List (List ℕ × ℕ)) (places : List Place) (fields all : List (Option ℕ)) (bytes whole text : List ℕ) (next number count : ℕ) (words left : List (List ℕ)) (place : Place) (ps : List Place)
    → IsObject words number text count left → ended ≡ false → roots ≡ [] → 0 < next → IsAbovePlaces places number → next ≤ 4294967296 → number < next → count ≤ 255 → length text ≤ 4096 → PutsFields left next fields all
    → whole ≡ bytes ++ text → place ≡ record { id = number; fields = length all; bytes = length whole } → ps ≡ places ++ place ∷ [] → AreEnds 0 0 places (length fields) (length bytes)
    → ReadsWords (seen ended roots (objects_shown 0 0 places fields bytes) next) (object_at words) (seen ended roots (objects_shown 0 0 ps all whole) next)
object_done ended roots places fields all bytes whole text next number count words left place ps is opened none some above last lt few short puts w p q ends =
    let objects = objects_shown 0 0 places fields bytes in
    let same : is.fields ≡ puts.fields = same_fields is.fields puts.fields (sym is.each ∙ puts.read) in
    let id = under is.id number next is.is lt last in
    let put = object_put ended roots objects next number words text count left is opened none some (same_above places fields bytes is.id (above_cap places is.id number is.is above))
    (record { is_id = (let n = is.id in omega (arith, id, lt)); few = (let k = is.counted in omega (arith, k, few)); held = subst (λ (fs : List (Option ℕ)). AllByRecursion (λ (field : Option ℕ). IfSome field (λ to. to < next)) fs) (sym same) puts.held; short = short }) in
    object_pushed ended roots places fields puts.fields all bytes text whole next number place ps (seen ended roots objects next) (object_at words) ends puts.is w p q
    (subst (λ (n : ℕ). ReadsWords (seen ended roots objects next) (object_at words) (seen ended roots (objects ++ (n, record { fields = puts.fields; bytes = text }) ∷ []) next)) (sym id)
    (subst (λ (fs : List (Option ℕ)). ReadsWords (seen ended roots objects next) (object_at words) (seen ended roots (objects ++ (is.id, record { fields = fs; bytes = text }) ∷ []) next)) same put))

longer : {X : Type 0} (xs ys zs : List X) → zs ≡ xs ++ ys → length xs ≤ length zs
longer xs ys zs is = omega (arith, ap length is, length-append xs ys)

-- and the ends are in order
pub ends_done : (places : List Place) (fields all : List (Option ℕ)) (bytes whole text : List ℕ) (next number : ℕ) (left : List (List ℕ)) (place : Place) (ps : List Place) → PutsFields left next fields all → whole ≡ bytes ++ text
    → place ≡ record { id = number; fields = length all; bytes = length whole } → ps ≡ places ++ place ∷ [] → AreEnds 0 0 places (length fields) (length bytes) → AreEnds 0 0 ps (length all) (length whole)
ends_done places fields all bytes whole text next number left place ps puts w p q ends =
    subst (λ (ps : List Place). AreEnds 0 0 ps (length all) (length whole)) (sym (q ∙ ap (λ (place : Place). places ++ place ∷ []) p))
    (ends_more 0 0 places (length fields) (length bytes) (length all) (length whole) number ends (longer fields puts.fields all puts.is) (longer bytes text whole w))
