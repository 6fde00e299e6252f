-- What the lines of a dump name is listed, or one is the first that names what is not.
use Rattle.std.proofs.Common.{◌≡◌, ◌⊎◌, inl, inr, ℕ, ◌+◌, List, [], ◌∷◌, ◌++◌, refl, sym, ap, ◌∙◌}
use Rattle.std.specs.List.{AllByRecursion}
use Rattle.std.specs.Ordering.{nat_cmp}
use Rattle.std.specs.FinMap.{find}
use Rattle.pm_model.specs.Heap.{Object}
use Rattle.pm_model.specs.Copying.{held_ids}
use Rattle.pm_dump.specs.Dump.{Dump, DumpLine, HeadLine, ObjectLine, RootLine, EndLine, object_lines, root_lines, dump_lines}
use Rattle.pm_dump.specs.Sound.{IsListed}
use Rattle.pm_dump.specs.Faults.{objects_in, NamesListed, IsFirstDangling}
use Rattle.pm_dump.proofs.Decided.{Decided, each_decided, some_decided}

names_decided : (objects : List (ℕ × Object)) (line : DumpLine) → Decided (NamesListed objects line)
names_decided objects (HeadLine next) = inl tt
names_decided objects (ObjectLine id object) = each_decided (IsListed objects) (λ to. some_decided (find nat_cmp to objects)) (held_ids object)
names_decided objects (RootLine name id) = some_decided (find nat_cmp id objects)
names_decided objects EndLine = inl tt

-- what is told of lines: that all that they name is listed, or the first that names what is not
abbrev pub Followed : List (ℕ × Object) → ℕ → List DumpLine → Type 0
Followed objects start lines = AllByRecursion (NamesListed objects) lines ⊎ ((number : ℕ) × IsFirstDangling objects start lines number)

follow_by : (objects : List (ℕ × Object)) (start : ℕ) (line : DumpLine) (lines : List DumpLine) → Decided (NamesListed objects line) → Followed objects (start + 1) lines → Followed objects start (line ∷ lines)
follow_by objects start line lines (inl is) (inl all) = inl (is, all)
follow_by objects start line lines (inl is) (inr (number, dangles)) = inr (number, inr (is, dangles))
follow_by objects start line lines (inr never) rest = inr (start, inl (refl, never))

pub followed : (objects : List (ℕ × Object)) (start : ℕ) (lines : List DumpLine) → Followed objects start lines
followed objects start [] = inl tt
followed objects start (line ∷ lines) = follow_by objects start line lines (names_decided objects line) (followed objects (start + 1) lines)

-- one line is the first that dangles
pub one_dangling : (objects : List (ℕ × Object)) (start : ℕ) (lines : List DumpLine) (m n : ℕ) → IsFirstDangling objects start lines m → IsFirstDangling objects start lines n → m ≡ n
one_dangling objects start [] m n a b = absurd a
one_dangling objects start (line ∷ lines) m n (inl a) (inl b) = a.0 ∙ sym b.0
one_dangling objects start (line ∷ lines) m n (inl a) (inr b) = absurd (a.1 b.0)
one_dangling objects start (line ∷ lines) m n (inr a) (inl b) = absurd (b.1 a.0)
one_dangling objects start (line ∷ lines) m n (inr a) (inr b) = one_dangling objects (start + 1) lines m n a.1 b.1

-- where all is listed, none dangles
pub not_dangling : (objects : List (ℕ × Object)) (start : ℕ) (lines : List DumpLine) (n : ℕ) → AllByRecursion (NamesListed objects) lines → IsFirstDangling objects start lines n → ⊥
not_dangling objects start [] n all bad = bad
not_dangling objects start (line ∷ lines) n all (inl bad) = bad.1 all.0
not_dangling objects start (line ∷ lines) n all (inr bad) = not_dangling objects (start + 1) lines n all.1 bad.1

-- ---- the objects and the names of a dump's lines

-- the names of lines, in order
abbrev pub roots_in : List DumpLine → List (List ℕ × ℕ)
roots_in [] = []
roots_in (RootLine name id ∷ lines) = (name, id) ∷ roots_in lines
roots_in (line ∷ lines) = roots_in lines

none_in_roots : (roots : List (List ℕ × ℕ)) → objects_in (root_lines roots ++ EndLine ∷ []) ≡ []
none_in_roots [] = refl
none_in_roots (e ∷ roots) = none_in_roots roots

pub objects_there : (objects : List (ℕ × Object)) (roots : List (List ℕ × ℕ)) → objects_in (object_lines objects ++ (root_lines roots ++ EndLine ∷ [])) ≡ objects
objects_there [] roots = none_in_roots roots
objects_there (e ∷ objects) roots = ap (λ (es : List (ℕ × Object)). e ∷ es) (objects_there objects roots)

roots_alone : (roots : List (List ℕ × ℕ)) → roots_in (root_lines roots ++ EndLine ∷ []) ≡ roots
roots_alone [] = refl
roots_alone (e ∷ roots) = ap (λ (es : List (List ℕ × ℕ)). e ∷ es) (roots_alone roots)

roots_there : (objects : List (ℕ × Object)) (roots : List (List ℕ × ℕ)) → roots_in (object_lines objects ++ (root_lines roots ++ EndLine ∷ [])) ≡ roots
roots_there [] roots = roots_alone roots
roots_there (e ∷ objects) roots = roots_there objects roots

next_at : List DumpLine → ℕ
next_at (HeadLine next ∷ lines) = next
next_at lines = 0

-- lines are those of one dump at most
pub one_dump : (a b : Dump) → dump_lines a ≡ dump_lines b → a ≡ b
unfolding next_at
one_dump a b is =
    let next : a.next ≡ b.next = ap next_at is in
    let objects = sym (objects_there a.objects a.roots) ∙ ap objects_in is ∙ objects_there b.objects b.roots in
    let roots = sym (roots_there a.objects a.roots) ∙ ap roots_in is ∙ roots_there b.objects b.roots in
    λ i. record { next = next i; objects = objects i; roots = roots i }

-- ---- what the lines name, and what the dump names

roots_named : (all : List (ℕ × Object)) (roots : List (List ℕ × ℕ)) → AllByRecursion (NamesListed all) (root_lines roots ++ EndLine ∷ []) → AllByRecursion (λ (e : List ℕ × ℕ). IsListed all e.1) roots
roots_named all [] are = tt
roots_named all (e ∷ roots) are = (are.0, roots_named all roots are.1)

pub named_roots : (all objects : List (ℕ × Object)) (roots : List (List ℕ × ℕ)) → AllByRecursion (NamesListed all) (object_lines objects ++ (root_lines roots ++ EndLine ∷ [])) → AllByRecursion (λ (e : List ℕ × ℕ). IsListed all e.1) roots
named_roots all [] roots are = roots_named all roots are
named_roots all (e ∷ objects) roots are = named_roots all objects roots are.1

pub named_fields : (all objects : List (ℕ × Object)) (roots : List (List ℕ × ℕ)) → AllByRecursion (NamesListed all) (object_lines objects ++ (root_lines roots ++ EndLine ∷ []))
    → AllByRecursion (λ (e : ℕ × Object). AllByRecursion (IsListed all) (held_ids e.1)) objects
named_fields all [] roots are = tt
named_fields all (e ∷ objects) roots are = (are.0, named_fields all objects roots are.1)

roots_names : (all : List (ℕ × Object)) (roots : List (List ℕ × ℕ)) → AllByRecursion (λ (e : List ℕ × ℕ). IsListed all e.1) roots → AllByRecursion (NamesListed all) (root_lines roots ++ EndLine ∷ [])
roots_names all [] are = (tt, tt)
roots_names all (e ∷ roots) are = (are.0, roots_names all roots are.1)

pub lines_listed : (all objects : List (ℕ × Object)) (roots : List (List ℕ × ℕ)) → AllByRecursion (λ (e : ℕ × Object). AllByRecursion (IsListed all) (held_ids e.1)) objects
    → AllByRecursion (λ (e : List ℕ × ℕ). IsListed all e.1) roots → AllByRecursion (NamesListed all) (object_lines objects ++ (root_lines roots ++ EndLine ∷ []))
lines_listed all [] roots fields named = roots_names all roots named
lines_listed all (e ∷ objects) roots fields named = (fields.0, lines_listed all objects roots fields.1 named)
