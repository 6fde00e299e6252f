-- The first object or name that leads to no object, found by going over all of them.
use Rattle.std.proofs.Common.{◌≡◌, inl, inr, ℕ, zero, suc, ◌+◌, ◌<◌, ◌≤◌, Bool, true, false, cond, List, [], ◌∷◌, ◌++◌, length, map, drop, get_or, Option, Some, None, slice_range, is_some, refl, sym, ap, subst, ◌∙◌, arith}
use Rattle.std.proofs.lemmas.List.{at_drop_more, length-map}
use Rattle.std.specs.List.{AllByRecursion, flat_map}
use Rattle.std.specs.Ordering.{nat_cmp, eq_by_cmp}
use Rattle.std.specs.FinMap.{find}
use Rattle.pm_model.specs.Heap.{Object}
use Rattle.pm_model.specs.Copying.{field_id}
use Rattle.pm_dump.specs.declared.parts.Place.{Place}
use Rattle.pm_dump.specs.declared.parts.DumpRoot.{DumpRoot}
use Rattle.pm_dump.specs.Dump.{DumpLine, HeadLine, EndLine, object_lines, root_lines}
use Rattle.pm_dump.specs.Sound.{IsListed}
use Rattle.pm_dump.specs.Faults.{NamesListed, IsFirstDangling}
use Rattle.pm_dump.specs.Read.{objects_shown, AreEnds, root_shown, keyed, IsAmong, AreAmong, IsFollowed, IsNamed, IsFirstWithout}
use Rattle.pm_dump.proofs.PartsLemmas.{ends_below}

-- going over objects: these are left from a place on
pub record OverObjects (all : List (ℕ × Object)) (places : List Place) (fields : List (Option ℕ)) (bytes : List ℕ) (from at : ℕ) : Type 0 where
  pub start : ℕ
  pub ends : AreEnds from start (drop at places) (length fields) (length bytes)
  pub back : AllByRecursion (IsFollowed places) (objects_shown from start (drop at places) fields bytes) → AllByRecursion (IsFollowed places) all
  pub first : (n : ℕ) → IsFirstWithout (IsFollowed places) (objects_shown from start (drop at places) fields bytes) n → IsFirstWithout (IsFollowed places) all (at + n)

left_place : (places : List Place) (at : ℕ) (d : Place) → at < length places → drop at places ≡ get_or places at d ∷ drop (at + 1) places
left_place places at d lt = at_drop_more (λ (ps : List Place). ps) places at d lt

-- the ends of the next object
pub over_ends : (all : List (ℕ × Object)) (places : List Place) (fields : List (Option ℕ)) (bytes : List ℕ) (from at : ℕ) (d : Place) → OverObjects all places fields bytes from at → at < length places → (from ≤ (get_or places at d).fields) × ((get_or places at d).fields ≤ length fields)
over_ends all places fields bytes from at d so lt =
    let ends = subst (λ (ps : List Place). AreEnds from so.start ps (length fields) (length bytes)) (left_place places at d lt) so.ends in
    (ends.0, (ends_below (get_or places at d).fields (get_or places at d).bytes (drop (at + 1) places) (length fields) (length bytes) ends.2).0)

-- one more is followed
pub over_more : (all : List (ℕ × Object)) (places : List Place) (fields : List (Option ℕ)) (bytes : List ℕ) (from at : ℕ) (d : Place) → OverObjects all places fields bytes from at → at < length places → AreAmong places (slice_range fields from (get_or places at d).fields) → OverObjects all places fields bytes (get_or places at d).fields (at + 1)
over_more all places fields bytes from at d so lt among =
    let left = left_place places at d lt in
    let ends = subst (λ (ps : List Place). AreEnds from so.start ps (length fields) (length bytes)) left so.ends in
    record {
      start = (get_or places at d).bytes;
      ends = ends.2;
      back = λ rest. so.back (subst (λ (ps : List Place). AllByRecursion (IsFollowed places) (objects_shown from so.start ps fields bytes)) (sym left) (among, rest));
      first = λ n stray.
          subst (IsFirstWithout (IsFollowed places) all) (let same : at + suc n ≡ at + 1 + n = omega arith in same)
          (so.first (suc n) (subst (λ (ps : List Place). IsFirstWithout (IsFollowed places) (objects_shown from so.start ps fields bytes) (suc n)) (sym left) (among, stray)));
    }

-- one is not
pub over_stray : (all : List (ℕ × Object)) (places : List Place) (fields : List (Option ℕ)) (bytes : List ℕ) (from at : ℕ) (d : Place) → OverObjects all places fields bytes from at → at < length places → (AreAmong places (slice_range fields from (get_or places at d).fields) → ⊥) → IsFirstWithout (IsFollowed places) all at
over_stray all places fields bytes from at d so lt never =
    subst (IsFirstWithout (IsFollowed places) all) (let same : at + 0 ≡ at = omega arith in same)
    (so.first 0 (subst (λ (ps : List Place). IsFirstWithout (IsFollowed places) (objects_shown from so.start ps fields bytes) 0) (sym (left_place places at d lt)) never))

-- ---- names

pub record OverRoots (places : List Place) (roots : List DumpRoot) (at : ℕ) : Type 0 where
  pub back : AllByRecursion (IsNamed places) (map root_shown (drop at roots)) → AllByRecursion (IsNamed places) (map root_shown roots)
  pub first : (n : ℕ) → IsFirstWithout (IsNamed places) (map root_shown (drop at roots)) n → IsFirstWithout (IsNamed places) (map root_shown roots) (at + n)

pub none_named : (places : List Place) (roots : List DumpRoot) → OverRoots places roots 0
none_named places roots = record { back = λ all. all; first = λ n is. subst (IsFirstWithout (IsNamed places) (map root_shown roots)) (let same : n ≡ 0 + n = omega arith in same) is }

left_root : (roots : List DumpRoot) (at : ℕ) (d : DumpRoot) → at < length roots → drop at roots ≡ get_or roots at d ∷ drop (at + 1) roots
left_root roots at d lt = at_drop_more (λ (rs : List DumpRoot). rs) roots at d lt

pub named_more : (places : List Place) (roots : List DumpRoot) (at : ℕ) (d : DumpRoot) → OverRoots places roots at → at < length roots → IsAmong places (get_or roots at d).id → OverRoots places roots (at + 1)
named_more places roots at d so lt among =
    let left = left_root roots at d lt in
    record {
      back = λ rest. so.back (subst (λ (rs : List DumpRoot). AllByRecursion (IsNamed places) (map root_shown rs)) (sym left) (among, rest));
      first = λ n stray.
          subst (IsFirstWithout (IsNamed places) (map root_shown roots)) (let same : at + suc n ≡ at + 1 + n = omega arith in same)
          (so.first (suc n) (subst (λ (rs : List DumpRoot). IsFirstWithout (IsNamed places) (map root_shown rs) (suc n)) (sym left) (among, stray)));
    }

pub named_stray : (places : List Place) (roots : List DumpRoot) (at : ℕ) (d : DumpRoot) → OverRoots places roots at → at < length roots → (IsAmong places (get_or roots at d).id → ⊥) → IsFirstWithout (IsNamed places) (map root_shown roots) at
named_stray places roots at d so lt never =
    subst (IsFirstWithout (IsNamed places) (map root_shown roots)) (let same : at + 0 ≡ at = omega arith in same)
    (so.first 0 (subst (λ (rs : List DumpRoot). IsFirstWithout (IsNamed places) (map root_shown rs) 0) (sym (left_root roots at d lt)) never))

-- ---- lines

same_some : {X Y : Type 0} (b : Bool) (x : X) (y : Y) (o : Option X) (p : Option Y) → is_some o ≡ is_some p → is_some (cond b (Some x) o) ≡ is_some (cond b (Some y) p)
same_some true x y o p is = refl
same_some false x y o p is = is

same_found : (from start : ℕ) (places : List Place) (fields : List (Option ℕ)) (bytes : List ℕ) (id : ℕ) → is_some (find nat_cmp id (objects_shown from start places fields bytes)) ≡ is_some (find nat_cmp id (keyed places))
same_found from start [] fields bytes id = refl
same_found from start (place ∷ places) fields bytes id =
    same_some (eq_by_cmp nat_cmp id place.id) (record { fields = slice_range fields from place.fields; bytes = slice_range bytes start place.bytes }) place (find nat_cmp id (objects_shown place.fields place.bytes places fields bytes))
    (find nat_cmp id (keyed places)) (same_found place.fields place.bytes places fields bytes id)

module _ (from start : ℕ) (places : List Place) (fields : List (Option ℕ)) (bytes : List ℕ) where
  listed_if : (id : ℕ) → IsAmong places id → IsListed (objects_shown from start places fields bytes) id
  listed_if id is = same_found from start places fields bytes id ∙ is

  among_if : (id : ℕ) → IsListed (objects_shown from start places fields bytes) id → IsAmong places id
  among_if id is = sym (same_found from start places fields bytes id) ∙ is

  names_if : (held : List (Option ℕ)) → AreAmong places held → AllByRecursion (IsListed (objects_shown from start places fields bytes)) (flat_map field_id held)
  names_if [] are = tt
  names_if (None ∷ held) are = names_if held are.1
  names_if (Some id ∷ held) are = (listed_if id are.0, names_if held are.1)

  holds_if : (held : List (Option ℕ)) → AllByRecursion (IsListed (objects_shown from start places fields bytes)) (flat_map field_id held) → AreAmong places held
  holds_if [] are = tt
  holds_if (None ∷ held) are = (tt, holds_if held are)
  holds_if (Some id ∷ held) are = (among_if id are.0, holds_if held are.1)

  roots_dangle : (roots : List (List ℕ × ℕ)) (tail : List DumpLine) (line at : ℕ) → IsFirstWithout (IsNamed places) roots at → IsFirstDangling (objects_shown from start places fields bytes) line (root_lines roots ++ tail) (line + at)
  roots_dangle [] tail line at is = absurd is
  roots_dangle (e ∷ roots) tail line zero is = inl (omega arith, λ listed. is (among_if e.1 listed))
  roots_dangle (e ∷ roots) tail line (suc at) is =
      inr (listed_if e.1 is.0, subst (IsFirstDangling (objects_shown from start places fields bytes) (line + 1) (root_lines roots ++ tail)) (let same : line + 1 + at ≡ line + suc at = omega arith in same) (roots_dangle roots tail (line + 1) at is.1))

  objects_dangle : (objects : List (ℕ × Object)) (tail : List DumpLine) (line at : ℕ) → IsFirstWithout (IsFollowed places) objects at → IsFirstDangling (objects_shown from start places fields bytes) line (object_lines objects ++ tail) (line + at)
  objects_dangle [] tail line at is = absurd is
  objects_dangle (e ∷ objects) tail line zero is = inl (omega arith, λ listed. is (holds_if e.1.fields listed))
  objects_dangle (e ∷ objects) tail line (suc at) is =
      inr (names_if e.1.fields is.0, subst (IsFirstDangling (objects_shown from start places fields bytes) (line + 1) (object_lines objects ++ tail)) (let same : line + 1 + at ≡ line + suc at = omega arith in same) (objects_dangle objects tail (line + 1) at is.1))

  past_objects : (objects : List (ℕ × Object)) (tail : List DumpLine) (line n : ℕ) → AllByRecursion (IsFollowed places) objects → IsFirstDangling (objects_shown from start places fields bytes) (line + length objects) tail n
      → IsFirstDangling (objects_shown from start places fields bytes) line (object_lines objects ++ tail) n
  past_objects [] tail line n all is = subst (λ line. IsFirstDangling (objects_shown from start places fields bytes) line tail n) (let same : line + 0 ≡ line = omega arith in same) is
  past_objects (e ∷ objects) tail line n all is =
      inr (names_if e.1.fields all.0, past_objects objects tail (line + 1) n all.1 (subst (λ line. IsFirstDangling (objects_shown from start places fields bytes) line tail n) (let same : line + suc (length objects) ≡ line + 1 + length objects = omega arith in same) is))

  roots_listed : (roots : List (List ℕ × ℕ)) → AllByRecursion (IsNamed places) roots → AllByRecursion (NamesListed (objects_shown from start places fields bytes)) (root_lines roots ++ EndLine ∷ [])
  roots_listed [] all = (tt, tt)
  roots_listed (e ∷ roots) all = (listed_if e.1 all.0, roots_listed roots all.1)

  objects_listed : (objects : List (ℕ × Object)) (tail : List DumpLine) → AllByRecursion (IsFollowed places) objects → AllByRecursion (NamesListed (objects_shown from start places fields bytes)) tail
      → AllByRecursion (NamesListed (objects_shown from start places fields bytes)) (object_lines objects ++ tail)
  objects_listed [] tail all rest = rest
  objects_listed (e ∷ objects) tail all rest = (names_if e.1.fields all.0, objects_listed objects tail all.1 rest)

pub as_many : (from start : ℕ) (places : List Place) (fields : List (Option ℕ)) (bytes : List ℕ) → length (objects_shown from start places fields bytes) ≡ length places
as_many from start [] fields bytes = refl
as_many from start (place ∷ places) fields bytes = ap suc (as_many place.fields place.bytes places fields bytes)

module _ (places : List Place) (fields : List (Option ℕ)) (bytes : List ℕ) (roots : List (List ℕ × ℕ)) (next : ℕ) where
  pub object_strays : (at line : ℕ) → line ≡ at + 2 → IsFirstWithout (IsFollowed places) (objects_shown 0 0 places fields bytes) at
      → IsFirstDangling (objects_shown 0 0 places fields bytes) 1 (HeadLine next ∷ (object_lines (objects_shown 0 0 places fields bytes) ++ (root_lines roots ++ EndLine ∷ []))) line
  object_strays at line told is =
      subst (λ n. IsFirstDangling (objects_shown 0 0 places fields bytes) 1 (HeadLine next ∷ (object_lines (objects_shown 0 0 places fields bytes) ++ (root_lines roots ++ EndLine ∷ []))) n) (sym told) (inr (
        tt,
        subst (IsFirstDangling (objects_shown 0 0 places fields bytes) (1 + 1) (object_lines (objects_shown 0 0 places fields bytes) ++ (root_lines roots ++ EndLine ∷ []))) (let same : 2 + at ≡ at + 2 = omega arith in same)
            (objects_dangle 0 0 places fields bytes (objects_shown 0 0 places fields bytes) (root_lines roots ++ EndLine ∷ []) 2 at is),
      ))

  pub root_strays : (at line : ℕ) → line ≡ length places + 2 + at → AllByRecursion (IsFollowed places) (objects_shown 0 0 places fields bytes) → IsFirstWithout (IsNamed places) roots at
      → IsFirstDangling (objects_shown 0 0 places fields bytes) 1 (HeadLine next ∷ (object_lines (objects_shown 0 0 places fields bytes) ++ (root_lines roots ++ EndLine ∷ []))) line
  root_strays at line told all is =
      subst (λ n. IsFirstDangling (objects_shown 0 0 places fields bytes) 1 (HeadLine next ∷ (object_lines (objects_shown 0 0 places fields bytes) ++ (root_lines roots ++ EndLine ∷ []))) n) (sym told) (inr (
        tt,
        past_objects 0 0 places fields bytes (objects_shown 0 0 places fields bytes) (root_lines roots ++ EndLine ∷ []) 2 (length places + 2 + at) all
            (subst (λ n. IsFirstDangling (objects_shown 0 0 places fields bytes) (2 + length (objects_shown 0 0 places fields bytes)) (root_lines roots ++ EndLine ∷ []) n)
            (let same : 2 + length (objects_shown 0 0 places fields bytes) + at ≡ length places + 2 + at = omega (arith, as_many 0 0 places fields bytes) in same)
            (roots_dangle 0 0 places fields bytes roots (EndLine ∷ []) (2 + length (objects_shown 0 0 places fields bytes)) at is)),
      ))

  pub none_strays : AllByRecursion (IsFollowed places) (objects_shown 0 0 places fields bytes) → AllByRecursion (IsNamed places) roots
      → AllByRecursion (NamesListed (objects_shown 0 0 places fields bytes)) (HeadLine next ∷ (object_lines (objects_shown 0 0 places fields bytes) ++ (root_lines roots ++ EndLine ∷ [])))
  none_strays all named = (tt, objects_listed 0 0 places fields bytes (objects_shown 0 0 places fields bytes) (root_lines roots ++ EndLine ∷ []) all (roots_listed 0 0 places fields bytes roots named))

-- the place of a first one is one of the list
pub without_below : {X : Type 0} (P : X → Type 0) (xs : List X) (at : ℕ) → IsFirstWithout P xs at → at < length xs
without_below P [] at is = absurd is
without_below P (x ∷ xs) zero is = omega arith
without_below P (x ∷ xs) (suc at) is = let rest = without_below P xs at is.1 in omega (arith, rest)

pub stray_below : (places : List Place) (fields : List (Option ℕ)) (bytes : List ℕ) (at : ℕ) → IsFirstWithout (IsFollowed places) (objects_shown 0 0 places fields bytes) at → at < length places
stray_below places fields bytes at is = let lt = without_below (IsFollowed places) (objects_shown 0 0 places fields bytes) at is in omega (arith, lt, as_many 0 0 places fields bytes)

pub root_below : (places : List Place) (roots : List DumpRoot) (at : ℕ) → IsFirstWithout (IsNamed places) (map root_shown roots) at → at < length roots
root_below places roots at is = let lt = without_below (IsNamed places) (map root_shown roots) at is in omega (arith, lt, length-map roots root_shown)
