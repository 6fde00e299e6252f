-- Texts that stand one behind the other.
use Rattle.std.proofs.Common.{◌≡◌, ℕ, suc, ◌+◌, ◌<◌, List, ◌++◌, length, get_or, take, drop, Option, Some, None, refl, sym, ap, subst, ◌∙◌, append_assoc}
use Rattle.std.specs.List.{flat_map, AllByRecursion}
use Rattle.std.specs.Prelude.{◌==◌, Bool, true, false, not}
use Rattle.std.specs.Cmp.Lexicographic.{pointwise, bytes_decides}
use Rattle.std.proofs.lemmas.List.{append_cancel_left, take_more, take_at, take-append-drop}
use Rattle.pm_types.specs.declared.address.Addr.{Addr}
use Rattle.pm_types.specs.declared.object.Object.{Object}
use Rattle.pm_types.specs.declared.object.Slot.TheVariants.{Live}
use Rattle.pm_layout.specs.Spelling.{field, spelling}
use Rattle.pm_graphs.specs.Settled.Behind.{IsBehind, IsBehindOf}
use Rattle.pm_graphs.specs.Settled.Packed.{head_spelling}
use Rattle.pm_graphs.proofs.SettledLemmas.Lists.{all_at, all_more, flat_more, flat_split}

-- nothing stands behind two texts where nothing stands behind the first
pub none_first : (bytes a b : List ℕ) → IsBehind bytes a None → IsBehind bytes (a ++ b) None
none_first bytes a b none rest is = none (b ++ rest) (is ∙ append_assoc a b rest)

-- what stands behind the second of two texts stands behind both
pub behind_both : (bytes mid a b : List ℕ) (rest : Option (List ℕ)) → bytes ≡ a ++ mid → IsBehind mid b rest → IsBehind bytes (a ++ b) rest
behind_both bytes mid a b None first second = λ rest is. second rest (append_cancel_left a mid (b ++ rest) (sym first ∙ is ∙ append_assoc a b rest))
behind_both bytes mid a b (Some rest) first second = first ∙ ap (λ (t : List ℕ). a ++ t) second ∙ sym (append_assoc a b rest)

-- the same of a spelling, which is there
pub behind_of : (Has : Type 0) (bytes text : List ℕ) (rest : Option (List ℕ)) → Has → IsBehind bytes text rest → IsBehindOf Has bytes text rest
behind_of Has bytes text None has is = λ there. is
behind_of Has bytes text (Some rest) has is = (is, has)

-- and of two, of which the second has a spelling where both have one
pub both_of : (Has Second : Type 0) (bytes mid a b : List ℕ) (rest : Option (List ℕ)) → (Has → Second) → (Second → Has) → bytes ≡ a ++ mid → IsBehindOf Second mid b rest → IsBehindOf Has bytes (a ++ b) rest
both_of Has Second bytes mid a b None second has first is = λ there rest same. is (second there) rest (append_cancel_left a mid (b ++ rest) (sym first ∙ same ∙ append_assoc a b rest))
both_of Has Second bytes mid a b (Some rest) second has first is = (first ∙ ap (λ (t : List ℕ). a ++ t) is.0 ∙ sym (append_assoc a b rest), has is.1)

-- ---- texts of a list, one behind the other

module _ {A : Type 0} (f : A → List ℕ) (Has : A → Type 0) (bytes mid : List ℕ) (xs : List A) (i : ℕ) (d : A) (inside : i < length xs) (first : IsBehindOf (AllByRecursion Has (take i xs)) bytes (flat_map f (take i xs)) (Some mid)) where
  -- one text more
  pub one_more : (rest : List ℕ) → IsBehindOf (Has (get_or xs i d)) mid (f (get_or xs i d)) (Some rest) → IsBehindOf (AllByRecursion Has (take (i + 1) xs)) bytes (flat_map f (take (i + 1) xs)) (Some rest)
  one_more rest is =
      subst (λ (ys : List A). IsBehindOf (AllByRecursion Has ys) bytes (flat_map f ys) (Some rest)) (sym (take_more xs i d inside)) (
        first.0 ∙ ap (λ (t : List ℕ). flat_map f (take i xs) ++ t) is.0 ∙ sym (append_assoc (flat_map f (take i xs)) (f (get_or xs i d)) rest) ∙ ap (λ (t : List ℕ). t ++ rest) (sym (flat_more f (take i xs) (get_or xs i d))),
        all_more Has (take i xs) (get_or xs i d) first.1 is.1,
      )

  -- and none
  pub no_more : IsBehindOf (Has (get_or xs i d)) mid (f (get_or xs i d)) None → IsBehindOf (AllByRecursion Has xs) bytes (flat_map f xs) None
  no_more none all rest same =
      none (all_at Has xs i d inside all) (flat_map f (drop (suc i) xs) ++ rest)
      (append_cancel_left (flat_map f (take i xs)) mid (f (get_or xs i d) ++ (flat_map f (drop (suc i) xs) ++ rest))
      (sym first.0 ∙ same ∙ ap (λ (t : List ℕ). t ++ rest) (flat_split f xs i d inside) ∙ append_assoc (flat_map f (take i xs)) (f (get_or xs i d) ++ flat_map f (drop (suc i) xs)) rest
      ∙ ap (λ (t : List ℕ). flat_map f (take i xs) ++ t) (append_assoc (f (get_or xs i d)) (flat_map f (drop (suc i) xs)) rest)))

-- ---- what is compared

not_false : (b : Bool) → not b ≡ false → b ≡ true
not_false true is = refl
not_false false is = absurd cc

-- where the first so many bytes are not the text, nothing stands behind it
pub other_front : (bytes text front : List ℕ) (other : Bool) → front ≡ take (length text) bytes → other ≡ not (pointwise ◌==◌ front text) → other ≡ true → IsBehind bytes text None
other_front bytes text front other is compared differs = λ rest whole.
    let same : front ≡ text = is ∙ ap (λ (t : List ℕ). take (length text) t) whole ∙ take_at text rest (length text) refl in
    let begins = (bytes_decides front text).1 same in
    absurd (cc (begins, compared, differs))

-- and where they are, what is left does
pub same_front : (bytes text front rest : List ℕ) (other : Bool) → front ≡ take (length text) bytes → rest ≡ drop (length text) bytes → other ≡ not (pointwise ◌==◌ front text) → other ≡ false → IsBehind bytes text (Some rest)
same_front bytes text front rest other is behind compared alike =
    let same : front ≡ text = (bytes_decides front text).0 (not_false (pointwise ◌==◌ front text) (sym compared ∙ alike)) in
    sym (take-append-drop (length text) bytes) ∙ (λ i. (sym is ∙ same) i ++ sym behind i)

-- ---- the text of an object

-- head, fields and bytes, one behind the other
pub object_text : (o : Object) (fields : List (Option Addr)) (octets : List ℕ) → fields ≡ o.fields → octets ≡ o.bytes → head_spelling o.id (length fields) (length octets) ++ (flat_map field fields ++ octets) ≡ spelling (Live o)
unfolding spelling
object_text o fields octets same_fields same_data = λ i. head_spelling o.id (length (same_fields i)) (length (same_data i)) ++ (flat_map field (same_fields i) ++ same_data i)
