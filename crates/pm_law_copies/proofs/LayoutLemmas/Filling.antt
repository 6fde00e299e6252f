-- Members go into parts, each filled before the next, in one way; and one after the other.
use Rattle.std.proofs.Common.{◌≡◌, ℕ, ◌+◌, ◌<◌, ◌≤◌, Bool, true, false, nat_le, List, [], ◌∷◌, ◌++◌, length, refl, sym, ap, subst, ◌∙◌, arith, if◌then◌else◌, append_assoc}
use Rattle.std.specs.List.{AllByRecursion}
use Rattle.std.proofs.lemmas.Bool.{leb-true, leb-false, le-leb}
use Rattle.std.proofs.lemmas.Bool.Decides.{nat_tests}
use Rattle.std.proofs.lemmas.List.{append-nil}
use Rattle.pm_types.specs.declared.limits.TheConstants.{PAGE_BYTES}
use Rattle.pm_copies.specs.Apart.{Follow, Neighbours}
use Rattle.pm_law_copies.proofs.GraphsLemmas.Lists.{all_back, all_both, all_front}
use Rattle.pm_copies.specs.Filling.{TakesSizes, HasRoom, HasRoomAlone, IsFilledBefore, IsFilledInto, filled_from, joined_parts, onto_first_part}

module _ {A : Type 0} (used_of : List A → ℕ) (size : A → ℕ) (head : ℕ) (takes : TakesSizes used_of size head) where
  abbrev IsFilled : List A → List A → Type 0
  IsFilled = IsFilledBefore used_of size

  abbrev IsInto : List A → List (List A) → Type 0
  IsInto = IsFilledInto used_of size

  abbrev fill : ℕ → List A → List (List A)
  fill = filled_from size head

  -- ---- sizes

  -- the sizes of members together
  abbrev pub sizes : List A → ℕ
  sizes [] = 0
  sizes (member ∷ members) = size member + sizes members

  pub used_sizes : (members : List A) → used_of members ≡ head + sizes members
  used_sizes [] = let none = takes.none in omega (arith, none)
  used_sizes (member ∷ members) = let rest = used_sizes members in let more = takes.more member members in omega (arith, rest, more)

  -- ---- members, put into parts from left to right

  joined_onto : (member : A) (parts : List (List A)) → joined_parts (onto_first_part member parts) ≡ member ∷ joined_parts parts
  joined_onto member [] = refl
  joined_onto member (part ∷ parts) = refl

  pub joined_fill : (used : ℕ) (members : List A) → joined_parts (fill used members) ≡ members
  joined_fill used [] = refl
  joined_fill used (member ∷ members) = by (λ n. joined_fill n members) (nat_le (used + size member) PAGE_BYTES)
    where
      by : ((n : ℕ) → joined_parts (fill n members) ≡ members) → (b : Bool) → joined_parts (if b then onto_first_part member (fill (used + size member) members) else [] ∷ onto_first_part member (fill (size member + head) members)) ≡ member ∷ members
      by others true = joined_onto member (fill (used + size member) members) ∙ ap (λ (rest : List A). member ∷ rest) (others (used + size member))
      by others false = joined_onto member (fill (size member + head) members) ∙ ap (λ (rest : List A). member ∷ rest) (others (size member + head))

  -- the parts after one of which so many bytes are used: it is filled before them, each has room, and is filled before the
  -- next
  abbrev pub AreNextParts : ℕ → List (List A) → Type 0
  AreNextParts used [] = Unit {0}
  AreNextParts used ([] ∷ parts) = ⊥
  AreNextParts used ((member ∷ part) ∷ parts) = (PAGE_BYTES < used + size member) × (head + sizes (member ∷ part) ≤ PAGE_BYTES) × AreNextParts (head + sizes (member ∷ part)) parts

  -- what goes into a part of which so many bytes are used, and the parts after it
  abbrev pub AreParts : ℕ → List (List A) → Type 0
  AreParts used [] = ⊥
  AreParts used (part ∷ parts) = (used + sizes part ≤ PAGE_BYTES) × AreNextParts (used + sizes part) parts

  onto_parts : (used : ℕ) (member : A) (parts : List (List A)) → AreParts (used + size member) parts → AreParts used (onto_first_part member parts)
  onto_parts used member [] are = absurd are
  onto_parts used member (part ∷ parts) are =
      let same : used + size member + sizes part ≡ used + (size member + sizes part) = omega arith in
      let fits = are.0 in
      (omega arith, subst (λ (n : ℕ). AreNextParts n parts) same are.1)

  new_part : (used : ℕ) (member : A) (parts : List (List A)) → PAGE_BYTES < used + size member → AreParts (size member + head) parts → AreNextParts used (onto_first_part member parts)
  new_part used member [] full are = absurd are
  new_part used member (part ∷ parts) full are =
      let same : size member + head + sizes part ≡ head + (size member + sizes part) = omega arith in
      let fits = are.0 in
      (full, omega arith, subst (λ (n : ℕ). AreNextParts n parts) same are.1)

  parts_filled : (used : ℕ) (members : List A) → used ≤ PAGE_BYTES → AllByRecursion (HasRoomAlone used_of) members → AreParts used (fill used members)
  parts_filled used [] few alone = (omega (arith, few), tt)
  parts_filled used (member ∷ members) few alone = by (λ n low. parts_filled n members low alone.1) (nat_le (used + size member) PAGE_BYTES) refl
    where
      by : ((n : ℕ) → n ≤ PAGE_BYTES → AreParts n (fill n members)) → (b : Bool) → nat_le (used + size member) PAGE_BYTES ≡ b → AreParts used (if b then onto_first_part member (fill (used + size member) members) else [] ∷ onto_first_part member (fill (size member + head) members))
      by others true is = onto_parts used member (fill (used + size member) members) (others (used + size member) (leb-true (used + size member) PAGE_BYTES is))
      by others false is =
          let full = leb-false (used + size member) PAGE_BYTES is in
          let only = alone.0 in
          let sum = used_sizes (member ∷ []) in
          let low : size member + head ≤ PAGE_BYTES = omega (arith, only, sum) in
          (omega (arith, few), new_part (used + 0) member (fill (size member + head) members) (omega (arith, full)) (others (size member + head) low))

  -- ---- and back

  next_parts : (part : List A) (parts : List (List A)) → AreNextParts (head + sizes part) parts → AllByRecursion (HasRoom used_of) parts × Follow IsFilled part parts
  next_parts part [] are = (tt, tt)
  next_parts part ([] ∷ parts) are = absurd are
  next_parts part ((member ∷ first) ∷ parts) are =
      let rest = next_parts (member ∷ first) parts are.2 in
      let here = used_sizes part in
      let there = used_sizes (member ∷ first) in
      let full = are.0 in
      let fits = are.1 in
      ((omega (arith, there, fits), rest.0), (omega (arith, here, full), rest.1))

  next_back : (part : List A) (parts : List (List A)) → AllByRecursion (HasRoom used_of) parts → Follow IsFilled part parts → AreNextParts (head + sizes part) parts
  next_back part [] fit filled = tt
  next_back part ([] ∷ parts) fit filled = absurd filled.0
  next_back part ((member ∷ first) ∷ parts) fit filled =
      let here = used_sizes part in
      let there = used_sizes (member ∷ first) in
      let full = filled.0 in
      let fits = fit.0 in
      (omega (arith, here, full), omega (arith, there, fits), next_back (member ∷ first) parts fit.1 filled.1)

  into_made : (members : List A) (parts : List (List A)) → joined_parts parts ≡ members → AreParts head parts → IsInto members parts
  into_made members [] whole are = absurd are
  into_made members (part ∷ parts) whole are =
      let rest = next_parts part parts are.1 in
      let used = used_sizes part in
      let fits = are.0 in
      record { whole = whole; fit = (omega (arith, used, fits), rest.0); filled = rest.1; some = omega arith }

  into_parts : (members : List A) (parts : List (List A)) → IsInto members parts → AreParts head parts
  into_parts members [] is = let some = is.some in absurd (omega (arith, some))
  into_parts members (part ∷ parts) is =
      let used = used_sizes part in
      let fits = is.fit.0 in
      (omega (arith, used, fits), next_back part parts is.fit.1 is.filled)

  pub is_filled : (members : List A) → AllByRecursion (HasRoomAlone used_of) members → IsInto members (fill head members)
  is_filled members alone = into_made members (fill head members) (joined_fill head members) (parts_filled head members takes.room alone)

  -- ---- in one way

  head_same : (a b : A) (xs ys : List A) → ◌≡◌ {A = List A} (a ∷ xs) (b ∷ ys) → (a ≡ b) × (xs ≡ ys)
  head_same a b xs ys is = (cc, cc)

  -- the next member, and where those after it go
  fill_one : (used : ℕ) (member : A) (members : List A) (b : Bool) → nat_le (used + size member) PAGE_BYTES ≡ b
      → fill used (member ∷ members) ≡ (if b then onto_first_part member (fill (used + size member) members) else [] ∷ onto_first_part member (fill (size member + head) members))
  fill_one used member members b is = ap (λ (b : Bool). if b then onto_first_part member (fill (used + size member) members) else [] ∷ onto_first_part member (fill (size member + head) members)) is

  same_fill : (members : List A) (used : ℕ) (parts : List (List A)) → AreParts used parts → joined_parts parts ≡ members → parts ≡ fill used members
  same_fill members used [] are whole = absurd are
  same_fill [] used ([] ∷ []) are whole = refl
  same_fill (member ∷ members) used ([] ∷ []) are whole = absurd cc
  same_fill members used ([] ∷ [] ∷ parts) are whole = absurd are.1
  same_fill [] used ([] ∷ (first ∷ part) ∷ parts) are whole = absurd cc
  same_fill (member ∷ members) used ([] ∷ (first ∷ part) ∷ parts) are whole =
      let same = head_same first member (part ++ joined_parts parts) members whole in
      let full = are.1.0 in
      let fits = are.1.1 in
      let no_room : nat_le (used + size first) PAGE_BYTES ≡ false = grind (arith, nat_tests, full) in
      let sums : head + (size first + sizes part) ≡ size first + head + sizes part = omega arith in
      let rest = same_fill members (size first + head) (part ∷ parts) (omega (arith, fits), subst (λ (n : ℕ). AreNextParts n parts) sums are.1.2) same.1 in
      ap (λ (more : List (List A)). [] ∷ onto_first_part first more) rest
      ∙ sym (fill_one used first members false no_room)
      ∙ ap (λ (e : A). fill used (e ∷ members)) same.0
  same_fill [] used ((first ∷ part) ∷ parts) are whole = absurd cc
  same_fill (member ∷ members) used ((first ∷ part) ∷ parts) are whole =
      let same = head_same first member (part ++ joined_parts parts) members whole in
      let fits = are.0 in
      let room : nat_le (used + size first) PAGE_BYTES ≡ true = le-leb (used + size first) PAGE_BYTES (omega (arith, fits)) in
      let sums : used + (size first + sizes part) ≡ used + size first + sizes part = omega arith in
      let rest = same_fill members (used + size first) (part ∷ parts) (omega (arith, fits), subst (λ (n : ℕ). AreNextParts n parts) sums are.1) same.1 in
      ap (onto_first_part first) rest
      ∙ sym (fill_one used first members true room)
      ∙ ap (λ (e : A). fill used (e ∷ members)) same.0

  pub one_filling : (members : List A) (parts : List (List A)) → IsInto members parts → parts ≡ fill head members
  one_filling members parts is = same_fill members head parts (into_parts members parts is) is.whole

  -- ---- one after the other

  used_at_end : (part : List A) (member : A) → used_of (part ++ member ∷ []) ≡ used_of part + size member
  used_at_end [] member = let more = takes.more member [] in omega (arith, more)
  used_at_end (first ∷ part) member =
      let rest = used_at_end part member in
      let here = takes.more first part in
      let there = takes.more first (part ++ member ∷ []) in
      omega (arith, rest, here, there)

  some_part : (parts : List (List A)) (part : List A) (others : List (List A)) → 0 < length (parts ++ part ∷ others)
  some_part [] part others = omega arith
  some_part (first ∷ parts) part others = omega arith

  on_last : (parts : List (List A)) (last : List A) (member : A) → joined_parts (parts ++ (last ++ member ∷ []) ∷ []) ≡ joined_parts (parts ++ last ∷ []) ++ member ∷ []
  on_last [] last member = append-nil (last ++ member ∷ []) ∙ ap (λ (part : List A). part ++ member ∷ []) (sym (append-nil last))
  on_last (part ∷ parts) last member = ap (λ (rest : List A). part ++ rest) (on_last parts last member) ∙ sym (append_assoc part (joined_parts (parts ++ last ∷ [])) (member ∷ []))

  on_new : (parts : List (List A)) (last : List A) (member : A) → joined_parts (parts ++ last ∷ (member ∷ []) ∷ []) ≡ joined_parts (parts ++ last ∷ []) ++ member ∷ []
  on_new [] last member = ap (λ (part : List A). part ++ member ∷ []) (sym (append-nil last))
  on_new (part ∷ parts) last member = ap (λ (rest : List A). part ++ rest) (on_new parts last member) ∙ sym (append_assoc part (joined_parts (parts ++ last ∷ [])) (member ∷ []))

  -- a part that was filled before another is so before that one with more members
  filled_still : (part last : List A) (member : A) → IsFilled part last → IsFilled part (last ++ member ∷ [])
  filled_still part [] member filled = absurd filled
  filled_still part (first ∷ last) member filled = filled

  last_still : (before : List A) (parts : List (List A)) (last : List A) (member : A) → Follow IsFilled before (parts ++ last ∷ []) → Follow IsFilled before (parts ++ (last ++ member ∷ []) ∷ [])
  last_still before [] last member filled = (filled_still before last member filled.0, tt)
  last_still before (part ∷ parts) last member filled = (filled.0, last_still part parts last member filled.1)

  all_still : (parts : List (List A)) (last : List A) (member : A) → Neighbours IsFilled (parts ++ last ∷ []) → Neighbours IsFilled (parts ++ (last ++ member ∷ []) ∷ [])
  all_still [] last member filled = tt
  all_still (part ∷ parts) last member filled = last_still part parts last member filled

  last_filled : (before : List A) (parts : List (List A)) (last new : List A) → Follow IsFilled before (parts ++ last ∷ []) → IsFilled last new → Follow IsFilled before (parts ++ last ∷ new ∷ [])
  last_filled before [] last new filled full = (filled.0, (full, tt))
  last_filled before (part ∷ parts) last new filled full = (filled.0, last_filled part parts last new filled.1 full)

  all_filled : (parts : List (List A)) (last new : List A) → Neighbours IsFilled (parts ++ last ∷ []) → IsFilled last new → Neighbours IsFilled (parts ++ last ∷ new ∷ [])
  all_filled [] last new filled full = (full, tt)
  all_filled (part ∷ parts) last new filled full = last_filled part parts last new filled full

  pub filling_begins : IsInto [] ([] ∷ [])
  filling_begins = let none = takes.none in let room = takes.room in record { whole = refl; fit = (omega (arith, none, room), tt); filled = tt; some = omega arith }

  pub filling_room : (members : List A) (parts : List (List A)) (last : List A) (member : A) → IsInto members (parts ++ last ∷ []) → used_of last + size member ≤ PAGE_BYTES
      → IsInto (members ++ member ∷ []) (parts ++ (last ++ member ∷ []) ∷ [])
  filling_room members parts last member is room =
      let used = used_at_end last member in
      record {
        whole = on_last parts last member ∙ ap (λ (before : List A). before ++ member ∷ []) is.whole;
        fit = all_both (HasRoom used_of) parts ((last ++ member ∷ []) ∷ []) (all_front (HasRoom used_of) parts (last ∷ []) is.fit) (omega (arith, used, room), tt);
        filled = all_still parts last member is.filled;
        some = some_part parts (last ++ member ∷ []) [];
      }

  pub filling_full : (members : List A) (parts : List (List A)) (last : List A) (member : A) → IsInto members (parts ++ last ∷ []) → HasRoomAlone used_of member → PAGE_BYTES < used_of last + size member
      → IsInto (members ++ member ∷ []) (parts ++ last ∷ (member ∷ []) ∷ [])
  filling_full members parts last member is alone full =
      let fits = all_back (HasRoom used_of) parts (last ∷ []) is.fit in
      record {
        whole = on_new parts last member ∙ ap (λ (before : List A). before ++ member ∷ []) is.whole;
        fit = all_both (HasRoom used_of) parts (last ∷ (member ∷ []) ∷ []) (all_front (HasRoom used_of) parts (last ∷ []) is.fit) (fits.0, (alone, tt));
        filled = all_filled parts last (member ∷ []) is.filled full;
        some = some_part parts last ((member ∷ []) ∷ []);
      }
