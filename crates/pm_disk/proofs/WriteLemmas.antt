-- What stands where after a write.
use Rattle.std.proofs.Common.{◌≡◌, inl, inr, ℕ, ◌+◌, ◌-◌, ◌<◌, ◌≤◌, max, List, [], ◌∷◌, ◌++◌, length, get_or, take, drop, replicate, refl, sym, ◌∙◌, ap, arith, length-append, length-take, length-drop}
use Rattle.std.proofs.lemmas.List.{length-replicate, get_or_append_left, get_or-append_right, get_or-take, get_or-drop, get_or-replicate, get_or_past, ext_get_or, take_at}
use Rattle.std.proofs.lemmas.Bool.{cases_lt}
use Rattle.pm_disk.specs.Images.{IsBytes}
use Rattle.pm_disk.specs.Writes.{written, Torn}

-- the bytes before the write, with the gap
abbrev front : ℕ → List ℕ → List ℕ
front at old = take at (old ++ replicate (at - length old) 0)

module _ (at : ℕ) (bytes old : List ℕ) where
  length-front : length (front at old) ≡ at
  length-front = omega (arith, length-take at (old ++ replicate (at - length old) 0), length-append old (replicate (at - length old) 0), length-replicate {A = ℕ} (at - length old) 0)

  abbrev laid : List ℕ
  laid = front at old ++ bytes ++ drop (at + length bytes) old

  length-laid : length laid ≡ max (length old) (at + length bytes)
  length-laid = omega (arith, length-front, length-append (front at old ++ bytes) (drop (at + length bytes) old), length-append (front at old) bytes, length-drop (at + length bytes) old)

  laid_before : (i : ℕ) → i < at → get_or laid i 0 ≡ get_or (old ++ replicate (at - length old) 0) i 0
  laid_before i lt =
      get_or_append_left (front at old ++ bytes) (drop (at + length bytes) old) 0 i (omega (arith, length-front, length-append (front at old) bytes))
      ∙ get_or_append_left (front at old) bytes 0 i (omega (arith, length-front)) ∙ get_or-take at (old ++ replicate (at - length old) 0) i 0 lt

  laid_inside : (i : ℕ) → at ≤ i → i < at + length bytes → get_or laid i 0 ≡ get_or bytes (i - at) 0
  laid_inside i le lt =
      get_or_append_left (front at old ++ bytes) (drop (at + length bytes) old) 0 i (omega (arith, length-front, length-append (front at old) bytes))
      ∙ get_or-append_right (front at old) bytes at i 0 length-front le

  laid_behind : (i : ℕ) → at + length bytes ≤ i → get_or laid i 0 ≡ get_or old i 0
  laid_behind i le =
      get_or-append_right (front at old ++ bytes) (drop (at + length bytes) old) (at + length bytes) i 0 (omega (arith, length-front, length-append (front at old) bytes)) le
      ∙ get_or-drop (at + length bytes) old (i - (at + length bytes)) 0 ∙ back
    where
      back : get_or old (at + length bytes + (i - (at + length bytes))) 0 ≡ get_or old i 0
      back = let same : at + length bytes + (i - (at + length bytes)) ≡ i = omega arith in rw same

  laid_old : (i : ℕ) → i < length old → i < at → get_or laid i 0 ≡ get_or old i 0
  laid_old i lt before = laid_before i before ∙ get_or_append_left old (replicate (at - length old) 0) 0 i lt

  laid_gap : (i : ℕ) → length old ≤ i → i < at → get_or laid i 0 ≡ 0
  laid_gap i past before =
      laid_before i before ∙ get_or-append_right old (replicate (at - length old) 0) (length old) i 0 refl past ∙ get_or-replicate (at - length old) (i - length old) 0 0 (omega arith)

  laid_torn : Torn at (length bytes) old laid
  laid_torn = record { no_shorter = omega (arith, length-laid); no_longer = omega (arith, length-laid); before = laid_old; behind = λ i lt le. laid_behind i le }

  laid_bytes : IsBytes bytes → IsBytes old → IsBytes laid
  laid_bytes new was i lt = elim (cases_lt i at) [
    | inl before ↦ elim (cases_lt i (length old)) [
      | inl there ↦ rw (laid_old i there before) (was i there)
      | inr past ↦ rw (laid_gap i past before) (omega arith)
    ]
    | inr not_before ↦ elim (cases_lt i (at + length bytes)) [
      | inl inside ↦ rw (laid_inside i not_before inside) (new (i - at) (omega arith))
      | inr behind ↦ rw (laid_behind i behind) (was i (omega (arith, length-laid)))
    ]
  ]

pub torn_refl : (at n : ℕ) (old : List ℕ) → Torn at n old old
torn_refl at n old = record { no_shorter = omega arith; no_longer = omega arith; before = λ i lt le. refl; behind = λ i lt le. refl }

-- a write that was made is one that was cut short nowhere
pub torn_written : (at : ℕ) (bytes old : List ℕ) → Torn at (length bytes) old (written at bytes old)
torn_written at [] old = torn_refl at 0 old
torn_written at (byte ∷ bytes) old = laid_torn at (byte ∷ bytes) old

pub bytes_written : (at : ℕ) (bytes old : List ℕ) → IsBytes bytes → IsBytes old → IsBytes (written at bytes old)
bytes_written at [] old new was = was
bytes_written at (byte ∷ bytes) old new was = laid_bytes at (byte ∷ bytes) old new was

-- the length after a write of some bytes
pub length-written : (at : ℕ) (bytes old : List ℕ) → 0 < length bytes → length (written at bytes old) ≡ max (length old) (at + length bytes)
length-written at [] old some = absurd (omega arith)
length-written at (byte ∷ bytes) old some = length-laid at (byte ∷ bytes) old

-- the bytes that were written stand there
pub written_inside : (at : ℕ) (bytes old : List ℕ) (i : ℕ) → at ≤ i → i < at + length bytes → get_or (written at bytes old) i 0 ≡ get_or bytes (i - at) 0
written_inside at [] old i le lt = absurd (omega arith)
written_inside at (byte ∷ bytes) old i le lt = laid_inside at (byte ∷ bytes) old i le lt

abbrev zeros : ℕ → List ℕ
zeros n = replicate n 0

zero_at : (n i : ℕ) → get_or (zeros n) i 0 ≡ 0
zero_at n i = elim (cases_lt i n) [ inl lt ↦ get_or-replicate n i 0 0 lt | inr past ↦ get_or_past (zeros n) i 0 (omega (arith, length-replicate {A = ℕ} n 0)) ]

module _ (at : ℕ) (old : List ℕ) (end : ℕ) (le : at ≤ end) where
  abbrev long : List ℕ
  long = old ++ replicate (end - length old) 0

  length-long : length long ≡ max (length old) end
  length-long = omega (arith, length-append old (replicate (end - length old) 0), length-replicate {A = ℕ} (end - length old) 0)

  at_long : (i : ℕ) → get_or long i 0 ≡ get_or old i 0
  at_long i = elim (cases_lt i (length old)) [
    | inl there ↦ get_or_append_left old (replicate (end - length old) 0) 0 i there
    | inr past ↦ get_or-append_right old (replicate (end - length old) 0) (length old) i 0 refl past ∙ zero_at (end - length old) (i - length old) ∙ sym (get_or_past old i 0 past)
  ]

pub front_long : (at : ℕ) (old : List ℕ) (end : ℕ) → at ≤ end → take at (old ++ replicate (end - length old) 0) ≡ front at old
front_long at old end le =
    ext_get_or 0 (take at (long at old end le)) (front at old)
    (omega (arith, length-take at (long at old end le), length-long at old end le, length-front at [] old))
    (λ i lt.
    let before : i < at = omega (arith, length-take at (long at old end le)) in
    get_or-take at (long at old end le) i 0 before ∙ at_long at old end le i ∙ sym (at_long at old at (omega arith) i) ∙ sym (get_or-take at (old ++ replicate (at - length old) 0) i 0 before))

pub back_long : (old : List ℕ) (end : ℕ) → drop end (old ++ replicate (end - length old) 0) ≡ drop end old
back_long old end =
    ext_get_or 0 (drop end (long end old end (omega arith))) (drop end old)
    (omega (arith, length-drop end (long end old end (omega arith)), length-drop end old, length-long end old end (omega arith)))
    (λ i lt. get_or-drop end (long end old end (omega arith)) i 0 ∙ at_long end old end (omega arith) (end + i) ∙ sym (get_or-drop end old i 0))

-- bytes laid over a file that was made long enough
pub laid_over : (at : ℕ) (bytes old new : List ℕ) → 0 < length bytes
    → new ≡ take at (old ++ replicate (at + length bytes - length old) 0) ++ bytes ++ drop (at + length bytes) (old ++ replicate (at + length bytes - length old) 0)
    → new ≡ written at bytes old
laid_over at [] old new some is = absurd (omega arith)
laid_over at (byte ∷ bytes) old new some is =
    let end = at + length (byte ∷ bytes) in
    is ∙ (λ i. front_long at old end (omega arith) i ++ (byte ∷ bytes) ++ back_long old end i)

-- a file that was made long enough has room for the bytes
pub has_room : (at n : ℕ) (old grown file : List ℕ) → file ≡ grown → grown ≡ old ++ replicate (at + n - length old) 0 → at + n ≤ length file
has_room at n old grown file is was =
    omega (arith, ap length is, ap length was, length-append old (replicate (at + n - length old) 0), length-replicate {A = ℕ} (at + n - length old) 0)

-- the bytes of a list of some length are written
pub overwritten : (at : ℕ) (bytes old grown file laid : List ℕ) (len : ℕ) → 0 < length bytes → file ≡ grown → grown ≡ old ++ replicate (at + length bytes - length old) 0
    → laid ≡ take at file ++ bytes ++ drop (at + length bytes) file → length laid ≡ len → take len (laid ++ drop (length laid) grown) ≡ written at bytes old
overwritten at bytes old grown file laid len some is was put same =
    take_at laid (drop (length laid) grown) len same
    ∙ laid_over at bytes old laid some (put ∙ ap (λ (f : List ℕ). take at f ++ bytes ++ drop (at + length bytes) f) (is ∙ was))
