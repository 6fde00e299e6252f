-- The store that is written is the blank one.
use Rattle.std.proofs.Common.{◌≡◌, ℕ, ◌+◌, ◌-◌, ◌<◌, List, [], ◌∷◌, ◌++◌, length, take, drop, replicate, refl, sym, ◌∙◌, ap, arith, zero, suc, add-one, length-append, append_assoc}
use Rattle.std.proofs.lemmas.List.{length-replicate, take_at, drop_all, append-nil}
use Rattle.std.proofs.Math.Seq.{drop-append-add}
use Rattle.sha2.proofs.Facts256.{length-sha256}
use Rattle.pm_types.specs.declared.limits.TheConstants.{PAGE_BYTES}
use Rattle.pm_disk.specs.Writes.{written}
use Rattle.pm_layout.specs.Headers.{header_spelling}
use Rattle.pm_layout.proofs.HeaderLaws.{spelled_length}
use Rattle.pm_image.specs.CarPages.{padded}
use Rattle.pm_image.specs.CatalogPages.{catalog_spelling}
use Rattle.pm_image.specs.Opening.{open_gate, gate_place}
use Rattle.pm_image.specs.Blank.{blank_header, blank_catalog_page, blank_store}
use Rattle.pm_shadow.specs.Images.{place_of, with_gate}
use Rattle.pm_shadow.specs.Init.{shut_store}

-- bytes behind the end
written_end : (at : ℕ) (old new : List ℕ) → length old ≡ at → 0 < length new → written at new old ≡ old ++ new
written_end at old [] len some = absurd (omega arith)
written_end at old (byte ∷ bytes) len some =
    (λ i. take_at old (replicate (at - length old) 0) at len i ++ (byte ∷ bytes) ++ drop_all (at + length (byte ∷ bytes)) old (omega arith) i) ∙ append-nil (old ++ (byte ∷ bytes))

-- one byte in the place of another
written_one : (at : ℕ) (front : List ℕ) (old new : ℕ) (back : List ℕ) → length front ≡ at → written at (new ∷ []) (front ++ old ∷ back) ≡ front ++ new ∷ back
written_one at front old new back len =
    let rest = replicate (at - length (front ++ old ∷ back)) 0 in
    let taken : take at ((front ++ old ∷ back) ++ rest) ≡ front = ap (take at) (append_assoc front (old ∷ back) rest) ∙ take_at front ((old ∷ back) ++ rest) at len in
    let dropped : drop (at + 1) (front ++ old ∷ back) ≡ back = ap (λ (n : ℕ). drop (n + 1) (front ++ old ∷ back)) (sym len) ∙ drop-append-add front (old ∷ back) 1 in
    (λ i. taken i ++ (new ∷ []) ++ dropped i) ∙ append_assoc front (new ∷ []) back

zeros_end : (n : ℕ) → replicate {A = ℕ} (suc n) 0 ≡ replicate {A = ℕ} n 0 ++ 0 ∷ []
zeros_end zero = refl
zeros_end (suc n) = ap (λ (t : List ℕ). 0 ∷ t) (zeros_end n)

zeros_last : (m n : ℕ) → m ≡ n + 1 → replicate {A = ℕ} m 0 ≡ replicate {A = ℕ} n 0 ++ 0 ∷ []
zeros_last m n is = ap (λ (k : ℕ). replicate {A = ℕ} k 0) (is ∙ add-one n) ∙ zeros_end n

-- pages behind one another, and a byte of the first
module _ (body first second : List ℕ) (zeros at gate : ℕ) where
  abbrev front : List ℕ
  front = body ++ replicate zeros 0

  pub gate_in : length front ≡ at → written at (gate ∷ []) (((body ++ (replicate zeros 0 ++ 0 ∷ [])) ++ first) ++ second) ≡ (body ++ (replicate zeros 0 ++ gate ∷ [])) ++ (first ++ second)
  gate_in len =
      ap (written at (gate ∷ [])) (regroup 0) ∙ written_one at front 0 gate (first ++ second) len ∙ sym (regroup gate ∙ refl) ∙ append_assoc (body ++ (replicate zeros 0 ++ gate ∷ [])) first second
    where
      regroup : (byte : ℕ) → ((body ++ (replicate zeros 0 ++ byte ∷ [])) ++ first) ++ second ≡ front ++ byte ∷ (first ++ second)
      regroup byte = simp append_assoc

  -- and that byte put back
  pub gate_out : length front ≡ at → written at (0 ∷ []) ((body ++ (replicate zeros 0 ++ gate ∷ [])) ++ (first ++ second)) ≡ ((body ++ (replicate zeros 0 ++ 0 ∷ [])) ++ first) ++ second
  gate_out len =
      ap (written at (0 ∷ [])) (regroup gate) ∙ written_one at front gate 0 (first ++ second) len ∙ sym (regroup 0) ∙ sym (append_assoc (body ++ (replicate zeros 0 ++ 0 ∷ [])) first second)
    where
      regroup : (byte : ℕ) → (body ++ (replicate zeros 0 ++ byte ∷ [])) ++ (first ++ second) ≡ front ++ byte ∷ (first ++ second)
      regroup byte = simp append_assoc

module _ (bytes zeroth first second : List ℕ) (none : length bytes ≡ 0) (z : zeroth ≡ padded (header_spelling blank_header)) (f : first ≡ padded []) (s : second ≡ blank_catalog_page)
    (lz : length zeroth ≡ PAGE_BYTES) (lf : length first ≡ PAGE_BYTES) (ls : length second ≡ PAGE_BYTES) where
  abbrev body : List ℕ
  body = header_spelling blank_header

  long : length body ≡ 96
  long = spelled_length blank_header (length-sha256 blank_catalog_page)

  at_gate : length (body ++ replicate (PAGE_BYTES - 97) 0) ≡ gate_place 0
  at_gate = omega (arith, length-append body (replicate (PAGE_BYTES - 97) 0), length-replicate {A = ℕ} (PAGE_BYTES - 97) 0, long)

  -- the three pages on an empty disk
  pages_made : written (place_of 2) second (written (place_of 1) first (written 0 zeroth bytes)) ≡ ((body ++ (replicate (PAGE_BYTES - 97) 0 ++ 0 ∷ [])) ++ first) ++ second
  pages_made =
      let empty : bytes ≡ [] = no_bytes bytes none in
      let one : written 0 zeroth bytes ≡ zeroth = ap (written 0 zeroth) empty ∙ written_end 0 [] zeroth refl (omega arith) in
      let two : written (place_of 1) first (written 0 zeroth bytes) ≡ zeroth ++ first = ap (written (place_of 1) first) one ∙ written_end (place_of 1) zeroth first (omega arith) (omega arith) in
      let three : written (place_of 2) second (written (place_of 1) first (written 0 zeroth bytes)) ≡ (zeroth ++ first) ++ second =
      ap (written (place_of 2) second) two ∙ written_end (place_of 2) (zeroth ++ first) second (omega (arith, length-append zeroth first)) (omega arith) in
      let ends : zeroth ≡ body ++ (replicate (PAGE_BYTES - 97) 0 ++ 0 ∷ []) = z ∙ ap (λ (t : List ℕ). body ++ t) (zeros_last (PAGE_BYTES - length body) (PAGE_BYTES - 97) (omega (arith, long))) in
      three ∙ ap (λ (t : List ℕ). (t ++ first) ++ second) ends
    where
      no_bytes : (bytes : List ℕ) → length bytes ≡ 0 → bytes ≡ []
      no_bytes [] is = refl
      no_bytes (byte ∷ bytes) is = absurd (omega arith)

  -- the gate opened, they are the blank store
  pub blank_made : with_gate 0 open_gate (written (place_of 2) second (written (place_of 1) first (written 0 zeroth bytes))) ≡ blank_store
  unfolding blank_store
  blank_made =
      ap (with_gate 0 open_gate) pages_made
      ∙ gate_in body first second (PAGE_BYTES - 97) (gate_place 0) open_gate at_gate
      ∙ (λ i. (body ++ (replicate (PAGE_BYTES - 97) 0 ++ open_gate ∷ [])) ++ (f i ++ s i))

  -- and before that they are that store with its gate closed
  pub shut_made : written (place_of 2) second (written (place_of 1) first (written 0 zeroth bytes)) ≡ shut_store
  unfolding blank_store
  shut_made =
      pages_made
      ∙ sym (gate_out body first second (PAGE_BYTES - 97) (gate_place 0) open_gate at_gate)
      ∙ (λ i. with_gate 0 0 ((body ++ (replicate (PAGE_BYTES - 97) 0 ++ open_gate ∷ [])) ++ (f i ++ s i)))

-- the used bytes of the blank catalog
pub blank_catalog_is : (used : List ℕ) → used ≡ 0x50 ∷ 0x43 ∷ 0x41 ∷ 0x54 ∷ replicate 42 0 → padded used ≡ blank_catalog_page
unfolding blank_catalog_page catalog_spelling
blank_catalog_is used is = ap padded is
