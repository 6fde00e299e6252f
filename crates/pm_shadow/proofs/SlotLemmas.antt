-- What a write that was cut short leaves of headers and pages.
use Rattle.std.proofs.Common.{◌≡◌, ◌⊎◌, inl, inr, ⊎_elim, ℕ, zero, suc, ◌+◌, ◌*◌, ◌-◌, ◌<◌, ◌≤◌, Bool, true, false, List, length, get_or, take, drop, Option, Some, None, Ok, refl, sym, ◌∙◌, ap, arith, length-take, length-drop}
use Rattle.std.proofs.lemmas.Bool.{le-ltb, lt-ltb}
use Rattle.pm_disk.proofs.WriteLemmas.{length-written, written_inside}
use Rattle.std.specs.Prelude.{if◌then◌else◌, ◌==◌, ◌&&◌, Result, Err, slice_range}
use Rattle.std.proofs.lemmas.List.{get_or-drop, get_or-take, ext_get_or}
use Rattle.pm_types.specs.declared.limits.TheConstants.{PAGE_BYTES}
use Rattle.pm_disk.specs.Writes.{written, Torn}
use Rattle.pm_image.specs.Opening.{page_of, page_count, header_body_of, gate_place, open_gate, is_open, epoch_in, greater_slot, open_slot}
use Rattle.pm_types.specs.Results.{◌>>=◌}
use Rattle.pm_layout.specs.Reading.{number_from}
use Rattle.pm_layout.specs.Headers.{header_at, magic_at, version_at, digest_kept, next_at}
use Rattle.pm_layout.specs.declared.header.HeaderFault.{HeaderFault}
use Rattle.pm_layout.specs.declared.header.Header.{Header}
use Rattle.pm_shadow.specs.State.{State, other, keeps}
use Rattle.pm_shadow.specs.Images.{Holds}

-- parts that have the same bytes are the same
pub part_same : (k n : ℕ) (a b : List ℕ) → k + n ≤ length a → k + n ≤ length b → ((i : ℕ) → k ≤ i → i < k + n → get_or a i 0 ≡ get_or b i 0) → take n (drop k a) ≡ take n (drop k b)
part_same k n a b in_a in_b same =
    ext_get_or 0 (take n (drop k a)) (take n (drop k b))
    (omega (arith, length-take n (drop k a), length-take n (drop k b), length-drop k a, length-drop k b))
    (λ i lt.
    let within : i < n = omega (arith, length-take n (drop k a)) in
    get_or-take n (drop k a) i 0 within ∙ get_or-drop k a i 0 ∙ same (k + i) (omega arith) (omega arith) ∙ sym (get_or-drop k b i 0) ∙ sym (get_or-take n (drop k b) i 0 within))

module _ (at m : ℕ) (was image : List ℕ) (torn : Torn at m was image) where
  -- a byte that the write did not touch
  pub byte_torn : (i : ℕ) → i < length was → ((i < at) ⊎ (at + m ≤ i)) → get_or image i 0 ≡ get_or was i 0
  byte_torn i lt aside = ⊎_elim (torn.before i lt) (torn.behind i lt) aside

  -- a part that it did not touch
  pub part_torn : (k n : ℕ) → k + n ≤ length was → ((k + n ≤ at) ⊎ (at + m ≤ k)) → take n (drop k image) ≡ take n (drop k was)
  part_torn k n inside aside =
      part_same k n image was (let long = torn.no_shorter in omega arith) inside
      (λ i low high. byte_torn i (omega arith) (⊎_elim (λ (before : k + n ≤ at). inl (omega arith)) (λ (behind : at + m ≤ k). inr (omega arith)) aside))

  pub gate_torn : (slot : ℕ) → gate_place slot < length was → ((gate_place slot < at) ⊎ (at + m ≤ gate_place slot)) → is_open image slot ≡ is_open was slot
  gate_torn slot inside aside = ap (λ (byte : ℕ). byte == open_gate) (byte_torn (gate_place slot) inside aside)

-- which slot is picked, by the two gates and the two epochs
abbrev picked_of : Bool → Bool → ℕ → ℕ → Option ℕ
picked_of zeroth first x y = if zeroth && first then Some (greater_slot x y) else if zeroth then Some 0 else if first then Some 1 else None

-- the slot that is picked is open
picked_0 : (a b : Bool) (x y : ℕ) → picked_of a b x y ≡ Some 0 → a ≡ true
picked_0 true b x y is = refl
picked_0 false true x y is = absurd (cc)
picked_0 false false x y is = absurd (cc)

picked_1 : (a b : Bool) (x y : ℕ) → picked_of a b x y ≡ Some 1 → b ≡ true
picked_1 a true x y is = refl
picked_1 true false x y is = absurd (cc)
picked_1 false false x y is = absurd (cc)

pub picked_open : (bytes : List ℕ) (slot : ℕ) → slot < 2 → open_slot bytes ≡ Some slot → is_open bytes slot ≡ true
picked_open bytes zero lt is = picked_0 (is_open bytes 0) (is_open bytes 1) (epoch_in bytes 0) (epoch_in bytes 1) is
picked_open bytes (suc zero) lt is = picked_1 (is_open bytes 0) (is_open bytes 1) (epoch_in bytes 0) (epoch_in bytes 1) is
picked_open bytes (suc (suc n)) lt is = absurd (omega arith)

-- a slot that alone is open is picked
pub only_open : (bytes : List ℕ) (slot : ℕ) → slot < 2 → is_open bytes slot ≡ true → is_open bytes (other slot) ≡ false → open_slot bytes ≡ Some slot
only_open bytes zero lt is_on is_off = λ i. picked_of (is_on i) (is_off i) (epoch_in bytes 0) (epoch_in bytes 1)
only_open bytes (suc zero) lt is_on is_off = λ i. picked_of (is_off i) (is_on i) (epoch_in bytes 0) (epoch_in bytes 1)
only_open bytes (suc (suc n)) lt is_on is_off = absurd (omega arith)

-- of two open slots, the one that the epochs pick
pub both_open : (bytes : List ℕ) (slot : ℕ) → slot < 2 → is_open bytes slot ≡ true → is_open bytes (other slot) ≡ true → greater_slot (epoch_in bytes 0) (epoch_in bytes 1) ≡ slot → open_slot bytes ≡ Some slot
both_open bytes zero lt is_on too greater = (λ i. picked_of (is_on i) (too i) (epoch_in bytes 0) (epoch_in bytes 1)) ∙ ap Some greater
both_open bytes (suc zero) lt is_on too greater = (λ i. picked_of (too i) (is_on i) (epoch_in bytes 0) (epoch_in bytes 1)) ∙ ap Some greater
both_open bytes (suc (suc n)) lt is_on too greater = absurd (omega arith)

-- what has the same gates and epochs has the same slot
pub slots_same : (a b : List ℕ) → is_open a 0 ≡ is_open b 0 → is_open a 1 ≡ is_open b 1 → epoch_in a 0 ≡ epoch_in b 0 → epoch_in a 1 ≡ epoch_in b 1 → open_slot a ≡ open_slot b
slots_same a b zeroth first x y = λ i. picked_of (zeroth i) (first i) (x i) (y i)

below : (x y : ℕ) → x < y → x ≤ y
below x y lt = omega arith

-- the other slot's header is the later one
pub later_picked : (bytes : List ℕ) (slot : ℕ) → slot < 2 → epoch_in bytes slot < epoch_in bytes (other slot) → greater_slot (epoch_in bytes 0) (epoch_in bytes 1) ≡ other slot
later_picked bytes zero lt later = ap (λ (b : Bool). if b then 1 else 0) (lt-ltb (epoch_in bytes 0) (epoch_in bytes 1) later)
later_picked bytes (suc zero) lt later = ap (λ (b : Bool). if b then 1 else 0) (le-ltb (epoch_in bytes 0) (epoch_in bytes 1) (below (epoch_in bytes 1) (epoch_in bytes 0) later))
later_picked bytes (suc (suc n)) lt later = absurd (omega arith)

-- the epoch that stands in a slot, by the body there
pub epoch_same : (a b : List ℕ) (slot : ℕ) → header_body_of a slot ≡ header_body_of b slot → epoch_in a slot ≡ epoch_in b slot
epoch_same a b slot same = ap (λ (body : List ℕ). number_from 4 body 12) same

abbrev epoch_or : ℕ → Result Header HeaderFault → ℕ
epoch_or n (Ok header) = header.epoch
epoch_or n (Err fault) = n

epoch_of_steps : (m : Result (Unit {0}) HeaderFault) (v : Result ℕ HeaderFault) (w : Result (Unit {0}) HeaderFault) (n : Result ℕ HeaderFault) (made : ℕ → ℕ → Header) (e : ℕ) → ((x y : ℕ) → (made x y).epoch ≡ e)
    → epoch_or e (m >>= λ a. v >>= λ x. w >>= λ b. n >>= λ y. Ok (made x y)) ≡ e
epoch_of_steps (Err f) v w n made e is = refl
epoch_of_steps (Ok a) (Err f) w n made e is = refl
epoch_of_steps (Ok a) (Ok x) (Err f) n made e is = refl
epoch_of_steps (Ok a) (Ok x) (Ok b) (Err f) made e is = refl
epoch_of_steps (Ok a) (Ok x) (Ok b) (Ok y) made e is = is x y

-- a header that stands in a slot has the epoch that stands there
pub header_epoch : (body : List ℕ) (header : Header) → header_at body ≡ Ok header → number_from 4 body 12 ≡ header.epoch
unfolding header_at
header_epoch body header is =
    let e = number_from 4 body 12 in
    let made : ℕ → ℕ → Header = λ version next. record { version = version; epoch = e; next = next; first = number_from 8 body 24; digest = slice_range body 32 64 } in
    sym (epoch_of_steps (magic_at body) (version_at body) (digest_kept body) (next_at body) made e (λ x y. refl)) ∙ ap (epoch_or e) is

-- parts of lists of one length are the same where the bytes from there on are
pub part_of_same : (k n : ℕ) (a b : List ℕ) → length a ≡ length b → ((i : ℕ) → k ≤ i → i < length a → get_or a i 0 ≡ get_or b i 0) → take n (drop k a) ≡ take n (drop k b)
part_of_same k n a b len same =
    ext_get_or 0 (take n (drop k a)) (take n (drop k b))
    (omega (arith, length-take n (drop k a), length-take n (drop k b), length-drop k a, length-drop k b))
    (λ i lt.
    let within : i < n = omega (arith, length-take n (drop k a)) in
    get_or-take n (drop k a) i 0 within ∙ get_or-drop k a i 0 ∙ same (k + i) (omega arith) (omega (arith, length-take n (drop k a), length-drop k a)) ∙ sym (get_or-drop k b i 0) ∙ sym (get_or-take n (drop k b) i 0 within))

-- what was written is read, also behind the old end
pub part_written : (at : ℕ) (new old : List ℕ) → 0 < length new → take (length new) (drop at (written at new old)) ≡ new
part_written at new old some =
    let long = length-written at new old some in
    ext_get_or 0 (take (length new) (drop at (written at new old))) new
    (omega (arith, length-take (length new) (drop at (written at new old)), length-drop at (written at new old)))
    (λ i lt.
    let within : i < length new = omega (arith, length-take (length new) (drop at (written at new old))) in
    get_or-take (length new) (drop at (written at new old)) i 0 within ∙ get_or-drop at (written at new old) i 0
    ∙ written_inside at new old (at + i) (omega arith) (omega arith) ∙ ap (λ (n : ℕ). get_or new n 0) (let back : at + i - at ≡ i = omega arith in back))

-- ---- pages

-- a page that lies inside lies inside what is no shorter
pub count_le : (a b : List ℕ) → length a ≤ length b → page_count a ≤ page_count b
count_le a b le = omega arith

-- the last byte of a page that there is lies inside
pub page_inside : (page : ℕ) (bytes : List ℕ) → page < page_count bytes → PAGE_BYTES * page + PAGE_BYTES ≤ length bytes
page_inside page bytes lt = omega arith

module _ (s : State) (bytes was image : List ℕ) (at m : ℕ) (torn : Torn at m was image) (held : Holds s bytes was) where
  -- the pages of the current copy, where the write was of none of them
  pub pages_torn : ((page : ℕ) → keeps s page ≡ true → 2 ≤ page → (PAGE_BYTES * page + PAGE_BYTES ≤ at) ⊎ (at + m ≤ PAGE_BYTES * page))
      → (page : ℕ) → keeps s page ≡ true → 2 ≤ page → page < s.settled → (page < page_count image) × (page_of image page ≡ page_of bytes page)
  pages_torn aside page kept low old =
      let here = held.pages page kept low old in
      let more : page_count was ≤ page_count image = count_le was image torn.no_shorter in
      (omega (arith, here.0), part_torn at m was image torn (PAGE_BYTES * page) PAGE_BYTES (page_inside page was here.0) (aside page kept low) ∙ here.1)

  -- the header of the current slot, where the write was not of its body
  pub body_torn : (slot : ℕ) → slot < 2 → ((PAGE_BYTES * slot + 96 ≤ at) ⊎ (at + m ≤ PAGE_BYTES * slot)) → header_body_of image slot ≡ header_body_of was slot
  body_torn slot lt aside = part_torn at m was image torn (PAGE_BYTES * slot) 96 (let long = held.heads.long in omega arith) aside

  pub gate_same : (slot : ℕ) → slot < 2 → ((gate_place slot < at) ⊎ (at + m ≤ gate_place slot)) → is_open image slot ≡ is_open was slot
  gate_same slot lt aside = gate_torn at m was image torn slot (let long = held.heads.long in omega arith) aside

  pub long_torn : 2 * PAGE_BYTES ≤ length image
  long_torn = let long = held.heads.long in let more = torn.no_shorter in omega arith

  pub was_open : s.slot < 2 → is_open was s.slot ≡ true
  was_open lt = picked_open was s.slot lt held.heads.picked
