-- What the writes of a checkpoint leave of the current copy, and when the next one is current.
use Rattle.std.proofs.Common.{◌≡◌, ◌⊎◌, inl, inr, ⊎_elim, ℕ, ◌+◌, ◌*◌, ◌-◌, ◌<◌, ◌≤◌, Bool, true, false, List, [], ◌∷◌, length, get_or, take, drop, Some, Ok, refl, sym, ◌∙◌, ap, subst, arith}
use Rattle.std.specs.Prelude.{◌==◌}
use Rattle.std.proofs.lemmas.Bool.{cases_lt}
use Rattle.pm_disk.specs.Ordered.{IsInOrder}
use Rattle.pm_types.specs.declared.limits.TheConstants.{PAGE_BYTES}
use Rattle.pm_disk.specs.Writes.{Torn}
use Rattle.pm_disk.proofs.WriteLemmas.{torn_written, written_inside}
use Rattle.pm_image.specs.Opening.{header_body_of, gate_place, open_gate, is_open, epoch_in, greater_slot, open_slot}
use Rattle.pm_layout.specs.Headers.{header_at, header_spelling, HasHeaderSpelling, IsHeaderInRange}
use Rattle.pm_layout.proofs.HeaderLaws.{header_again, spelled_length}
use Rattle.pm_layout.specs.declared.header.Header.{Header}
use Rattle.pm_shadow.specs.declared.page_use.PageUse.TheVariants.{Claimed}
use Rattle.pm_shadow.specs.State.{State, other, keeps, keeps_by}
use Rattle.pm_shadow.specs.Images.{Holds, Renews, place_of, with_header, with_gate}
use Rattle.pm_shadow.proofs.SlotLemmas.{part_of_same, part_written, slots_same, later_picked, byte_torn, only_open, both_open, epoch_same, header_epoch, pages_torn, body_torn, gate_same, long_torn, was_open}

either : (b : Bool) → (b ≡ true) ⊎ (b ≡ false)
either true = inl refl
either false = inr refl

true≢false : {b : Bool} → b ≡ true → b ≡ false → ⊥
true≢false yes' no' = absurd (cc)

-- the pages of the current copy seen from another image with them
pub rebased : (s : State) (bytes a b : List ℕ) → Holds s bytes a → Holds s bytes b → Holds s a b
rebased s bytes a b x y = record {
  heads = y.heads;
  shut = y.shut;
  outdone = y.outdone;
  pages = λ page kept low old. ((y.pages page kept low old).0, (y.pages page kept low old).1 ∙ sym ((x.pages page kept low old).1));
}

-- a page that is kept was not claimed
kept_apart : (s : State) (p q : ℕ) → s.uses p ≡ Claimed → keeps s q ≡ true → (p ≡ q → ⊥)
kept_apart s p q claimed kept same =
    let shown : keeps_by s.known (s.uses q) ≡ false = ap (λ (n : ℕ). keeps_by s.known (s.uses n)) (sym same) ∙ ap (keeps_by s.known) claimed in
    true≢false kept shown

-- a claimed page was written
pub page_cut : (s : State) (bytes was image : List ℕ) (page : ℕ) → Holds s bytes was → s.slot < 2 → 2 ≤ page → s.uses page ≡ Claimed → Torn (place_of page) PAGE_BYTES was image → Holds s bytes image
page_cut s bytes was image page held lt low claimed torn =
    let at = place_of page in
    let behind : 2 * PAGE_BYTES ≤ at = omega arith in
    let body = λ (slot : ℕ) (in_2 : slot < 2). body_torn s bytes was image at PAGE_BYTES torn held slot in_2 (inl (omega arith)) in
    let gate = λ (slot : ℕ) (in_2 : slot < 2). gate_same s bytes was image at PAGE_BYTES torn held slot in_2 (inl (omega arith)) in
    let epoch = λ (slot : ℕ) (in_2 : slot < 2). epoch_same image was slot (body slot in_2) in
    let zeroth : 0 < 2 = omega arith in
    let first : 1 < 2 = omega arith in
    let picked : open_slot image ≡ open_slot was = slots_same image was (gate 0 zeroth) (gate 1 first) (epoch 0 zeroth) (epoch 1 first) in
    record {
      heads = record { long = long_torn s bytes was image at PAGE_BYTES torn held; picked = picked ∙ held.heads.picked; stands = ap header_at (body s.slot lt) ∙ held.heads.stands };
      shut = λ closed. gate (other s.slot) (omega arith) ∙ held.shut closed;
      outdone = λ not_closed. (λ i. greater_slot (epoch 0 zeroth i) (epoch 1 first i)) ∙ held.outdone not_closed;
      pages = pages_torn s bytes was image at PAGE_BYTES torn held (λ q kept from_2. apart q (kept_apart s page q claimed kept));
    }
  where
    apart : (q : ℕ) → (page ≡ q → ⊥) → (PAGE_BYTES * q + PAGE_BYTES ≤ place_of page) ⊎ (place_of page + PAGE_BYTES ≤ PAGE_BYTES * q)
    apart q differ = elim (cases_lt q page) [ inl before ↦ inl (omega arith) | inr behind ↦ let more : page < q = omega arith in inr (omega arith) ]

-- the gate of the other slot was written, where its header has no greater claim
pub gate_cut : (s : State) (bytes was image : List ℕ) → Holds s bytes was → s.slot < 2 → s.closed ≡ false → Torn (gate_place (other s.slot)) 1 was image → Holds s bytes image
gate_cut s bytes was image held lt not_closed torn =
    let at = gate_place (other s.slot) in
    let body = λ (slot : ℕ) (in_2 : slot < 2). body_torn s bytes was image at 1 torn held slot in_2 (beside slot in_2) in
    let epoch = λ (slot : ℕ) (in_2 : slot < 2). epoch_same image was slot (body slot in_2) in
    let zeroth : 0 < 2 = omega arith in
    let first : 1 < 2 = omega arith in
    let open_still : is_open image s.slot ≡ true = gate_same s bytes was image at 1 torn held s.slot lt mine ∙ was_open s bytes was image at 1 torn held lt in
    let greater : greater_slot (epoch_in image 0) (epoch_in image 1) ≡ s.slot = (λ i. greater_slot (epoch 0 zeroth i) (epoch 1 first i)) ∙ held.outdone not_closed in
    let picked : open_slot image ≡ Some s.slot = ⊎_elim (λ too. both_open image s.slot lt open_still too greater) (λ off. only_open image s.slot lt open_still off) (either (is_open image (other s.slot))) in
    record {
      heads = record { long = long_torn s bytes was image at 1 torn held; picked = picked; stands = ap header_at (body s.slot lt) ∙ held.heads.stands };
      shut = λ closed. absurd (true≢false closed not_closed);
      outdone = λ _. greater;
      pages = pages_torn s bytes was image at 1 torn held (λ q kept from_2. inr (omega arith));
    }
  where
    beside : (slot : ℕ) → slot < 2 → (PAGE_BYTES * slot + 96 ≤ gate_place (other s.slot)) ⊎ (gate_place (other s.slot) + 1 ≤ PAGE_BYTES * slot)
    beside slot in_2 = elim (cases_lt (other s.slot) slot) [ inl behind ↦ inr (omega arith) | inr before ↦ inl (omega arith) ]

    mine : (gate_place s.slot < gate_place (other s.slot)) ⊎ (gate_place (other s.slot) + 1 ≤ gate_place s.slot)
    mine = elim (cases_lt s.slot (other s.slot)) [ inl before ↦ inl (omega arith) | inr behind ↦ inr (omega arith) ]

-- the body of the other slot was written, whose gate is closed
pub body_cut : (s : State) (bytes was image : List ℕ) → Holds s bytes was → s.slot < 2 → s.closed ≡ true → Torn (place_of (other s.slot)) 96 was image → Holds s bytes image
body_cut s bytes was image held lt closed torn =
    let at = place_of (other s.slot) in
    let body : header_body_of image s.slot ≡ header_body_of was s.slot = body_torn s bytes was image at 96 torn held s.slot lt apart in
    let gate = λ (slot : ℕ) (in_2 : slot < 2). gate_same s bytes was image at 96 torn held slot in_2 (beside slot in_2) in
    let is_on : is_open image s.slot ≡ true = gate s.slot lt ∙ was_open s bytes was image at 96 torn held lt in
    let is_off : is_open image (other s.slot) ≡ false = gate (other s.slot) (omega arith) ∙ held.shut closed in
    record {
      heads = record { long = long_torn s bytes was image at 96 torn held; picked = only_open image s.slot lt is_on is_off; stands = ap header_at body ∙ held.heads.stands };
      shut = λ _. is_off;
      outdone = λ not_closed. absurd (true≢false closed not_closed);
      pages = pages_torn s bytes was image at 96 torn held (λ q kept from_2. inr (omega arith));
    }
  where
    apart : (PAGE_BYTES * s.slot + 96 ≤ place_of (other s.slot)) ⊎ (place_of (other s.slot) + 96 ≤ PAGE_BYTES * s.slot)
    apart = elim (cases_lt s.slot (other s.slot)) [ inl before ↦ inl (omega arith) | inr behind ↦ inr (omega arith) ]

    beside : (slot : ℕ) → slot < 2 → (gate_place slot < place_of (other s.slot)) ⊎ (place_of (other s.slot) + 96 ≤ gate_place slot)
    beside slot in_2 = elim (cases_lt slot (other s.slot)) [ inl before ↦ inl (omega arith) | inr behind ↦ inr (omega arith) ]

-- ---- the gate of the new header

module _ (s : State) (header : Header) (bytes : List ℕ) (held : Holds s bytes bytes) (lt : s.slot < 2) (closed : s.closed ≡ true) (fits : HasHeaderSpelling header) (range : IsHeaderInRange header) where
  abbrev o : ℕ
  o = other s.slot

  abbrev made : List ℕ
  made = with_header o header bytes

  spelled : length (header_spelling header) ≡ 96
  spelled = spelled_length header range.digest

  torn_made : Torn (place_of o) 96 bytes made
  torn_made = subst (λ (n : ℕ). Torn (place_of o) n bytes made) spelled (torn_written (place_of o) (header_spelling header) bytes)

  pub made_holds : Holds s bytes made
  made_holds = body_cut s bytes bytes made held lt closed torn_made

  made_body : header_body_of made o ≡ header_spelling header
  made_body =
      let long = held.heads.long in
      ap (λ (n : ℕ). take n (drop (place_of o) made)) (sym spelled) ∙ part_written (place_of o) (header_spelling header) bytes (omega (arith, spelled))

  module _ (image : List ℕ) (torn : Torn (gate_place o) 1 made image) where
    body_here : (slot : ℕ) → slot < 2 → header_body_of image slot ≡ header_body_of made slot
    body_here slot in_2 = body_torn s bytes made image (gate_place o) 1 torn made_holds slot in_2 (elim (cases_lt o slot) [ inl behind ↦ inr (omega arith) | inr before ↦ inl (omega arith) ])

    is_on : is_open image s.slot ≡ true
    is_on =
        gate_same s bytes made image (gate_place o) 1 torn made_holds s.slot lt (elim (cases_lt s.slot o) [ inl before ↦ inl (omega arith) | inr behind ↦ inr (omega arith) ])
        ∙ was_open s bytes made image (gate_place o) 1 torn made_holds lt

    new_stands : header_at (header_body_of image o) ≡ Ok header
    new_stands = header_again (header_body_of image o) header fits range (body_here o (omega arith) ∙ made_body)

    -- the gate reads closed: the old header is current
    pub still : is_open image o ≡ false → Holds s bytes image
    still off = record {
      heads = record { long = long_torn s bytes made image (gate_place o) 1 torn made_holds; picked = only_open image s.slot lt is_on off; stands = ap header_at (body_here s.slot lt) ∙ made_holds.heads.stands };
      shut = λ _. off;
      outdone = λ not_closed. absurd (true≢false closed not_closed);
      pages = pages_torn s bytes made image (gate_place o) 1 torn made_holds (λ q kept from_2. inr (omega arith));
    }

    old_epoch : epoch_in image s.slot ≡ s.header.epoch
    old_epoch = header_epoch (header_body_of image s.slot) s.header (ap header_at (body_here s.slot lt) ∙ made_holds.heads.stands)

    new_epoch : epoch_in image o ≡ header.epoch
    new_epoch = header_epoch (header_body_of image o) header new_stands

    same_length : length image ≡ length bytes
    same_length =
        let long = held.heads.long in
        omega (arith, torn.no_shorter, torn.no_longer, torn_made.no_shorter, torn_made.no_longer)

    same_byte : (i : ℕ) → 2 * PAGE_BYTES ≤ i → i < length image → get_or image i 0 ≡ get_or bytes i 0
    same_byte i low in_image =
        byte_torn (gate_place o) 1 made image torn i (omega (arith, same_length, torn_made.no_shorter)) (inr (omega arith))
        ∙ byte_torn (place_of o) 96 bytes made torn_made i (omega (arith, same_length)) (inr (omega arith))

    -- the new header is the later one
    pub outdoes : s.header.epoch < header.epoch → greater_slot (epoch_in image 0) (epoch_in image 1) ≡ o
    outdoes later = later_picked image s.slot lt (rw (old_epoch, new_epoch) later)

    -- where the gate reads open, it is current
    pub renews : s.header.epoch < header.epoch → is_open image o ≡ true → Renews s header bytes image
    renews later on =
        let greater = outdoes later in
        let in_2 : o < 2 = omega arith in
        let back : other o ≡ s.slot = omega arith in
        let back_on : is_open image (other o) ≡ true = ap (λ (n : ℕ). is_open image n) back ∙ is_on in
        record {
          heads = record { long = long_torn s bytes made image (gate_place o) 1 torn made_holds; picked = both_open image o in_2 on back_on greater; stands = new_stands };
          length = same_length;
          pages = λ page low. part_of_same (PAGE_BYTES * page) PAGE_BYTES image bytes same_length (λ i from_there in_image. same_byte i (omega arith) in_image);
        }

    pub either_way : s.header.epoch < header.epoch → Holds s bytes image ⊎ Renews s header bytes image
    either_way later = ⊎_elim (λ on. inr (renews later on)) (λ off. inl (still off)) (either (is_open image o))

  pub made_spelled : length (header_spelling header) ≡ 96
  made_spelled = spelled

  abbrev opened : List ℕ
  opened = with_gate o open_gate made

  -- the gate was written whole
  pub torn_opened : Torn (gate_place o) 1 made opened
  torn_opened = torn_written (gate_place o) (open_gate ∷ []) made

  opened_on : is_open opened o ≡ true
  opened_on =
      let byte : get_or opened (gate_place o) 0 ≡ open_gate = written_inside (gate_place o) (open_gate ∷ []) made (gate_place o) (omega arith) (omega arith) ∙ ap (λ (n : ℕ). get_or (open_gate ∷ []) n 0) (let none : gate_place o - gate_place o ≡ 0 = omega arith in none) in
      ap (λ (b : ℕ). b == open_gate) byte

  pub opened_renews : s.header.epoch < header.epoch → Renews s header bytes opened
  opened_renews later = renews opened torn_opened later opened_on

  pub opened_outdoes : s.header.epoch < header.epoch → greater_slot (epoch_in opened 0) (epoch_in opened 1) ≡ o
  opened_outdoes later = outdoes opened torn_opened later

  -- what a crash leaves while the header is published is the one or the other
  pub publishing : s.header.epoch < header.epoch → (images : List ℕ → Type 0) → ((image : List ℕ) → images image → Holds s bytes image) → (first : List ℕ) (at : ℕ) → first ≡ header_spelling header → at ≡ gate_place o
      → (left : List ℕ) → IsInOrder images bytes (place_of o) first at 1 left → Holds s bytes left ⊎ Renews s header bytes left
  publishing later images each first at is_first is_at left order =
      let shown : IsInOrder images bytes (place_of o) (header_spelling header) (gate_place o) 1 left =
      subst (λ (n : ℕ). IsInOrder images bytes (place_of o) (header_spelling header) n 1 left) is_at (subst (λ (f : List ℕ). IsInOrder images bytes (place_of o) f at 1 left) is_first order) in
      ⊎_elim (λ now. inl (each left now)) (⊎_elim
      (λ cut. inl (body_cut s bytes cut.0 left (each cut.0 cut.1) lt closed (subst (λ (n : ℕ). Torn (place_of o) n cut.0 left) spelled cut.2)))
      (λ torn. either_way left torn later)) shown
