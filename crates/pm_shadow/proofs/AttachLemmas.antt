-- The current header as it is found by what is read.
use Rattle.std.proofs.Common.{◌≡◌, inl, inr, ℕ, zero, suc, ◌*◌, ◌<◌, ◌≤◌, Bool, true, false, List, length, Option, Some, None, Result, Ok, Err, refl, sym, ◌∙◌, ap, subst, arith}
use Rattle.std.specs.Prelude.{nat_lt, not, ◌==◌, ◌&&◌, if◌then◌else◌}
use Rattle.std.proofs.lemmas.Bool.{lt-ltb, le-ltb, cases_lt}
use Rattle.pm_types.specs.declared.limits.TheConstants.{PAGE_BYTES}
use Rattle.pm_types.specs.declared.fault.OpenFault.{OpenFault}
use Rattle.pm_types.specs.declared.fault.OpenFault.TheVariants.{NotAStore, Version, Damaged, Malformed, Disk, Memory}
use Rattle.pm_layout.specs.declared.header.Header.{Header}
use Rattle.pm_layout.specs.declared.header.HeaderFault.{HeaderFault}
use Rattle.pm_layout.specs.declared.header.HeaderFault.TheVariants.{Magic, Version as OtherVersion, Digest, Next}
use Rattle.pm_layout.specs.Headers.{header_at}
use Rattle.pm_layout.specs.Reading.{number_from}
use Rattle.pm_image.specs.Opening.{Current, current, header_refusal, header_in, sound_header, is_placed, open_slot, is_open, open_gate, greater_slot, epoch_in, header_body_of, page_count}
use Rattle.pm_shadow.specs.State.{other, attached}
use Rattle.pm_shadow.specs.Images.{Heads, Holds, IsSoundState}
use Rattle.pm_shadow.specs.Attaching.{IsOfHeader, IsFaultOf, IsAttachFault, IsFoundIn, IsSlotOf, AreSlotsOf, is_on, picked_in, slot_in, header_seen}
use Rattle.pm_shadow.specs.declared.attaching.Found.{Found}
use Rattle.pm_shadow.specs.declared.attaching.Seen.{Seen}
use Rattle.pm_shadow.proofs.SlotLemmas.{picked_open}

-- bytes that are too short have no header
pub current_short : (bytes : List ℕ) → length bytes < 2 * PAGE_BYTES → current bytes ≡ Err NotAStore
unfolding current
current_short bytes short = ap (λ (b : Bool). if b then Err NotAStore else header_in bytes (open_slot bytes)) (lt-ltb (length bytes) (2 * PAGE_BYTES) short)

-- others have what stands in the slot that is picked
pub current_long : (bytes : List ℕ) → 2 * PAGE_BYTES ≤ length bytes → current bytes ≡ header_in bytes (open_slot bytes)
unfolding current
current_long bytes long = ap (λ (b : Bool). if b then Err NotAStore else header_in bytes (open_slot bytes)) (le-ltb (length bytes) (2 * PAGE_BYTES) long)

module _ (bytes : List ℕ) (seen : Seen) (is : AreSlotsOf bytes seen) where
  on_zeroth : is_on seen.zeroth ≡ is_open bytes 0
  on_zeroth = ap (λ (n : ℕ). n == open_gate) is.zeroth.gate

  on_first : is_on seen.first ≡ is_open bytes 1
  on_first = ap (λ (n : ℕ). n == open_gate) is.first.gate

  pub picked_same : picked_in seen ≡ open_slot bytes
  picked_same = λ i.
      let a = on_zeroth i in
      let b = on_first i in
      if a && b then Some (greater_slot (number_from 4 (is.zeroth.body i) 12) (number_from 4 (is.first.body i) 12)) else if a then Some 0 else if b then Some 1 else None

  pub slot_same : (slot : ℕ) → slot < 2 → IsSlotOf bytes slot (slot_in seen slot)
  slot_same zero lt = is.zeroth
  slot_same (suc zero) lt = is.first
  slot_same (suc (suc n)) lt = absurd (omega arith)

  in_slot : (picked : Option ℕ) → ((slot : ℕ) → picked ≡ Some slot → slot < 2) → header_seen seen picked ≡ header_in bytes picked
  in_slot None lt = refl
  in_slot (Some slot) lt = λ i. sound_header (is.count i) slot (header_at ((slot_same slot (lt slot refl)).body i))

  -- what was read says what the bytes say
  pub seen_current : ((slot : ℕ) → picked_in seen ≡ Some slot → slot < 2) → header_seen seen (picked_in seen) ≡ current bytes
  seen_current lt = in_slot (picked_in seen) lt ∙ ap (header_in bytes) picked_same ∙ sym (current_long bytes is.long)

abbrev picked_of : Bool → Bool → ℕ → ℕ → Option ℕ
picked_of zeroth first x y = if zeroth && first then Some (greater_slot x y) else if zeroth then Some 0 else if first then Some 1 else None

greater_lt : (x y : ℕ) → greater_slot x y < 2
greater_lt x y = by_test (nat_lt x y)
  where
    by_test : (b : Bool) → (if b then 1 else 0) < 2
    by_test true = omega arith
    by_test false = omega arith

picked_lt_of : (a b : Bool) (x y slot : ℕ) → picked_of a b x y ≡ Some slot → slot < 2
picked_lt_of true true x y slot is = let low = greater_lt x y in let same : greater_slot x y ≡ slot = cc in subst (λ (n : ℕ). n < 2) same low
picked_lt_of true false x y slot is = let same : 0 ≡ slot = cc in omega arith
picked_lt_of false true x y slot is = let same : 1 ≡ slot = cc in omega arith
picked_lt_of false false x y slot is = absurd (cc)

pub picked_lt : (seen : Seen) (slot : ℕ) → picked_in seen ≡ Some slot → slot < 2
picked_lt seen slot is = picked_lt_of (is_on seen.zeroth) (is_on seen.first) (number_from 4 seen.zeroth.body 12) (number_from 4 seen.first.body 12) slot is

-- ---- what a current header says of the bytes

placed_of : (b : Bool) (fault : OpenFault) (slot : ℕ) (header : Header) (now : Current) → (if b then Ok (record { slot = slot; header = header }) else Err fault) ≡ Ok now → (b ≡ true) × (slot ≡ now.slot) × (header ≡ now.header)
placed_of true fault slot header now is = let same : ◌≡◌ {A = Current} (record { slot = slot; header = header }) now = cc in (refl, ap (λ (c : Current). c.slot) same, ap (λ (c : Current). c.header) same)
placed_of false fault slot header now is = absurd (cc)

-- what is found where a header was read
pub record IsPlaced (count slot : ℕ) (r : Result Header HeaderFault) (now : Current) : Type 0 where
  pub slot_is : slot ≡ now.slot
  pub header_is : r ≡ Ok now.header
  pub placed : is_placed count now.header ≡ true

sound_parts : (count slot : ℕ) (r : Result Header HeaderFault) (now : Current) → sound_header count slot r ≡ Ok now → IsPlaced count slot r now
sound_parts count slot (Err fault) now is = absurd (cc)
sound_parts count slot (Ok header) now is =
    let parts = placed_of (is_placed count header) (Malformed slot 24) slot header now is in
    record { slot_is = parts.1; header_is = ap Ok parts.2; placed = ap (is_placed count) (sym parts.2) ∙ parts.0 }

pub record HasHead (bytes : List ℕ) (now : Current) : Type 0 where
  pub slot : now.slot < 2
  pub heads : Heads bytes now.slot now.header
  pub placed : is_placed (page_count bytes) now.header ≡ true

in_parts : (bytes : List ℕ) (now : Current) → 2 * PAGE_BYTES ≤ length bytes → (picked : Option ℕ) → open_slot bytes ≡ picked → header_in bytes picked ≡ Ok now → HasHead bytes now
in_parts bytes now long None e is = absurd (cc)
in_parts bytes now long (Some slot) e is =
    let parts = sound_parts (page_count bytes) slot (header_at (header_body_of bytes slot)) now is in
    let low = picked_lt_of (is_open bytes 0) (is_open bytes 1) (epoch_in bytes 0) (epoch_in bytes 1) slot e in
    record {
      slot = subst (λ (n : ℕ). n < 2) parts.slot_is low;
      heads = record { long = long; picked = e ∙ ap Some parts.slot_is; stands = ap (λ (n : ℕ). header_at (header_body_of bytes n)) (sym parts.slot_is) ∙ parts.header_is };
      placed = parts.placed;
    }

-- a header that is found is that of the slot that is picked
pub current_parts : (bytes : List ℕ) (now : Current) → current bytes ≡ Ok now → HasHead bytes now
current_parts bytes now is =
    elim (cases_lt (length bytes) (2 * PAGE_BYTES)) [
      | inl short ↦ let none = current_short bytes short in absurd (cc (none, is))
      | inr long ↦ in_parts bytes now long (open_slot bytes) refl (sym (current_long bytes long) ∙ is)
    ]

-- and so the other way
pub heads_current : (bytes : List ℕ) (slot : ℕ) (header : Header) → Heads bytes slot header → is_placed (page_count bytes) header ≡ true → current bytes ≡ Ok (record { slot = slot; header = header })
heads_current bytes slot header heads placed =
    current_long bytes heads.long ∙ ap (header_in bytes) heads.picked ∙ ap (sound_header (page_count bytes) slot) heads.stands
    ∙ ap (λ (b : Bool). if b then Ok (record { slot = slot; header = header }) else Err (Malformed slot 24)) placed

both_picked : (a b : Bool) (x y slot : ℕ) → a ≡ true → b ≡ true → picked_of a b x y ≡ Some slot → greater_slot x y ≡ slot
both_picked true true x y slot on too is = cc
both_picked true false x y slot on too is = absurd (cc)
both_picked false b x y slot on too is = absurd (cc)

outdone_of : (bytes : List ℕ) (slot : ℕ) → slot < 2 → open_slot bytes ≡ Some slot → is_open bytes (other slot) ≡ true → greater_slot (epoch_in bytes 0) (epoch_in bytes 1) ≡ slot
outdone_of bytes zero lt picked too = both_picked (is_open bytes 0) (is_open bytes 1) (epoch_in bytes 0) (epoch_in bytes 1) 0 (picked_open bytes 0 lt picked) too picked
outdone_of bytes (suc zero) lt picked too = both_picked (is_open bytes 0) (is_open bytes 1) (epoch_in bytes 0) (epoch_in bytes 1) 1 too (picked_open bytes 1 lt picked) picked
outdone_of bytes (suc (suc n)) lt picked too = absurd (omega arith)

not_true : (b : Bool) → not b ≡ true → b ≡ false
not_true true is = absurd (cc)
not_true false is = refl

not_false : (b : Bool) → not b ≡ false → b ≡ true
not_false true is = refl
not_false false is = absurd (cc)

-- what was found is known from then on
pub sound_found : (found : Found) (bytes : List ℕ) (images : List ℕ → Type 0) → IsFoundIn bytes images found → IsSoundState (attached found.slot found.header found.count found.closed) bytes images
sound_found found bytes images is =
    let head = current_parts bytes (record { slot = found.slot; header = found.header }) is.now in
    record {
      counted = let same = is.count in omega arith;
      each = λ image now. subst (λ (it : List ℕ). Holds (attached found.slot found.header found.count found.closed) bytes it) (sym (is.only image now)) (record {
        heads = head.heads;
        shut = λ closed. not_true (is_open bytes (other found.slot)) (sym is.closed ∙ closed);
        outdone = λ up. outdone_of bytes found.slot head.slot head.heads.picked (not_false (is_open bytes (other found.slot)) (sym is.closed ∙ up));
        pages = λ page kept low old. (let same = is.count in omega arith, refl);
      });
    }

-- what was read by a disk that is synced is what its bytes say
pub found_in : (bytes : List ℕ) (images : List ℕ → Type 0) (seen : Seen) (found : Found) → AreSlotsOf bytes seen → ((image : List ℕ) → images image → image ≡ bytes)
    → header_seen seen (picked_in seen) ≡ Ok (record { slot = found.slot; header = found.header }) → found.slot < 2 → found.count ≡ seen.count → found.closed ≡ not (is_on (slot_in seen (other found.slot))) → IsFoundIn bytes images found
found_in bytes images seen found is only ok lt count closed = record {
  only = only;
  count = count ∙ is.count;
  now = sym (seen_current bytes seen is (picked_lt seen)) ∙ ok;
  closed = closed ∙ ap (λ (n : ℕ). not (n == open_gate)) ((slot_same bytes seen is (other found.slot) (omega arith)).gate);
}

-- ---- faults

refusal_kind : (slot : ℕ) (fault : HeaderFault) → IsOfHeader (header_refusal slot fault)
refusal_kind slot Magic = tt
refusal_kind slot (OtherVersion version) = tt
refusal_kind slot (Digest kept found) = tt
refusal_kind slot Next = tt

placed_kind : (b : Bool) (slot : ℕ) (now : Current) (fault : OpenFault) → (if b then Ok now else Err (Malformed slot 24)) ≡ Err fault → IsOfHeader fault
placed_kind true slot now fault is = absurd (cc)
placed_kind false slot now fault is = let same : Malformed slot 24 ≡ fault = cc in subst IsOfHeader same tt

sound_kind : (count slot : ℕ) (r : Result Header HeaderFault) (fault : OpenFault) → sound_header count slot r ≡ Err fault → IsOfHeader fault
sound_kind count slot (Err e) fault is = let same : header_refusal slot e ≡ fault = cc in subst IsOfHeader same (refusal_kind slot e)
sound_kind count slot (Ok header) fault is = placed_kind (is_placed count header) slot (record { slot = slot; header = header }) fault is

-- reading a header gives no other faults
pub seen_kind : (seen : Seen) (picked : Option ℕ) (fault : OpenFault) → header_seen seen picked ≡ Err fault → IsOfHeader fault
seen_kind seen None fault is = let same : NotAStore ≡ fault = cc in subst IsOfHeader same tt
seen_kind seen (Some slot) fault is = sound_kind seen.count slot (header_at (slot_in seen slot).body) fault is

pub fault_of_rule : (bytes : List ℕ) (fault : OpenFault) → IsOfHeader fault → current bytes ≡ Err fault → IsFaultOf bytes fault
fault_of_rule bytes NotAStore kind is = is
fault_of_rule bytes (Version version) kind is = is
fault_of_rule bytes (Damaged page kept found) kind is = is
fault_of_rule bytes (Malformed page at) kind is = is
fault_of_rule bytes (Disk before after) kind is = absurd kind
fault_of_rule bytes (Memory _) kind is = absurd kind

pub cause_of_rule : (before after : ℕ) (fault : OpenFault) → IsOfHeader fault → after ≡ before → IsAttachFault before after fault
cause_of_rule before after NotAStore kind is = is
cause_of_rule before after (Version version) kind is = is
cause_of_rule before after (Damaged page kept found) kind is = is
cause_of_rule before after (Malformed page at) kind is = is
cause_of_rule before after (Disk b a) kind is = absurd kind
cause_of_rule before after (Memory _) kind is = absurd kind
