-- Texts that stand in bytes, one after the other.
use Rattle.std.proofs.Common.{◌≡◌, ℕ, ◌+◌, ◌-◌, ◌^◌, ◌<◌, ◌≤◌, List, [], ◌∷◌, ◌++◌, length, get_or, take, drop, refl, sym, ap, ◌∙◌, append_assoc, arith, length-append, length-drop}
use Rattle.std.proofs.lemmas.List.{take-append-drop, drop-drop, drop_at, drop_more, get_or-drop}
use Rattle.byteorder.specs.Endian.{big_bytes, big_number}
use Rattle.byteorder.specs.Numbers.{big_number-reads_back}
use Rattle.pm_layout.specs.Spelling.{Stands}
use Rattle.pm_layout.specs.Reading.{number_from}
use Rattle.pm_layout.proofs.Numbers.{IsBytes, IsBytes-drop, IsWidth}

-- two texts, one after the other, are one
pub Stands-then : (bytes a b : List ℕ) (p q r : ℕ) → Stands bytes p a q → Stands bytes q b r → Stands bytes p (a ++ b) r
Stands-then bytes a b p q r first second = record {
  inside = second.inside;
  parts = first.parts ∙ ap (λ (t : List ℕ). a ++ t) second.parts ∙ sym (append_assoc a b (drop r bytes));
}

-- where a text ends
pub Stands-end : (bytes a : List ℕ) (p q : ℕ) → p ≤ length bytes → Stands bytes p a q → p + length a ≡ q
Stands-end bytes a p q start s =
    let lens = ap length s.parts in
    let inside = s.inside in
    omega (arith, lens, length-drop p bytes, length-append a (drop q bytes), length-drop q bytes)

-- one text is two, one after the other
pub record Split (bytes a b : List ℕ) (p q r : ℕ) : Type 0 where
  pub first : Stands bytes p a q
  pub second : Stands bytes q b r

pub Stands-split : (bytes a b : List ℕ) (p q r : ℕ) → p ≤ length bytes → p + length a ≡ q → Stands bytes p (a ++ b) r → Split bytes a b p q r
Stands-split bytes a b p q r start e s =
    let whole : drop p bytes ≡ a ++ (b ++ drop r bytes) = s.parts ∙ append_assoc a b (drop r bytes) in
    let rest : drop q bytes ≡ b ++ drop r bytes =
    ap (λ (k : ℕ). drop k bytes) (sym e) ∙ sym (drop-drop (length a) p bytes) ∙ ap (λ (t : List ℕ). drop (length a) t) whole ∙ drop_at a (b ++ drop r bytes) (length a) refl in
    let ended = Stands-end bytes (a ++ b) p r start s in
    let inside = s.inside in
    record {
      first = record { inside = omega (arith, length-append a b); parts = whole ∙ ap (λ (t : List ℕ). a ++ t) (sym rest) };
      second = record { inside = inside; parts = rest };
    }

-- the bytes between two places
pub between_stands : (bytes : List ℕ) (p q : ℕ) → p ≤ q → q ≤ length bytes → Stands bytes p (take (q - p) (drop p bytes)) q
between_stands bytes p q le inside = record {
  inside = inside;
  parts = sym (take-append-drop (q - p) (drop p bytes)) ∙ ap (λ (t : List ℕ). take (q - p) (drop p bytes) ++ t) (drop-drop (q - p) p bytes ∙ ap (λ (k : ℕ). drop k bytes) (let e : p + (q - p) ≡ q = omega arith in e));
}

-- a number that is read stands where it was read
pub number_stands : (n : ℕ) → IsWidth n → (bytes : List ℕ) (p q : ℕ) → p + n ≡ q → q ≤ length bytes → IsBytes bytes → Stands bytes p (big_bytes n (number_from n bytes p)) q
number_stands n wide bytes p q e inside fits =
    let long : n ≤ length (drop p bytes) = omega (arith, length-drop p bytes) in
    record {
      inside = inside;
      parts = sym (take-append-drop n (drop p bytes))
          ∙ ap (λ (t : List ℕ). t ++ drop n (drop p bytes)) (sym (wide.back (drop p bytes) long (IsBytes-drop p bytes fits)))
          ∙ ap (λ (t : List ℕ). big_bytes n (number_from n bytes p) ++ t) (drop-drop n p bytes ∙ ap (λ (k : ℕ). drop k bytes) e);
    }

-- a number that stands there is read
pub number_is : (n : ℕ) (bytes : List ℕ) (p q x : ℕ) → x < 256 ^ n → Stands bytes p (big_bytes n x) q → number_from n bytes p ≡ x
number_is n bytes p q x lt s = ap (λ (t : List ℕ). big_number n t) s.parts ∙ big_number-reads_back n x (drop q bytes) lt

-- a byte that is read stands where it was read
pub byte_stands : (bytes : List ℕ) (p b : ℕ) → p < length bytes → get_or bytes p 0 ≡ b → Stands bytes p (b ∷ []) (p + 1)
byte_stands bytes p b inside e = record { inside = omega arith; parts = drop_more bytes p 0 inside ∙ ap (λ (x : ℕ). x ∷ drop (p + 1) bytes) e }

-- a byte that stands there is read
pub byte_is : (bytes text : List ℕ) (p q b : ℕ) → Stands bytes p (b ∷ text) q → get_or bytes p 0 ≡ b
byte_is bytes text p q b s =
    let place : get_or bytes (p + 0) 0 ≡ get_or bytes p 0 = ap (λ (k : ℕ). get_or bytes k 0) (let e : p + 0 ≡ p = omega arith in e) in
    sym place ∙ sym (get_or-drop p bytes 0 0) ∙ ap (λ (t : List ℕ). get_or t 0 0) s.parts
