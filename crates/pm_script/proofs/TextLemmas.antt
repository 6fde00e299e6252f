-- How long words are, and what stands where words were put.
use Rattle.std.proofs.Common.{◌≡◌, ℕ, ◌+◌, ◌-◌, ◌*◌, ◌<◌, ◌≤◌, ◌^◌, List, [], ◌∷◌, ◌++◌, length, take, drop, refl, sym, ap, ◌∙◌, arith, decimal, lit<, Result, Ok, Err}
use Rattle.std.specs.Prelude.{OnOk}
use Rattle.std.proofs.lemmas.Fmt.{length-decimal-le, decimal_digit}
use Rattle.std.proofs.lemmas.List.{drop-drop}
use Rattle.std.proofs.lemmas.Slice.{take-put_mid, drop-put_mid}
use borrow.Rule.Slice.PartMut.{put_mid}
use Rattle.hex.specs.Hex.{encode_lower}
use Rattle.hex.proofs.HexLemmas.{length-encode_with}
use Rattle.pm_model.specs.Text.{pairs}
use Rattle.pm_script.specs.Texts.{Puts}

-- a number below 2 ^ 32 has ten digits at most
pub number_short : (n : ℕ) → n < 2 ^ 32 → length (decimal n) ≤ 10
number_short n small = length-decimal-le 10 n (lit< tt) (omega arith) (omega arith)

-- bytes of an object have 8,192 digits at most
pub pairs_long : (bytes : List ℕ) → 0 < length bytes → length (pairs bytes) ≡ 2 * length bytes
pairs_long [] some = absurd (let bad : 0 < 0 = some in omega (arith, bad))
pairs_long (byte ∷ bytes) some = length-encode_with _ (byte ∷ bytes)

pub pairs_short : (bytes : List ℕ) → length bytes ≤ 4096 → length (pairs bytes) ≤ 8192
pairs_short [] short = omega arith
pairs_short (byte ∷ bytes) short = let long = pairs_long (byte ∷ bytes) (omega arith) in omega (arith, long, short)

pub pairs_some : (bytes : List ℕ) → 0 < length bytes → pairs bytes ≡ encode_lower bytes
pairs_some [] some = absurd (let bad : 0 < 0 = some in omega (arith, bad))
pairs_some (byte ∷ bytes) some = refl

-- words that were put at a place
pub puts_mid : (at k end : ℕ) (old words new : List ℕ) → k ≡ length words → end ≡ at + length words → at + length words ≤ length old → new ≡ words → Puts old at words (put_mid at k old new) end
puts_mid at k end old words new is ends room same =
    let long = ap length same in
    record {
      ends = ends;
      front = take-put_mid at k old new end (omega (arith, ends, long)) (omega (arith, room)) ∙ ap (λ ws. take at old ++ ws) same;
      rest = drop-put_mid at k old new end (omega (arith, ends, is)) (omega (arith, room)) (omega (arith, long, is));
    }

pub client_long : (n : ℕ) → n < 8 → length (decimal n) ≡ 1
client_long n small = ap length (decimal_digit n (omega arith))

-- what stands as it did from one place on does so from a later one on
pub kept : (a b : ℕ) (xs ys : List ℕ) → a ≤ b → drop a xs ≡ drop a ys → drop b xs ≡ drop b ys
kept a b xs ys le same =
    let sum : a + (b - a) ≡ b = omega arith in
    sym (ap (λ n. drop n xs) sum) ∙ sym (drop-drop (b - a) a xs) ∙ ap (drop (b - a)) same ∙ drop-drop (b - a) a ys ∙ ap (λ n. drop n ys) sum

-- what holds where a call succeeded holds once it did
pub on_ok : {T E : Type 0} (r : Result T E) (x : T) (P : Type 0) → r ≡ Ok x → OnOk r P → P
on_ok (Ok y) x P is holds = holds
on_ok (Err e) x P is holds = absurd cc
