-- Newlines among bytes, and where the first one stands.
use Rattle.std.proofs.Common.{◌≡◌, ℕ, ◌+◌, ◌-◌, ◌<◌, Bool, true, false, ◌||◌, List, ◌∷◌, ◌++◌, length, take, drop, nat_eq, Some, None, refl, sym, ap, subst, ◌∙◌, arith, length-drop, append_assoc, get_or}
use Rattle.std.proofs.lemmas.Bool.{eqb-true}
use Rattle.std.proofs.lemmas.List.{take_rest, take-append-drop, drop_more, drop-drop, get_or-take, length-take}
use Rattle.std.proofs.lemmas.List.Elements.{All-from_get_or}
use Rattle.std.proofs.lemmas.List.Folds.{list_any-append, list_any_none}
use Rattle.std.proofs.Math.Seq.{take-add}
use Rattle.memchr.specs.Find.{IsFirstByte, is_byte}
use Rattle.pm_peer.specs.FirstLine.{has_newline, IsFirstNewline}

never : (test : Bool) → (test ≡ true → ⊥) → test ≡ false
never true fails = absurd (fails refl)
never false fails = refl

right_of : (a b : Bool) → (a || b) ≡ false → b ≡ false
right_of true b is = absurd (cc)
right_of false b is = is

-- there is none among two parts where there is none in either
pub quiet_both : (xs ys : List ℕ) → has_newline xs ≡ false → has_newline ys ≡ false → has_newline (xs ++ ys) ≡ false
quiet_both xs ys first then = list_any-append (λ b. nat_eq b 10) xs ys ∙ ap (λ a. a || has_newline ys) first ∙ then

pub quiet_back : (xs ys : List ℕ) → has_newline (xs ++ ys) ≡ false → has_newline ys ≡ false
quiet_back xs ys none = right_of (has_newline xs) (has_newline ys) (sym (list_any-append (λ b. nat_eq b 10) xs ys) ∙ none)

none_at : (xs : List ℕ) → ((k : ℕ) → k < length xs → nat_eq (get_or xs k 0) 10 ≡ false) → has_newline xs ≡ false
none_at xs each = list_any_none (λ b. nat_eq b 10) xs (All-from_get_or (λ b. nat_eq b 10 ≡ false) xs 0 each)

pub none_found : (xs : List ℕ) → IsFirstByte (is_byte 10) xs None → has_newline xs ≡ false
none_found xs nowhere = none_at xs (λ i lt. never _ (nowhere i (omega arith) lt))

pub one_found : (xs : List ℕ) (i : ℕ) → IsFirstByte (is_byte 10) xs (Some i) → IsFirstNewline xs i
one_found xs i found =
    let inside : i < length xs = found.0.high in
    let ten : get_or xs i 0 ≡ 10 = eqb-true (get_or xs i 0) 10 found.1 in
    let short = length-take i xs in
    record {
      inside = inside;
      quiet = none_at (take i xs) (λ k lt. let near : k < i = omega (arith, lt, short) in ap (λ b. nat_eq b 10) (get_or-take i xs k 0 near) ∙ never _ (found.0.before k (omega arith) near));
      there = sym (take-append-drop i xs) ∙ ap (λ rest. take i xs ++ rest) (drop_more xs i 0 inside ∙ ap (λ b. b ∷ drop (i + 1) xs) ten);
    }

-- the same of a text whose first bytes were searched
pub none_behind : (text : List ℕ) (s : ℕ) → has_newline (take s text) ≡ false → IsFirstByte (is_byte 10) (take (length text - s) (drop s text)) None → has_newline text ≡ false
none_behind text s quiet nowhere =
    ap has_newline (sym (take-append-drop s text)) ∙ quiet_both (take s text) (drop s text) quiet (ap has_newline (sym (take_rest text s)) ∙ none_found (take (length text - s) (drop s text)) nowhere)

add_one : (s i : ℕ) → s + (i + 1) ≡ s + i + 1
add_one s i = omega arith

pub one_behind : (text : List ℕ) (s i : ℕ) → has_newline (take s text) ≡ false → IsFirstByte (is_byte 10) (take (length text - s) (drop s text)) (Some i) → IsFirstNewline text (s + i)
one_behind text s i quiet found =
    let here : IsFirstNewline (drop s text) i = subst (λ xs. IsFirstNewline xs i) (take_rest text s) (one_found (take (length text - s) (drop s text)) i found) in
    let parts : take (s + i) text ≡ take s text ++ take i (drop s text) = take-add s i text in
    let rest : drop (i + 1) (drop s text) ≡ drop (s + i + 1) text = drop-drop (i + 1) s text ∙ ap (λ n. drop n text) (add_one s i) in
    record {
      inside = omega (arith, here.inside, length-drop s text);
      quiet = ap has_newline parts ∙ quiet_both (take s text) (take i (drop s text)) quiet here.quiet;
      there =
          sym (take-append-drop s text) ∙ ap (λ xs. take s text ++ xs) (here.there ∙ ap (λ xs. take i (drop s text) ++ 10 ∷ xs) rest)
          ∙ sym (append_assoc (take s text) (take i (drop s text)) (10 ∷ drop (s + i + 1) text)) ∙ ap (λ xs. xs ++ 10 ∷ drop (s + i + 1) text) (sym parts);
    }
