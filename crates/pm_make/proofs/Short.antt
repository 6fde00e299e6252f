-- Each line of a script can be spelled, in 32 bytes at most.
use Rattle.std.proofs.Common.{◌≡◌, ℕ, zero, suc, ◌+◌, ◌/◌, ◌%◌, ◌<◌, ◌≤◌, ◌==◌, ◌⊎◌, inl, inr, Bool, true, false, List, [], ◌∷◌, ◌++◌, length, Option, Some, None, refl, ap, sym, subst, ◌∙◌, arith, codes, decimal, lit<, length-append, IsTrue, if◌then◌else◌}
use Rattle.std.specs.Prelude.{IfSome}
use Rattle.std.specs.List.{AllByRecursion}
use Rattle.std.proofs.lemmas.Bool.Decides.{nat_tests}
use Rattle.std.proofs.lemmas.Fmt.{decimal_digit, decimal_step, length-decimal-le}
use Rattle.hex.specs.Hex.{IsBytes}
use Rattle.hex.proofs.HexLemmas.{length-encode_with}
use Rattle.pm_types.specs.Names.{is_name_byte, IsName}
use Rattle.pm_types.specs.declared.command.Cmd.TheVariants as cmd
use Rattle.pm_model.specs.Text.{pairs}
use Rattle.pm_script.specs.declared.line.Line.{Line}
use Rattle.pm_script.specs.declared.line.Line.TheVariants as line
use Rattle.pm_script.specs.Lines.{ended}
use Rattle.pm_script.specs.Script.{IsLine, spelling}
use Rattle.pm_make.specs.declared.drawing.Turn.{Turn}
use Rattle.pm_make.specs.Drawing.{state_after, turn_of, IsDrawn}
use Rattle.pm_make.specs.Made.{asks, two_bytes, name_of, new_line, store_line, root_lines, turn_lines, checkpoint_lines, thousandth_lines, first_lines, last_lines, made_lines}
use Rattle.pm_make.proofs.Texts.{new_text, store_text, root_text}
use Rattle.pm_make.proofs.Drawn.{turn_drawn}

pub record IsShort (line : Line) : Type 0 where
  pub is : IsLine line
  pub short : length (ended (spelling line)) ≤ 32

two_long : (n : ℕ) → n < 100 → length (decimal n) ≤ 2
two_long n small = length-decimal-le 2 n (lit< tt) small (omega arith)

bytes_small : (n : ℕ) → n < 65536 → IsBytes (two_bytes n)
bytes_small n small zero = omega arith
bytes_small n small (suc zero) = omega arith
bytes_small n small (suc (suc i)) = lit< tt

pairs_long : (n : ℕ) → length (pairs (two_bytes n)) ≡ 4
pairs_long n = length-encode_with _ (two_bytes n)

new_short : (turn : Turn) → IsDrawn turn → IsShort (new_line turn)
new_short turn is = record {
  is = record { first = lit< tt; values = (let low = is.register in omega arith, (lit< tt, (bytes_small turn.bytes is.bytes, tt))) };
  short =
      rw (new_text turn) (
      let r = two_long turn.register (let low = is.register in omega arith) in
      let h = pairs_long turn.bytes in
      simp length-append (omega (arith, r, h))
      );
}

store_short : (turn : Turn) → IsDrawn turn → IsShort (store_line turn)
store_short turn is = record {
  is = record { first = lit< tt; values = (let low = is.register in omega arith, (let low = is.index in omega arith, (let low = is.value in omega arith, tt))) };
  short =
      rw (store_text turn) (
      let r = two_long turn.register (let low = is.register in omega arith) in
      let v = two_long turn.value (let low = is.value in omega arith) in
      let k = two_long turn.index (let low = is.index in omega arith) in
      simp length-append (omega (arith, r, v, k))
      );
}

digit_named : (n : ℕ) → n < 10 → is_name_byte (48 + n) ≡ true
digit_named n small = grind (arith, nat_tests)

either : (n : ℕ) → n < 16 → (n < 10) ⊎ ((10 ≤ n) × (n / 10 ≡ 1) × (n % 10 < 10))
either n small = grind arith

decimal_named_by : (n : ℕ) → (n < 10) ⊎ ((10 ≤ n) × (n / 10 ≡ 1) × (n % 10 < 10)) → n < 16 → AllByRecursion (λ b. IsTrue (is_name_byte b)) (decimal n)
decimal_named_by n (inl low) small = subst (λ (w : List ℕ). AllByRecursion (λ b. IsTrue (is_name_byte b)) w) (sym (decimal_digit n low)) (digit_named n low, tt)
decimal_named_by n (inr high) small =
    let two : decimal n ≡ codes "1" ++ ((48 + n % 10) ∷ []) = decimal_step n high.0 (omega arith) ∙ ap (λ m. decimal m ++ ((48 + n % 10) ∷ [])) high.1 ∙ ap (λ (w : List ℕ). w ++ ((48 + n % 10) ∷ [])) (decimal_digit 1 (lit< tt)) in
    subst (λ (w : List ℕ). AllByRecursion (λ b. IsTrue (is_name_byte b)) w) (sym two) (refl, (digit_named (n % 10) high.2, tt))

-- the name of a number is one
pub name_named : (n : ℕ) → n < 16 → IsName (name_of n)
name_named n small =
    let long = two_long n (omega arith) in
    record { some = omega arith; short = omega (arith, long); each = (refl, decimal_named_by n (either n small) small) }

root_short : (name : Option ℕ) (register : ℕ) → IfSome name (λ name. name < 16) → register < 64 → AllByRecursion IsShort (root_lines name register)
root_short None register is low = tt
root_short (Some name) register is low = (
  record {
    is = record { first = lit< tt; values = (name_named name is, (omega arith, tt)) };
    short =
        rw (root_text name register) (
        let r = two_long register (omega arith) in
        let n = two_long name (omega (arith, is)) in
        simp length-append (omega (arith, r, n))
        );
  },
  tt,
)

gc_short : (n : ℕ) → n < 10000 → IsShort (line.Gc n)
gc_short n small = record {
  is = record { first = tt; values = (omega arith, tt) };
  short = let long = length-decimal-le 4 n (lit< tt) small (omega arith) in simp length-append (omega (arith, long));
}

pub all_append : {X : Type 0} (P : X → Type 0) (xs ys : List X) → AllByRecursion P xs → AllByRecursion P ys → AllByRecursion P (xs ++ ys)
all_append P [] ys are more = more
all_append P (x ∷ xs) ys are more = (are.0, all_append P xs ys are.1 more)

zero_long : length (decimal 0) ≡ 1
zero_long = ap length (decimal_digit 0 (lit< tt))

turn_short : (turn : Turn) → IsDrawn turn → AllByRecursion IsShort (turn_lines turn)
turn_short turn is = (
  new_short turn is,
  (store_short turn is, all_append IsShort (root_lines turn.name turn.register) (line.Gc 3 ∷ []) (root_short turn.name turn.register is.name is.register) (gc_short 3 (lit< tt), tt)),
)

save_short : IsShort (asks cmd.Save)
save_short = record { is = record { first = lit< tt; values = tt }; short = simp length-append (omega (arith, zero_long)) }

settle_short : IsShort (asks cmd.Settle)
settle_short = record { is = record { first = lit< tt; values = tt }; short = simp length-append (omega (arith, zero_long)) }

watch_short : IsShort (asks cmd.Watch)
watch_short = record { is = record { first = lit< tt; values = tt }; short = simp length-append (omega (arith, zero_long)) }

close_short : IsShort (asks cmd.Close)
close_short = record { is = record { first = lit< tt; values = tt }; short = simp length-append (omega (arith, zero_long)) }

thousandth_by : (test : Bool) → AllByRecursion IsShort (if test then checkpoint_lines else [])
thousandth_by true = (save_short, (settle_short, tt))
thousandth_by false = tt

first_short : (seed turns : ℕ) → AllByRecursion IsShort (first_lines seed turns)
first_short seed zero = tt
first_short seed (suc turns) =
    let turn = turn_of (state_after seed turns) in
    all_append IsShort (first_lines seed turns ++ turn_lines turn) (thousandth_lines (suc turns))
    (all_append IsShort (first_lines seed turns) (turn_lines turn) (first_short seed turns) (turn_short turn (turn_drawn (state_after seed turns))))
    (thousandth_by (suc turns % 1000 == 0))

-- each line of a script is short
pub made_short : (seed turns : ℕ) → AllByRecursion IsShort (made_lines seed turns)
made_short seed turns =
    all_append IsShort (first_lines seed turns) last_lines (first_short seed turns) (save_short, (settle_short, (watch_short, (close_short, (gc_short 1000 (lit< tt), tt)))))
