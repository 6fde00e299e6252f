-- What the lines of a script are spelled as.
use Rattle.std.proofs.Common.{◌≡◌, ℕ, List, [], ◌∷◌, ◌++◌, ap, ◌∙◌, codes, decimal, append_assoc, lit<, lit≤, Option, Some}
use Rattle.std.proofs.lemmas.Fmt.{decimal_digit, decimal_step}
use Rattle.std.specs.List.{flat_map}
use Rattle.std.proofs.lemmas.Grind.{flat_map-append}
use Rattle.pm_model.specs.Text.{pairs}
use Rattle.pm_script.specs.Lines.{ended}
use Rattle.pm_script.specs.Script.{spelling, text_of}
use Rattle.pm_script.specs.declared.line.Line.TheVariants as line
use Rattle.pm_types.specs.declared.command.Cmd.TheVariants as cmd
use Rattle.pm_make.specs.declared.drawing.Turn.{Turn}
use Rattle.pm_make.specs.Made.{asks, two_bytes, name_of, new_line, store_line, root_lines, turn_lines, checkpoint_lines, last_lines}

pub zero_text : decimal 0 ≡ codes "0"
zero_text = decimal_digit 0 (lit< tt)

pub three_text : decimal 3 ≡ codes "3"
three_text = decimal_digit 3 (lit< tt)

pub four_text : decimal 4 ≡ codes "4"
four_text = decimal_digit 4 (lit< tt)

pub one_text : decimal 1 ≡ codes "1"
one_text = decimal_digit 1 (lit< tt)

pub twenty_five_text : decimal 25 ≡ codes "25"
twenty_five_text = decimal_step 25 (lit≤ tt) (lit< tt) ∙ ap (λ (w : List ℕ). w ++ codes "5") (decimal_digit 2 (lit< tt))

pub new_text : (turn : Turn) → ended (spelling (new_line turn)) ≡ codes "0 new " ++ (decimal turn.register ++ (codes " 4 " ++ (pairs (two_bytes turn.bytes) ++ codes "\n")))
new_text turn = simp (zero_text, four_text, append_assoc)

pub store_text : (turn : Turn) → ended (spelling (store_line turn)) ≡ codes "0 store " ++ (decimal turn.register ++ (codes " " ++ (decimal turn.index ++ (codes " " ++ (decimal turn.value ++ codes "\n")))))
store_text turn = simp (zero_text, append_assoc)

pub root_text : (name register : ℕ) → ended (spelling (asks (cmd.Bind (name_of name) register))) ≡ codes "0 root n" ++ (decimal name ++ (codes " " ++ (decimal register ++ codes "\n")))
root_text name register = simp (zero_text, append_assoc)

-- the same of what stands before the line
pub after_new : (old : List ℕ) (turn : Turn) → ((((old ++ codes "0 new ") ++ decimal turn.register) ++ codes " 4 ") ++ pairs (two_bytes turn.bytes)) ++ codes "\n" ≡ old ++ text_of (new_line turn ∷ [])
after_new old turn = simp (zero_text, four_text, append_assoc)

pub after_store : (old : List ℕ) (turn : Turn) → ((((((old ++ codes "0 store ") ++ decimal turn.register) ++ codes " ") ++ decimal turn.index) ++ codes " ") ++ decimal turn.value) ++ codes "\n" ≡ old ++ text_of (store_line turn ∷ [])
after_store old turn = simp (zero_text, append_assoc)

some_root : (old : List ℕ) (name register : ℕ) → ((((old ++ codes "0 root n") ++ decimal name) ++ codes " ") ++ decimal register) ++ codes "\n" ≡ old ++ text_of (root_lines (Some name) register)
some_root old name register = simp (zero_text, append_assoc)

pub after_root : (old : List ℕ) (bound : Option ℕ) (name register : ℕ) → bound ≡ Some name → ((((old ++ codes "0 root n") ++ decimal name) ++ codes " ") ++ decimal register) ++ codes "\n" ≡ old ++ text_of (root_lines bound register)
after_root old bound name register is = rw is (some_root old name register)

-- the texts of some lines, one after the other
joined : {X : Type 0} (f : X → List ℕ) (old end : List ℕ) (a b d : X) (cs : List X) → end ≡ flat_map f (d ∷ []) → (((old ++ flat_map f (a ∷ [])) ++ flat_map f (b ∷ [])) ++ flat_map f cs) ++ end ≡ old ++ flat_map f (a ∷ b ∷ cs ++ d ∷ [])
joined f old end a b d cs is = rw is (simp (append_assoc, flat_map-append))

gc_text : codes "! gc 3\n" ≡ text_of (line.Gc 3 ∷ [])
gc_text = simp three_text

pub after_turn : (old : List ℕ) (turn : Turn) → (((old ++ text_of (new_line turn ∷ [])) ++ text_of (store_line turn ∷ [])) ++ text_of (root_lines turn.name turn.register)) ++ codes "! gc 3\n" ≡ old ++ text_of (turn_lines turn)
after_turn old turn = joined (λ line. ended (spelling line)) old (codes "! gc 3\n") (new_line turn) (store_line turn) (line.Gc 3) (root_lines turn.name turn.register) gc_text

pub thousand_text : decimal 1000 ≡ codes "1000"
thousand_text =
    decimal_step 1000 (lit≤ tt) (lit< tt) ∙ ap (λ (w : List ℕ). w ++ codes "0") (decimal_step 100 (lit≤ tt) (lit< tt) ∙ ap (λ (w : List ℕ). w ++ codes "0") (decimal_step 10 (lit≤ tt) (lit< tt) ∙ ap (λ (w : List ℕ). w ++ codes "0") (decimal_digit 1 (lit< tt))))

pub checkpoint_text : codes "0 save\n0 settle\n" ≡ text_of checkpoint_lines
checkpoint_text = simp zero_text

pub last_text : (old : List ℕ) → (old ++ text_of checkpoint_lines) ++ codes "0 watch\n0 close\n! gc 1000\n" ≡ old ++ text_of last_lines
last_text old = simp (zero_text, thousand_text, append_assoc)
