-- The lines of a dump as they are written, one part behind the other.
use Rattle.std.proofs.Common.{◌≡◌, ℕ, ◌+◌, ap, sym, ◌∙◌, List, [], ◌∷◌, ◌++◌, map, length, take, Option, Some, append_assoc, codes, decimal}
use Rattle.std.specs.List.{flat_map, join_with_byte, slice_get}
use Rattle.std.proofs.lemmas.Grind.{flat_map-append}
use Rattle.std.proofs.lemmas.List.Folds.{flat_map-map}
use Rattle.std.proofs.lemmas.List.{length-map, take_more, flat_map_more}
use Rattle.std.proofs.lemmas.Option.{slice_get_within, get_or_from_slice_get}
use Rattle.pm_types.specs.Mapped.{mapped_entries}
use Rattle.pm_types.specs.declared.address.Addr.{Addr}
use Rattle.pm_types.specs.declared.object.Object as kept
use Rattle.pm_model.specs.Text.{pairs}
use Rattle.pm_script.specs.Lines.{ended}
use Rattle.pm_dump.specs.Dump.{HeadLine, ObjectLine, RootLine, EndLine, object_lines, root_lines, line_text, field_word, dump_text_of}
use Rattle.pm_view.specs.View.{SpaceView}
use Rattle.pm_view.specs.Represents.{names, meaning}
use Rattle.pm_walk.specs.Walked.{meant_at}
use Rattle.pm_walk.specs.Lines.{found_line, named_line}
use Rattle.pm_walk.proofs.Lists.{append_none}
use Rattle.pm_walk.proofs.Heaps.{root_id}

-- a word with a space before it
abbrev spaced : List ℕ → List ℕ
spaced word = 32 ∷ word

-- words with one space between each two: the first, and each other one with its space
joined : (word : List ℕ) (words : List (List ℕ)) → join_with_byte 32 (word ∷ words) ≡ word ++ flat_map spaced words
joined word [] = sym (append_none word)
joined word (next ∷ words) = ap (λ rest. word ++ 32 ∷ rest) (joined next words)

pub head_text : (old : List ℕ) (next : ℕ) → ((old ++ codes "pmos dump 1") ++ 32 ∷ decimal next) ++ codes "\n" ≡ old ++ line_text (HeadLine next)
head_text old next = simp append_assoc

glued : (old o a b c rest end : List ℕ) → (((((old ++ o) ++ a) ++ b) ++ c) ++ rest) ++ end ≡ old ++ ((o ++ (a ++ (b ++ (c ++ rest)))) ++ end)
glued old o a b c rest end = simp append_assoc

spaced_fields : (view : SpaceView) (fields : List (Option Addr)) → flat_map (λ (field : Option Addr). 32 ∷ field_word (names view field)) fields ≡ flat_map spaced (map field_word (map (names view) fields))
spaced_fields view fields = sym (flat_map-map spaced field_word (map (names view) fields) ∙ flat_map-map (λ field. 32 ∷ field_word field) (names view) fields)

object_text : (view : SpaceView) (object : kept.Object) (old : List ℕ) (id : ℕ) (fields : List (Option Addr)) → fields ≡ object.fields
    → (((((old ++ codes "object") ++ 32 ∷ decimal id) ++ 32 ∷ decimal (length fields)) ++ 32 ∷ pairs object.bytes) ++ flat_map (λ (field : Option Addr). 32 ∷ field_word (names view field)) fields) ++ codes "\n" ≡ old ++ line_text (ObjectLine id (meaning view object))
object_text view object old id fields are =
    glued old (codes "object") (32 ∷ decimal id) (32 ∷ decimal (length fields)) (32 ∷ pairs object.bytes) (flat_map (λ (field : Option Addr). 32 ∷ field_word (names view field)) fields) (codes "\n")
    ∙ ap (λ rest. old ++ ((codes "object" ++ ((32 ∷ decimal id) ++ ((32 ∷ decimal (length fields)) ++ ((32 ∷ pairs object.bytes) ++ rest)))) ++ 10 ∷ [])) (spaced_fields view fields)
    ∙ ap (λ count. old ++ ((codes "object" ++ ((32 ∷ decimal id) ++ ((32 ∷ decimal count) ++ ((32 ∷ pairs object.bytes) ++ flat_map spaced (map field_word (map (names view) fields)))))) ++ 10 ∷ [])) (sym (length-map fields (names view)))
    ∙ ap (λ line. old ++ ended line) (sym (joined (codes "object") (decimal id ∷ decimal (length (map (names view) fields)) ∷ pairs object.bytes ∷ map field_word (map (names view) fields))))
    ∙ ap (λ (fs : List (Option Addr)). old ++ line_text (ObjectLine id (record { fields = map (names view) fs; bytes = object.bytes }))) are

-- the same, one step behind the other
pub object_steps : (view : SpaceView) (object : kept.Object) (old one two three four five out : List ℕ) (id number : ℕ) (fields : List (Option Addr)) (bytes : List ℕ) → number ≡ id → fields ≡ object.fields → bytes ≡ object.bytes
    → one ≡ old ++ codes "object" → two ≡ one ++ 32 ∷ decimal number → three ≡ two ++ 32 ∷ decimal (length fields) → four ≡ three ++ 32 ∷ pairs bytes → five ≡ four ++ flat_map (λ (field : Option Addr). 32 ∷ field_word (names view field)) fields → out ≡ five ++ codes "\n"
    → out ≡ old ++ line_text (ObjectLine id (meaning view object))
object_steps view object old one two three four five out id number fields bytes same are hold is1 is2 is3 is4 is5 is6 =
    let fs : List ℕ = flat_map (λ (field : Option Addr). 32 ∷ field_word (names view field)) fields in
    let upto : three ≡ ((old ++ codes "object") ++ 32 ∷ decimal id) ++ 32 ∷ decimal (length fields) =
    is3 ∙ ap (λ (t : List ℕ). t ++ 32 ∷ decimal (length fields)) (is2 ∙ ap (λ (t : List ℕ). t ++ 32 ∷ decimal number) is1 ∙ ap (λ n. (old ++ codes "object") ++ 32 ∷ decimal n) same) in
    let with_bytes : four ≡ (((old ++ codes "object") ++ 32 ∷ decimal id) ++ 32 ∷ decimal (length fields)) ++ 32 ∷ pairs object.bytes =
    is4 ∙ ap (λ (t : List ℕ). t ++ 32 ∷ pairs bytes) upto ∙ ap (λ (b : List ℕ). (((old ++ codes "object") ++ 32 ∷ decimal id) ++ 32 ∷ decimal (length fields)) ++ 32 ∷ pairs b) hold in
    is6 ∙ ap (λ (t : List ℕ). t ++ codes "\n") (is5 ∙ ap (λ (t : List ℕ). t ++ fs) with_bytes) ∙ object_text view object old id fields are

-- one name more
pub one_more_line : {X : Type 0} (f : X → List ℕ) (old : List ℕ) (xs : List X) (place : ℕ) (x : X) → slice_get xs place ≡ Some x → (old ++ flat_map f (take place xs)) ++ f x ≡ old ++ flat_map f (take (place + 1) xs)
one_more_line f old xs place x is =
    flat_map_more f old (take place xs) x
    ∙ ap (λ y. old ++ flat_map f (take place xs ++ y ∷ [])) (sym (get_or_from_slice_get xs place x x is))
    ∙ ap (λ ys. old ++ flat_map f ys) (sym (take_more xs place x (slice_get_within xs place x is)))

-- ---- the whole text

found_lines : (view : SpaceView) (met : List (ℕ × Addr)) → flat_map line_text (object_lines (mapped_entries (meant_at view) met)) ≡ flat_map (found_line view) met
found_lines view met = flat_map-map line_text (λ e. ObjectLine e.0 e.1) (mapped_entries (meant_at view) met) ∙ flat_map-map (λ e. line_text (ObjectLine e.0 e.1)) (λ e. (e.0, meant_at view e.1)) met

named_lines : (view : SpaceView) (roots : List (List ℕ × (ℕ × Addr))) → flat_map line_text (root_lines (mapped_entries (root_id view) roots)) ≡ flat_map (named_line view) roots
named_lines view roots = flat_map-map line_text (λ e. RootLine e.0 e.1) (mapped_entries (root_id view) roots) ∙ flat_map-map (λ e. line_text (RootLine e.0 e.1)) (λ e. (e.0, root_id view e.1)) roots

parts_text : (a b c d : List ℕ) → ((a ++ b) ++ c) ++ d ≡ a ++ (b ++ (c ++ d))
parts_text a b c d = simp append_assoc

pub whole_text : (view : SpaceView) (next : ℕ) (met : List (ℕ × Addr)) (roots : List (List ℕ × (ℕ × Addr)))
    → ((line_text (HeadLine next) ++ flat_map (found_line view) met) ++ flat_map (named_line view) roots) ++ line_text EndLine
    ≡ dump_text_of (record { next = next; objects = mapped_entries (meant_at view) met; roots = mapped_entries (root_id view) roots })
whole_text view next met roots =
    let objects = object_lines (mapped_entries (meant_at view) met) in
    let named = root_lines (mapped_entries (root_id view) roots) in
    parts_text (line_text (HeadLine next)) (flat_map (found_line view) met) (flat_map (named_line view) roots) (line_text EndLine)
    ∙ ap (λ (t : List ℕ). line_text (HeadLine next) ++ (t ++ (flat_map (named_line view) roots ++ line_text EndLine))) (sym (found_lines view met))
    ∙ ap (λ (t : List ℕ). line_text (HeadLine next) ++ (flat_map line_text objects ++ (t ++ line_text EndLine))) (sym (named_lines view roots))
    ∙ sym (ap (λ (t : List ℕ). line_text (HeadLine next) ++ t) (flat_map-append line_text objects (named ++ EndLine ∷ []) ∙ ap (λ (t : List ℕ). flat_map line_text objects ++ t) (flat_map-append line_text named (EndLine ∷ []))))
