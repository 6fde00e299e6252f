-- The laws of the spelling of slots.
use Rattle.std.proofs.Common.{◌≡◌, ℕ, zero, suc, ◌+◌, ◌-◌, ◌<◌, ◌≤◌, cond, eqb, ltb, leb, List, [], ◌++◌, length, get_or, take, drop, Result, Ok, Err, refl, sym, ap, ◌∙◌, append_assoc, arith, length-take, length-append, inl, inr}
use Rattle.std.specs.List.{flat_map}
use Rattle.std.proofs.lemmas.Bool.{le-leb, lt-ltb, lt-leb, le-ltb, cases_lt}
use Rattle.std.proofs.lemmas.List.{drop-drop, drop_at, drop-take, append_cancel_left, get_or-take, get_or-append-add}
use Rattle.byteorder.specs.Endian.{big_bytes, big_number}
use Rattle.byteorder.specs.Numbers.{big_from-take, big_number-reads_back}
use Rattle.pm_types.specs.declared.address.Addr.{Addr}
use Rattle.pm_types.specs.declared.object.Object.{Object}
use Rattle.pm_types.specs.declared.object.Slot.{Slot}
use Rattle.pm_types.specs.declared.object.Slot.TheVariants.{Live, Moved}
use Rattle.pm_layout.specs.declared.fault.LayoutFault.{LayoutFault}
use Rattle.pm_layout.specs.declared.fault.LayoutFault.TheVariants.{Short, Kind}
use Rattle.pm_layout.specs.Spelling.{field, spelling, slot_size, IsInRange, HasSpelling, Stands}
use Rattle.pm_types.specs.Results.{◌>>=◌}
use Rattle.pm_layout.specs.Reading.{number_from, live_end, end_at, live_at, target_at, moved_at, slot_at}
use Rattle.pm_layout.proofs.Steps.{holds, passes}
use Rattle.pm_types.proofs.Results.{ok_same}
use Rattle.pm_layout.proofs.Sizes.{spelling_length}
use Rattle.pm_layout.proofs.Again.{slot_again}

-- a text between two others stands at its place
pub placed : (before text rest : List ℕ) → Stands (before ++ (text ++ rest)) (length before) text (length before + length text)
placed before text rest =
    let bytes = before ++ (text ++ rest) in
    let back : drop (length before + length text) bytes ≡ rest =
    ap (λ (t : List ℕ). drop (length before + length text) t) (sym (append_assoc before text rest)) ∙ drop_at (before ++ text) rest (length before + length text) (length-append before text) in
    record {
      inside = omega (arith, length-append before (text ++ rest), length-append text rest);
      parts = drop_at before (text ++ rest) (length before) refl ∙ ap (λ (t : List ℕ). text ++ t) (sym back);
    }

pub again : (most : ℕ) (before rest : List ℕ) (slot : Slot) → most < 65536 → HasSpelling most slot → IsInRange slot → slot_at most (before ++ (spelling slot ++ rest)) (length before) ≡ Ok (slot, length before + slot_size slot)
again most before rest slot small fits range =
    let bytes = before ++ (spelling slot ++ rest) in
    let read = slot_again most bytes (length before) slot (length before + length (spelling slot)) small (omega (arith, length-append before (spelling slot ++ rest))) range (record { fits = fits; stands = placed before (spelling slot) rest }) in
    read ∙ ap (λ (k : ℕ). Ok (slot, length before + k)) (spelling_length slot)

pub apart : (most : ℕ) (a b : Slot) (x y : List ℕ) → most < 65536 → HasSpelling most a → IsInRange a → HasSpelling most b → IsInRange b → spelling a ++ x ≡ spelling b ++ y → (a ≡ b) × (x ≡ y)
apart most a b x y small fits_a range_a fits_b range_b e =
    let read_a = again most [] x a small fits_a range_a in
    let read_b = again most [] y b small fits_b range_b in
    let one : Slot × ℕ = (a, 0 + slot_size a) in
    let other : Slot × ℕ = (b, 0 + slot_size b) in
    let same : a ≡ b = ap (λ (p : Slot × ℕ). p.0) (ok_same one other (sym read_a ∙ ap (λ (t : List ℕ). slot_at most t 0) e ∙ read_b)) in
    (same, append_cancel_left (spelling a) x y (e ∙ ap (λ (s : Slot). spelling s ++ y) (sym same)))

-- ---- spellings that are cut

-- a number that is not cut is read as before
cut_number : (n j len : ℕ) (before text : List ℕ) → j + n ≤ len → number_from n (before ++ take len text) (length before + j) ≡ big_number n (drop j text)
cut_number n j len before text le =
    let front : drop (length before) (before ++ take len text) ≡ take len text = drop_at before (take len text) (length before) refl in
    let m = len - j in
    let parts : len ≡ j + m = omega arith in
    let here : drop (length before + j) (before ++ take len text) ≡ take m (drop j text) =
    sym (drop-drop j (length before) (before ++ take len text)) ∙ ap (λ (t : List ℕ). drop j t) front ∙ ap (λ (k : ℕ). drop j (take k text)) parts ∙ drop-take j m text in
    ap (λ (t : List ℕ). big_number n t) here ∙ big_from-take 0 n m (drop j text) (omega arith)

-- the first byte is the same
cut_kind : (len : ℕ) (before text : List ℕ) → 0 < len → get_or (before ++ take len text) (length before) 0 ≡ get_or text 0 0
cut_kind len before text some =
    let place : length before ≡ length before + 0 = omega arith in
    ap (λ (k : ℕ). get_or (before ++ take len text) k 0) place ∙ get_or-append-add before (take len text) 0 0 ∙ get_or-take len text 0 0 some

-- so many bytes are left
cut_length : (len : ℕ) (before text : List ℕ) → len ≤ length text → length (before ++ take len text) ≡ length before + len
cut_length len before text le = omega (arith, length-append before (take len text), length-take len text)

pub end_cut : (bytes : List ℕ) (at : ℕ) → (13 + at ≤ length bytes → length bytes < live_end bytes at) → end_at bytes at ≡ Err (Short at)
unfolding end_at
end_cut bytes at short =
    let two = cond (ltb (length bytes) (live_end bytes at)) (Err (Short at)) (Ok (live_end bytes at)) in
    elim (cases_lt (length bytes) (at + 13)) [
      | inl lt ↦ holds (ltb (length bytes) (at + 13)) (Err (Short at)) two (lt-ltb _ _ lt)
      | inr le ↦ passes (ltb (length bytes) (at + 13)) (Err (Short at)) two (le-ltb _ _ le) ∙ holds (ltb (length bytes) (live_end bytes at)) (Err (Short at)) (Ok (live_end bytes at)) (lt-ltb _ _ (short (omega arith)))
    ]

live_cut : (most len : ℕ) (before : List ℕ) (o : Object) → most < 65536 → HasSpelling most (Live o) → len < slot_size (Live o) → live_at most (before ++ take len (spelling (Live o))) (length before) ≡ Err (Short (length before))
unfolding live_at spelling
live_cut most len before o small fits cut =
    let text = spelling (Live o) in
    let bytes = before ++ take len text in
    let at = length before in
    let few = fits.within.0 in
    let short = fits.within.1 in
    let len_is : length bytes ≡ at + len = cut_length len before text (omega (arith, spelling_length (Live o))) in
    let tail4 = flat_map field o.fields ++ o.bytes in
    let tail3 = big_bytes 2 (length o.bytes) ++ tail4 in
    let past : 13 + at ≤ length bytes → length bytes < live_end bytes at = λ long.
    let n_is : number_from 2 bytes (at + 9) ≡ length o.fields = cut_number 2 9 len before text (omega arith) ∙ big_number-reads_back 2 (length o.fields) tail3 (omega arith) in
    let count_is : number_from 2 bytes (at + 11) ≡ length o.bytes = cut_number 2 11 len before text (omega arith) ∙ big_number-reads_back 2 (length o.bytes) tail4 (omega arith) in
    omega (arith, n_is, count_is, len_is) in
    rw (end_cut bytes at past) refl

moved_cut : (bytes : List ℕ) (at : ℕ) → length bytes < at + 13 → moved_at bytes at ≡ Err (Short at)
unfolding moved_at
moved_cut bytes at lt = holds (ltb (length bytes) (at + 13)) (Err (Short at)) (target_at bytes (at + 1) >>= λ to. Ok (Moved to, at + 13)) (lt-ltb _ _ lt)

-- the first test of a slot
pub nothing_left : (most : ℕ) (bytes : List ℕ) (at : ℕ) → length bytes ≤ at → slot_at most bytes at ≡ Err (Short at)
unfolding slot_at
nothing_left most bytes at le = holds (leb (length bytes) at) (Err (Short at)) (cond (eqb (get_or bytes at 0) 1) (live_at most bytes at) (cond (eqb (get_or bytes at 0) 2) (moved_at bytes at) (Err (Kind at (get_or bytes at 0))))) (le-leb _ _ le)

-- the kind chooses the reader
pub kind_live : (most : ℕ) (bytes : List ℕ) (at : ℕ) → at < length bytes → get_or bytes at 0 ≡ 1 → slot_at most bytes at ≡ live_at most bytes at
unfolding slot_at
kind_live most bytes at lt kind =
    let chosen : ℕ → Result (Slot × ℕ) LayoutFault = λ k. cond (eqb k 1) (live_at most bytes at) (cond (eqb k 2) (moved_at bytes at) (Err (Kind at k))) in
    passes (leb (length bytes) at) (Err (Short at)) (chosen (get_or bytes at 0)) (lt-leb _ _ lt) ∙ ap chosen kind

kind_moved : (most : ℕ) (bytes : List ℕ) (at : ℕ) → at < length bytes → get_or bytes at 0 ≡ 2 → slot_at most bytes at ≡ moved_at bytes at
unfolding slot_at
kind_moved most bytes at lt kind =
    let chosen : ℕ → Result (Slot × ℕ) LayoutFault = λ k. cond (eqb k 1) (live_at most bytes at) (cond (eqb k 2) (moved_at bytes at) (Err (Kind at k))) in
    passes (leb (length bytes) at) (Err (Short at)) (chosen (get_or bytes at 0)) (lt-leb _ _ lt) ∙ ap chosen kind

first_live : (o : Object) → get_or (spelling (Live o)) 0 0 ≡ 1
unfolding spelling
first_live o = refl

first_moved : (to : Addr) → get_or (spelling (Moved to)) 0 0 ≡ 2
unfolding spelling
first_moved to = refl

some_cut : (most len : ℕ) (before : List ℕ) (slot : Slot) → most < 65536 → HasSpelling most slot → 0 < len → len < slot_size slot → slot_at most (before ++ take len (spelling slot)) (length before) ≡ Err (Short (length before))
some_cut most len before (Live o) small fits some cut =
    let bytes = before ++ take len (spelling (Live o)) in
    let len_is : length bytes ≡ length before + len = cut_length len before (spelling (Live o)) (omega (arith, spelling_length (Live o))) in
    kind_live most bytes (length before) (omega arith) (cut_kind len before (spelling (Live o)) some ∙ first_live o) ∙ live_cut most len before o small fits cut
some_cut most len before (Moved to) small fits some cut =
    let bytes = before ++ take len (spelling (Moved to)) in
    let len_is : length bytes ≡ length before + len = cut_length len before (spelling (Moved to)) (omega (arith, spelling_length (Moved to))) in
    kind_moved most bytes (length before) (omega arith) (cut_kind len before (spelling (Moved to)) some ∙ first_moved to) ∙ moved_cut bytes (length before) (omega arith)

-- a spelling that is cut anywhere is short
pub cut : (most len : ℕ) (before : List ℕ) (slot : Slot) → most < 65536 → HasSpelling most slot → len < slot_size slot → slot_at most (before ++ take len (spelling slot)) (length before) ≡ Err (Short (length before))
cut most zero before slot small fits short = nothing_left most (before ++ take 0 (spelling slot)) (length before) (omega (arith, cut_length 0 before (spelling slot) (omega arith)))
cut most (suc len) before slot small fits short = some_cut most (suc len) before slot small fits (omega arith) short
