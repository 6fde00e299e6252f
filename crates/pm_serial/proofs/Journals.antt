-- Texts of journals that grow by an entry.
use Rattle.std.proofs.Common.{◌≡◌, ℕ, take, drop, ◌<◌, ◌+◌, ◌-◌, length, get_or, length-append, arith, List, [], ◌∷◌, ◌++◌, ap, sym, ◌∙◌, append_assoc}
use Rattle.std.proofs.lemmas.List.{append-nil, get_or_push, take-append-drop, take_more}
use Rattle.std.proofs.lemmas.Grind.{flat_map-append}
use Rattle.pm_types.specs.declared.entry.Entry.{Entry}
use Rattle.pm_model.specs.Text.{reply_line, text}

-- the text of a journal with one more entry
text_push : (journal : List Entry) (entry : Entry) → text (journal ++ entry ∷ []) ≡ text journal ++ reply_line entry
text_push [] entry = append-nil (reply_line entry)
text_push (other ∷ journal) entry = ap (λ rest. reply_line other ++ rest) (text_push journal entry) ∙ sym (append_assoc (reply_line other) (text journal) (reply_line entry))

-- the last entry of a journal that grew by one
pub pushed_last : (journal longer : List Entry) (entry at : Entry) (n : ℕ) → longer ≡ journal ++ entry ∷ [] → n ≡ length longer → at ≡ get_or longer (n - 1) at → at ≡ entry
pushed_last journal longer entry at n pushed is_n read =
    let long : length longer ≡ length journal + 1 = ap length pushed ∙ length-append journal (entry ∷ []) in
    let place : length journal ≡ n - 1 = omega (arith, is_n, long) in
    read ∙ ap (λ (j : List Entry). get_or j (n - 1) at) pushed ∙ get_or_push journal entry at (n - 1) place

-- where two lists begin alike and are the same, so is what is behind that
cancelled : (past first second : List Entry) → past ++ first ≡ past ++ second → first ≡ second
cancelled [] first second same = same
cancelled (entry ∷ past) first second same = let rest : past ++ first ≡ past ++ second = cc same in cancelled past first second rest

-- where no entry was let go and the journal grew by one, so did the entries that are kept
pub recent_grown : (past later kept lent : List Entry) (entry : Entry) → later ≡ past → later ++ lent ≡ (past ++ kept) ++ entry ∷ [] → lent ≡ kept ++ entry ∷ []
recent_grown past later kept lent entry same grown =
    cancelled past lent (kept ++ entry ∷ []) (ap (λ (entries : List Entry). entries ++ lent) (sym same) ∙ grown ∙ append_assoc past kept (entry ∷ []))

-- the text of a journal that grew by one, of which this is the last entry
pub text_grown : (journal longer : List Entry) (entry at : Entry) → longer ≡ journal ++ entry ∷ [] → at ≡ entry → text longer ≡ text journal ++ reply_line at
text_grown journal longer entry at pushed is = ap text pushed ∙ text_push journal entry ∙ ap (λ (e : Entry). text journal ++ reply_line e) (sym is)

-- the text of the entries so far and of one more
pub text_next : (journal : List Entry) (i : ℕ) (entry : Entry) → i < length journal → entry ≡ get_or journal i entry → text (take (i + 1) journal) ≡ text (take i journal) ++ reply_line entry
text_next journal i entry within is =
    ap text (take_more journal i entry within) ∙ text_push (take i journal) (get_or journal i entry) ∙ ap (λ (e : Entry). text (take i journal) ++ reply_line e) (sym is)

-- and of the others
pub text_rest : (journal : List Entry) (i : ℕ) → text journal ≡ text (take i journal) ++ text (drop i journal)
text_rest journal i = sym (ap text (take-append-drop i journal)) ∙ flat_map-append reply_line (take i journal) (drop i journal)
