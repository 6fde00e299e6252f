-- The lines of the watches so far.
use Rattle.std.proofs.Common.{◌≡◌, ℕ, ◌+◌, ◌<◌, ◌≤◌, List, [], ◌∷◌, ◌++◌, Option, length, take, drop, get_or, ap, sym, subst, ◌∙◌}
use Rattle.std.specs.List.{flat_map}
use Rattle.std.proofs.lemmas.Grind.{flat_map-append}
use Rattle.std.proofs.lemmas.List.{append-nil, take-append-drop, take_all, take_more}
use Rattle.pm_types.specs.declared.event.WatchLine.{WatchLine}
use Rattle.pm_model.specs.Text.{watch_line}
use Rattle.pm_serial.specs.Output.Writing.{GoesOn, PutsPart}
use Rattle.pm_serial.proofs.OutputLemmas.Gathering.{goes_then, part_longer, part_then}

-- those of one more watch
lines_next : (lines : List WatchLine) (i : ℕ) (other : WatchLine) → i < length lines → flat_map watch_line (take i lines) ++ watch_line (get_or lines i other) ≡ flat_map watch_line (take (i + 1) lines)
lines_next lines i other lt =
    ap (λ (line : List ℕ). flat_map watch_line (take i lines) ++ line) (sym (append-nil (watch_line (get_or lines i other))))
    ∙ sym (flat_map-append watch_line (take i lines) (get_or lines i other ∷ []))
    ∙ ap (flat_map watch_line) (sym (take_more lines i other lt))

-- those so far, and the others
lines_split : (lines : List WatchLine) (i : ℕ) → flat_map watch_line (take i lines) ++ flat_map watch_line (drop i lines) ≡ flat_map watch_line lines
lines_split lines i = sym (flat_map-append watch_line (take i lines) (drop i lines)) ∙ ap (flat_map watch_line) (take-append-drop i lines)

-- one more line was gathered
pub goes_more : (lines : List WatchLine) (i : ℕ) (other : WatchLine) (line : List ℕ) (told mid now : Option (List ℕ)) (gathered between later : List ℕ) → i < length lines → line ≡ watch_line (get_or lines i other)
    → GoesOn (flat_map watch_line (take i lines)) told mid gathered between → GoesOn line mid now between later → GoesOn (flat_map watch_line (take (i + 1) lines)) told now gathered later
goes_more lines i other line told mid now gathered between later lt is first second =
    subst (λ (piece : List ℕ). GoesOn piece told now gathered later) (ap (λ (more : List ℕ). flat_map watch_line (take i lines) ++ more) is ∙ lines_next lines i other lt)
    (goes_then (flat_map watch_line (take i lines)) line told mid now gathered between later first second)

-- that of each was gathered
pub goes_all : (lines : List WatchLine) (i : ℕ) (told now : Option (List ℕ)) (gathered later : List ℕ) → length lines ≤ i → GoesOn (flat_map watch_line (take i lines)) told now gathered later → GoesOn (flat_map watch_line lines) told now gathered later
goes_all lines i told now gathered later all on = subst (λ (some : List WatchLine). GoesOn (flat_map watch_line some) told now gathered later) (take_all i lines all) on

-- the sink failed at one of them
pub part_so_far : (lines : List WatchLine) (i : ℕ) (told mid now : Option (List ℕ)) (gathered between : List ℕ) → GoesOn (flat_map watch_line (take i lines)) told mid gathered between → PutsPart mid now between
    → PutsPart told now (gathered ++ flat_map watch_line lines)
part_so_far lines i told mid now gathered between first second =
    subst (λ (piece : List ℕ). PutsPart told now (gathered ++ piece)) (lines_split lines i)
    (part_then (flat_map watch_line (take i lines)) (flat_map watch_line (drop i lines)) told mid now gathered between first (part_longer (flat_map watch_line (drop i lines)) mid now between second))
