-- Hearing and telling, one behind another.
use Rattle.std.proofs.Common.{◌≡◌, ℕ, ◌+◌, ◌<◌, ◌≤◌, List, [], ◌∷◌, ◌++◌, length, take, drop, get_or, map, Some, refl, ap, sym, subst, ◌∙◌, append_assoc}
use Rattle.std.proofs.lemmas.List.{append-nil, map-append, take-append-drop, take_all, take_more}
use Rattle.pm_types.specs.declared.event.WatchLine.{WatchLine}
use Rattle.pm_model.specs.Text.{watch_line}
use Rattle.pm_peer.specs.declared.said.Said.{Said}
use Rattle.pm_peer.specs.declared.said.Said.TheVariants.{Told}
use Rattle.pm_peer.specs.Talk.{TellsPart}
use Rattle.pm_talk.specs.Wires.{TellsFirst, TellsLines, Wire}

-- lines as they are told
abbrev pub told_as : List (List ℕ) → List Said
told_as lines = map (λ line. Told line) lines

-- a line was told
pub tells_one : (line : List ℕ) (old new : Wire) → ((said : List Said) → old.talk ≡ Some said → new.talk ≡ Some (said ++ Told line ∷ [])) → ((bytes : List ℕ) → old.left ≡ Some bytes → new.left ≡ Some bytes) → TellsLines (line ∷ []) old new
tells_one line old new told left = record { told = told; left = left }

-- or a first part of it
pub tells_part : (line : List ℕ) (old new : Wire) → ((said : List Said) → old.talk ≡ Some said → TellsPart said line new.talk) → ((bytes : List ℕ) → old.left ≡ Some bytes → new.left ≡ Some bytes) → TellsFirst (line ∷ []) old new
tells_part line old new part left = record {
  done = [];
  line = line;
  more = [];
  lines_are = refl;
  part = λ before told. subst (λ (said : List Said). TellsPart said line new.talk) (sym (append-nil before)) (part before told);
  left = left;
}

-- no line was told
pub tells_none : (it : Wire) → TellsLines [] it it
tells_none it = record { told = λ before told. told ∙ ap Some (sym (append-nil before)); left = λ bytes told. told }

told_both : (before : List Said) (one two : List (List ℕ)) → (before ++ told_as one) ++ told_as two ≡ before ++ told_as (one ++ two)
told_both before one two = append_assoc before (told_as one) (told_as two) ∙ ap (λ (said : List Said). before ++ said) (sym (map-append (λ line. Told line) one two))

pub tells_then : (one two : List (List ℕ)) (old mid new : Wire) → TellsLines one old mid → TellsLines two mid new → TellsLines (one ++ two) old new
tells_then one two old mid new first second = record {
  told = λ before told. second.told (before ++ told_as one) (first.told before told) ∙ ap Some (told_both before one two);
  left = λ bytes told. second.left bytes (first.left bytes told);
}

pub breaks_then : (one two : List (List ℕ)) (old mid new : Wire) → TellsLines one old mid → TellsFirst two mid new → TellsFirst (one ++ two) old new
breaks_then one two old mid new first second = record {
  done = one ++ second.done;
  line = second.line;
  more = second.more;
  lines_are = ap (λ (lines : List (List ℕ)). one ++ lines) second.lines_are ∙ sym (append_assoc one second.done (second.line ∷ second.more));
  part = λ before told. subst (λ (said : List Said). TellsPart said second.line new.talk) (told_both before one second.done) (second.part (before ++ told_as one) (first.told before told));
  left = λ bytes told. second.left bytes (first.left bytes told);
}

-- more lines were to be told
pub breaks_before : (one two : List (List ℕ)) (old new : Wire) → TellsFirst one old new → TellsFirst (one ++ two) old new
breaks_before one two old new first = record {
  done = first.done;
  line = first.line;
  more = first.more ++ two;
  lines_are = ap (λ (lines : List (List ℕ)). lines ++ two) first.lines_are ∙ append_assoc first.done (first.line ∷ first.more) two;
  part = first.part;
  left = first.left;
}

-- ---- a line for each watch

module _ (lines : List WatchLine) where
  -- one more was told
  pub tells_more : (i : ℕ) (other : WatchLine) (line : List ℕ) (old mid new : Wire) → i < length lines → line ≡ watch_line (get_or lines i other) → TellsLines (map watch_line (take i lines)) old mid → TellsLines (line ∷ []) mid new
      → TellsLines (map watch_line (take (i + 1) lines)) old new
  tells_more i other line old mid new within is first second =
      subst (λ (all : List (List ℕ)). TellsLines all old new)
      (ap (λ (more : List ℕ). map watch_line (take i lines) ++ more ∷ []) is ∙ sym (map-append watch_line (take i lines) (get_or lines i other ∷ [])) ∙ ap (map watch_line) (sym (take_more lines i other within)))
      (tells_then (map watch_line (take i lines)) (line ∷ []) old mid new first second)

  -- each was told
  pub tells_all : (i : ℕ) (old new : Wire) → length lines ≤ i → TellsLines (map watch_line (take i lines)) old new → TellsLines (map watch_line lines) old new
  tells_all i old new past first = subst (λ (some : List WatchLine). TellsLines (map watch_line some) old new) (take_all i lines past) first

  -- the peer failed at one
  pub breaks_among : (i : ℕ) (other : WatchLine) (line : List ℕ) (old mid new : Wire) → i < length lines → line ≡ watch_line (get_or lines i other) → TellsLines (map watch_line (take i lines)) old mid → TellsFirst (line ∷ []) mid new
      → TellsFirst (map watch_line lines) old new
  breaks_among i other line old mid new within is first second =
      let so_far = map watch_line (take i lines) in
      let rest = map watch_line (drop (i + 1) lines) in
      let here : so_far ++ line ∷ [] ≡ map watch_line (take (i + 1) lines) =
      ap (λ (more : List ℕ). so_far ++ more ∷ []) is ∙ sym (map-append watch_line (take i lines) (get_or lines i other ∷ [])) ∙ ap (map watch_line) (sym (take_more lines i other within)) in
      subst (λ (all : List (List ℕ)). TellsFirst all old new)
      (ap (λ (some : List (List ℕ)). some ++ rest) here ∙ sym (map-append watch_line (take (i + 1) lines) (drop (i + 1) lines)) ∙ ap (map watch_line) (take-append-drop (i + 1) lines))
      (breaks_before (so_far ++ line ∷ []) rest old new (breaks_then so_far (line ∷ []) old mid new first second))
