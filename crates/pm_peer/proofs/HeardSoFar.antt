-- What was heard so far, while no newline came.
use Rattle.std.proofs.Common.{◌≡◌, ℕ, ◌+◌, ◌<◌, ◌≤◌, inl, inr, false, List, [], ◌∷◌, ◌++◌, length, map, Option, Some, refl, sym, ap, subst, ◌∙◌, arith, append_assoc, length-append}
use Rattle.std.proofs.lemmas.List.{append-nil, map-append}
use Rattle.std.proofs.lemmas.List.Folds.{concat-append}
use Rattle.std.specs.List.{concat, AllByRecursion}
use Rattle.pm_peer.specs.declared.said.Said.{Said}
use Rattle.pm_peer.specs.declared.said.Said.TheVariants.{Heard}
use Rattle.pm_peer.specs.declared.next.Next.{Next}
use Rattle.pm_peer.specs.declared.next.Next.TheVariants.{Line, Silent, TooLong, Cut, End}
use Rattle.pm_peer.specs.Talk.{Hears, heard_more}
use Rattle.pm_peer.specs.FirstLine.{has_newline, IsAnswer, IsEnding}
use Rattle.pm_peer.specs.Buffers.{BufferState, HearsPiece}
use Rattle.pm_peer.specs.Hearing.{LinesState, IsEnough, HearsNext, HearsQuiet}
use Rattle.pm_peer.proofs.Newlines.{quiet_both}

-- no piece has a newline
abbrev pub AreQuiet : List (List ℕ) → Type 0
AreQuiet pieces = AllByRecursion (λ piece. has_newline piece ≡ false) pieces

pub all_append : {X : Type 0} (P : X → Type 0) (xs ys : List X) → AllByRecursion P xs → AllByRecursion P ys → AllByRecursion P (xs ++ ys)
all_append P [] ys first then = then
all_append P (x ∷ xs) ys first then = (first.0, all_append P xs ys first.1 then)

pub quiet_pieces : (pieces : List (List ℕ)) → AreQuiet pieces → has_newline (concat pieces) ≡ false
quiet_pieces [] all = refl
quiet_pieces (piece ∷ pieces) all = quiet_both piece (concat pieces) all.0 (quiet_pieces pieces all.1)

-- quiet pieces, and then enough, are enough
pub enough_behind : (pieces more : List (List ℕ)) → AreQuiet pieces → IsEnough more → IsEnough (pieces ++ more)
enough_behind [] more quiet enough = enough
enough_behind (piece ∷ []) [] quiet enough = tt
enough_behind (piece ∷ []) (next ∷ more) quiet enough = (quiet.0, enough)
enough_behind (piece ∷ next ∷ pieces) more quiet enough = (quiet.0, enough_behind (next ∷ pieces) more quiet.1 enough)

-- nothing was heard
pub hears_none : (left now : Option (List ℕ)) (talk said : Option (List Said)) → ((bytes : List ℕ) → left ≡ Some bytes → now ≡ Some bytes) → ((before : List Said) → talk ≡ Some before → said ≡ Some before) → Hears [] left now talk said
hears_none left now talk said left_stays talk_stays = record {
  some = tt;
  said = λ before told. talk_stays before told ∙ ap Some (sym (append-nil before));
  front = λ bytes told. (bytes, refl, left_stays bytes told);
}

-- pieces were heard, and then more
pub hears_more : (pieces more : List (List ℕ)) (left now new : Option (List ℕ)) (talk said new_talk : Option (List Said)) → Hears pieces left now talk said → Hears more now new said new_talk → Hears (pieces ++ more) left new talk new_talk
hears_more pieces more left now new talk said new_talk first then = record {
  some = all_append (λ piece. 0 < length piece) pieces more first.some then.some;
  said = λ before told.
      then.said _ (first.said before told) ∙ ap Some (append_assoc before (map (λ piece. Heard piece) pieces) (map (λ piece. Heard piece) more) ∙ ap (λ more_said. before ++ more_said) (sym (map-append (λ piece. Heard piece) pieces more)));
  front = λ bytes told.
      let one = first.front bytes told in
      let two = then.front one.0 one.2 in
      (two.0, one.1 ∙ ap (λ rest. concat pieces ++ rest) two.1 ∙ sym (append_assoc (concat pieces) (concat more) two.0) ∙ ap (λ all. all ++ two.0) (sym (concat-append pieces more)), two.2);
}

said_piece : (before : List Said) (piece : List ℕ) → 0 < length piece → heard_more before piece ≡ before ++ Heard piece ∷ []
said_piece before [] some = absurd (omega (arith, some))
said_piece before (byte ∷ bytes) some = refl

-- a piece with a byte was heard
pub hears_one : (n : ℕ) (old new : BufferState) (left now : Option (List ℕ)) (talk said : Option (List Said)) → (heard : HearsPiece n old new left now talk said) → 0 < n → Hears (heard.piece ∷ []) left now talk said
hears_one n old new left now talk said heard some =
    let byte : 0 < length heard.piece = omega (arith, heard.count, some) in
    record {
      some = (byte, tt);
      said = λ before told. heard.said before told ∙ ap Some (said_piece before heard.piece byte);
      front = λ bytes told. let there = heard.front bytes told in (there.0, there.1 ∙ ap (λ piece. piece ++ there.0) (sym (append-nil heard.piece)), there.2);
    }

pub none_in : (piece : List ℕ) (n : ℕ) → length piece ≡ n → n ≡ 0 → piece ≡ []
none_in [] n count none = refl
none_in (byte ∷ bytes) n count none = absurd (omega (arith, count, none))

-- a piece with none was heard: nothing was
pub hears_end : (n : ℕ) (old new : BufferState) (left now : Option (List ℕ)) (talk said : Option (List Said)) → HearsPiece n old new left now talk said → n ≡ 0 → Hears [] left now talk said
hears_end n old new left now talk said heard none =
    let nothing : heard.piece ≡ [] = none_in heard.piece n heard.count none in
    hears_none left now talk said
    (λ bytes told. let there = heard.front bytes told in there.2 ∙ ap Some (sym (there.1 ∙ ap (λ piece. piece ++ there.0) nothing)))
    (λ before told. heard.said before told ∙ ap (λ piece. Some (heard_more before piece)) nothing)

-- so far pieces were heard, none with a newline, over bytes that have none
pub record IsHeardSoFar (left now : Option (List ℕ)) (talk said : Option (List Said)) : Type 0 where
  pub pieces : List (List ℕ)
  pub heard : Hears pieces left now talk said
  pub quiet : AreQuiet pieces

abbrev pub none_so_far : (left : Option (List ℕ)) (talk : Option (List Said)) → IsHeardSoFar left left talk talk
none_so_far left talk = record { pieces = []; heard = hears_none left left talk talk (λ bytes told. told) (λ before told. told); quiet = tt }

-- one quiet piece more
abbrev pub more_so_far : (left now new : Option (List ℕ)) (talk said new_talk : Option (List Said)) (piece : List ℕ) → IsHeardSoFar left now talk said → Hears (piece ∷ []) now new said new_talk → has_newline piece ≡ false → IsHeardSoFar left new talk new_talk
more_so_far left now new talk said new_talk piece so_far heard quiet = record {
  pieces = so_far.pieces ++ piece ∷ [];
  heard = hears_more so_far.pieces (piece ∷ []) left now new talk said new_talk so_far.heard heard;
  quiet = all_append (λ piece. has_newline piece ≡ false) so_far.pieces (piece ∷ []) so_far.quiet (quiet, tt);
}

-- a failure hears nothing more
pub failed_so_far : (left now new : Option (List ℕ)) (talk said new_talk : Option (List Said)) → IsHeardSoFar left now talk said → ((bytes : List ℕ) → now ≡ Some bytes → new ≡ Some bytes) → ((before : List Said) → said ≡ Some before → new_talk ≡ Some before) → IsHeardSoFar left new talk new_talk
failed_so_far left now new talk said new_talk so_far left_stays talk_stays = record {
  pieces = so_far.pieces;
  heard = record {
    some = so_far.heard.some;
    said = λ before told. talk_stays _ (so_far.heard.said before told);
    front = λ bytes told. let there = so_far.heard.front bytes told in (there.0, there.1, left_stays there.0 there.2);
  };
  quiet = so_far.quiet;
}

-- more pieces make the same answer
more_pieces : (answer : Next) (few many : ℕ) (bytes line behind : List ℕ) → few ≤ many → IsAnswer answer few bytes line behind → IsAnswer answer many bytes line behind
more_pieces Line few many bytes line behind more is = is
more_pieces Silent few many bytes line behind more is = is
more_pieces TooLong few many bytes line behind more is = is
more_pieces Cut few many bytes line behind more is = is
more_pieces End few many bytes line behind more (inl none, spent) = (inl none, spent)
more_pieces End few many bytes line behind more (inr often, spent) = (inr (omega (arith, often, more)), spent)

fewer_pieces : (answer : Next) (few many : ℕ) → few ≤ many → IsEnding answer many → IsEnding answer few
fewer_pieces Line few many more is = is
fewer_pieces Silent few many more is = is
fewer_pieces TooLong few many more is = is
fewer_pieces Cut few many more is = is
fewer_pieces End few many more is = omega (arith, is, more)

-- what is heard behind quiet pieces is heard in one
pub next_behind : (answer : Next) (old now new : LinesState) (left l new_left : Option (List ℕ)) (talk t new_talk : Option (List Said)) → (so_far : IsHeardSoFar left l talk t) → now.kept ≡ old.kept ++ concat so_far.pieces
    → HearsNext answer now new l new_left t new_talk → HearsNext answer old new left new_left talk new_talk
next_behind answer old now new left l new_left talk t new_talk so_far kept next =
    let pieces : List (List ℕ) = so_far.pieces in
    let fewer : length next.pieces ≤ length (pieces ++ next.pieces) = omega (arith, length-append pieces next.pieces) in
    let bytes : now.kept ++ concat next.pieces ≡ old.kept ++ concat (pieces ++ next.pieces) =
    ap (λ xs. xs ++ concat next.pieces) kept ∙ append_assoc old.kept (concat pieces) (concat next.pieces) ∙ ap (λ xs. old.kept ++ xs) (sym (concat-append pieces next.pieces)) in
    record {
      pieces = pieces ++ next.pieces;
      heard = hears_more pieces next.pieces left l new_left talk t new_talk so_far.heard next.heard;
      enough = enough_behind pieces next.pieces so_far.quiet next.enough;
      first = subst (λ xs. IsAnswer answer (length (pieces ++ next.pieces)) xs new.line new.kept) bytes (more_pieces answer _ _ _ new.line new.kept fewer next.first);
      ended = λ ending all told.
          let there = so_far.heard.front all told in
          next.ended (fewer_pieces answer (length next.pieces) (length (pieces ++ next.pieces)) fewer ending) there.0 there.2;
    }

-- and so is what was heard before a failure
pub quiet_behind : (old now : List ℕ) (left l new_left : Option (List ℕ)) (talk t new_talk : Option (List Said)) → (so_far : IsHeardSoFar left l talk t) → now ≡ old ++ concat so_far.pieces
    → HearsQuiet now l new_left t new_talk → HearsQuiet old left new_left talk new_talk
quiet_behind old now left l new_left talk t new_talk so_far kept rest =
    let pieces : List (List ℕ) = so_far.pieces in
    record {
      pieces = pieces ++ rest.pieces;
      heard = hears_more pieces rest.pieces left l new_left talk t new_talk so_far.heard rest.heard;
      quiet = ap has_newline (ap (λ xs. old ++ xs) (concat-append pieces rest.pieces) ∙ sym (append_assoc old (concat pieces) (concat rest.pieces)) ∙ ap (λ xs. xs ++ concat rest.pieces) (sym kept)) ∙ rest.quiet;
    }
