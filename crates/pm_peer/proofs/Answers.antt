-- What each return of the call for the next line answers.
use Rattle.std.proofs.Common.{◌≡◌, ℕ, zero, suc, ◌+◌, ◌-◌, ◌<◌, ◌≤◌, ◌⊎◌, inl, inr, Bool, true, false, cond, List, [], ◌∷◌, ◌++◌, length, take, drop, Option, Some, nat_lt, refl, sym, ap, subst, ◌∙◌, arith, append_assoc, length-append}
use Rattle.std.proofs.lemmas.List.{append-nil}
use Rattle.std.proofs.lemmas.List.Folds.{concat-append}
use Rattle.std.proofs.lemmas.Bool.Decides.{nat_tests}
use Rattle.std.specs.List.{concat, AllByRecursion}
use Rattle.pm_types.specs.Counts.{greatest_count}
use Rattle.pm_script.specs.declared.limits.TheConstants.{LINE_BYTES}
use Rattle.pm_script.specs.Lines.{is_silent}
use Rattle.pm_peer.specs.declared.said.Said.{Said}
use Rattle.pm_peer.specs.declared.buffer.TheConstants.{BUFFER_BYTES}
use Rattle.pm_peer.specs.declared.next.Next.{Next}
use Rattle.pm_peer.specs.declared.next.Next.TheVariants.{Line, Silent, TooLong, Cut, End}
use Rattle.pm_peer.specs.FirstLine.{has_newline, answer_to, lent, IsFirstNewline, IsFirstLine, IsAnswer, IsEnding}
use Rattle.pm_peer.specs.Buffers.{BufferState, HearsPiece}
use Rattle.pm_peer.specs.Hearing.{LinesState, lines_in, IsEnough, HearsNext, HearsQuiet}
use Rattle.pm_peer.proofs.Newlines.{quiet_both, quiet_back}
use Rattle.pm_peer.proofs.HeardSoFar.{IsHeardSoFar, quiet_pieces, hears_none, hears_one, hears_end, more_so_far, next_behind, enough_behind, none_in}

-- a line is answered neither as half a line nor as the end
not_cut : (silent long : Bool) → Cut ≡ cond silent Silent (cond long TooLong Line) → ⊥
not_cut true long is = cc
not_cut false true is = cc
not_cut false false is = cc

not_end : (silent long : Bool) → End ≡ cond silent Silent (cond long TooLong Line) → ⊥
not_end true long is = cc
not_end false true is = cc
not_end false false is = cc

-- the first line has its answer
pub as_answer : (answer : Next) (pieces : ℕ) (bytes line behind : List ℕ) → IsFirstLine answer bytes line behind → IsAnswer answer pieces bytes line behind
as_answer Line pieces bytes line behind is = is
as_answer Silent pieces bytes line behind is = is
as_answer TooLong pieces bytes line behind is = is
as_answer Cut pieces bytes line behind is = absurd (not_cut (is_silent is.body) (nat_lt LINE_BYTES (length is.body)) is.answered)
as_answer End pieces bytes line behind is = absurd (not_end (is_silent is.body) (nat_lt LINE_BYTES (length is.body)) is.answered)

no_ending : (answer : Next) (pieces : ℕ) (bytes line behind : List ℕ) → IsFirstLine answer bytes line behind → IsEnding answer pieces → ⊥
no_ending Line pieces bytes line behind is ending = ending
no_ending Silent pieces bytes line behind is ending = ending
no_ending TooLong pieces bytes line behind is ending = ending
no_ending Cut pieces bytes line behind is ending = not_cut (is_silent is.body) (nat_lt LINE_BYTES (length is.body)) is.answered
no_ending End pieces bytes line behind is ending = not_end (is_silent is.body) (nat_lt LINE_BYTES (length is.body)) is.answered

-- a line that is kept is answered, and nothing heard
pub kept_line : (answer : Next) (old new : LinesState) (left : Option (List ℕ)) (talk : Option (List Said)) → IsFirstLine answer old.kept new.line new.kept → HearsNext answer old new left left talk talk
kept_line answer old new left talk first = record {
  pieces = [];
  heard = hears_none left left talk talk (λ bytes told. told) (λ before told. told);
  enough = tt;
  first = subst (λ bytes. IsAnswer answer 0 bytes new.line new.kept) (sym (append-nil old.kept)) (as_answer answer 0 old.kept new.line new.kept first);
  ended = λ ending. absurd (no_ending answer 0 old.kept new.line new.kept first ending);
}

-- a piece with a newline was heard
pub heard_line : (answer : Next) (n : ℕ) (old new : LinesState) (before now : BufferState) (left new_left : Option (List ℕ)) (talk new_talk : Option (List Said)) → (heard : HearsPiece n before now left new_left talk new_talk) → 0 < n
    → IsFirstLine answer (old.kept ++ heard.piece) new.line new.kept → HearsNext answer old new left new_left talk new_talk
heard_line answer n old new before now left new_left talk new_talk heard some first =
    record {
      pieces = heard.piece ∷ [];
      heard = hears_one n before now left new_left talk new_talk heard some;
      enough = tt;
      first = subst (λ piece. IsAnswer answer 1 (old.kept ++ piece) new.line new.kept) (sym (append-nil heard.piece)) (as_answer answer 1 (old.kept ++ heard.piece) new.line new.kept first);
      ended = λ ending. absurd (no_ending answer 1 (old.kept ++ heard.piece) new.line new.kept first ending);
    }

behind_none : (piece rest : List ℕ) → piece ++ rest ≡ [] → rest ≡ []
behind_none [] rest is = is
behind_none (byte ∷ bytes) rest is = absurd (cc)

front_none : (piece rest : List ℕ) → piece ++ rest ≡ [] → piece ≡ []
front_none [] rest is = refl
front_none (byte ∷ bytes) rest is = absurd (cc)

-- a piece with nothing was heard: none is left
left_none : (n : ℕ) (before now : BufferState) (left new_left : Option (List ℕ)) (talk new_talk : Option (List Said)) → HearsPiece n before now left new_left talk new_talk → n ≡ 0 → 0 < before.room → (bytes : List ℕ) → left ≡ Some bytes → new_left ≡ Some []
left_none n before now left new_left talk new_talk heard none room bytes told =
    let there = heard.front bytes told in
    let empty : bytes ≡ [] = heard.end bytes told none room in
    there.2 ∙ ap Some (behind_none heard.piece there.0 (sym there.1 ∙ empty))

-- the end was heard
pub heard_end : (answer : Next) (n : ℕ) (old new : LinesState) (before now : BufferState) (left new_left : Option (List ℕ)) (talk new_talk : Option (List Said)) → HearsPiece n before now left new_left talk new_talk → n ≡ 0 → 0 < before.room
    → IsAnswer answer 0 old.kept new.line new.kept → HearsNext answer old new left new_left talk new_talk
heard_end answer n old new before now left new_left talk new_talk heard none room first = record {
  pieces = [];
  heard = hears_end n before now left new_left talk new_talk heard none;
  enough = tt;
  first = subst (λ bytes. IsAnswer answer 0 bytes new.line new.kept) (sym (append-nil old.kept)) first;
  ended = λ ending. left_none n before now left new_left talk new_talk heard none room;
}

-- ---- a line that is too long to be kept

silent_front : (xs ys : List ℕ) → 0 < length xs → is_silent (xs ++ ys) ≡ is_silent xs
silent_front [] ys some = absurd (omega (arith, some))
silent_front (x ∷ xs) ys some = refl

long_test : (n : ℕ) → LINE_BYTES < n → nat_lt LINE_BYTES n ≡ true
long_test n long = grind (arith, nat_tests)

-- its answer is that of its first bytes
pub long_answer : (xs ys : List ℕ) → LINE_BYTES < length xs → answer_to xs ≡ answer_to (xs ++ ys)
long_answer xs ys long =
    let whole : LINE_BYTES < length (xs ++ ys) = omega (arith, long, length-append xs ys) in
    let some : 0 < length xs = omega (arith, long) in
    ap (λ test. cond (is_silent xs) Silent (cond test TooLong Line)) (long_test (length xs) long ∙ sym (long_test (length (xs ++ ys)) whole))
    ∙ ap (λ silent. cond silent Silent (cond (nat_lt LINE_BYTES (length (xs ++ ys))) TooLong Line)) (sym (silent_front xs ys some))

lends_none : (silent : Bool) (body : List ℕ) → lent (cond silent Silent TooLong) body ≡ []
lends_none true body = refl
lends_none false body = refl

-- and it is not lent
pub long_lends : (xs body : List ℕ) → LINE_BYTES < length xs → lent (answer_to xs) body ≡ []
long_lends xs body long = ap (λ test. lent (cond (is_silent xs) Silent (cond test TooLong Line)) body) (long_test (length xs) long) ∙ lends_none (is_silent xs) body

-- its newline was heard
pub long_line : (first_bytes passed piece : List ℕ) (at : ℕ) (line behind : List ℕ) → LINE_BYTES < length first_bytes → has_newline (first_bytes ++ passed) ≡ false → IsFirstNewline piece at
    → line ≡ [] → behind ≡ drop (at + 1) piece → IsFirstLine (answer_to first_bytes) ((first_bytes ++ passed) ++ piece) line behind
long_line first_bytes passed piece at line behind long quiet newline none is =
    let body : List ℕ = (first_bytes ++ passed) ++ take at piece in
    record {
      body = body;
      begins =
          ap (λ xs. (first_bytes ++ passed) ++ xs) (newline.there ∙ ap (λ xs. take at piece ++ 10 ∷ xs) (sym is)) ∙ sym (append_assoc (first_bytes ++ passed) (take at piece) (10 ∷ behind));
      one = quiet_both (first_bytes ++ passed) (take at piece) quiet newline.quiet;
      answered = long_answer first_bytes (passed ++ take at piece) long ∙ ap answer_to (sym (append_assoc first_bytes passed (take at piece)));
      lends = none ∙ sym (long_lends first_bytes body long);
    }

-- so far no newline came
pub quiet_so_far : (kept : List ℕ) (left now : Option (List ℕ)) (talk said : Option (List Said)) → (so_far : IsHeardSoFar left now talk said) → has_newline kept ≡ false → has_newline (kept ++ concat so_far.pieces) ≡ false
quiet_so_far kept left now talk said so_far quiet = quiet_both kept (concat so_far.pieces) quiet (quiet_pieces so_far.pieces so_far.quiet)

-- no newline came in as many pieces as a count has numbers
pub heard_often : (old new : LinesState) (left now : Option (List ℕ)) (talk said : Option (List Said)) → (so_far : IsHeardSoFar left now talk said) → has_newline old.kept ≡ false → greatest_count ≤ length so_far.pieces → new.line ≡ [] → new.kept ≡ [] → HearsNext End old new left now talk said
heard_often old new left now talk said so_far quiet often line kept = record {
  pieces = so_far.pieces;
  heard = so_far.heard;
  enough = subst IsEnough (append-nil so_far.pieces) (enough_behind so_far.pieces [] so_far.quiet tt);
  first = (inr often, record { unended = quiet_so_far old.kept left now talk said so_far quiet; no_line = line; none_behind = kept });
  ended = λ few. absurd (omega (arith, few, often));
}

-- what was heard before a failure had no newline
pub heard_quiet : (kept : List ℕ) (left now : Option (List ℕ)) (talk said : Option (List Said)) → IsHeardSoFar left now talk said → has_newline kept ≡ false → HearsQuiet kept left now talk said
heard_quiet kept left now talk said so_far quiet = record {
  pieces = so_far.pieces;
  heard = so_far.heard;
  quiet = quiet_so_far kept left now talk said so_far quiet;
}

-- of a peer that tells its bytes as many pieces are heard as it has bytes at most
pieces_within : (pieces : List (List ℕ)) → AllByRecursion (λ piece. 0 < length piece) pieces → length pieces ≤ length (concat pieces)
pieces_within [] some = omega arith
pieces_within (piece ∷ pieces) some = let rest = pieces_within pieces some.1 in omega (arith, some.0, rest, length-append piece (concat pieces))

same_some : (xs ys : List ℕ) → Some xs ≡ Some ys → xs ≡ ys
same_some xs ys is = cc

-- the end is one of a peer with fewer bytes than a count has numbers
pub is_end : (old new : LinesState) (left new_left : Option (List ℕ)) (talk new_talk : Option (List Said)) → HearsNext End old new left new_left talk new_talk → (bytes : List ℕ) → left ≡ Some bytes → length bytes < greatest_count → (old.kept ≡ []) × (bytes ≡ [])
is_end old new left new_left talk new_talk next bytes told few =
    let there = next.heard.front bytes told in
    let within = pieces_within next.pieces next.heard.some in
    let short : length next.pieces < greatest_count = omega (arith, within, few, ap length there.1, length-append (concat next.pieces) there.0) in
    let ends : new_left ≡ Some [] = next.ended short bytes told in
    let none : there.0 ≡ [] = same_some there.0 [] (sym there.2 ∙ ends) in
    empty_or_often old.kept (concat next.pieces) there.0 bytes (length next.pieces) next.first.0 short none there.1
  where
    empty_or_often : (kept heard rest bytes : List ℕ) (count : ℕ) → (kept ++ heard ≡ []) ⊎ (greatest_count ≤ count) → count < greatest_count → rest ≡ [] → bytes ≡ heard ++ rest → (kept ≡ []) × (bytes ≡ [])
    empty_or_often kept heard rest bytes count (inl empty) short none is =
        (front_none kept heard empty, is ∙ ap (λ xs. heard ++ xs) none ∙ append-nil heard ∙ behind_none kept heard empty)
    empty_or_often kept heard rest bytes count (inr often) short none is = absurd (omega (arith, often, short))

-- the line whose newline stands first, taken
pub first_taken : (kept : List ℕ) (at : ℕ) (answer : Next) (line behind : List ℕ) → IsFirstNewline kept at → answer ≡ answer_to (take at kept) → line ≡ lent answer (take at kept) → behind ≡ drop (at + 1) kept → IsFirstLine answer kept line behind
first_taken kept at answer line behind newline is lends rest = record {
  body = take at kept;
  begins = newline.there ∙ ap (λ more. take at kept ++ 10 ∷ more) (sym rest);
  one = newline.quiet;
  answered = is;
  lends = lends;
}

-- ---- one turn of hearing on

module _ (old : LinesState) (left l new_left : Option (List ℕ)) (talk t new_talk : Option (List Said)) (so_far : IsHeardSoFar left l talk t) (n : ℕ) (now mid : BufferState) (heard : HearsPiece n now mid l new_left t new_talk) where
  nothing : n ≡ 0 → heard.piece ≡ []
  nothing none = none_in heard.piece n heard.count none

  pub still_kept : n ≡ 0 → mid.kept ≡ now.kept
  still_kept none = heard.kept ∙ ap (λ piece. now.kept ++ piece) (nothing none) ∙ append-nil now.kept

  module _ (is : now.kept ≡ old.kept ++ concat so_far.pieces) where
    -- the end came
    pub hear_end : (answer : Next) (new : LinesState) → n ≡ 0 → 0 < now.room → IsAnswer answer 0 mid.kept new.line new.kept → HearsNext answer old new left new_left talk new_talk
    hear_end answer new none room first =
        next_behind answer old (lines_in now) new left l new_left talk t new_talk so_far is (heard_end answer n (lines_in now) new now mid l new_left t new_talk heard none room (subst (λ bytes. IsAnswer answer 0 bytes new.line new.kept) (still_kept none) first))

    -- a newline came
    pub hear_found : (answer : Next) (new : LinesState) → 0 < n → IsFirstLine answer mid.kept new.line new.kept → HearsNext answer old new left new_left talk new_talk
    hear_found answer new some first =
        next_behind answer old (lines_in now) new left l new_left talk t new_talk so_far is (heard_line answer n (lines_in now) new now mid l new_left t new_talk heard some (subst (λ bytes. IsFirstLine answer bytes new.line new.kept) heard.kept first))

    -- none came
    pub hear_more : 0 < n → has_newline mid.kept ≡ false → (more : IsHeardSoFar left new_left talk new_talk) × (mid.kept ≡ old.kept ++ concat more.pieces)
    hear_more some quiet = (
      more_so_far left l new_left talk t new_talk heard.piece so_far (hears_one n now mid l new_left t new_talk heard some) (quiet_back now.kept heard.piece (ap has_newline (sym heard.kept) ∙ quiet)),
      heard.kept ∙ ap (λ kept. kept ++ heard.piece) is ∙ append_assoc old.kept (concat so_far.pieces) heard.piece
          ∙ ap (λ bytes. old.kept ++ bytes) (ap (λ piece. concat so_far.pieces ++ piece) (sym (append-nil heard.piece)) ∙ sym (concat-append so_far.pieces (heard.piece ∷ []))),
    )

  -- the same while a long line is passed over: nothing is kept
  module _ (quiet : has_newline old.kept ≡ false) (long : LINE_BYTES < length old.kept) (none_kept : now.kept ≡ []) where
    abbrev all_kept : LinesState
    all_kept = record { kept = old.kept ++ concat so_far.pieces; line = [] }

    piece_kept : mid.kept ≡ heard.piece
    piece_kept = heard.kept ∙ ap (λ kept. kept ++ heard.piece) none_kept

    pub pass_end : n ≡ 0 → 0 < now.room → HearsNext Cut old (lines_in mid) left new_left talk new_talk
    pass_end none room =
        let some : 0 < length (old.kept ++ concat so_far.pieces) = omega (arith, long, length-append old.kept (concat so_far.pieces)) in
        next_behind Cut old all_kept (lines_in mid) left l new_left talk t new_talk so_far refl
        (heard_end Cut n all_kept (lines_in mid) now mid l new_left t new_talk heard none room
        (some, record { unended = quiet_so_far old.kept left l talk t so_far quiet; no_line = heard.no_line; none_behind = piece_kept ∙ nothing none }))

    pub pass_found : (at : ℕ) (new : LinesState) → 0 < n → IsFirstNewline mid.kept at → new.line ≡ [] → new.kept ≡ drop (at + 1) mid.kept → HearsNext (answer_to old.kept) old new left new_left talk new_talk
    pass_found at new some newline no_line rest =
        next_behind (answer_to old.kept) old all_kept new left l new_left talk t new_talk so_far refl
        (heard_line (answer_to old.kept) n all_kept new now mid l new_left t new_talk heard some
        (long_line old.kept (concat so_far.pieces) heard.piece at new.line new.kept long (quiet_so_far old.kept left l talk t so_far quiet) (subst (λ bytes. IsFirstNewline bytes at) piece_kept newline) no_line (rest ∙ ap (λ bytes. drop (at + 1) bytes) piece_kept)))

    pub pass_more : (turn : ℕ) → length so_far.pieces ≡ turn → 0 < n → has_newline mid.kept ≡ false → (more : IsHeardSoFar left new_left talk new_talk) × (length more.pieces ≡ turn + 1)
    pass_more turn count some none = (
      more_so_far left l new_left talk t new_talk heard.piece so_far (hears_one n now mid l new_left t new_talk heard some) (ap has_newline (sym piece_kept) ∙ none),
      length-append so_far.pieces (heard.piece ∷ []) ∙ ap (λ pieces. pieces + 1) count,
    )

pub some_of : (n : ℕ) → (n ≡ 0 → ⊥) → 0 < n
some_of zero not = absurd (not refl)
some_of (suc n) not = omega arith

-- the room that a piece leaves
pub room_left : (n : ℕ) (now mid : BufferState) (left new_left : Option (List ℕ)) (talk new_talk : Option (List Said)) → HearsPiece n now mid left new_left talk new_talk → now.room ≡ BUFFER_BYTES - length now.kept → length now.kept ≤ BUFFER_BYTES
    → (mid.room ≡ BUFFER_BYTES - length mid.kept) × (length mid.kept ≤ BUFFER_BYTES)
room_left n now mid left new_left talk new_talk heard room within =
    let longer : length mid.kept ≡ length now.kept + n = ap length heard.kept ∙ length-append now.kept heard.piece ∙ ap (λ count. length now.kept + count) heard.count in
    (omega (arith, longer, heard.room, heard.fits, room, within), omega (arith, longer, heard.fits, room, within))
