-- Turns, one behind another.
use Rattle.std.proofs.Common.{◌≡◌, inl, inr, ℕ, ◌+◌, ◌≤◌, Bool, true, false, List, [], ◌∷◌, ◌++◌, length, length-append, map, arith, Some, Result, Ok, Err, refl, ap, sym, subst, ◌∙◌, append_assoc}
use Rattle.std.specs.Prelude.{nat_lt, if◌then◌else◌}
use Rattle.std.specs.List.{AllByRecursion, concat}
use Rattle.std.proofs.lemmas.List.{append-nil, length-map}
use Rattle.std.proofs.lemmas.Grind.{flat_map-append}
use Rattle.std.proofs.lemmas.Option.{same_Some}
use Rattle.pm_types.specs.Counts.{greatest_count}
use Rattle.pm_script.specs.declared.fault.Cause.{Cause}
use Rattle.pm_script.specs.declared.fault.Cause.TheVariants as cause
use Rattle.pm_script.specs.declared.limits.TheConstants.{LINE_BYTES}
use Rattle.pm_script.specs.Lines.{is_silent, words_of}
use Rattle.pm_script.specs.Reading.{line_at}
use Rattle.pm_peer.specs.declared.asked.Asked.{Asked}
use Rattle.pm_peer.specs.declared.next.Next.{Next}
use Rattle.pm_peer.specs.declared.next.Next.TheVariants.{Line, Silent, TooLong, Cut, End}
use Rattle.pm_peer.specs.declared.said.Said.{Said}
use Rattle.pm_peer.specs.declared.said.Said.TheVariants.{Heard, Told}
use Rattle.pm_peer.specs.FirstLine.{IsFirstLine, answer_to, has_newline}
use Rattle.pm_peer.specs.Hearing.{HearsNext, IsEnough, LinesState}
use Rattle.pm_peer.specs.Questions.{asked_at, asked_by, question_in}
use Rattle.pm_saving.specs.Serving.{Serving}
use Rattle.pm_talk.specs.declared.ending.Ending.{Ending}
use Rattle.pm_talk.specs.declared.ending.Ending.TheVariants.{Hearing, Telling, Device}
use Rattle.pm_talk.specs.Ends.{EndsBy, MeetsEnd}
use Rattle.pm_talk.specs.Stepping.{AnswersTo, AnswersTurn, EndsTurns, HearsEnd, TakesTurn, TurnsTo, is_ending, took}
use Rattle.pm_talk.specs.Talks.{HasTurns}
use Rattle.pm_talk.specs.Turns.{EndsLine, Follow, IsAnswered, IsPatient, IsTurn, Turn, heard_of, said_in, said_of}
use Rattle.pm_talk.specs.Wires.{HearsPieces, TellsLines, Wire}

-- ---- what a line is

of_line : (silent long : Bool) → Line ≡ (if silent then Silent else (if long then TooLong else Line)) → silent ≡ false
of_line true long is = absurd (cc is)
of_line false long is = refl

of_long : (silent long : Bool) → TooLong ≡ (if silent then Silent else (if long then TooLong else Line)) → (silent ≡ false) × (long ≡ true)
of_long true long is = absurd (cc is)
of_long false true is = (refl, refl)
of_long false false is = absurd (cc is)

of_silent : (silent long : Bool) → Silent ≡ (if silent then Silent else (if long then TooLong else Line)) → silent ≡ true
of_silent true long is = refl
of_silent false true is = absurd (cc is)
of_silent false false is = absurd (cc is)

pub says_line : (body : List ℕ) → Line ≡ answer_to body → is_silent body ≡ false
says_line body is = of_line (is_silent body) (nat_lt LINE_BYTES (length body)) is

pub says_long : (body : List ℕ) → TooLong ≡ answer_to body → (is_silent body ≡ false) × (nat_lt LINE_BYTES (length body) ≡ true)
says_long body is = of_long (is_silent body) (nat_lt LINE_BYTES (length body)) is

pub says_nothing : (body : List ℕ) → Silent ≡ answer_to body → is_silent body ≡ true
says_nothing body is = of_silent (is_silent body) (nat_lt LINE_BYTES (length body)) is

-- a line of too many bytes asks nothing
pub long_asks : (body : List ℕ) → nat_lt LINE_BYTES (length body) ≡ true → asked_at body ≡ Err cause.LineTooLong
unfolding asked_at
long_asks body long = ap (λ (b : Bool). if b then Err cause.LineTooLong else asked_by (question_in (words_of body)) (line_at body)) long

-- ---- what was heard

empty_of : {X : Type 0} (xs : List X) → length xs ≡ 0 → xs ≡ []
empty_of [] none = refl
empty_of (x ∷ xs) none = absurd (omega (arith, none))

-- where nothing was said no piece was heard
pub none_heard : (pieces : List (List ℕ)) (old mid : Wire) → HearsPieces pieces old mid → mid ≡ old → (all : List Said) → old.talk ≡ Some all → pieces ≡ []
none_heard pieces old mid hears same all told =
    let now : mid.talk ≡ Some all = ap (λ (w : Wire). w.talk) same ∙ told in
    let both : all ++ map (λ piece. Heard piece) pieces ≡ all = same_Some _ _ (sym (hears.said all told) ∙ now) in
    let long : length all + length (map (λ piece. Heard piece) pieces) ≡ length all = sym (length-append all (map (λ piece. Heard piece) pieces)) ∙ ap length both in
    let many : length (map (λ piece. Heard piece) pieces) ≡ length pieces = length-map pieces (λ piece. Heard piece) in
    empty_of pieces (omega (arith, long, many))

-- ---- a turn

module _ (events : ℕ) (kept : List ℕ) (pieces : List (List ℕ)) (heard behind : List ℕ) (ends : EndsLine kept pieces heard behind) (old mid : Wire) (hears : HearsPieces pieces old mid) (patient : (all : List Said) → old.talk ≡ Some all → has_newline kept ≡ true → pieces ≡ []) where
  -- the turn in which these lines were told
  abbrev turn_with : List (List ℕ) → Serving → Serving → Turn
  turn_with told before after = record { kept = kept; pieces = pieces; heard = heard; behind = behind; told = told; before = before; after = after }

  takes : (told : List (List ℕ)) (before after : Serving) (new : Wire) → TellsLines told mid new → (is_silent heard ≡ true → (told ≡ []) × (after ≡ before)) → (is_silent heard ≡ false → IsAnswered events (turn_with told before after))
      → TakesTurn events kept behind before after old new
  takes told before after new tells silent spoken = record {
    turn = turn_with told before after;
    is = record { ends = ends; silent = silent; spoken = spoken };
    kept_is = refl;
    behind_is = refl;
    before_is = refl;
    after_is = refl;
    said = λ all is. tells.told _ (hears.said all is) ∙ ap Some (append_assoc all (map (λ piece. Heard piece) pieces) (map (λ line. Told line) told));
    patient = patient;
    front = λ bytes is. let first = hears.front bytes is in (first.0, first.1, tells.left first.0 first.2);
  }

  -- a silent line is told nothing
  pub takes_silent : is_silent heard ≡ true → (it : Serving) → TakesTurn events kept behind it it old mid
  takes_silent silent it = takes [] it it mid (record { told = λ all is. is ∙ ap Some (sym (append-nil all)); left = λ bytes is. is }) (λ _. (refl, refl)) (λ never. let both : true ≡ false = sym silent ∙ never in absurd (cc both))

  takes_answered : is_silent heard ≡ false → (before after : Serving) (new : Wire) → AnswersTurn events (asked_at heard) before after mid new → TakesTurn events kept behind before after old new
  takes_answered spoken before after new answers =
      takes (answers.line ∷ []) before after new answers.tells (λ silent. let both : true ≡ false = sym silent ∙ spoken in absurd (cc both))
      (λ _. record { line = answers.line; told = refl; mid = answers.mid; due = answers.due; says = answers.says; behind = answers.behind })

  -- a line that says something was answered, or not
  pub turns_line : is_silent heard ≡ false → (before after : Serving) (new : Wire) (result : Result (Unit {0}) Ending) → AnswersTo events (asked_at heard) before after mid new result → TurnsTo events (took Line result) kept behind before after old new
  turns_line spoken before after new (Ok done) answers = takes_answered spoken before after new answers
  turns_line spoken before after new (Err Hearing) answers = absurd answers
  turns_line spoken before after new (Err Telling) answers = record { pieces = pieces; heard = heard; behind = behind; ends = ends; mid = mid; hears = hears; line = answers.line; due = answers.due; says = answers.says; tells = answers.tells }
  turns_line spoken before after new (Err Device) answers = record { pieces = pieces; heard = heard; behind = behind; ends = ends; mid = mid; hears = hears; fails = answers.0; tells = answers.1 }

  pub turns_long : is_silent heard ≡ false → (before after : Serving) (new : Wire) (result : Result (Unit {0}) Ending) → AnswersTo events (asked_at heard) before after mid new result → TurnsTo events (took TooLong result) kept behind before after old new
  turns_long spoken before after new (Ok done) answers = takes_answered spoken before after new answers
  turns_long spoken before after new (Err Hearing) answers = absurd answers
  turns_long spoken before after new (Err Telling) answers = record { pieces = pieces; heard = heard; behind = behind; ends = ends; mid = mid; hears = hears; line = answers.line; due = answers.due; says = answers.says; tells = answers.tells }
  turns_long spoken before after new (Err Device) answers = record { pieces = pieces; heard = heard; behind = behind; ends = ends; mid = mid; hears = hears; fails = answers.0; tells = answers.1 }

-- ---- what was heard next

module _ (events : ℕ) (old new : LinesState) (w mid : Wire) (before : Serving) (patient : has_newline old.kept ≡ true → mid ≡ w) where
  ends_of : (answer : Next) (pieces : List (List ℕ)) → IsEnough pieces → (first : IsFirstLine answer (old.kept ++ concat pieces) new.line new.kept) → EndsLine old.kept pieces first.body new.kept
  ends_of answer pieces enough first = record { first = first.begins; one = first.one; enough = enough }

  patience : (pieces : List (List ℕ)) → HearsPieces pieces w mid → (all : List Said) → w.talk ≡ Some all → has_newline old.kept ≡ true → pieces ≡ []
  patience pieces hears all told kept = none_heard pieces w mid hears (patient kept) all told

  pub turn_of_line : HearsNext Line old new w.left mid.left w.talk mid.talk → (after : Serving) (v : Wire) (result : Result (Unit {0}) Ending) → AnswersTo events (asked_at new.line) before after mid v result → TurnsTo events (took Line result) old.kept new.kept before after w v
  turn_of_line next after v result answers =
      let first : IsFirstLine Line (old.kept ++ concat next.pieces) new.line new.kept = next.first in
      turns_line events old.kept next.pieces first.body new.kept (ends_of Line next.pieces next.enough first) w mid next.heard (patience next.pieces next.heard) (says_line first.body first.answered) before after v result
      (subst (λ (body : List ℕ). AnswersTo events (asked_at body) before after mid v result) first.lends answers)

  pub turn_of_long : HearsNext TooLong old new w.left mid.left w.talk mid.talk → (after : Serving) (v : Wire) (result : Result (Unit {0}) Ending) → AnswersTo events (Err cause.LineTooLong) before after mid v result → TurnsTo events (took TooLong result) old.kept new.kept before after w v
  turn_of_long next after v result answers =
      let first : IsFirstLine TooLong (old.kept ++ concat next.pieces) new.line new.kept = next.first in
      let long = says_long first.body first.answered in
      turns_long events old.kept next.pieces first.body new.kept (ends_of TooLong next.pieces next.enough first) w mid next.heard (patience next.pieces next.heard) long.0 before after v result
      (subst (λ (asked : Result Asked Cause). AnswersTo events asked before after mid v result) (sym (long_asks first.body long.1)) answers)

  pub turn_of_silence : HearsNext Silent old new w.left mid.left w.talk mid.talk → TakesTurn events old.kept new.kept before before w mid
  turn_of_silence next =
      let first : IsFirstLine Silent (old.kept ++ concat next.pieces) new.line new.kept = next.first in
      takes_silent events old.kept next.pieces first.body new.kept (ends_of Silent next.pieces next.enough first) w mid next.heard (patience next.pieces next.heard) (says_nothing first.body first.answered) before

-- the input came to its end
pub end_of_cut : (old new : LinesState) (w mid : Wire) → HearsNext Cut old new w.left mid.left w.talk mid.talk → HearsEnd old.kept Cut w mid
end_of_cut old new w mid next = record {
  pieces = next.pieces;
  hears = next.heard;
  last = (next.first.0, record { unended = next.first.1.unended; no_line = refl; none_behind = refl });
  emptied = next.ended;
}

pub end_of_end : (old new : LinesState) (w mid : Wire) → HearsNext End old new w.left mid.left w.talk mid.talk → HearsEnd old.kept End w mid
end_of_end old new w mid next = record {
  pieces = next.pieces;
  hears = next.heard;
  last = (next.first.0, record { unended = next.first.1.unended; no_line = refl; none_behind = refl });
  emptied = next.ended;
}

-- ---- turns

pub follow_more : (kept : List ℕ) (from : Serving) (turns : List Turn) (behind : List ℕ) (to : Serving) (turn : Turn) → Follow kept from turns behind to → turn.kept ≡ behind → turn.before ≡ to → Follow kept from (turns ++ turn ∷ []) turn.behind turn.after
follow_more kept from [] behind to turn follow same at = (same ∙ sym follow.0, at ∙ sym follow.1, (refl, refl))
follow_more kept from (first ∷ turns) behind to turn follow same at = (follow.0, follow.1, follow_more first.behind first.after turns behind to turn follow.2 same at)

all_more : {X : Type 0} (P : X → Type 0) (xs : List X) (x : X) → AllByRecursion P xs → P x → AllByRecursion P (xs ++ x ∷ [])
all_more P [] x all one = (one, tt)
all_more P (y ∷ xs) x all one = (all.0, all_more P xs x all.1 one)

said_more : (turns : List Turn) (turn : Turn) → said_of (turns ++ turn ∷ []) ≡ said_of turns ++ said_in turn
said_more turns turn = flat_map-append said_in turns (turn ∷ []) ∙ ap (λ (more : List Said). said_of turns ++ more) (append-nil (said_in turn))

heard_more_of : (turns : List Turn) (turn : Turn) → heard_of (turns ++ turn ∷ []) ≡ heard_of turns ++ concat turn.pieces
heard_more_of turns turn = flat_map-append (λ (t : Turn). concat t.pieces) turns (turn ∷ []) ∙ ap (λ (more : List ℕ). heard_of turns ++ more) (append-nil (concat turn.pieces))

-- no turn was taken
pub has_none : (events : ℕ) (kept : List ℕ) (it : Serving) (w : Wire) → HasTurns events kept it [] kept it w w
has_none events kept it w = record {
  each = tt;
  follow = (refl, refl);
  said = λ all is. is ∙ ap Some (sym (append-nil all));
  patient = λ all is. tt;
  front = λ bytes is. (bytes, refl, is);
}

-- one more was taken
pub has_more : (events : ℕ) (kept : List ℕ) (from : Serving) (turns : List Turn) (behind further : List ℕ) (it to : Serving) (old mid new : Wire) → HasTurns events kept from turns behind it old mid → (takes : TakesTurn events behind further it to mid new)
    → HasTurns events kept from (turns ++ takes.turn ∷ []) further to old new
has_more events kept from turns behind further it to old mid new has takes =
    let turn = takes.turn in
    record {
      each = all_more (IsTurn events) turns turn has.each takes.is;
      follow =
          subst (λ (both : List ℕ × Serving). Follow kept from (turns ++ turn ∷ []) both.0 both.1) (λ i. (takes.behind_is i, takes.after_is i))
          (follow_more kept from turns behind it turn has.follow takes.kept_is takes.before_is);
      said = λ all is. takes.said _ (has.said all is) ∙ ap Some (append_assoc all (said_of turns) (said_in turn) ∙ ap (λ (more : List Said). all ++ more) (sym (said_more turns turn)));
      patient = λ all is. all_more IsPatient turns turn (has.patient all is) (takes.patient _ (has.said all is));
      front = λ bytes is.
          let one = has.front bytes is in
          let two = takes.front one.0 one.2 in
          (two.0, one.1 ∙ ap (λ (rest : List ℕ). heard_of turns ++ rest) two.1 ∙ sym (append_assoc (heard_of turns) (concat turn.pieces) two.0) ∙ ap (λ (all : List ℕ). all ++ two.0) (sym (heard_more_of turns turn)), two.2);
    }

-- ---- where turns end

-- the input came to its end behind so many turns
pub meets_cut : (kept : List ℕ) (turns : ℕ) (old new : Wire) → HearsEnd kept Cut old new → MeetsEnd kept turns old new Cut
meets_cut kept turns old new hears = record { pieces = hears.pieces; hears = hears.hears; end = tt; last = inl hears.last; emptied = λ _. hears.emptied }

pub meets_end : (kept : List ℕ) (turns : ℕ) (old new : Wire) → HearsEnd kept End old new → MeetsEnd kept turns old new End
meets_end kept turns old new hears = record { pieces = hears.pieces; hears = hears.hears; end = tt; last = inl hears.last; emptied = λ _. hears.emptied }

-- as many turns as a count has numbers
pub meets_count : (kept : List ℕ) (turns : ℕ) (it : Wire) → greatest_count ≤ turns → MeetsEnd kept turns it it End
meets_count kept turns it many = record {
  pieces = [];
  hears = record { some = tt; said = λ all is. is ∙ ap Some (sym (append-nil all)); front = λ bytes is. (bytes, refl, is) };
  end = tt;
  last = inr many;
  emptied = λ less. absurd (omega (arith, less, many));
}

-- a turn that was the last one
pub ends_in_turn : (events : ℕ) (kept behind : List ℕ) (turns : ℕ) (before after : Serving) (old new : Wire) (ending : Ending) → TurnsTo events (Err ending) kept behind before after old new → EndsTurns events (Err ending) kept turns before after old new
ends_in_turn events kept behind turns before after old new Hearing to = to
ends_in_turn events kept behind turns before after old new Telling to = to
ends_in_turn events kept behind turns before after old new Device to = to

-- and with it the conversation
pub ends_by : (events : ℕ) (kept : List ℕ) (turns : ℕ) (before after : Serving) (old new : Wire) (ending : Ending) → EndsTurns events (Err ending) kept turns before after old new → EndsBy events (Err ending) kept turns before after old new
ends_by events kept turns before after old new Hearing ends = ends
ends_by events kept turns before after old new Telling ends = inr ends
ends_by events kept turns before after old new Device ends = ends

-- behind a line comes another turn, and behind the end none
pub taken : (events : ℕ) (next : Next) (kept behind : List ℕ) (before after : Serving) (old new : Wire) → is_ending next ≡ false → TurnsTo events (Ok next) kept behind before after old new → TakesTurn events kept behind before after old new
taken events Line kept behind before after old new more to = to
taken events Silent kept behind before after old new more to = to
taken events TooLong kept behind before after old new more to = to
taken events Cut kept behind before after old new more to = absurd (cc more)
taken events End kept behind before after old new more to = absurd (cc more)

pub met : (events : ℕ) (next : Next) (kept behind : List ℕ) (turns : ℕ) (before after : Serving) (old new : Wire) → is_ending next ≡ true → TurnsTo events (Ok next) kept behind before after old new → EndsTurns events (Ok next) kept turns before after old new
met events Line kept behind turns before after old new last to = absurd (cc last)
met events Silent kept behind turns before after old new last to = absurd (cc last)
met events TooLong kept behind turns before after old new last to = absurd (cc last)
met events Cut kept behind turns before after old new last to = (to.0, meets_cut kept turns old new to.1)
met events End kept behind turns before after old new last to = (to.0, meets_end kept turns old new to.1)

-- so many turns, and one more
pub one_more : {X : Type 0} (xs : List X) (x : X) (n : ℕ) → length xs ≡ n → length (xs ++ x ∷ []) ≡ n + 1
one_more xs x n is = length-append xs (x ∷ []) ∙ ap (λ (m : ℕ). m + 1) is
