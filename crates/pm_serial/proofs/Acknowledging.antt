-- What is finished of the replies that say that a copy settled, one part of a run behind another.
use Rattle.std.proofs.Common.{take, ◌≡◌, ◌⊎◌, ⊎_elim, inl, inr, ℕ, ◌+◌, ◌≤◌, Bool, true, false, Result, Ok, Err, OnOk, List, [], ◌∷◌, ◌++◌, length, Option, Some, None, refl, ap, sym, subst, ◌∙◌, append_assoc, codes, decimal, length-append, arith}
use Rattle.std.proofs.lemmas.List.{append-nil}
use Rattle.std.proofs.lemmas.Grind.{flat_map-append}
use Rattle.pm_types.specs.Memory.{no_memory}
use Rattle.pm_types.specs.declared.entry.Entry.{Entry}
use Rattle.pm_io.specs.declared.sink.Sink.{Ghosts}
use Rattle.pm_model.specs.Journal.{says_saved}
use Rattle.pm_model.specs.Text.{reply_line, reply_words, text}
use Rattle.pm_types.specs.declared.reply.Reply.{Reply}
use Rattle.pm_types.specs.declared.reply.Reply.TheVariants.{Saved}
use Rattle.pm_serial.specs.declared.output.output.TheConstants.{BUFFER_BYTES}
use Rattle.pm_serial.specs.Output.Writing.{FinishesAll, GoesOn, IsNear, PutsAll}
use Rattle.pm_serial.proofs.Gathering.{all_then, not_both}
use Rattle.pm_engine.specs.declared.events.stop.Stop.{Stop}
use Rattle.pm_engine.specs.declared.events.stop.Stop.TheVariants.{Memory, Writing, Device}
use Rattle.pm_engine.specs.Events.Causes.{IsDone}
use Rattle.pm_serial.specs.Causes.{IsElsewhere}
use Rattle.pm_serial.specs.Stepping.{EndsSink, IsGathered, IsOfSink, SinkGoesOn}
use Rattle.pm_serial.specs.Writing.{WroteRun}
use Rattle.pm_serial.specs.Acknowledged.{Acknowledges, AcknowledgesLast, FinishesSaved, KeepsSaved, TellsAll, TellsSaved}
use Rattle.pm_types.specs.Counts.{Rose}

-- ---- parts of a journal

no_split : (first rest : List Entry) (entry : Entry) → [] ≡ first ++ entry ∷ rest → ⊥
no_split [] rest entry is = cc is
no_split (other ∷ first) rest entry is = cc is

-- where a journal that grew by an entry is parted at one, that is the last or the shorter one is parted there
split_front : (journal first rest : List Entry) (last entry : Entry) → journal ++ last ∷ [] ≡ first ++ entry ∷ rest → (last ≡ entry) ⊎ ((more : List Entry) × (journal ≡ first ++ entry ∷ more))
split_front [] [] rest last entry is = inl (cc is)
split_front [] (other ∷ first) rest last entry is =
    let none : [] ≡ first ++ entry ∷ rest = cc is in
    absurd (no_split first rest entry none)
split_front (one ∷ journal) [] rest last entry is =
    let same : one ≡ entry = cc is in
    inr (journal, ap (λ (e : Entry). e ∷ journal) same)
split_front (one ∷ journal) (other ∷ first) rest last entry is =
    let head : one ≡ other = cc is in
    let behind : journal ++ last ∷ [] ≡ first ++ entry ∷ rest = cc is in
    ⊎_elim (λ same. inl same) (λ (more : (more : List Entry) × (journal ≡ first ++ entry ∷ more)). inr (more.0, (λ i. head i ∷ more.1 i))) (split_front journal first rest last entry behind)

-- ---- what is finished

saved_none : (finished : ℕ) (before : List ℕ) → FinishesSaved finished before []
saved_none finished before first rest entry is says = absurd (no_split first rest entry is)

-- an entry more that says nothing of it
saved_more : (finished : ℕ) (before : List ℕ) (journal : List Entry) (last : Entry) → says_saved last.reply ≡ false → FinishesSaved finished before journal → FinishesSaved finished before (journal ++ last ∷ [])
saved_more finished before journal last other was first rest entry is says =
    ⊎_elim (λ (same : last ≡ entry). let never : true ≡ false = sym says ∙ ap (λ (e : Entry). says_saved e.reply) (sym same) ∙ other in absurd (cc never))
    (λ (more : (more : List Entry) × (journal ≡ first ++ entry ∷ more)). was first more.0 entry more.1 says) (split_front journal first rest last entry is)

-- a reply has a line
text_some : (entry : Entry) (journal : List Entry) → text (entry ∷ journal) ≡ [] → ⊥
text_some entry journal none =
    let both = length-append (reply_line entry) (text journal) in
    let line : length (reply_line entry) ≡ length (decimal entry.client ++ codes " " ++ reply_words entry.reply) + length (codes "\n") = length-append (decimal entry.client ++ codes " " ++ reply_words entry.reply) (codes "\n") in
    let newline : length (codes "\n") ≡ 1 = refl in
    let empty : length (reply_line entry ++ text journal) ≡ 0 = ap length none in
    absurd (omega (arith, both, line, newline, empty))

-- all of the text
saved_all : (finished : ℕ) (before : List ℕ) (journal : List Entry) → length (before ++ text journal) ≤ finished → FinishesSaved finished before journal
saved_all finished before journal all first rest entry is says =
    let parted : text journal ≡ text (first ++ entry ∷ []) ++ text rest =
    ap text (is ∙ sym (append_assoc first (entry ∷ []) rest)) ∙ flat_map-append reply_line (first ++ entry ∷ []) rest in
    let whole : length (before ++ text journal) ≡ length before + (length (text (first ++ entry ∷ [])) + length (text rest)) =
    length-append before (text journal) ∙ ap (λ (n : ℕ). length before + n) (ap length parted ∙ length-append (text (first ++ entry ∷ [])) (text rest)) in
    let front = length-append before (text (first ++ entry ∷ [])) in
    omega (arith, all, whole, front)

-- ---- a reply

-- all that was gathered was put
pub goes_all : {T E : Type 0} (piece : List ℕ) (told mid now : Option (List ℕ)) (gathered later last : List ℕ) (result : Result T E) → GoesOn piece told mid gathered later → OnOk result (PutsAll mid now later) → OnOk result (last ≡ [])
    → OnOk result (GoesOn piece told now gathered last)
goes_all piece told mid now gathered later last (Ok x) on all none = λ bytes known.
    record { done = gathered ++ piece; put = all_then piece told mid now gathered later on all bytes known; rest = ap (λ (l : List ℕ). (gathered ++ piece) ++ l) none ∙ append-nil (gathered ++ piece) }
goes_all piece told mid now gathered later last (Err e) on all none = tt

-- a reply that says nothing of a copy that settled
pub other_reply : (reply : Reply) → ((number : ℕ) → reply ≡ Saved number → ⊥) → says_saved reply ≡ false
other_reply (Saved number) other = absurd (other number refl)
other_reply reply other = refl

module _ {K : Type 0} (k : Ghosts K) where
  -- and all was finished
  pub told_all : {T E : Type 0} (piece : List ℕ) (old mid new : K) (gathered later last : List ℕ) (result : Result T E) → GoesOn piece (k.written old) (k.written mid) gathered later → OnOk result (PutsAll (k.written mid) (k.written new) later)
      → OnOk result (last ≡ []) → OnOk result ((bytes : List ℕ) → k.written mid ≡ Some bytes → k.finished new ≡ length (bytes ++ later)) → OnOk result (TellsAll k old new last)
  told_all piece old mid new gathered later last (Ok x) on all none finished = record {
    none = none;
    finished = λ bytes known. let divided = on bytes known in ((bytes ++ divided.done) ++ later, all (bytes ++ divided.done) divided.put, finished (bytes ++ divided.done) divided.put);
  }
  told_all piece old mid new gathered later last (Err e) on all none finished = tt

  -- neither journal nor sink changed
  pub keeps_still : (sink : K) (gathered : List ℕ) (journal longer : List Entry) (stop : Option Stop) → IsGathered stop → longer ≡ journal → KeepsSaved k sink sink gathered journal longer stop
  keeps_still sink gathered journal longer stop is same = record {
    saved = λ _ bytes before told parted was. subst (FinishesSaved (k.finished sink) before) (sym same) was;
    near = λ of. absurd (not_both stop is of);
  }

  -- the sink failed
  pub keeps_lost : (old new : K) (gathered piece : List ℕ) (journal longer : List Entry) → text longer ≡ text journal ++ piece → IsNear (k.written old) (k.written new) (gathered ++ piece)
      → KeepsSaved k old new gathered journal longer (Some Writing)
  keeps_lost old new gathered piece journal longer grown some = record {
    saved = λ is. absurd is;
    near = λ of bytes before all told parted now.
        let near = some bytes all told now in
        let whole : before ++ text longer ≡ bytes ++ (gathered ++ piece) =
        ap (λ (t : List ℕ). before ++ t) grown ∙ sym (append_assoc before (text journal) piece) ∙ ap (λ (t : List ℕ). t ++ piece) (sym parted) ∙ append_assoc bytes gathered piece in
        let same = ap length whole in
        omega (arith, near, same);
  }

  -- what was put and what is gathered are the text of the journal, unless the sink failed
  on_text_as : (old mid : K) (gathered later bytes before : List ℕ) (journal longer : List Entry) (stop : Option Stop) → (is : IsGathered stop) → (on : SinkGoesOn k.written k.count old mid gathered later journal longer stop) → (told : k.written old ≡ Some bytes)
      → bytes ++ gathered ≡ before ++ text journal → (bytes ++ (on.on is bytes told).done) ++ later ≡ before ++ text longer
  on_text_as old mid gathered later bytes before journal longer stop is on told parted =
      let was = on.on is bytes told in
      append_assoc bytes was.done later ∙ ap (λ (t : List ℕ). bytes ++ t) was.rest ∙ sym (append_assoc bytes gathered on.piece) ∙ ap (λ (t : List ℕ). t ++ on.piece) parted
      ∙ append_assoc before (text journal) on.piece ∙ ap (λ (t : List ℕ). before ++ t) (sym on.text_is)

  on_text : (old mid : K) (gathered later bytes before : List ℕ) (journal longer : List Entry) → (on : SinkGoesOn k.written k.count old mid gathered later journal longer None) → (told : k.written old ≡ Some bytes) → bytes ++ gathered ≡ before ++ text journal
      → (bytes ++ (on.on tt bytes told).done) ++ later ≡ before ++ text longer
  on_text old mid gathered later bytes before journal longer on told parted = on_text_as old mid gathered later bytes before journal longer None tt on told parted

  -- an entry more that says nothing of it
  keeps_other : (old new : K) (gathered : List ℕ) (journal longer : List Entry) (last : Entry) → longer ≡ journal ++ last ∷ [] → says_saved last.reply ≡ false → k.finished new ≡ k.finished old
      → KeepsSaved k old new gathered journal longer None
  keeps_other old new gathered journal longer last pushed other same = record {
    saved = λ is bytes before told parted was.
        subst (λ (n : ℕ). FinishesSaved n before longer) (sym same) (subst (FinishesSaved (k.finished old) before) (sym pushed) (saved_more (k.finished old) before journal last other was));
    near = λ of. absurd of;
  }

  -- or one that does, after which all is finished
  keeps_told : (old new : K) (gathered later : List ℕ) (journal longer : List Entry) → SinkGoesOn k.written k.count old new gathered later journal longer None → TellsAll k old new later → KeepsSaved k old new gathered journal longer None
  keeps_told old new gathered later journal longer on tells = record {
    saved = λ is bytes before told parted was.
        let divided = on.on tt bytes told in
        let all = tells.finished bytes told in
        let same : ◌≡◌ {A = Option (List ℕ)} (Some (bytes ++ divided.done)) (Some all.0) = sym divided.put ∙ all.1 in
        let is_all : bytes ++ divided.done ≡ all.0 = cc same in
        let whole : all.0 ≡ before ++ text longer =
        sym is_all ∙ sym (append-nil (bytes ++ divided.done)) ∙ ap (λ (t : List ℕ). (bytes ++ divided.done) ++ t) (sym tells.none) ∙ on_text old new gathered later bytes before journal longer on told parted in
        let count : k.finished new ≡ length (before ++ text longer) = all.2 ∙ ap length whole in
        saved_all (k.finished new) before longer (omega (arith, count));
    near = λ of. absurd of;
  }

  pub keeps_entry : (old new : K) (gathered later : List ℕ) (journal longer : List Entry) (last : Entry) → longer ≡ journal ++ last ∷ [] → SinkGoesOn k.written k.count old new gathered later journal longer None
      → (says_saved last.reply ≡ true → TellsAll k old new later) → (says_saved last.reply ≡ false → k.finished new ≡ k.finished old) → KeepsSaved k old new gathered journal longer None
  keeps_entry old new gathered later journal longer last pushed on tells other = by (says_saved last.reply) refl
    where
      by : (b : Bool) → says_saved last.reply ≡ b → KeepsSaved k old new gathered journal longer None
      by true is = keeps_told old new gathered later journal longer on (tells is)
      by false is = keeps_other old new gathered journal longer last pushed is (other is)

  -- one part behind another
  pub keeps_then : (old mid new : K) (gathered later : List ℕ) (journal between longer : List Entry) (stop : Option Stop) → SinkGoesOn k.written k.count old mid gathered later journal between None
      → KeepsSaved k old mid gathered journal between None → KeepsSaved k mid new later between longer stop → KeepsSaved k old new gathered journal longer stop
  keeps_then old mid new gathered later journal between longer stop on first second = record {
    saved = λ is bytes before told parted was.
        let divided = on.on tt bytes told in
        second.saved is (bytes ++ divided.done) before divided.put (on_text old mid gathered later bytes before journal between on told parted) (first.saved tt bytes before told parted was);
    near = λ of bytes before all told parted now.
        let divided = on.on tt bytes told in
        second.near of (bytes ++ divided.done) before all divided.put (on_text old mid gathered later bytes before journal between on told parted) now;
  }

  -- the last entry of a journal that grew by one is that one
  last_is : (journal first : List Entry) (last entry : Entry) → journal ++ last ∷ [] ≡ first ++ entry ∷ [] → last ≡ entry
  last_is [] [] last entry is = cc is
  last_is [] (other ∷ first) last entry is = let none : [] ≡ first ++ entry ∷ [] = cc is in absurd (no_split first [] entry none)
  last_is (one ∷ journal) [] last entry is = let none : [] ≡ journal ++ last ∷ [] = sym (cc is) in absurd (no_split journal [] last none)
  last_is (one ∷ journal) (other ∷ first) last entry is = let behind : journal ++ last ∷ [] ≡ first ++ entry ∷ [] = cc is in last_is journal first last entry behind

  pub tells_last : (old new : K) (later : List ℕ) (journal longer : List Entry) (last : Entry) → longer ≡ journal ++ last ∷ [] → (says_saved last.reply ≡ true → TellsAll k old new later) → TellsSaved k old new later longer
  tells_last old new later journal longer last pushed tells first entry is says =
      let same : last ≡ entry = last_is journal first last entry (sym pushed ∙ is) in
      tells (ap (λ (e : Entry). says_saved e.reply) same ∙ says)

  -- ---- the whole run

  -- nothing was answered
  pub acknowledges_none : (sink : K) (journal : List Entry) (stop : Option Stop) → journal ≡ [] → Acknowledges k sink sink journal stop
  acknowledges_none sink journal stop none = record {
    saved = λ is before told. subst (FinishesSaved (k.finished sink) before) (sym none) (saved_none (k.finished sink) before);
    near = λ of bytes all told now.
        let same : ◌≡◌ {A = Option (List ℕ)} (Some bytes) (Some all) = sym told ∙ now in
        let is_all : bytes ≡ all = cc same in
        let long = ap length is_all in
        let text_none : bytes ++ text journal ≡ bytes = ap (λ (j : List Entry). bytes ++ text j) none ∙ append-nil bytes in
        let whole = ap length text_none in
        omega (arith, long, whole);
  }

  pub acknowledges_run : (old mid new : K) (gathered later tail : List ℕ) (journal longer : List Entry) (ran stop : Option Stop) → gathered ≡ [] → journal ≡ [] → KeepsSaved k old mid gathered journal longer ran
      → EndsSink k.written k.finished k.count mid new later tail ran stop → WroteRun k.written k.finished k.count old new (text longer) tail stop
      → SinkGoesOn k.written k.count old mid gathered later journal longer ran → length later ≤ BUFFER_BYTES → Acknowledges k old new longer stop
  acknowledges_run old mid new gathered later tail journal longer ran stop none empty keeps ends wrote run short = record { saved = by stop refl; near = near_by ran refl }
    where
      at_mid : IsGathered ran → (before : List ℕ) → k.written old ≡ Some before → FinishesSaved (k.finished mid) before longer
      at_mid is before told =
          keeps.saved is before before told (ap (λ (t : List ℕ). before ++ t) (none ∙ ap text (sym empty)))
          (subst (FinishesSaved (k.finished old) before) (sym empty) (saved_none (k.finished old) before))

      gathered_then : (other : Stop) → stop ≡ Some other → IsElsewhere (Some other) → IsGathered ran
      gathered_then other is elsewhere =
          ⊎_elim (λ (same : stop ≡ ran). subst IsGathered (sym is ∙ same) (elsewhere_gathered other elsewhere))
          (λ both. let never : IsElsewhere (Some Writing) = subst IsElsewhere (sym is ∙ both.1) elsewhere in absurd never) ends.why
        where
          elsewhere_gathered : (other : Stop) → IsElsewhere (Some other) → IsGathered (Some other)
          elsewhere_gathered (Memory _) is = tt
          elsewhere_gathered Device is = tt
          elsewhere_gathered Writing is = absurd is

      begins : (before : List ℕ) → before ++ gathered ≡ before ++ text journal
      begins before = ap (λ (t : List ℕ). before ++ t) (none ∙ ap text (sym empty))

      -- all of it was finished at the end
      at_end : IsGathered ran → (before : List ℕ) → k.written old ≡ Some before → FinishesAll (k.written mid) (k.finished new) later → FinishesSaved (k.finished new) before longer
      at_end is before told all =
          let divided = run.on is before told in
          let full = on_text_as old mid gathered later before before journal longer ran is run told (begins before) in
          let count : k.finished new ≡ length (before ++ text longer) = all (before ++ divided.done) divided.put ∙ ap length full in
          saved_all (k.finished new) before longer (omega (arith, count))

      elsewhere : (other : Stop) → stop ≡ Some other → IsElsewhere (Some other) → (before : List ℕ) → k.written old ≡ Some before → FinishesSaved (k.finished new) before longer
      elsewhere other is of before told =
          let was = gathered_then other is of in
          ⊎_elim (λ (same : k.finished new ≡ k.finished mid). subst (λ (n : ℕ). FinishesSaved n before longer) (sym same) (at_mid was before told))
          (λ (all : FinishesAll (k.written mid) (k.finished new) later). at_end was before told all) (ends.kept (subst IsElsewhere (sym is) of))

      by : (why : Option Stop) → stop ≡ why → IsGathered stop → (before : List ℕ) → k.written old ≡ Some before → FinishesSaved (k.finished new) before longer
      by None is gathered_is before told =
          let count = wrote.all_finished (subst IsDone (sym is) tt) before told in
          let long = length-append before (text longer) in
          let longest = length-append before (text longer ++ tail) in
          let both = length-append (text longer) tail in
          saved_all (k.finished new) before longer (omega (arith, count, long, longest, both))
      by (Some (Memory _)) is gathered_is before told = elsewhere (Memory no_memory) is tt before told
      by (Some Device) is gathered_is before told = elsewhere Device is tt before told
      by (Some Writing) is gathered_is before told = absurd (subst IsGathered is gathered_is)

      -- a run that stopped elsewhere does not stop for the sink
      stopped_for : (other : Stop) → ran ≡ Some other → IsOfSink stop → IsOfSink (Some other)
      stopped_for other is of =
          ⊎_elim (λ (same : stop ≡ ran). subst IsOfSink (same ∙ is) of) (λ both. let never : ◌≡◌ {A = Option Stop} (Some other) None = sym is ∙ both.0 in absurd (cc never)) ends.why

      near_by : (why : Option Stop) → ran ≡ why → IsOfSink stop → IsNear (k.written old) (k.written new) (text longer)
      near_by None is of before all told now =
          let on = subst (λ (s : Option Stop). SinkGoesOn k.written k.count old mid gathered later journal longer s) is run in
          let divided = on.on tt before told in
          let full = on_text old mid gathered later before before journal longer on told (begins before) in
          let part = ends.part (subst IsGathered (sym is) tt) (before ++ divided.done) divided.put in
          let same : ◌≡◌ {A = Option (List ℕ)} (Some ((before ++ divided.done) ++ take part.part (later ++ tail))) (Some all) = sym part.appended ∙ now in
          let is_all : (before ++ divided.done) ++ take part.part (later ++ tail) ≡ all = cc same in
          let long : length all ≡ length (before ++ divided.done) + length (take part.part (later ++ tail)) = sym (ap length is_all) ∙ length-append (before ++ divided.done) (take part.part (later ++ tail)) in
          let whole : length (before ++ text longer) ≡ length (before ++ divided.done) + length later = sym (ap length full) ∙ length-append (before ++ divided.done) later in
          omega (arith, short, long, whole)
      near_by (Some Writing) is of before all told now =
          let lost : IsOfSink ran = subst IsOfSink (sym is) tt in
          let stood : k.written new ≡ k.written mid = ap k.written (ends.none lost) in
          keeps.near lost before before all told (begins before) (sym stood ∙ now)
      near_by (Some (Memory _)) is of before all told now = absurd (stopped_for (Memory no_memory) is of)
      near_by (Some Device) is of before all told now = absurd (stopped_for Device is of)

  -- the replies were written behind the last event
  pub acknowledges_last : (old new : K) (tail : List ℕ) (journal : List Entry) (stop : Option Stop) → WroteRun k.written k.finished k.count old new (text journal) tail stop → AcknowledgesLast k old new journal stop
  acknowledges_last old new tail [] stop wrote is stands before told = saved_none (k.finished new) before
  acknowledges_last old new tail (entry ∷ more) stop wrote is stands before told = by stop wrote is stands
    where
      journal : List Entry
      journal = entry ∷ more

      by : (why : Option Stop) → WroteRun k.written k.finished k.count old new (text journal) tail why → IsGathered why → (IsElsewhere why → ¬ (Rose (k.count old) (k.count new))) → FinishesSaved (k.finished new) before journal
      by None wrote is stands =
          let count = wrote.all_finished tt before told in
          let long = length-append before (text journal) in
          let longest = length-append before (text journal ++ tail) in
          let both = length-append (text journal) tail in
          saved_all (k.finished new) before journal (omega (arith, count, long, longest, both))
      by (Some (Memory _)) wrote is stands =
          let count = wrote.whole_finished tt (stands tt) (text_some entry more) before told in
          saved_all (k.finished new) before journal (omega (arith, count))
      by (Some Device) wrote is stands =
          let count = wrote.whole_finished tt (stands tt) (text_some entry more) before told in
          saved_all (k.finished new) before journal (omega (arith, count))
      by (Some Writing) wrote is stands = absurd is
