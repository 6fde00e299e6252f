-- What goes to the sink, one part of a run behind another.
use Rattle.std.proofs.Common.{◌≡◌, ◌⊎◌, ⊎_elim, inl, inr, ℕ, length, arith, List, [], ◌++◌, Option, Some, None, refl, ap, sym, subst, ◌∙◌, append_assoc}
use Rattle.std.proofs.Math.Seq.{take-length}
use Rattle.std.proofs.lemmas.List.{append-nil}
use Rattle.pm_types.specs.Memory.{no_memory}
use Rattle.pm_types.specs.Counts.{Rose}
use Rattle.pm_types.specs.declared.entry.Entry.{Entry}
use Rattle.pm_io.specs.Streams.{AppendsPart}
use Rattle.pm_model.specs.Text.{text}
use Rattle.pm_serial.specs.Output.Writing.{FinishesAll, GoesOn, IsDivided, PutsAll, PutsPart}
use Rattle.pm_serial.proofs.OutputLemmas.Gathering.{empty_piece, goes_then, part_behind, part_longer, part_then}
use Rattle.pm_engine.specs.declared.events.stop.Stop.{Stop}
use Rattle.pm_engine.specs.declared.events.stop.Stop.TheVariants.{Memory, Writing, Device}
use Rattle.pm_serial.specs.Causes.{CountsSink, IsElsewhere}
use Rattle.pm_engine.specs.Events.Causes.{IsDone}
use Rattle.pm_serial.specs.Stepping.{CountsWriting, EndsSink, IsGathered, IsOfSink, SinkGoesOn}
use Rattle.pm_serial.specs.Writing.{WroteRun}

counted_still : (stop : Option Stop) (n : ℕ) → IsGathered stop → CountsWriting stop n n
counted_still None n is = refl
counted_still (Some (Memory _)) n is = refl
counted_still (Some Writing) n is = absurd is
counted_still (Some Device) n is = refl

-- a run stopped for the sink, or not
pub not_both : (stop : Option Stop) → IsGathered stop → IsOfSink stop → ⊥
not_both None is of = of
not_both (Some (Memory _)) is of = of
not_both (Some Writing) is of = is
not_both (Some Device) is of = of

-- none of it was put
no_part : (bytes piece : List ℕ) (now : Option (List ℕ)) → now ≡ Some bytes → AppendsPart bytes piece now
no_part bytes piece now is = record { part = 0; within = omega arith; appended = is ∙ ap Some (sym (append-nil bytes)) }

-- the whole is a first part
pub whole_part : (text : List ℕ) (told now : Option (List ℕ)) → PutsAll told now text → PutsPart told now text
whole_part text told now all bytes known = record { part = length text; within = omega arith; appended = all bytes known ∙ ap (λ (t : List ℕ). Some (bytes ++ t)) (sym (take-length text)) }

-- all was put behind a piece that was gathered
all_behind : (bytes done rest whole : List ℕ) → done ++ rest ≡ whole → (bytes ++ done) ++ rest ≡ bytes ++ whole
all_behind bytes done rest whole is = append_assoc bytes done rest ∙ ap (λ (t : List ℕ). bytes ++ t) is

pub all_then : (piece : List ℕ) (told mid now : Option (List ℕ)) (gathered later : List ℕ) → GoesOn piece told mid gathered later → PutsAll mid now later → PutsAll told now (gathered ++ piece)
all_then piece told mid now gathered later on all bytes known =
    let was = on bytes known in
    all (bytes ++ was.done) was.put ∙ ap Some (all_behind bytes was.done later (gathered ++ piece) was.rest)

-- and it is finished
pub finished_then : (piece : List ℕ) (told mid : Option (List ℕ)) (gathered later : List ℕ) (finished : ℕ) → GoesOn piece told mid gathered later
    → ((bytes : List ℕ) → mid ≡ Some bytes → finished ≡ length (bytes ++ later)) → (bytes : List ℕ) → told ≡ Some bytes → finished ≡ length (bytes ++ (gathered ++ piece))
finished_then piece told mid gathered later finished on all bytes known =
    let was = on bytes known in
    all (bytes ++ was.done) was.put ∙ ap length (all_behind bytes was.done later (gathered ++ piece) was.rest)

-- or a first part of it
pub some_then : (piece : List ℕ) (told mid now : Option (List ℕ)) (gathered later : List ℕ) → GoesOn piece told mid gathered later → PutsPart mid now later → PutsPart told now (gathered ++ piece)
some_then piece told mid now gathered later on some bytes known =
    let was = on bytes known in
    part_behind bytes was.done later (gathered ++ piece) now was.rest (some (bytes ++ was.done) was.put)

-- where the run stopped elsewhere
elsewhere_cause : (stop : Stop) (before after : ℕ) → IsElsewhere (Some stop) → CountsSink (Some stop) before after
elsewhere_cause (Memory _) before after is = tt
elsewhere_cause Writing before after is = absurd is
elsewhere_cause Device before after is = tt

elsewhere_not : (stop : Stop) → IsElsewhere (Some stop) → IsOfSink (Some stop) → ⊥
elsewhere_not (Memory _) is of = of
elsewhere_not Writing is of = is
elsewhere_not Device is of = of

module _ {K : Type 0} (written : K → Option (List ℕ)) (finished count : K → ℕ) where
  -- neither journal nor sink changed
  pub sink_still : (sink : K) (gathered : List ℕ) (before after : List Entry) (stop : Option Stop) → IsGathered stop → after ≡ before → SinkGoesOn written count sink sink gathered gathered before after stop
  sink_still sink gathered before after stop is same = record {
    piece = [];
    text_is = ap text same ∙ sym (append-nil (text before));
    on = λ _. empty_piece (written sink) gathered;
    part = λ of. absurd (not_both stop is of);
    cause = counted_still stop (count sink) is;
  }

  -- a line was gathered
  pub sink_line : (old new : K) (gathered later piece : List ℕ) (before after : List Entry) → text after ≡ text before ++ piece → GoesOn piece (written old) (written new) gathered later → count new ≡ count old
      → SinkGoesOn written count old new gathered later before after None
  sink_line old new gathered later piece before after is on counted = record {
    piece = piece;
    text_is = is;
    on = λ _. on;
    part = λ of. absurd of;
    cause = counted;
  }

  -- the sink failed
  pub sink_lost : (old new : K) (gathered later piece : List ℕ) (before after : List Entry) → text after ≡ text before ++ piece → PutsPart (written old) (written new) (gathered ++ piece) → Rose (count old) (count new)
      → SinkGoesOn written count old new gathered later before after (Some Writing)
  sink_lost old new gathered later piece before after is part rose = record {
    piece = piece;
    text_is = is;
    on = λ of. absurd of;
    part = λ _. part;
    cause = rose;
  }

  counted_then : (stop : Option Stop) (before mid end : ℕ) → mid ≡ before → CountsWriting stop mid end → CountsWriting stop before end
  counted_then stop before mid end same cause = subst (λ (n : ℕ). CountsWriting stop n end) same cause

  -- one part behind another
  pub sink_then : (old mid new : K) (gathered between later : List ℕ) (before journal after : List Entry) (stop : Option Stop) → SinkGoesOn written count old mid gathered between before journal None
      → SinkGoesOn written count mid new between later journal after stop → SinkGoesOn written count old new gathered later before after stop
  sink_then old mid new gathered between later before journal after stop one two = record {
    piece = one.piece ++ two.piece;
    text_is = two.text_is ∙ ap (λ (t : List ℕ). t ++ two.piece) one.text_is ∙ append_assoc (text before) one.piece two.piece;
    on = λ is. goes_then one.piece two.piece (written old) (written mid) (written new) gathered between later (one.on tt) (two.on is);
    part = λ is. part_then one.piece two.piece (written old) (written mid) (written new) gathered between (one.on tt) (two.part is);
    cause = counted_then stop (count old) (count mid) (count new) one.cause two.cause;
  }

  -- ---- the end

  -- all was put and finished
  pub ends_well : (old new : K) (gathered tail : List ℕ) (ran : Option Stop) → ran ≡ None → PutsAll (written old) (written new) (gathered ++ tail)
      → ((bytes : List ℕ) → written old ≡ Some bytes → finished new ≡ length (bytes ++ (gathered ++ tail))) → count new ≡ count old → EndsSink written finished count old new gathered tail ran None
  ends_well old new gathered tail ran is all whole counted = record {
    why = inl (sym is);
    none = λ of. absurd (subst IsOfSink is of);
    part = λ _. whole_part (gathered ++ tail) (written old) (written new) all;
    all = λ _. all;
    all_finished = λ _. whole;
    part_of_gathered = λ elsewhere. absurd elsewhere;
    whole = λ elsewhere. absurd elsewhere;
    whole_finished = λ elsewhere. absurd elsewhere;
    cause = λ _. counted;
    kept = λ elsewhere. absurd elsewhere;
  }

  -- what was gathered was put, as far as the sink took it
  pub ends_elsewhere : (old new : K) (gathered tail : List ℕ) (ran : Option Stop) (stop : Stop) → ran ≡ Some stop → IsElsewhere (Some stop) → (¬ (Rose (count old) (count new)) → PutsAll (written old) (written new) gathered)
      → (¬ (Rose (count old) (count new)) → FinishesAll (written old) (finished new) gathered) → PutsPart (written old) (written new) gathered
      → (finished new ≡ finished old) ⊎ FinishesAll (written old) (finished new) gathered → EndsSink written finished count old new gathered tail ran (Some stop)
  ends_elsewhere old new gathered tail ran stop is elsewhere whole whole_finished part kept = record {
    why = inl (sym is);
    none = λ of. absurd (elsewhere_not stop elsewhere (subst IsOfSink is of));
    part = λ _. part_longer tail (written old) (written new) gathered part;
    all = λ done. absurd done;
    all_finished = λ done. absurd done;
    part_of_gathered = λ _. part;
    whole = λ _. whole;
    whole_finished = λ _. whole_finished;
    cause = λ _. elsewhere_cause stop (count old) (count new) elsewhere;
    kept = λ _. kept;
  }

  -- ---- the whole run

  done_before : (before after : Option Stop) → (after ≡ before) ⊎ ((before ≡ None) × (after ≡ Some Writing)) → IsDone after → IsDone before
  done_before before after why done = ⊎_elim (λ same. subst IsDone same done) (λ both. absurd (subst IsDone both.1 done)) why

  gathered_where : (before after : Option Stop) → (after ≡ before) ⊎ ((before ≡ None) × (after ≡ Some Writing)) → (IsDone after ⊎ IsElsewhere after) → IsGathered before
  gathered_where None after why is = tt
  gathered_where (Some (Memory _)) after why is = tt
  gathered_where (Some Device) after why is = tt
  gathered_where (Some Writing) after why is =
      ⊎_elim (λ (same : after ≡ Some Writing). absurd (⊎_elim (λ done. subst IsDone same done) (λ other. subst IsElsewhere same other) is)) (λ both. let never : Some Writing ≡ None = both.0 in absurd (cc never)) why

  -- what was put of a run that began with nothing gathered, with this tail behind its text
  module _ (old mid new : K) (gathered later tail : List ℕ) (journal longer : List Entry) (before after : Option Stop) (none : gathered ≡ []) (first : text journal ≡ []) (run : SinkGoesOn written count old mid gathered later journal longer before)
      (end : EndsSink written finished count mid new later tail before after) where
    is_text : gathered ++ run.piece ≡ text longer
    is_text = ap (λ (g : List ℕ). g ++ run.piece) none ∙ sym (run.text_is ∙ ap (λ (t : List ℕ). t ++ run.piece) first)

    divided : IsGathered before → (bytes : List ℕ) → written old ≡ Some bytes → IsDivided bytes (text longer) (written mid) later
    divided is bytes told = let was = run.on is bytes told in record { done = was.done; put = was.put; rest = was.rest ∙ is_text }

    -- what comes behind the part that was put makes it the whole
    abbrev Completes : List ℕ → List ℕ → Type 0
    Completes rest whole = (done : List ℕ) → done ++ later ≡ text longer → done ++ rest ≡ whole

    alone : Completes later (text longer)
    alone done is = is

    with_tail : Completes (later ++ tail) (text longer ++ tail)
    with_tail done is = sym (append_assoc done later tail) ∙ ap (λ (t : List ℕ). t ++ tail) is

    all_put : (rest whole : List ℕ) → Completes rest whole → IsGathered before → PutsAll (written mid) (written new) rest → PutsAll (written old) (written new) whole
    all_put rest whole completes is all bytes told =
        let was = divided is bytes told in
        all (bytes ++ was.done) was.put ∙ ap Some (all_behind bytes was.done rest whole (completes was.done was.rest))

    all_done : (rest whole : List ℕ) → Completes rest whole → IsGathered before → FinishesAll (written mid) (finished new) rest → FinishesAll (written old) (finished new) whole
    all_done rest whole completes is all bytes told =
        let was = divided is bytes told in
        all (bytes ++ was.done) was.put ∙ ap length (all_behind bytes was.done rest whole (completes was.done was.rest))

    some_put : (rest whole : List ℕ) → Completes rest whole → IsGathered before → PutsPart (written mid) (written new) rest → PutsPart (written old) (written new) whole
    some_put rest whole completes is some bytes told =
        let was = divided is bytes told in
        part_behind bytes was.done rest whole (written new) (completes was.done was.rest) (some (bytes ++ was.done) was.put)

    ahead : IsGathered before → PutsPart (written old) (written new) (text longer ++ tail)
    ahead is = some_put (later ++ tail) (text longer ++ tail) with_tail is (end.part is)

    part_put : (stop : Option Stop) → stop ≡ before → PutsPart (written old) (written new) (text longer ++ tail)
    part_put None is = ahead (subst IsGathered is tt)
    part_put (Some (Memory _)) is = ahead (subst IsGathered is tt)
    part_put (Some Device) is = ahead (subst IsGathered is tt)
    part_put (Some Writing) is =
        let of : IsOfSink before = subst IsOfSink is tt in
        let some : PutsPart (written old) (written mid) (text longer) = subst (PutsPart (written old) (written mid)) is_text (run.part of) in
        subst (λ (now : K). PutsPart (written old) (written now) (text longer ++ tail)) (sym (end.none of)) (part_longer tail (written old) (written mid) (text longer) some)

    stood : IsGathered before → count mid ≡ count old
    stood is = counted_mid before is run.cause
      where
        counted_mid : (stop : Option Stop) → IsGathered stop → CountsWriting stop (count old) (count mid) → count mid ≡ count old
        counted_mid None is cause = cause
        counted_mid (Some (Memory _)) is cause = cause
        counted_mid (Some Device) is cause = cause
        counted_mid (Some Writing) is cause = absurd is

    counts : (stop : Option Stop) → stop ≡ before → CountsSink after (count old) (count new)
    counts None is = subst (λ (n : ℕ). CountsSink after n (count new)) (stood (subst IsGathered is tt)) (end.cause (subst IsGathered is tt))
    counts (Some (Memory _)) is = subst (λ (n : ℕ). CountsSink after n (count new)) (stood (subst IsGathered is tt)) (end.cause (subst IsGathered is tt))
    counts (Some Device) is = subst (λ (n : ℕ). CountsSink after n (count new)) (stood (subst IsGathered is tt)) (end.cause (subst IsGathered is tt))
    counts (Some Writing) is =
        let of : IsOfSink before = subst IsOfSink is tt in
        let rose : CountsWriting before (count old) (count mid) = run.cause in
        let stops : after ≡ Some Writing = ⊎_elim (λ same. same ∙ sym is) (λ both. both.1) end.why in
        subst (λ (s : Option Stop). CountsSink s (count old) (count new)) (sym stops)
        (subst (λ (now : K). Rose (count old) (count now)) (sym (end.none of)) (subst (λ (s : Option Stop). CountsWriting s (count old) (count mid)) (sym is) rose))

    pub wrote_run : WroteRun written finished count old new (text longer) tail after
    wrote_run = record {
      part = part_put before refl;
      all = λ done. all_put (later ++ tail) (text longer ++ tail) with_tail (gathered_where before after end.why (inl done)) (end.all done);
      all_finished = λ done. all_done (later ++ tail) (text longer ++ tail) with_tail (gathered_where before after end.why (inl done)) (end.all_finished done);
      part_of_text = λ elsewhere. some_put later (text longer) alone (gathered_where before after end.why (inr elsewhere)) (end.part_of_gathered elsewhere);
      whole = λ elsewhere stands.
          let is = gathered_where before after end.why (inr elsewhere) in
          all_put later (text longer) alone is (end.whole elsewhere (λ rose. stands (subst (λ (n : ℕ). Rose n (count new)) (stood is) rose)));
      whole_finished = λ elsewhere stands some.
          let is = gathered_where before after end.why (inr elsewhere) in
          all_done later (text longer) alone is (end.whole_finished elsewhere (λ rose. stands (subst (λ (n : ℕ). Rose n (count new)) (stood is) rose)));
      cause = counts before refl;
    }

  -- nothing was run
  pub wrote_none : (sink : K) (journal : List Entry) (tail : List ℕ) → text journal ≡ [] → WroteRun written finished count sink sink (text journal) tail (Some (Memory no_memory))
  wrote_none sink journal tail none = record {
    part = λ bytes told. no_part bytes (text journal ++ tail) (written sink) told;
    all = λ done. absurd done;
    all_finished = λ done. absurd done;
    part_of_text = λ elsewhere bytes told. no_part bytes (text journal) (written sink) told;
    whole = λ elsewhere stands bytes told. told ∙ ap Some (sym (append-nil bytes) ∙ ap (λ (t : List ℕ). bytes ++ t) (sym none));
    whole_finished = λ elsewhere stands some. absurd (some none);
    cause = tt;
  }

  -- ---- replies that are written at the end

  -- what went well goes on so where the run had stopped elsewhere
  pub sink_as : (old new : K) (gathered later : List ℕ) (before after : List Entry) (stop : Option Stop) → IsGathered stop → SinkGoesOn written count old new gathered later before after None → SinkGoesOn written count old new gathered later before after stop
  sink_as old new gathered later before after stop is run = record {
    piece = run.piece;
    text_is = run.text_is;
    on = λ _. run.on tt;
    part = λ of. absurd (not_both stop is of);
    cause = counted_then stop (count old) (count new) (count new) run.cause (counted_still stop (count new) is);
  }

  -- the sink failed while they were put
  pub wrote_lost : (old new : K) (gathered later tail : List ℕ) (journal : List Entry) (stop : Stop) → gathered ≡ [] → SinkGoesOn written count old new gathered later [] journal (Some Writing) → WroteRun written finished count old new (text journal) tail (Some stop)
  wrote_lost old new gathered later tail journal stop none run = record {
    part = part_longer tail (written old) (written new) (text journal) some;
    all = λ done. absurd done;
    all_finished = λ done. absurd done;
    part_of_text = λ elsewhere. some;
    whole = λ elsewhere stands. absurd (stands run.cause);
    whole_finished = λ elsewhere stands. absurd (stands run.cause);
    cause = lost stop run.cause;
  }
    where
      some : PutsPart (written old) (written new) (text journal)
      some = subst (PutsPart (written old) (written new)) (ap (λ (g : List ℕ). g ++ run.piece) none ∙ sym run.text_is) (run.part tt)

      lost : (stop : Stop) → Rose (count old) (count new) → CountsSink (Some stop) (count old) (count new)
      lost (Memory _) rose = tt
      lost Writing rose = rose
      lost Device rose = tt
