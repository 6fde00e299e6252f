-- What a trial writes, by what is put behind the line of the digest and by the run over the sink that keeps it.
use Rattle.std.proofs.Common.{◌≡◌, ⊎_elim, ◌<◌, arith, ℕ, length, List, [], ◌++◌, Option, Some, None, Result, Ok, Err, OnErr, OnOk, refl, ap, sym, subst, ◌∙◌, append_assoc}
use Rattle.std.proofs.lemmas.List.{append-nil}
use Rattle.std.proofs.lemmas.Option.{same_Some}
use Rattle.sha2.specs.Sha256.{sha256}
use Rattle.pm_types.specs.Counts.{Rose, greatest_count}
use Rattle.pm_serial.specs.Causes.{CountsSink}
use Rattle.pm_serial.specs.Output.Writing.{GoesOn, PutsAll, PutsPart}
use Rattle.pm_serial.proofs.OutputLemmas.Gathering.{part_behind, part_longer}
use Rattle.pm_disk.specs.declared.disk.Disk as disk
use Rattle.pm_engine.specs.declared.engine.Engine.{Engine}
use Rattle.pm_engine.specs.Events.Running.{RunsOnDisk}
use Rattle.pm_engine.specs.declared.events.stop.Stop.{Stop}
use Rattle.pm_engine.specs.declared.events.stop.Stop.TheVariants.{Memory, Writing, Device}
use Rattle.pm_runs.specs.Trial.Digested.{DigestState}
use Rattle.pm_runs.specs.Trial.Trials.{WroteTrial, digest_line}

-- what follows from what holds where a call went well, and where it failed
pub on_ok : {T E : Type 0} (P Q : Type 0) (result : Result T E) → (P → Q) → OnOk result P → OnOk result Q
on_ok P Q (Ok x) goes p = goes p
on_ok P Q (Err e) goes p = tt

pub on_err : {T E : Type 0} (P Q : Type 0) (result : Result T E) → (P → Q) → OnErr result P → OnErr result Q
on_err P Q (Ok x) goes p = tt
on_err P Q (Err e) goes p = goes p

pub where_failed : {T E : Type 0} (P : Type 0) (result : Result T E) → P → OnErr result P
where_failed P (Ok x) p = tt
where_failed P (Err e) p = p

-- ---- one piece behind another

-- what comes behind a part that was put, with this behind it
behind : (bytes done later piece tail : List ℕ) → done ++ later ≡ piece → (bytes ++ done) ++ (later ++ tail) ≡ bytes ++ (piece ++ tail)
behind bytes done later piece tail is = append_assoc bytes done (later ++ tail) ∙ ap (λ (t : List ℕ). bytes ++ t) (sym (append_assoc done later tail) ∙ ap (λ (t : List ℕ). t ++ tail) is)

module _ (piece tail gathered later : List ℕ) (told mid : Option (List ℕ)) (none : gathered ≡ []) (on : GoesOn piece told mid gathered later) where
  whole : (done : List ℕ) → done ++ later ≡ gathered ++ piece → done ++ later ≡ piece
  whole done is = is ∙ ap (λ (t : List ℕ). t ++ piece) none

  pub all_put : (now : Option (List ℕ)) → PutsAll mid now (later ++ tail) → PutsAll told now (piece ++ tail)
  all_put now all bytes known =
      let was = on bytes known in
      all (bytes ++ was.done) was.put ∙ ap Some (behind bytes was.done later piece tail (whole was.done was.rest))

  pub all_finished : (finished : ℕ) → ((bytes : List ℕ) → mid ≡ Some bytes → finished ≡ length (bytes ++ (later ++ tail))) → (bytes : List ℕ) → told ≡ Some bytes → finished ≡ length (bytes ++ (piece ++ tail))
  all_finished finished all bytes known =
      let was = on bytes known in
      all (bytes ++ was.done) was.put ∙ ap length (behind bytes was.done later piece tail (whole was.done was.rest))

  pub some_put : (now : Option (List ℕ)) → PutsPart mid now (later ++ tail) → PutsPart told now (piece ++ tail)
  some_put now some bytes known =
      let was = on bytes known in
      part_behind bytes was.done (later ++ tail) (piece ++ tail) now (sym (append_assoc was.done later tail) ∙ ap (λ (t : List ℕ). t ++ tail) (whole was.done was.rest)) (some (bytes ++ was.done) was.put)

-- nothing was put but a part of what was gathered, which is none
pub part_of_none : (whole gathered : List ℕ) (told now : Option (List ℕ)) → gathered ≡ [] → PutsPart told now gathered → PutsPart told now whole
part_of_none whole gathered told now none part = part_longer whole told now [] (subst (PutsPart told now) none part)

-- ---- the sink

-- the digest of what a run put into its sink is that of its text
pub digest_is : (old new : DigestState) (text digest : List ℕ) → old.written ≡ [] → PutsAll (Some old.written) (Some new.written) (text ++ []) → digest ≡ sha256 new.written → digest ≡ sha256 text
digest_is old new text digest none all is =
    let put : new.written ≡ old.written ++ (text ++ []) = same_Some new.written (old.written ++ (text ++ [])) (all old.written refl) in
    is ∙ ap sha256 (put ∙ ap (λ (w : List ℕ). w ++ (text ++ [])) none ∙ append-nil text)

module _ {K : Type 0} (written : K → Option (List ℕ)) (finished count : K → ℕ) where
  pub tried_well : (old new : K) (text tail line : List ℕ) → line ≡ digest_line text → PutsAll (written old) (written new) (line ++ tail)
      → ((bytes : List ℕ) → written old ≡ Some bytes → finished new ≡ length (bytes ++ (line ++ tail))) → count new ≡ count old → WroteTrial written finished count old new text tail None
  tried_well old new text tail line is all whole counted = record {
    all = λ _. subst (λ (l : List ℕ). PutsAll (written old) (written new) (l ++ tail)) is all;
    all_finished = λ _ bytes known. whole bytes known ∙ ap (λ (l : List ℕ). length (bytes ++ (l ++ tail))) is;
    part = λ of. absurd of;
    none = λ elsewhere. absurd elsewhere;
    cause = counted;
  }

  pub tried_badly : (old new : K) (text tail line : List ℕ) → line ≡ digest_line text → PutsPart (written old) (written new) (line ++ tail) → Rose (count old) (count new)
      → WroteTrial written finished count old new text tail (Some Writing)
  tried_badly old new text tail line is part rose = record {
    all = λ done. absurd done;
    all_finished = λ done. absurd done;
    part = λ _. subst (λ (l : List ℕ). PutsPart (written old) (written new) (l ++ tail)) is part;
    none = λ elsewhere. absurd elsewhere;
    cause = rose;
  }

  -- where it stopped before that, of a run over a sink that cannot fail
  pub tried_none : (sink : K) (text tail : List ℕ) (stop : Stop) → CountsSink (Some stop) 0 0 → WroteTrial written finished count sink sink text tail (Some stop)
  tried_none sink text tail (Memory _) counts = record { all = λ done. absurd done; all_finished = λ done. absurd done; part = λ of. absurd of; none = λ elsewhere. refl; cause = tt }
  tried_none sink text tail Writing counts = absurd (⊎_elim (λ (less : 0 < 0). omega (arith, less)) (λ (both : (0 ≡ greatest_count) × (0 ≡ greatest_count)). let first = both.0 in omega (arith, first)) counts)
  tried_none sink text tail Device counts = record { all = λ done. absurd done; all_finished = λ done. absurd done; part = λ of. absurd of; none = λ elsewhere. refl; cause = tt }

module _ {D F : Type 0} {g : disk.Ghosts D} where
  -- that the sink failed behind the last event says nothing of the disk
  pub disk_unwritten : (old new : Engine D F g) → RunsOnDisk old new None → RunsOnDisk old new (Some Writing)
  disk_unwritten old new ran = record { leaves = ran.leaves; last = ran.last; going = ran.going; cause = ran.cause; past = ran.past; idle = ran.idle }
