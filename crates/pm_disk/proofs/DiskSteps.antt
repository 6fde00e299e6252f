-- What one call does to the images and the clock of a disk in memory.
use Rattle.std.proofs.Common.{◌≡◌, ◌⊎◌, inl, inr, ⊎_elim, ℕ, ◌+◌, Bool, true, false, ◌||◌, List, [], ◌∷◌, ◌++◌, length, Some, Result, Ok, Err, refl, sym, ◌∙◌, ap, subst}
use Rattle.std.specs.Prelude.{OnOk, OnErr}
use Rattle.pm_disk.specs.Writes.{written, Torn, TornIfTold}
use Rattle.pm_disk.specs.Disk.{SameImages, OnlyTorn, AllTorn, Elapses}
use Rattle.pm_disk.specs.Replay.{Held, is_listed, after, held_after, IsImageAfter}
use Rattle.pm_disk.specs.History.{IsMarked, LeftSince}
use Rattle.pm_disk.specs.Outcomes.{IsGrown, IsLook}
use Rattle.pm_disk.specs.MemDisk.{start_of, fails_of, calls_of, held_of, contents_of, MayLeave, fails_next, Answers}
use Rattle.pm_disk.specs.declared.call.DiskCall.{DiskCall}
use Rattle.pm_disk.specs.declared.call.DiskCall.TheVariants.{Len, Read, Write, Sync}
use Rattle.pm_disk.specs.declared.mem_disk.MemDisk.{MemDisk}
use Rattle.pm_disk.proofs.WriteLemmas.{torn_refl}
use Rattle.pm_disk.proofs.ImageLemmas.{only_fresh}
use Rattle.pm_disk.proofs.ReplayLemmas.{held_push, Left, write_only_torn, write_all_torn, write_none_lost, sync_no_more}
use Rattle.pm_disk.proofs.Steps.{elapses_one, held_step}

-- the clock, over the parts of a disk
pub elapses : (start fails : List ℕ) (calls : List DiskCall) (marks start' fails' : List ℕ) (calls' : List DiskCall) (marks' : List ℕ) (call : DiskCall)
    → start' ≡ start → fails' ≡ fails → marks' ≡ length calls ∷ marks → IsGrown call calls calls' → IsMarked marks (length calls)
    → Elapses (length marks) (length marks') (LeftSince start fails calls marks) (LeftSince start' fails' calls' marks') (IsImageAfter start' fails' calls')
elapses start fails calls marks start' fails' calls' marks' call s f m grown marked =
    subst (λ (it : List ℕ). Elapses (length marks) (length marks') (LeftSince start fails calls marks) (LeftSince it fails' calls' marks') (IsImageAfter it fails' calls')) (sym s)
    (subst (λ (it : List ℕ). Elapses (length marks) (length marks') (LeftSince start fails calls marks) (LeftSince start it calls' marks') (IsImageAfter start it calls')) (sym f)
    (subst (λ (it : List ℕ). Elapses (length marks) (length it) (LeftSince start fails calls marks) (LeftSince start fails calls' it) (IsImageAfter start fails calls')) (sym m)
    (elapses_one start fails calls calls' call grown marks marked)))

look_same : (fails : Bool) (call : DiskCall) (held : Held) → IsLook call → after fails call held ≡ held
look_same fails Len held look = refl
look_same fails (Read at len) held look = refl
look_same fails (Write at bytes) held look = absurd look
look_same fails Sync held look = absurd look

-- a call that only looks leaves the images as they were
pub look_images : (start fails : List ℕ) (calls calls' : List DiskCall) (call : DiskCall) → IsGrown call calls calls' → IsLook call → SameImages (IsImageAfter start fails calls) (IsImageAfter start fails calls')
look_images start fails calls calls' call grown look = record { no_more = λ image is. subst (λ (h : Held). Left h image) same is; no_fewer = λ image is. subst (λ (h : Held). Left h image) (sym same) is }
  where
    same : held_after start fails calls' ≡ held_after start fails calls
    same = ⊎_elim (λ e. e) (λ e. e ∙ look_same (is_listed fails (length calls + 1)) call (held_after start fails calls) look) (held_step start fails calls call calls' grown)

or_false : (a : Bool) → (a || false) ≡ a
or_false true = refl
or_false false = refl

module _ (old new : MemDisk) where
  -- the same disk, of which the list has grown
  held_same : start_of new ≡ start_of old → fails_of new ≡ fails_of old → calls_of new ≡ calls_of old → held_of new ≡ held_of old
  held_same s f c = λ i. held_after (s i) (f i) (c i)

  held_more : (call : DiskCall) → start_of new ≡ start_of old → fails_of new ≡ fails_of old → calls_of new ≡ calls_of old ++ call ∷ [] → held_of new ≡ after (fails_next old) call (held_of old)
  held_more call s f c = (λ i. held_after (s i) (f i) (c i)) ∙ held_push (start_of old) (fails_of old) (calls_of old) call

  same_images : held_of new ≡ held_of old → SameImages (MayLeave old) (MayLeave new)
  same_images e = record { no_more = λ image is. subst (λ (h : Held). Left h image) e is; no_fewer = λ image is. subst (λ (h : Held). Left h image) (sym e) is }

  grown_of : {T E : Type 0} (fails : Bool) (call : DiskCall) (result : Result T E) → Answers fails call old new result → IsGrown call (calls_of old) (calls_of new)
  grown_of fails call (Ok x) answers = inr answers.answer.1.calls
  grown_of fails call (Err e) answers = ⊎_elim (λ refused. inl refused.calls) (λ noted. inr noted.1.calls) answers.answer

  -- a sync that answered Ok is one of the calls that were not to fail
  synced : {T E : Type 0} (x : T) → Answers {T = T} {E = E} (fails_next old || false) Sync old new (Ok x) → held_of new ≡ after false Sync (held_of old)
  synced x answers =
      held_more Sync answers.start answers.fails_stay answers.answer.1.calls ∙ ap (λ b. after b Sync (held_of old)) (sym (or_false (fails_next old)) ∙ answers.answer.0)

  pub sync_only : {T E : Type 0} (result : Result T E) → Answers (fails_next old || false) Sync old new result → OnOk result ((left : List ℕ) → MayLeave new left → left ≡ contents_of old)
  sync_only (Ok x) answers = λ left is. only_fresh (contents_of old) left (subst (λ (h : Held). Left h left) (synced x answers) is)
  sync_only (Err e) answers = tt

  pub sync_less : {T E : Type 0} (result : Result T E) → Answers (fails_next old || false) Sync old new result → (image : List ℕ) → MayLeave new image → MayLeave old image
  sync_less (Ok x) answers image is =
      sync_no_more false (held_of old) old.sound image (subst (λ (h : Held). Left h image) (synced x answers) is)
  sync_less (Err e) answers image is = elim answers.answer [
    | inl refused ↦ (same_images (held_same answers.start answers.fails_stay refused.calls)).no_more image is
    | inr noted ↦ sync_no_more (fails_next old) (held_of old) old.sound image (subst (λ (h : Held). Left h image) (held_more Sync answers.start answers.fails_stay noted.1.calls) is)
  ]

  pub sync_failed : {T E : Type 0} (result : Result T E) → Answers (fails_next old || false) Sync old new result → OnErr result (SameImages (MayLeave old) (MayLeave new))
  sync_failed (Ok x) answers = tt
  sync_failed (Err e) answers = elim answers.answer [
    | inl refused ↦ same_images (held_same answers.start answers.fails_stay refused.calls)
    | inr noted ↦
        same_images (
        held_more Sync answers.start answers.fails_stay noted.1.calls ∙ ap (λ b. after b Sync (held_of old)) (sym (or_false (fails_next old)) ∙ noted.0)
        )
  ]

  module _ (at : ℕ) (bytes : List ℕ) where
    pub write_done : {T E : Type 0} (result : Result T E) → Answers (fails_next old) (Write at bytes) old new result → OnOk result (Some (contents_of new) ≡ Some (written at bytes (contents_of old)))
    write_done (Ok x) answers =
        ap (λ (h : Held). Some h.contents)
        (held_more (Write at bytes) answers.start answers.fails_stay answers.answer.1.calls ∙ ap (λ b. after b (Write at bytes) (held_of old)) answers.answer.0)
    write_done (Err e) answers = tt

    pub write_undone : {T E : Type 0} (result : Result T E) → Answers (fails_next old) (Write at bytes) old new result → OnErr result (contents_of new ≡ contents_of old)
    write_undone (Ok x) answers = tt
    write_undone (Err e) answers = elim answers.answer [
      | inl refused ↦ ap (λ (h : Held). h.contents) (held_same answers.start answers.fails_stay refused.calls)
      | inr noted ↦
          ap (λ (h : Held). h.contents)
          (held_more (Write at bytes) answers.start answers.fails_stay noted.1.calls ∙ ap (λ b. after b (Write at bytes) (held_of old)) noted.0)
    ]

    pub write_torn : {T E : Type 0} (result : Result T E) → Answers (fails_next old) (Write at bytes) old new result → OnErr result (TornIfTold at (length bytes) (Some (contents_of old)) (Some (contents_of new)))
    write_torn (Ok x) answers = tt
    write_torn (Err e) answers =
        let same : contents_of new ≡ contents_of old = write_undone (Err e) answers in
        record {
          told = λ was is. (contents_of new, refl, subst (λ (it : List ℕ). Torn at (length bytes) was it) (sym (same ∙ some_same is)) (torn_refl at (length bytes) was));
          untold = λ is. cc;
        }
      where
        some_same : {was : List ℕ} → Some (contents_of old) ≡ Some was → contents_of old ≡ was
        some_same is = cc

    step : IsGrown (Write at bytes) (calls_of old) (calls_of new) → start_of new ≡ start_of old → fails_of new ≡ fails_of old → (held_of new ≡ held_of old) ⊎ (held_of new ≡ after (fails_next old) (Write at bytes) (held_of old))
    step (inl same) s f = inl (held_same s f same)
    step (inr more) s f = inr (held_more (Write at bytes) s f more)

    pub only_torn : {T E : Type 0} (result : Result T E) → Answers (fails_next old) (Write at bytes) old new result → OnlyTorn at (length bytes) (MayLeave old) (MayLeave new)
    only_torn result answers image is = elim (step (grown_of (fails_next old) (Write at bytes) result answers) answers.start answers.fails_stay) [
      | inl same ↦ (image, subst (λ (h : Held). Left h image) same is, torn_refl at (length bytes) image)
      | inr more ↦ write_only_torn (fails_next old) at bytes (held_of old) old.sound image (subst (λ (h : Held). Left h image) more is)
    ]

    pub none_lost : {T E : Type 0} (result : Result T E) → Answers (fails_next old) (Write at bytes) old new result → (image : List ℕ) → MayLeave old image → MayLeave new image
    none_lost result answers image is = elim (step (grown_of (fails_next old) (Write at bytes) result answers) answers.start answers.fails_stay) [
      | inl same ↦ subst (λ (h : Held). Left h image) (sym same) is
      | inr more ↦ subst (λ (h : Held). Left h image) (sym more) (write_none_lost (fails_next old) at bytes (held_of old) image is)
    ]

    pub all_torn : {T E : Type 0} (result : Result T E) → Answers (fails_next old) (Write at bytes) old new result → OnOk result (AllTorn at (length bytes) (MayLeave old) (MayLeave new))
    all_torn (Ok x) answers = λ was image is torn new_bytes.
        subst (λ (h : Held). Left h image) (sym (held_more (Write at bytes) answers.start answers.fails_stay answers.answer.1.calls))
        (write_all_torn (fails_next old) at bytes (held_of old) was image is torn new_bytes)
    all_torn (Err e) answers = tt
