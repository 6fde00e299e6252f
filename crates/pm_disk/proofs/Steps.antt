-- One call of a disk in memory.
use Rattle.std.proofs.Common.{◌≡◌, ◌⊎◌, inl, inr, ⊎_elim, ℕ, zero, suc, ◌+◌, ◌≤◌, Bool, true, false, cond, ◌&&◌, List, [], ◌∷◌, ◌++◌, length, take, refl, sym, ◌∙◌, ap, subst, arith}
use Rattle.std.specs.Prelude.{IsTrue}
use Rattle.std.specs.List.{list_all}
use Rattle.std.proofs.lemmas.List.{length_push, take_at, take_all, take-take}
use Rattle.pm_disk.specs.Images.{IsBytes}
use Rattle.pm_disk.specs.Writes.{written}
use Rattle.pm_disk.specs.Disk.{Elapses}
use Rattle.pm_disk.specs.Replay.{Held, is_listed, after, held_after, IsImageAfter}
use Rattle.pm_disk.specs.History.{HadSince, IsMarked, LeftSince}
use Rattle.pm_disk.specs.Sound.{IsSound, ArePlaced, is_placed, shown}
use Rattle.pm_disk.specs.Outcomes.{IsGrown, IsWritten, IsQuiet}
use Rattle.pm_disk.specs.declared.call.DiskCall.{DiskCall}
use Rattle.pm_disk.specs.declared.call.DiskCall.TheVariants.{Len, Read, Write, Sync}
use Rattle.pm_disk.proofs.ReplayLemmas.{held_push, sound_write, sound_sync}

-- a call that writes nothing changes no contents
quiet_contents : (fails : Bool) (call : DiskCall) (held : Held) → IsQuiet call → (after fails call held).contents ≡ held.contents
quiet_contents fails Len held quiet = refl
quiet_contents fails (Read at len) held quiet = refl
quiet_contents fails (Write at bytes) held quiet = absurd quiet
quiet_contents true Sync held quiet = refl
quiet_contents false Sync held quiet = refl

sound_quiet : (fails : Bool) (call : DiskCall) (held : Held) → IsQuiet call → IsSound held → IsSound (after fails call held)
sound_quiet fails Len held quiet sound = sound
sound_quiet fails (Read at len) held quiet sound = sound
sound_quiet fails (Write at bytes) held quiet sound = absurd quiet
sound_quiet fails Sync held quiet sound = sound_sync fails held sound

both : (a b b' : Bool) → (IsTrue b → IsTrue b') → IsTrue (a && b) → IsTrue (a && b')
both true b b' more were = more were
both false b b' more were = were

placed_push : (calls : List DiskCall) (call : DiskCall) → ArePlaced calls → IsTrue (is_placed call) → ArePlaced (calls ++ call ∷ [])
placed_push [] call were is = both (is_placed call) true true (λ t. t) (and_true (is_placed call) is)
  where
    and_true : (a : Bool) → IsTrue a → IsTrue (a && true)
    and_true true is = is
    and_true false is = is
placed_push (first ∷ calls) call were is = both (is_placed first) (list_all is_placed calls) (list_all is_placed (calls ++ call ∷ [])) (λ rest. placed_push calls call rest is) were

pub quiet_placed : (call : DiskCall) → IsQuiet call → IsTrue (is_placed call)
quiet_placed Len quiet = refl
quiet_placed (Read at len) quiet = refl
quiet_placed (Write at bytes) quiet = absurd quiet
quiet_placed Sync quiet = refl

marked_more : (marks : List ℕ) (n m : ℕ) → n ≤ m → IsMarked marks n → IsMarked (n ∷ marks) m
marked_more marks n m le marked zero = le
marked_more marks n m le marked (suc i) = let was = marked i in omega arith

module _ (start fails : List ℕ) (calls : List DiskCall) where
  abbrev held : List DiskCall → Held
  held list = held_after start fails list

  abbrev fails_here : Bool
  fails_here = is_listed fails (length calls + 1)

  -- the list is no shorter
  pub no_shorter : (call : DiskCall) (calls' : List DiskCall) → IsGrown call calls calls' → length calls ≤ length calls'
  no_shorter call calls' (inl same) = omega (arith, ap length same)
  no_shorter call calls' (inr more) = omega (arith, ap length more, length_push calls call)

  -- and begins as it was
  pub begins : (call : DiskCall) (calls' : List DiskCall) → IsGrown call calls calls' → take (length calls) calls' ≡ calls
  begins call calls' (inl same) = ap (λ (list : List DiskCall). take (length calls) list) same ∙ take_all (length calls) calls (omega arith)
  begins call calls' (inr more) = ap (λ (list : List DiskCall). take (length calls) list) more ∙ take_at calls (call ∷ []) (length calls) refl

  -- what the disk holds is the same, or what the call made of it
  pub held_step : (call : DiskCall) (calls' : List DiskCall) → IsGrown call calls calls' → (held calls' ≡ held calls) ⊎ (held calls' ≡ after fails_here call (held calls))
  held_step call calls' (inl same) = inl (ap held same)
  held_step call calls' (inr more) = inr (ap held more ∙ held_push start fails calls call)

  pub quiet_same : (call : DiskCall) (calls' : List DiskCall) → IsQuiet call → IsGrown call calls calls' → (held calls').contents ≡ (held calls).contents
  quiet_same call calls' quiet grown =
      ⊎_elim (λ same. ap (λ (h : Held). h.contents) same) (λ new. ap (λ (h : Held). h.contents) new ∙ quiet_contents fails_here call (held calls) quiet) (held_step call calls' grown)

  pub quiet_sound : (call : DiskCall) (calls' : List DiskCall) → IsQuiet call → IsGrown call calls calls' → IsSound (held calls) → IsSound (held calls')
  quiet_sound call calls' quiet grown sound =
      ⊎_elim (λ same. subst IsSound (sym same) sound) (λ new. subst IsSound (sym new) (sound_quiet fails_here call (held calls) quiet sound)) (held_step call calls' grown)

  pub grown_placed : (call : DiskCall) (calls' : List DiskCall) → IsTrue (is_placed call) → IsGrown call calls calls' → ArePlaced calls → ArePlaced calls'
  grown_placed call calls' is grown were =
      ⊎_elim (λ same. subst ArePlaced (sym same) were) (λ more. subst ArePlaced (sym more) (placed_push calls call were is)) grown

  pub grown_marked : (call : DiskCall) (calls' : List DiskCall) (marks marks' : List ℕ) (mark : ℕ) → marks' ≡ mark ∷ marks → mark ≡ length calls → IsGrown call calls calls' → IsMarked marks (length calls)
      → IsMarked marks' (length calls')
  grown_marked call calls' marks marks' mark is same grown marked =
      subst (λ (list : List ℕ). IsMarked list (length calls')) (sym is) (marked_more_at mark same)
    where
      marked_more_at : (m : ℕ) → m ≡ length calls → IsMarked (m ∷ marks) (length calls')
      marked_more_at m e = subst (λ (n : ℕ). IsMarked (n ∷ marks) (length calls')) (sym e) (marked_more marks (length calls) (length calls') (no_shorter call calls' grown) marked)

  -- a recorded call left this at its end, or such a past moment did
  had_map : (images images' : ℕ → List ℕ → Type 0) (n : ℕ) → ((mark : ℕ) (image : List ℕ) → mark ≤ n → images mark image → images' mark image)
      → (marks : List ℕ) → IsMarked marks n → (t : ℕ) (image : List ℕ) → HadSince images marks t image → HadSince images' marks t image
  had_map images images' n goes [] marked t image had = had
  had_map images images' n goes (mark ∷ marks) marked t image (inl here) = inl (here.0, goes mark image (marked 0) here.1)
  had_map images images' n goes (mark ∷ marks) marked t image (inr there) = inr (had_map images images' n goes marks (λ i. marked (suc i)) t image there)

  module _ (calls' : List DiskCall) (call : DiskCall) (grown : IsGrown call calls calls') (marks : List ℕ) (marked : IsMarked marks (length calls)) where
    abbrev images : List DiskCall → ℕ → List ℕ → Type 0
    images list mark = IsImageAfter start fails (take mark list)

    same_front : (mark : ℕ) → mark ≤ length calls → take mark calls' ≡ take mark calls
    same_front mark le = sym (take-take mark (length calls) calls' le) ∙ ap (λ (list : List DiskCall). take mark list) (begins call calls' grown)

    to_new : (mark : ℕ) (image : List ℕ) → mark ≤ length calls → images calls mark image → images calls' mark image
    to_new mark image le is = subst (λ (list : List DiskCall). IsImageAfter start fails list image) (sym (same_front mark le)) is

    to_old : (mark : ℕ) (image : List ℕ) → mark ≤ length calls → images calls' mark image → images calls mark image
    to_old mark image le is = subst (λ (list : List DiskCall). IsImageAfter start fails list image) (same_front mark le) is

    whole : (image : List ℕ) → images calls (length calls) image → IsImageAfter start fails calls image
    whole image is = subst (λ (list : List DiskCall). IsImageAfter start fails list image) (take_all (length calls) calls (omega arith)) is

    whole_back : (image : List ℕ) → IsImageAfter start fails calls image → images calls (length calls) image
    whole_back image is = subst (λ (list : List DiskCall). IsImageAfter start fails list image) (sym (take_all (length calls) calls (omega arith))) is

    nothing_else : (t : ℕ) (image : List ℕ) → t ≤ length marks → LeftSince start fails calls' (length calls ∷ marks) t image → LeftSince start fails calls marks t image ⊎ IsImageAfter start fails calls' image
    nothing_else t image le (inl now) = inr now
    nothing_else t image le (inr (inl here)) = inl (inl (whole image (to_old (length calls) image (omega arith) here.1)))
    nothing_else t image le (inr (inr there)) = inl (inr (had_map (images calls') (images calls) (length calls) to_old marks marked t image there))

    keeps : (t : ℕ) (image : List ℕ) → t ≤ length marks → LeftSince start fails calls marks t image → LeftSince start fails calls' (length calls ∷ marks) t image
    keeps t image le (inl now) = inr (inl (le, to_new (length calls) image (omega arith) (whole_back image now)))
    keeps t image le (inr had) = inr (inr (had_map (images calls) (images calls') (length calls) to_new marks marked t image had))

    -- the clock goes on by one, and the images at that moment join the others
    pub elapses_one : Elapses (length marks) (length (length calls ∷ marks)) (LeftSince start fails calls marks) (LeftSince start fails calls' (length calls ∷ marks)) (IsImageAfter start fails calls')
    elapses_one = record { later = omega arith; nothing_else = nothing_else; keeps = keeps }

  -- a write shows what the list says
  pub write_shows : (at : ℕ) (bytes : List ℕ) (calls' : List DiskCall) (shown shown' : List ℕ) → IsWritten fails_here at bytes calls calls' shown shown' → shown ≡ (held calls).contents → shown' ≡ (held calls').contents
  write_shows at bytes calls' shown shown' (inl none) were = none.1 ∙ were ∙ sym (ap (λ (list : List DiskCall). (held list).contents) none.0)
  write_shows at bytes calls' shown shown' (inr one) were =
      one.1 ∙ at_flag fails_here ∙ sym (ap (λ (h : Held). h.contents) (ap held one.0 ∙ held_push start fails calls (Write at bytes)))
    where
      at_flag : (b : Bool) → cond b shown (written at bytes shown) ≡ (after b (Write at bytes) (held calls)).contents
      at_flag true = were
      at_flag false = ap (written at bytes) were

  pub written_grown : (at : ℕ) (bytes : List ℕ) (calls' : List DiskCall) (shown shown' : List ℕ) → IsWritten fails_here at bytes calls calls' shown shown' → IsGrown (Write at bytes) calls calls'
  written_grown at bytes calls' shown shown' (inl none) = inl none.0
  written_grown at bytes calls' shown shown' (inr one) = inr one.0

  pub write_sound : (at : ℕ) (bytes : List ℕ) (calls' : List DiskCall) → IsBytes bytes → IsGrown (Write at bytes) calls calls' → IsSound (held calls) → IsSound (held calls')
  write_sound at bytes calls' new grown sound =
      ⊎_elim (λ same. subst IsSound (sym same) sound) (λ more. subst IsSound (sym more) (sound_write fails_here at bytes (held calls) new sound)) (held_step (Write at bytes) calls' grown)
