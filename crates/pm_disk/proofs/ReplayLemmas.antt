-- What one call more makes of a disk in memory.
use Rattle.std.proofs.Common.{◌≡◌, ℕ, ◌+◌, Bool, true, false, cond, List, [], ◌∷◌, ◌++◌, length, sym, ap, subst, arith}
use Rattle.pm_disk.specs.Images.{Range, IsBytes, IsImage}
use Rattle.pm_disk.specs.Writes.{written}
use Rattle.pm_disk.specs.Disk.{OnlyTorn, AllTorn}
use Rattle.pm_disk.specs.Replay.{Change, Held, fresh, is_listed, after, replay, held_after, is_picked, picked}
use Rattle.pm_disk.specs.Sound.{IsSound}
use Rattle.pm_disk.specs.declared.call.DiskCall.{DiskCall}
use Rattle.pm_disk.specs.declared.call.DiskCall.TheVariants.{Write, Sync}
use Rattle.pm_disk.proofs.WriteLemmas.{torn_written, bytes_written}
use Rattle.pm_disk.proofs.ImageLemmas.{fresh_image, only_fresh, image_torn, image_stays, image_before}

-- the last call comes last
replay_push : (fails : List ℕ) (number : ℕ) (calls : List DiskCall) (call : DiskCall) (held : Held) (last : ℕ) → last ≡ number + length calls
    → replay fails number (calls ++ call ∷ []) held ≡ after (is_listed fails last) call (replay fails number calls held)
replay_push fails number [] call held last is = let same : number ≡ last = omega arith in ap (λ (n : ℕ). after (is_listed fails n) call held) same
replay_push fails number (first ∷ calls) call held last is = replay_push fails (number + 1) calls call (after (is_listed fails number) first held) last (omega arith)

pub held_push : (start fails : List ℕ) (calls : List DiskCall) (call : DiskCall) → held_after start fails (calls ++ call ∷ []) ≡ after (is_listed fails (length calls + 1)) call (held_after start fails calls)
held_push start fails calls call = replay_push fails 1 calls call (fresh start) (length calls + 1) (omega arith)

-- the last change is picked last
picked_push : (pick i : ℕ) (changes : List Change) (at : ℕ) (bytes synced : List ℕ) (last : ℕ) → last ≡ i + length changes
    → picked pick i (changes ++ (at, bytes) ∷ []) synced ≡ cond (is_picked pick last) (written at bytes (picked pick i changes synced)) (picked pick i changes synced)
picked_push pick i [] at bytes synced last is = let same : i ≡ last = omega arith in ap (λ (n : ℕ). cond (is_picked pick n) (written at bytes synced) synced) same
picked_push pick i (change ∷ changes) at bytes synced last is =
    picked_push pick (i + 1) changes at bytes (cond (is_picked pick i) (written change.0 change.1 synced) synced) last (omega arith)

pub picked_more : (pick : ℕ) (changes : List Change) (at : ℕ) (bytes synced : List ℕ)
    → picked pick 0 (changes ++ (at, bytes) ∷ []) synced ≡ cond (is_picked pick (length changes)) (written at bytes (picked pick 0 changes synced)) (picked pick 0 changes synced)
picked_more pick changes at bytes synced = picked_push pick 0 changes at bytes synced (length changes) (omega arith)

pub sound_fresh : (start : List ℕ) → IsBytes start → IsSound (fresh start)
sound_fresh start bytes = record { synced = bytes; contents = fresh_image start bytes; each_pick = λ pick. fresh_image start bytes }

-- a write that is made, or is not, leaves an image
choice : (synced : List ℕ) (ranges : List Range) (at : ℕ) (bytes image : List ℕ) (made : Bool) → IsBytes bytes → IsImage synced ranges image → IsImage synced ((at, length bytes) ∷ ranges) (cond made (written at bytes image) image)
choice synced ranges at bytes image true new is = image_torn synced ranges at (length bytes) image (written at bytes image) is (torn_written at bytes image) (bytes_written at bytes image new is.bytes)
choice synced ranges at bytes image false new is = image_stays synced ranges at (length bytes) image is

pub sound_write : (fails : Bool) (at : ℕ) (bytes : List ℕ) (held : Held) → IsBytes bytes → IsSound held → IsSound (after fails (Write at bytes) held)
sound_write true at bytes held new sound = record {
  synced = sound.synced;
  contents = image_stays held.synced held.ranges at (length bytes) held.contents sound.contents;
  each_pick = λ pick. image_stays held.synced held.ranges at (length bytes) (picked pick 0 held.changes held.synced) (sound.each_pick pick);
}
sound_write false at bytes held new sound = record {
  synced = sound.synced;
  contents = choice held.synced held.ranges at bytes held.contents true new sound.contents;
  each_pick = λ pick.
      subst (λ (image : List ℕ). IsImage held.synced ((at, length bytes) ∷ held.ranges) image) (sym (picked_more pick held.changes at bytes held.synced))
      (choice held.synced held.ranges at bytes (picked pick 0 held.changes held.synced) (is_picked pick (length held.changes)) new (sound.each_pick pick));
}

pub sound_sync : (fails : Bool) (held : Held) → IsSound held → IsSound (after fails Sync held)
sound_sync true held sound = sound
sound_sync false held sound = sound_fresh held.contents sound.contents.bytes

-- what a crash may leave of a disk that holds this
abbrev pub Left : Held → List ℕ → Type 0
Left held = IsImage held.synced held.ranges

pub write_only_torn : (fails : Bool) (at : ℕ) (bytes : List ℕ) (held : Held) → IsSound held → OnlyTorn at (length bytes) (Left held) (Left (after fails (Write at bytes) held))
write_only_torn true at bytes held sound image is = image_before held.synced held.ranges at (length bytes) image sound.synced is
write_only_torn false at bytes held sound image is = image_before held.synced held.ranges at (length bytes) image sound.synced is

pub write_all_torn : (fails : Bool) (at : ℕ) (bytes : List ℕ) (held : Held) → AllTorn at (length bytes) (Left held) (Left (after fails (Write at bytes) held))
write_all_torn true at bytes held was image is torn new = image_torn held.synced held.ranges at (length bytes) was image is torn new
write_all_torn false at bytes held was image is torn new = image_torn held.synced held.ranges at (length bytes) was image is torn new

pub write_none_lost : (fails : Bool) (at : ℕ) (bytes : List ℕ) (held : Held) (image : List ℕ) → Left held image → Left (after fails (Write at bytes) held) image
write_none_lost true at bytes held image is = image_stays held.synced held.ranges at (length bytes) image is
write_none_lost false at bytes held image is = image_stays held.synced held.ranges at (length bytes) image is

pub sync_no_more : (fails : Bool) (held : Held) → IsSound held → (image : List ℕ) → Left (after fails Sync held) image → Left held image
sync_no_more true held sound image is = is
sync_no_more false held sound image is = subst (λ (bytes : List ℕ). Left held bytes) (sym (only_fresh held.contents image is)) sound.contents
