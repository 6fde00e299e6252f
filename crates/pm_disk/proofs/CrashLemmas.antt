-- How one call more changes what a crash leaves.
use Rattle.std.proofs.Common.{◌≡◌, ℕ, ◌+◌, ◌<◌, Bool, cond, List, [], ◌∷◌, ◌++◌, length, take, get_or, sym, ◌∙◌, ap, arith}
use Rattle.std.proofs.lemmas.List.{take_more, length-take-le}
use Rattle.pm_disk.specs.Writes.{written}
use Rattle.pm_disk.specs.Replay.{Change, is_listed, after, held_after, is_picked, picked}
use Rattle.pm_disk.specs.declared.call.DiskCall.{DiskCall}
use Rattle.pm_disk.proofs.ReplayLemmas.{held_push, picked_more}

pub image_more : (pick writes at : ℕ) (bytes : List ℕ) (changes : List Change) (synced image : List ℕ) (kept : Bool) → writes ≡ length changes → image ≡ picked pick 0 changes synced → kept ≡ is_picked pick writes
    → cond kept (written at bytes image) image ≡ picked pick 0 (changes ++ (at, bytes) ∷ []) synced
image_more pick writes at bytes changes synced image kept n is flag =
    (λ i. cond (flag i) (written at bytes (is i)) (is i)) ∙ ap (λ (k : ℕ). cond (is_picked pick k) (written at bytes (picked pick 0 changes synced)) (picked pick 0 changes synced)) n
    ∙ sym (picked_more pick changes at bytes synced)

-- the calls up to this place and the one there
pub held_more : (start fails : List ℕ) (calls : List DiskCall) (place : ℕ) (call : DiskCall) → place < length calls → get_or calls place call ≡ call
    → held_after start fails (take (place + 1) calls) ≡ after (is_listed fails (place + 1)) call (held_after start fails (take place calls))
held_more start fails calls place call lt is =
    ap (λ (list : List DiskCall). held_after start fails list) (take_more calls place call lt ∙ ap (λ (it : DiskCall). take place calls ++ it ∷ []) is)
    ∙ held_push start fails (take place calls) call
    ∙ ap (λ (n : ℕ). after (is_listed fails (n + 1)) call (held_after start fails (take place calls))) (length-take-le place calls (omega arith))
