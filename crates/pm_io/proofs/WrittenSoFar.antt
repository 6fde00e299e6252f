-- What was written of a piece in one write after another.
use Rattle.std.proofs.Common.{◌≡◌, ℕ, ◌+◌, ◌-◌, ◌≤◌, List, ◌++◌, length, take, drop, Option, Some, arith, append_assoc}
use Rattle.std.proofs.lemmas.Grind.{common_steps}
use Rattle.std.proofs.Math.Seq.{take-add}
use Rattle.std.proofs.lemmas.List.{take_rest}

-- one more write of n bytes
pub written_more : (bytes piece : List ℕ) (done n : ℕ) (held now : Option (List ℕ)) → done ≤ length piece → held ≡ Some (bytes ++ take done piece)
    → ((before : List ℕ) → held ≡ Some before → now ≡ Some (before ++ take n (take (length piece - done) (drop done piece)))) → now ≡ Some (bytes ++ take (done + n) piece)
written_more bytes piece done n held now within so_far appends =
    grind (arith, appends _ so_far, take_rest piece done, take-add done n piece, append_assoc)

-- a write of no byte
pub none_written : (bytes piece : List ℕ) (n : ℕ) (now : Option (List ℕ)) → n ≡ 0 → now ≡ Some (bytes ++ take n piece) → now ≡ Some bytes
none_written bytes piece n now none appends = grind (arith, common_steps, none, appends)
