-- What was taken from a source in one call after another.
use Rattle.std.proofs.Common.{◌≡◌, ℕ, ◌+◌, ◌≤◌, List, [], ◌++◌, length, take, drop, Option, Some, ap, arith, append_assoc, length-append, length-take, min}
use Rattle.std.proofs.lemmas.Grind.{common_steps}
use Rattle.pm_io.specs.Streams.{TakesFront, LeavesEnd}

-- what was taken is the front of the bytes, and the source has the others left
pub record IsTaken (bytes taken : List ℕ) (left : Option (List ℕ)) : Type 0 where
  pub rest : List ℕ
  pub split : bytes ≡ taken ++ rest
  pub told : left ≡ Some rest

-- one more call that takes n bytes
pub more_taken : (bytes taken piece : List ℕ) (n : ℕ) (before after : Option (List ℕ)) → IsTaken bytes taken before → ((rest : List ℕ) → before ≡ Some rest → TakesFront rest n piece after) → IsTaken bytes (taken ++ take n piece) after
more_taken bytes taken piece n before after so_far takes =
    let now = takes so_far.rest so_far.told in
    record { rest = drop n so_far.rest; split = grind (arith, common_steps, so_far.split, now.moved, append_assoc); told = now.rest }

-- a call that fails takes none
pub none_taken : (bytes taken : List ℕ) (before after : Option (List ℕ)) → IsTaken bytes taken before → ((rest : List ℕ) → before ≡ Some rest → after ≡ Some rest) → IsTaken bytes taken after
none_taken bytes taken before after so_far stays =
    record { rest = so_far.rest; split = so_far.split; told = stays so_far.rest so_far.told }

-- where none is left, all were taken
pub all_taken : (bytes taken : List ℕ) (left : Option (List ℕ)) → IsTaken bytes taken left → ((rest : List ℕ) → left ≡ Some rest → rest ≡ []) → taken ≡ bytes
all_taken bytes taken left so_far ends =
    let none = ends so_far.rest so_far.told in grind (arith, common_steps, so_far.split, none)

-- no more than the bytes are taken
pub taken_within : (bytes taken : List ℕ) (left : Option (List ℕ)) → IsTaken bytes taken left → length taken ≤ length bytes
taken_within bytes taken left so_far = omega (arith, ap length so_far.split, length-append taken so_far.rest)

-- what is left is an end of the bytes
pub leaves_end : (bytes taken : List ℕ) (most : ℕ) (left : Option (List ℕ)) → length taken ≤ most → IsTaken bytes taken left → LeavesEnd bytes most left
leaves_end bytes taken most left short so_far =
    record { gone = length taken; within = short; rest = grind (arith, common_steps, so_far.split, so_far.told) }

-- one call more takes no more than it asks for
pub piece_within : (all piece : List ℕ) (n limit most : ℕ) → length all ≤ limit → n ≤ most → length (all ++ take n piece) ≤ limit + most
piece_within all piece n limit most short few = omega (arith, length-append all (take n piece), min_within n (length piece) (length (take n piece)) (length-take n piece))
  where
    min_within : (n m l : ℕ) → l ≡ min n m → l ≤ n
    min_within n m l is = omega arith

-- a last call that finds the end leaves nothing
pub end_left : (bytes taken piece : List ℕ) (n : ℕ) (before after : Option (List ℕ)) → IsTaken bytes taken before → ((rest : List ℕ) → before ≡ Some rest → TakesFront rest n piece after) → ((rest : List ℕ) → before ≡ Some rest → rest ≡ []) → after ≡ Some []
end_left bytes taken piece n before after so_far takes ends =
    let none = ends so_far.rest so_far.told in
    let now = takes so_far.rest so_far.told in
    grind (arith, common_steps, none, now.rest)
