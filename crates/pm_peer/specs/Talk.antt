-- What a peer tells of a conversation.
use Rattle.std.specs.Prelude.{◌≡◌, ◌≤◌, ◌<◌, ℕ, List, [], ◌∷◌, ◌++◌, Option, Some, length, take, map}
use Rattle.std.specs.List.{concat, AllByRecursion}
use Rattle.pm_peer.specs.declared.said.Said.{Said}
use Rattle.pm_peer.specs.declared.said.Said.TheVariants.{Heard, Told}

-- what was said, and then these bytes that were heard, where there are any
abbrev pub heard_more : List Said → List ℕ → List Said
heard_more said [] = said
heard_more said (byte ∷ bytes) = said ++ Heard (byte ∷ bytes) ∷ []

-- what was said, and then these bytes that were told, where there are any
abbrev pub told_more : List Said → List ℕ → List Said
told_more said [] = said
told_more said (byte ∷ bytes) = said ++ Told (byte ∷ bytes) ∷ []

-- a first part of the line was told, which may be none or all of it
pub record TellsPart (said : List Said) (line : List ℕ) (talk : Option (List Said)) : Type 0 where
  pub part : ℕ
  pub within : part ≤ length line
  pub told : talk ≡ Some (told_more said (take part line))

-- the pieces were heard, one after the other, each of a byte at least
pub record Hears (pieces : List (List ℕ)) (left new_left : Option (List ℕ)) (talk new_talk : Option (List Said)) : Type 0 where
  -- no piece is empty
  pub some : AllByRecursion (λ piece. 0 < length piece) pieces
  -- where the peer tells its talk, each piece was said, in order, and nothing else
  pub said : (before : List Said) → talk ≡ Some before → new_talk ≡ Some (before ++ map (λ piece. Heard piece) pieces)
  -- where it tells its bytes, they were the first of them, and the others are left
  pub front : (bytes : List ℕ) → left ≡ Some bytes → (rest : List ℕ) × (bytes ≡ concat pieces ++ rest) × (new_left ≡ Some rest)
