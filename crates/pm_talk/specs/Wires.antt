-- What contracts see of a peer, and what hearing and telling do to it.
use Rattle.std.specs.Prelude.{◌≡◌, ℕ, List, ◌∷◌, ◌++◌, Option, Some, map}
use Rattle.pm_peer.specs.declared.peer.Peer.{Ghosts}
use Rattle.pm_peer.specs.declared.said.Said.{Said}
use Rattle.pm_peer.specs.declared.said.Said.TheVariants.{Told}
use Rattle.pm_peer.specs.Talk.{Hears, TellsPart}

-- a peer: the bytes that are still to come and what was said so far, where it tells them
pub record Wire : Type 0 where
  pub left : Option (List ℕ)
  pub talk : Option (List Said)

abbrev pub wire : {P : Type 0} → Ghosts P → P → Wire
wire p peer = record { left = p.left peer; talk = p.talk peer }

-- the pieces were heard, in order
abbrev pub HearsPieces : List (List ℕ) → Wire → Wire → Type 0
HearsPieces pieces old new = Hears pieces old.left new.left old.talk new.talk

-- no byte was heard
abbrev pub HearsNothing : Wire → Wire → Type 0
HearsNothing old new = (bytes : List ℕ) → old.left ≡ Some bytes → new.left ≡ Some bytes

-- the lines were told, in order, each by itself, and nothing else was said
pub record TellsLines (lines : List (List ℕ)) (old new : Wire) : Type 0 where
  pub told : (before : List Said) → old.talk ≡ Some before → new.talk ≡ Some (before ++ map (λ line. Told line) lines)
  pub left : HearsNothing old new

-- Of the lines the first were told, and of the next one a first part, which may be none or all of it.
pub record TellsFirst (lines : List (List ℕ)) (old new : Wire) : Type 0 where
  pub done : List (List ℕ)
  pub line : List ℕ
  pub more : List (List ℕ)
  pub lines_are : lines ≡ done ++ line ∷ more
  pub part : (before : List Said) → old.talk ≡ Some before → TellsPart (before ++ map (λ line. Told line) done) line new.talk
  pub left : HearsNothing old new
