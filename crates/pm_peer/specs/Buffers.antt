-- What contracts see of the buffer of lines.
use Rattle.std.specs.Prelude.{◌≡◌, ℕ, ◌-◌, ◌<◌, ◌≤◌, List, [], ◌++◌, Option, Some, length}
use Rattle.pm_peer.specs.declared.said.Said.{Said}
use Rattle.pm_peer.specs.Talk.{heard_more}

-- a buffer: the bytes that it keeps, the line that it lends, and how many more bytes fit behind those that it keeps
pub record BufferState : Type 0 where
  pub kept : List ℕ
  pub line : List ℕ
  pub room : ℕ

-- a piece of so many bytes was heard behind what is kept
pub record HearsPiece (n : ℕ) (old new : BufferState) (left new_left : Option (List ℕ)) (talk new_talk : Option (List Said)) : Type 0 where
  pub piece : List ℕ
  pub count : length piece ≡ n
  pub fits : n ≤ old.room
  pub kept : new.kept ≡ old.kept ++ piece
  pub no_line : new.line ≡ []
  pub room : new.room ≡ old.room - n
  -- where the peer tells its talk, the piece was said, if it has a byte
  pub said : (before : List Said) → talk ≡ Some before → new_talk ≡ Some (heard_more before piece)
  -- where it tells its bytes, they began with the piece, and the others are left
  pub front : (bytes : List ℕ) → left ≡ Some bytes → (rest : List ℕ) × (bytes ≡ piece ++ rest) × (new_left ≡ Some rest)
  -- there was none where none came and there was room
  pub end : (bytes : List ℕ) → left ≡ Some bytes → n ≡ 0 → 0 < old.room → bytes ≡ []
