-- What contracts see of a sink that keeps a digest.
use Rattle.std.specs.Prelude.{ℕ, List}

-- the bytes that were put, and how many of them are finished
pub record DigestState : Type 0 where
  pub written : List ℕ
  pub finished : ℕ
