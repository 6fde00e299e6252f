-- The first line of bytes, and what is answered to it.
use Rattle.std.specs.Prelude.{◌≡◌, ◌<◌, ◌≤◌, ◌⊎◌, ℕ, ◌+◌, Bool, false, List, [], ◌∷◌, ◌++◌, length, take, drop, nat_eq, nat_lt, if◌then◌else◌}
use Rattle.std.specs.List.{list_any}
use Rattle.pm_types.specs.Counts.{greatest_count}
use Rattle.pm_script.specs.declared.limits.TheConstants.{LINE_BYTES}
use Rattle.pm_script.specs.Lines.{is_silent}
use Rattle.pm_peer.specs.declared.next.Next.{Next}
use Rattle.pm_peer.specs.declared.next.Next.TheVariants.{Line, Silent, TooLong, Cut, End}

-- a newline is among the bytes
abbrev pub has_newline : List ℕ → Bool
has_newline bytes = list_any (λ byte. nat_eq byte 10) bytes

-- the first newline stands at this place
pub record IsFirstNewline (bytes : List ℕ) (at : ℕ) : Type 0 where
  pub inside : at < length bytes
  pub quiet : has_newline (take at bytes) ≡ false
  pub there : bytes ≡ take at bytes ++ 10 ∷ drop (at + 1) bytes

-- what is answered to a line
abbrev pub answer_to : List ℕ → Next
answer_to body = if is_silent body then Silent else (if nat_lt LINE_BYTES (length body) then TooLong else Line)

-- the line that is lent with an answer: none with any other than `Line`
abbrev pub lent : Next → List ℕ → List ℕ
lent Line body = body
lent answer body = []

-- the answer is that of the line that the bytes begin with, and what is behind its newline is behind
pub record IsFirstLine (answer : Next) (bytes line behind : List ℕ) : Type 0 where
  pub body : List ℕ
  pub begins : bytes ≡ body ++ 10 ∷ behind
  pub one : has_newline body ≡ false
  pub answered : answer ≡ answer_to body
  pub lends : line ≡ lent answer body

-- the bytes have no newline, and none of them is kept
pub record IsSpent (bytes line behind : List ℕ) : Type 0 where
  pub unended : has_newline bytes ≡ false
  pub no_line : line ≡ []
  pub none_behind : behind ≡ []

-- the answer to these bytes, which were heard in so many pieces and are all that came before the end where it is one of
-- the end: half a line is cut, and behind the last line is the end. As many pieces as a count has numbers, with no
-- newline in them, are answered as the end too.
abbrev pub IsAnswer : Next → ℕ → List ℕ → List ℕ → List ℕ → Type 0
IsAnswer Cut pieces bytes line behind = (0 < length bytes) × IsSpent bytes line behind
IsAnswer End pieces bytes line behind = ((bytes ≡ []) ⊎ (greatest_count ≤ pieces)) × IsSpent bytes line behind
IsAnswer answer pieces bytes line behind = IsFirstLine answer bytes line behind

-- the answer says that the end was met
abbrev pub IsEnding : Next → ℕ → Type 0
IsEnding Cut pieces = Unit {0}
IsEnding End pieces = pieces < greatest_count
IsEnding answer pieces = ⊥
