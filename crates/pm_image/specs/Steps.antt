-- Steps of reading a page, and the ends of pages.
use Rattle.std.specs.Prelude.{ℕ, ◌+◌, ◌==◌, not, position, List, drop, take, Option, Some, None, Result, Ok, Err, if◌then◌else◌, Bool}
use Rattle.std.specs.Str.{bytes_eq}

-- a test that has to hold, or this is the fault
abbrev pub tested : {E : Type 0} → Bool → E → Result (Unit {0}) E
tested holds fault = if holds then Ok tt else Err fault

-- the four bytes that a page begins with, or the fault is at the page's first byte
unfoldable pub magic_at : List ℕ → List ℕ → Result (Unit {0}) ℕ
magic_at magic page = tested (bytes_eq (take 4 page) magic) 0

-- the place of the first byte from a place on that is not 0
abbrev pub other_byte : List ℕ → ℕ → Option ℕ
other_byte page place = position (λ byte. not (byte == 0)) (drop place page)

-- nothing but zeros stands from a place to the page's end, or the fault is at the first other byte
abbrev pub only_zeros : ℕ → Option ℕ → Result (Unit {0}) ℕ
only_zeros place None = Ok tt
only_zeros place (Some ahead) = Err (place + ahead)

-- nothing but zeros stands from a place to the page's end
unfoldable pub rest_at : List ℕ → ℕ → Result (Unit {0}) ℕ
rest_at page place = only_zeros place (other_byte page place)
