-- How headers are spelled, which have a spelling, and what bytes say of one.
use Rattle.std.specs.Prelude.{◌≡◌, ℕ, ◌<◌, ◌≤◌, ◌^◌, List, [], ◌∷◌, ◌++◌, length, take, slice_range, Result, Ok, Err, nat_lt, ◌==◌, ◌||◌, if◌then◌else◌, Bool, true}
use Rattle.std.specs.Str.{bytes_eq}
use Rattle.pm_types.specs.Results.{◌>>=◌}
use Rattle.byteorder.specs.Endian.{big_bytes}
use Rattle.sha2.specs.Sha256.{sha256}
use Rattle.pm_types.specs.declared.limits.TheConstants.{FIELDS, OLD_FIELDS, VERSION, OLD_VERSION, END_ID}
use Rattle.pm_layout.specs.declared.header.Header.{Header}
use Rattle.pm_layout.specs.declared.header.HeaderFault.{HeaderFault}
use Rattle.pm_layout.specs.declared.header.HeaderFault.TheVariants.{Magic, Version, Digest, Next}
use Rattle.pm_layout.specs.Reading.{number_from}

-- PMOSRTL1
abbrev pub magic : List ℕ
magic = 0x50 ∷ 0x4d ∷ 0x4f ∷ 0x53 ∷ 0x52 ∷ 0x54 ∷ 0x4c ∷ 0x31 ∷ []

-- the four numbers: version, epoch, next identity, first catalog page
unfoldable pub header_numbers : Header → List ℕ
header_numbers h = (big_bytes 4 h.version ++ big_bytes 4 h.epoch) ++ (big_bytes 8 h.next ++ big_bytes 8 h.first)

-- the first 64 bytes: the magic, the numbers, the digest of the first catalog page
unfoldable pub header_body : Header → List ℕ
header_body h = magic ++ (header_numbers h ++ h.digest)

-- the body, and its digest
unfoldable pub header_spelling : Header → List ℕ
header_spelling h = header_body h ++ sha256 (header_body h)

-- the versions that are read: the one that is written, and the one before it
abbrev pub is_version : ℕ → Bool
is_version version = (version == OLD_VERSION) || (version == VERSION)

-- the most fields that an object has in a store of this version
abbrev pub most_fields : ℕ → ℕ
most_fields version = if version == OLD_VERSION then OLD_FIELDS else FIELDS

-- a header of a version that is read, whose next identity is one that can come
pub record HasHeaderSpelling (h : Header) : Type 0 where
  pub version : is_version h.version ≡ true
  pub some : 0 < h.next
  pub last : h.next ≤ END_ID

-- the numbers and the digest are such as the types can hold
pub record IsHeaderInRange (h : Header) : Type 0 where
  pub epoch : h.epoch < 2 ^ 32
  pub first : h.first < 2 ^ 64
  pub digest : length h.digest ≡ 32

-- the first eight bytes are the magic
unfoldable pub magic_at : List ℕ → Result (Unit {0}) HeaderFault
magic_at bytes = if bytes_eq (take 8 bytes) magic then Ok tt else Err Magic

-- the version is one that is read
unfoldable pub version_at : List ℕ → Result ℕ HeaderFault
version_at bytes =
    let version = number_from 4 bytes 8 in
    if is_version version then Ok version else Err (Version version)

-- the digest that is kept is that of the first 64 bytes
unfoldable pub digest_kept : List ℕ → Result (Unit {0}) HeaderFault
digest_kept bytes =
    let kept = slice_range bytes 64 96 in
    let found = sha256 (take 64 bytes) in
    if bytes_eq kept found then Ok tt else Err (Digest kept found)

-- the next identity, from 1 to one past the last
unfoldable pub next_at : List ℕ → Result ℕ HeaderFault
next_at bytes =
    let next = number_from 8 bytes 16 in
    if (next == 0) || nat_lt END_ID next then Err Next else Ok next

-- the header that the bytes spell, or the first fault
unfoldable pub header_at : List ℕ → Result Header HeaderFault
header_at bytes = do
  is_magic ← magic_at bytes
  version ← version_at bytes
  is_whole ← digest_kept bytes
  next ← next_at bytes
  Ok (record { version = version; epoch = number_from 4 bytes 12; next = next; first = number_from 8 bytes 24; digest = slice_range bytes 32 64 })
