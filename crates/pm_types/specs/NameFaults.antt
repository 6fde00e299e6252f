-- Why bytes are no name.
use Rattle.std.specs.Prelude.{◌≡◌, ℕ, ◌<◌, ◌≤◌, List, [], length, not, position, Some}
use Rattle.pm_types.specs.Names.{is_name_byte, IsName}
use Rattle.pm_types.specs.declared.name.NameFault.{NameFault}
use Rattle.pm_types.specs.declared.name.NameFault.TheVariants.{Empty, TooLong, BadByte, Memory}
use Rattle.pm_types.specs.declared.limits.TheConstants.{NAME_BYTES}

-- the fault is the first that applies to the bytes; want of memory comes only for the bytes of a name
abbrev pub IsFirstFault : NameFault → List ℕ → Type 0
IsFirstFault Empty bytes = bytes ≡ []
IsFirstFault (TooLong len) bytes = (NAME_BYTES < length bytes) × (len ≡ length bytes)
IsFirstFault (BadByte place) bytes = (length bytes ≤ NAME_BYTES) × (position (λ b. not (is_name_byte b)) bytes ≡ Some place)
IsFirstFault (Memory _) bytes = IsName bytes
