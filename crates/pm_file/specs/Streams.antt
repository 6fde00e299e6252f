-- The descriptors of the standard streams.
use Rattle.std.specs.Prelude.{ℤ, pos, ◌<ℤ◌, Option}
use Rattle.std.specs.Option.{ForSome}

-- a descriptor that is known is that of no standard stream: input has 0, output 1, and errors 2
abbrev pub IsApart : Option ℤ → Type 0
IsApart descriptor = ForSome descriptor (λ number. pos 2 <ℤ number)
