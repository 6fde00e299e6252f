use Rattle.std.proofs.Common.{◌≡◌, ℕ, slice_index_or, sym, subst, arith}
use Rattle.hex.specs.Hex.{hex_digit_value}
use Rattle.pm_script.specs.HexDigits.{digit_worth}
use Rattle.pm_script.specs.declared.hexadecimal.TheConstants.{WORTH}
use Rattle.pm_script.proofs.hexadecimal.worth.Goals as goal
use Rattle.pm_script.proofs.DigitWorths.{worth_of}

pub returns : goal.returns
returns c =
    let byte = c.args.byte in
    subst (λ (place : ℕ). hex_digit_value byte ≡ digit_worth (slice_index_or WORTH place 0)) (sym c.from.ensures) (worth_of byte (omega (arith, c.ranges.byte.fits)))
