use Rattle.std.proofs.Common.{◌*◌, ◌+◌, inl, inr, slice_index, refl, arith}
use Rattle.hex.proofs.Pairs.{decode_done, decode_step}
use Rattle.pm_script.proofs.DigitPairs.{match_err, match_ok, pair_worth, refused}
use Rattle.pm_script.proofs.hexadecimal.decode_into.Goals as goal
use Rattle.pm_script.proofs.hexadecimal.decode_into.Goals.{then-high-gt15-via-then-high-gt15, then-high-gt15-via-else-high-gt15+then-low-gt15}

pub returns-then-high-gt15 : goal.returns-then-high-gt15
returns-then-high-gt15 c = elim c.then-high-gt15.branch [
  | then-high-gt15-via-then-high-gt15 w ↦
      let bad = refused _ c.bytes.out c.bytes.i _ _ (omega (arith, c.bytes-test.true, c.requires)) c.worth-high.ensures c.worth-low.ensures (inl w.if-high-gt15.true) c.bytes.invariant in
      match_err _ _ _ bad.0 bad.1 refl
  | then-high-gt15-via-else-high-gt15+then-low-gt15 w ↦
      let bad = refused _ c.bytes.out c.bytes.i _ _ (omega (arith, c.bytes-test.true, c.requires)) c.worth-high.ensures c.worth-low.ensures (inr (w.if-high-gt15.false, w.if-low-gt15.true)) c.bytes.invariant in
      match_err _ _ _ bad.0 bad.1 refl
]

pub bytes-preserved : goal.bytes-preserved
bytes-preserved c =
    let word = c.args.word.now in
    decode_step word _ c.bytes.i _ (omega (arith, c.bytes-test.true, c.requires)) (omega (arith, c.bytes-test.true))
    (pair_worth (slice_index word (2 * c.bytes.i)) (slice_index word (2 * c.bytes.i + 1)) (2 * c.bytes.i) _ _ c.worth-high.ensures c.worth-low.ensures (omega (arith, c.if-high-gt15.false)) (omega (arith, c.if-low-gt15.false)))
    c.bytes.invariant

pub returns : goal.returns
returns c =
    match_ok _ _ _ c.bytes.out (decode_done _ c.bytes.out c.bytes.i (omega (arith, c.bytes-test.false)) (omega (arith, c.bytes-test.false, c.requires)) c.bytes.invariant) (refl, refl)
