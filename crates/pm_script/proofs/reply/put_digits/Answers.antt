use Rattle.std.proofs.Common.{◌≡◌, ◌*◌, arith, length}
use Rattle.hex.specs.Hex.{encode_lower}
use Rattle.hex.proofs.HexLemmas.{length-encode_with}
use Rattle.pm_script.proofs.TextLemmas.{puts_mid, on_ok}
use Rattle.pm_script.proofs.reply.put_digits.Goals as goal

pub returns : goal.returns
returns c =
    let long : length (encode_lower c.args.bytes.now) ≡ 2 * length c.args.bytes.now = length-encode_with _ c.args.bytes.now in
    puts_mid c.args.at _ _ c.args.out.now (encode_lower c.args.bytes.now) c.encode_to_slice.new.output (omega (arith, long)) (omega (arith, long)) (omega (arith, long, c.requires))
    (on_ok c.encode_to_slice.result c.unwrap.result _ c.unwrap.ensures c.encode_to_slice.ensures.written)
