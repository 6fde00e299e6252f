use Rattle.std.proofs.Common.{sym}
use Rattle.pm_layout.proofs.HeaderLaws.{header_made}
use Rattle.pm_layout.proofs.header.header_at.Goals as goal

pub returns : goal.returns
returns c = sym (header_made c.args.bytes.now c.in_ok-check_magic.field-0 c.in_ok-check_digest.field-0 c.in_ok-version.version c.u32_at.result c.in_ok-next.next c.u64_at.result c.digest_at.result (sym c.in_ok-check_magic.ensures) (sym c.in_ok-version.ensures) (sym c.in_ok-check_digest.ensures) (sym c.in_ok-next.ensures) (sym c.u32_at.ensures) (sym c.u64_at.ensures) (sym c.digest_at.ensures))
