use Rattle.std.proofs.Common.{arith, ◌∙◌}
use Rattle.pm_layout.proofs.HeaderLaws.{header_found, header_again}
use Rattle.pm_layout.proofs.header.read_header.Goals as goal

pub returns-clause-found : goal.returns-clause-found
returns-clause-found c = header_found c.args.bytes.now c.header_at.result (omega arith) (λ i. c.fits-bytes i) c.header_at.ensures

pub returns-clause-only : goal.returns-clause-only
returns-clause-only c = λ header fits range e. c.header_at.ensures ∙ header_again c.args.bytes.now header fits range e
