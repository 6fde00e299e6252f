use Rattle.std.proofs.Common.{refl}
use Rattle.pm_layout.specs.Headers.{header_spelling}
use Rattle.pm_layout.proofs.HeaderLaws.{header_again}
use Rattle.pm_layout.proofs.law.headers_are_read_again.Goals as goal

pub returns : goal.returns
returns c = λ header fits range. header_again (header_spelling header) header fits range refl
