use Rattle.pm_peer.proofs.AskedLines.{read_again, read_only}
use Rattle.pm_peer.proofs.laws.a_line_asks_what_it_spells.Goals as goal

pub returns-clause-read : goal.returns-clause-read
returns-clause-read c = read_again

pub returns-clause-only : goal.returns-clause-only
returns-clause-only c = read_only
