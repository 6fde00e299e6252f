use Rattle.std.proofs.Common.{ℕ}
use Rattle.std.specs.FinMap.{len-empty}
use Rattle.pm_types.specs.Orders.{name_cmp}
use Rattle.pm_types.specs.declared.address.Addr.{Addr}
use Rattle.pm_inspect.proofs.Examples.{zero_text, one_text}
use Rattle.pm_inspect.proofs.laws.the_report_of_a_new_space.Goals as goal

pub returns : goal.returns
returns c = rw (len-empty name_cmp (ℕ × Addr), zero_text, one_text)
