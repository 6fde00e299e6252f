use Rattle.std.proofs.Common.{Option, None, sym, subst, replicate}
use Rattle.std.specs.Prelude.{option_map}
use Rattle.pm_types.specs.declared.address.Addr.{Addr}
use Rattle.pm_layout.specs.Spelling.{HasCar, address, field}
use Rattle.pm_graphs.specs.Settled.Behind.{IsBehindOf}
use Rattle.pm_graphs.proofs.SettledLemmas.BehindLaws.{behind_of}
use Rattle.pm_graphs.proofs.settled.matching.behind_field.Goals as goal

pub returns-in-Some-clause-behind : goal.returns-in-Some-clause-behind
unfolding field
returns-in-Some-clause-behind c =
    subst (λ (reference : Option Addr). IsBehindOf (HasCar reference) c.args.bytes.now (field reference) (option_map (λ rest. rest.now) c.behind_target.result)) (sym c.in-Some.is) c.behind_target.ensures.behind

pub returns-in-None-clause-behind : goal.returns-in-None-clause-behind
unfolding address field
returns-in-None-clause-behind c =
    subst (λ (reference : Option Addr). IsBehindOf (HasCar reference) c.args.bytes.now (field reference) (option_map (λ rest. rest.now) c.behind_address.result)) (sym c.in-None.is)
    (behind_of (HasCar None) c.args.bytes.now (replicate 12 0) (option_map (λ rest. rest.now) c.behind_address.result) tt c.behind_address.ensures)
