use Rattle.std.proofs.Common.{◌<◌, [], ◌∷◌}
use Rattle.std.specs.Prelude.{option_map}
use Rattle.pm_types.specs.declared.limits.TheConstants.{FIELDS}
use Rattle.pm_types.specs.declared.object.Slot.TheVariants.{Moved}
use Rattle.pm_layout.specs.Spelling.{HasSpelling, address, spelling}
use Rattle.pm_graphs.proofs.SettledLemmas.BehindLaws.{both_of, none_first}
use Rattle.pm_graphs.proofs.settled.matching.behind_moved.Goals as goal

pub returns-in_default-clause-behind : goal.returns-in_default-clause-behind
unfolding spelling
returns-in_default-clause-behind c has = none_first c.args.bytes.now (2 ∷ []) (address c.args.to) c.in_default.ensures

pub returns-clause-behind : goal.returns-clause-behind
unfolding spelling
returns-clause-behind c =
    both_of (HasSpelling FIELDS (Moved c.args.to)) (0 < c.args.to.car) c.args.bytes.now c.in-Some.rest.now (2 ∷ []) (address c.args.to) (option_map (λ rest. rest.now) c.behind_target.result)
    (λ has. has.numbered) (λ car. record { within = tt; numbered = car }) c.in-Some.ensures c.behind_target.ensures.behind
