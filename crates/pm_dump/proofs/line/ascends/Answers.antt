use Rattle.std.proofs.Common.{◌∙◌, ◌<◌, Option, sym, ap, subst, arith, option_copied}
use Rattle.std.specs.Option.{MatchOption}
use Rattle.pm_dump.specs.declared.parts.Place.{Place}
use Rattle.pm_dump.proofs.line.ascends.Goals as goal

pub returns-in-Some-clause-small : goal.returns-in-Some-clause-small
returns-in-Some-clause-small c =
    let lt : c.in-Some.place.now.id < 4294967296 = (let is = c.id_of.ensures in let small = c.id_of.type_inv in omega (arith, is, small)) in
    subst (λ (o : Option Place). MatchOption o (Unit {0}) (λ place. place.id < 4294967296)) (sym (ap option_copied c.in-Some.is) ∙ c.last.ensures.value) lt
