use Rattle.std.proofs.Common.{rules, ap, sym, subst, ◌∙◌}
use Rattle.pm_file.specs.Streams.{IsApart}
use Rattle.pm_file.proofs.Images.{chain, fresh_ticks, named_unless_empty}
use Rattle.pm_file.proofs.opening.hold.Goals as goal

pub returns-clause-since : goal.returns-clause-since
returns-clause-since g c =
    let lying = c.fill_streams.ensures.leaves c.args.path.now in
    fresh_ticks
    (λ calls. chain lying (chain (c.in_ok-file.ensures.since calls) (c.claim.ensures.since calls)))
    (chain lying (chain c.in_ok-file.ensures.images (chain c.claim.ensures.images c.measure.ensures.images)))
    c.measure.ensures.time
    (g.met.R.File.StoreFile.only_now _)
    (g.met.R.File.StoreFile.counts_now _)

pub invariant_of-result-clause-apart : goal.invariant_of-result-clause-apart
invariant_of-result-clause-apart g c =
    let stands = c.measure.ensures.stands ∙ c.in_ok-claim.ensures.locked in
    subst IsApart (sym (ap (λ standing. standing.descriptor) stands ∙ c.in_ok-file.ensures.number)) (search rules)

pub invariant_of-result-clause-named : goal.invariant_of-result-clause-named
invariant_of-result-clause-named g c some =
    let stands = c.measure.ensures.stands ∙ c.in_ok-claim.ensures.locked in
    named_unless_empty _ c.in_ok-may_lose_name.field-0 _
    (λ lost. c.in_ok-file.ensures.empty (sym (ap (λ standing. standing.named) stands) ∙ lost))
    (λ bytes told. c.in_ok-may_lose_name.ensures.len bytes (c.claim.ensures.contents ∙ told))
    some
