use Rattle.std.proofs.Common.{◌/◌, ℕ, ap, ◌∙◌, arith}
use Rattle.pm_types.specs.declared.limits.TheConstants.{PAGE_BYTES}
use Rattle.pm_shadow.proofs.looking.look.Goals as goal

pub returns-clause-seen : goal.returns-clause-seen
returns-clause-seen g c bytes told =
    let len = c.in_ok-len.ensures.len bytes (c.sync.ensures.contents ∙ told) in
    let both = c.in_ok-seen.ensures.read bytes (c.len.ensures.contents ∙ c.sync.ensures.contents ∙ told) in
    let low = c.if-len.false in
    record { long = omega arith; count = c.in_ok-seen.ensures.count ∙ ap (λ (n : ℕ). n / PAGE_BYTES) len; zeroth = both.0; first = both.1 }
