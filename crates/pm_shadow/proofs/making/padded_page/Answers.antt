use Rattle.std.proofs.Common.{◌-◌, ◌++◌, List, ℕ, length, take, replicate, ap, ◌∙◌}
use Rattle.std.proofs.lemmas.List.{take_all}
use Rattle.pm_types.specs.declared.limits.TheConstants.{PAGE_BYTES}
use Rattle.pm_shadow.proofs.making.padded_page.Goals as goal

pub returns-clause-items : goal.returns-clause-items
returns-clause-items c =
    let used = c.args.used.now in
    c.in_ok-resize.ensures.items ∙ (λ i. take PAGE_BYTES (c.in_ok-page.ensures.items i) ++ replicate (PAGE_BYTES - c.in_ok-page.ensures.len i) 0)
    ∙ ap (λ (t : List ℕ). t ++ replicate (PAGE_BYTES - length used) 0) (take_all PAGE_BYTES used c.requires)
