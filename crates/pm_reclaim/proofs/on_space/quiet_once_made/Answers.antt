use Rattle.std.proofs.Common.{◌≡◌, ℕ, ap, ◌∙◌, ⊎_elim}
use Rattle.pm_space.specs.Shown.{view}
use Rattle.pm_next.specs.declared.row.Row.TheVariants.{Nothing, Apply}
use Rattle.pm_next.specs.Seen.{seen_row}
use Rattle.pm_reclaim.proofs.Quiet.{quiet_after_none, quiet_after_change}
use Rattle.pm_reclaim.proofs.on_space.quiet_once_made.Goals as goal

pub returns-in-Nothing-clause-made : goal.returns-in-Nothing-clause-made
returns-in-Nothing-clause-made g c =
    let space = c.args.space.now in
    let v = view space.parts in
    λ new step event.
    ⊎_elim
    (λ (is : c.args.row ≡ Nothing). quiet_after_none v new step space.quiet (c.requires ∙ ap seen_row is) space.still event)
    (λ (is : (car : ℕ) × (c.args.row ≡ Apply car)). quiet_after_change v new step is.0 space.quiet (c.requires ∙ ap seen_row is.1) space.still event)
    c.in-Nothing.is
