use Rattle.std.proofs.Common.{sym, ap, ◌∙◌}
use Rattle.pm_view.specs.Events.{went, has_gone}
use Rattle.pm_space.proofs.HeldCars.{no_slot, slot_there}
use Rattle.pm_next.proofs.Fixes.{went_moved, went_live, went_gone}
use Rattle.pm_next.proofs.sources.has_gone.Goals as goal

pub returns-in_default : goal.returns-in_default
returns-in_default g c = sym (ap (λ o. has_gone (went o)) (no_slot c.args.parts.now.cars c.args.at c.in_default.ensures))

pub returns-in-Moved : goal.returns-in-Moved
returns-in-Moved g c = sym (ap (λ o. has_gone (went o)) (slot_there c.args.parts.now.cars c.args.at c.in-Some.held.now c.in-Some.ensures) ∙ ap has_gone (went_moved _ _ c.in-Moved.ensures.look))

pub returns-in-Live : goal.returns-in-Live
returns-in-Live g c = sym (ap (λ o. has_gone (went o)) (slot_there c.args.parts.now.cars c.args.at c.in-Some.held.now c.in-Some.ensures) ∙ ap has_gone (went_live _ c.in-Live.ensures.look))

pub returns-in-Gone : goal.returns-in-Gone
returns-in-Gone g c = sym (ap (λ o. has_gone (went o)) (slot_there c.args.parts.now.cars c.args.at c.in-Some.held.now c.in-Some.ensures) ∙ ap has_gone (went_gone _ c.in-Gone.ensures.look))
