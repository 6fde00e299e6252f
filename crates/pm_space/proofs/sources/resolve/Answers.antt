use Rattle.std.proofs.Common.{sym, ap, ◌∙◌}
use Rattle.pm_view.specs.Reading.{followed}
use Rattle.pm_space.proofs.HeldCars.{slot_there, no_slot, followed_moved, followed_live, followed_gone}
use Rattle.pm_space.proofs.sources.resolve.Goals as goal

pub returns-in_default : goal.returns-in_default
returns-in_default c = sym (ap (λ o. followed o c.args.at) (no_slot c.args.cars.now c.args.at c.in_default.ensures))

pub returns-in-Moved : goal.returns-in-Moved
returns-in-Moved c = followed_moved _ c.args.at c.in-Moved.to c.in-Moved.ensures.look ∙ sym (ap (λ o. followed o c.args.at) (slot_there c.args.cars.now c.args.at c.in-Some.held.now c.in-Some.ensures))

pub returns-in-Live : goal.returns-in-Live
returns-in-Live c = followed_live _ c.args.at c.in-Live.ensures.look ∙ sym (ap (λ o. followed o c.args.at) (slot_there c.args.cars.now c.args.at c.in-Some.held.now c.in-Some.ensures))

pub returns-in-Gone : goal.returns-in-Gone
returns-in-Gone c = followed_gone _ c.args.at c.in-Gone.ensures.look ∙ sym (ap (λ o. followed o c.args.at) (slot_there c.args.cars.now c.args.at c.in-Some.held.now c.in-Some.ensures))
