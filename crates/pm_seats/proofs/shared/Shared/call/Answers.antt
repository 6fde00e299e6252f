use Rattle.std.proofs.Common.{◌≡◌, length, ap, subst, sym, ◌∙◌}
use Rattle.pm_passes.specs.Passes.{view_of}
use Rattle.pm_passes.specs.Views.{view_in}
use Rattle.pm_seats.specs.declared.limits.TheConstants.{LAST_EVENT}
use Rattle.pm_seats.specs.Events.{CallsClient}
use Rattle.pm_seats.specs.Sharing.{HasEvent, first_engine}
use Rattle.pm_seats.proofs.Turning.{event_as}
use Rattle.pm_seats.proofs.Single.{only_one}
use Rattle.pm_seats.proofs.shared.Shared.call.Goals as goal

pub returns-clause-event : goal.returns-clause-event
returns-clause-event g c =
    event_as (first_engine c.args.self.now) (λ old new. CallsClient LAST_EVENT (view_of c.args.pass.now).number c.args.client c.args.cmd.now old new c.client_in_turn-answer.result) c.into_seat-seat.result.me.0 (view_of c.args.pass.now) c.client_in_turn-answer.new.seat.me.0 (view_in c.into_badge.result.views)
    (sym (ap view_in c.into_seat-seat.ensures.2) ∙ ap (λ b. view_in b.views) c.replace-badge.ensures.value) (sym (ap view_in c.into_badge.ensures.2))
    (subst (λ n. HasEvent (first_engine c.args.self.now) (λ old new. CallsClient LAST_EVENT n c.args.client c.args.cmd.now old new c.client_in_turn-answer.result) c.into_seat-seat.result.me.0 c.client_in_turn-answer.new.seat.me.0) c.number-number.ensures c.client_in_turn-answer.ensures.event)

pub into_seat-seat-requires : goal.into_seat-seat-requires
into_seat-seat-requires g c = only_one c.replace-badge.result.views (subst (λ b. length b.views ≡ 1) (sym c.replace-badge.ensures.value) c.args.pass.now.one)
