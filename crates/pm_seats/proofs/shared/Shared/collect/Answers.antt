use Rattle.std.proofs.Common.{◌≡◌, length, ap, subst, sym, ◌∙◌}
use Rattle.pm_passes.specs.Passes.{view_of}
use Rattle.pm_passes.specs.Views.{view_in}
use Rattle.pm_seats.specs.declared.limits.TheConstants.{LAST_EVENT}
use Rattle.pm_seats.specs.Events.{CallsCollect}
use Rattle.pm_seats.specs.Sharing.{first_engine}
use Rattle.pm_seats.proofs.Turning.{event_as}
use Rattle.pm_seats.proofs.Single.{only_one}
use Rattle.pm_seats.proofs.shared.Shared.collect.Goals as goal

pub returns-clause-event : goal.returns-clause-event
returns-clause-event g c =
    event_as (first_engine c.args.self.now) (λ old new. CallsCollect g.F.Fn LAST_EVENT old new c.collect_in_turn-answer.result) c.into_seat-seat.result.me.0 (view_of c.args.pass.now) c.collect_in_turn-answer.new.seat.me.0 (view_in c.into_badge.result.views)
    (sym (ap view_in c.into_seat-seat.ensures.2) ∙ ap (λ b. view_in b.views) c.replace-badge.ensures.value) (sym (ap view_in c.into_badge.ensures.2))
    c.collect_in_turn-answer.ensures.event

pub into_seat-seat-requires : goal.into_seat-seat-requires
into_seat-seat-requires g c = only_one c.replace-badge.result.views (subst (λ b. length b.views ≡ 1) (sym c.replace-badge.ensures.value) c.args.pass.now.one)
