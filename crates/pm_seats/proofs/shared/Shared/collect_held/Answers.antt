use Rattle.std.proofs.Common.{Ok, Err, ap, ◌∙◌}
use Rattle.pm_engine.specs.contracts.Engine as engines
use Rattle.pm_passes.specs.Views.{given}
use Rattle.pm_seats.specs.declared.limits.TheConstants.{LAST_EVENT}
use Rattle.pm_seats.specs.Events.{CallsCollect}
use Rattle.pm_seats.specs.Sharing.{first_engine}
use Rattle.pm_seats.specs.Turns.{given_after}
use Rattle.pm_seats.proofs.Answered.{collect_faulted, step_less}
use Rattle.pm_seats.proofs.Changes.{own_given}
use Rattle.pm_seats.proofs.Turning.{gives, may_fail, may_give, own_after, own_back, ready}
use Rattle.pm_seats.proofs.shared.Shared.collect_held.Goals as goal

pub give_back-requires-clause-may : goal.give_back-requires-clause-may
give_back-requires-clause-may g c =
    let made = c.in-Err.ensures.made in
    may_fail (first_engine c.args.self.now) (λ old new. CallsCollect g.F.Fn LAST_EVENT old new (Err c.in-Err.fault)) c.args.seat.now.me.0 _ c.in-Err.ensures.view made c.in-Err.fault (collect_faulted g.F.Fn made.old made.new c.in-Err.fault made.event.does.does).0

pub put_back-requires-clause-ready : goal.put_back-requires-clause-ready
put_back-requires-clause-ready g c =
    let view = c.in-Ok.ensures.view in
    let made = c.in-Ok.ensures.made in
    let does = made.event.does.does in
    ready (engines.the_row g.row.D g.row.F g.D.Disk).coded.code (first_engine c.args.self.now) _
    (may_give (first_engine c.args.self.now) (λ old new. CallsCollect g.F.Fn LAST_EVENT old new (Ok c.in-Ok.made)) c.args.seat.now.me.0 _ view made does.log (step_less g.F.Fn made.old made.new c.in-Ok.made does))
    (ap (λ x. x.origin) view ∙ c.requires.origin)

pub returns-in-Ok-clause-own : goal.returns-in-Ok-clause-own
returns-in-Ok-clause-own g c =
    let x = c.put_back.ensures.back in
    own_back given c.args.seat.now.me.0 _ _ c.in-Ok.ensures.view (λ n. own_given c.args.seat.now.me.0 n c.requires.own) (record { book = x.0; held = x.1; back = x.2 })

pub returns-in-Ok-clause-given : goal.returns-in-Ok-clause-given
returns-in-Ok-clause-given g c =
    let x = c.put_back.ensures.back in
    gives (first_engine c.args.self.now) (λ old new. CallsCollect g.F.Fn LAST_EVENT old new (Ok c.in-Ok.made)) c.args.seat.now.me.0 _ c.in-Ok.ensures.view c.in-Ok.ensures.made given _ (record { book = x.0; held = x.1; back = x.2 })

pub returns-in-Err-clause-own : goal.returns-in-Err-clause-own
returns-in-Err-clause-own g c =
    own_back (given_after c.in-Err.fault) c.args.seat.now.me.0 _ _ c.in-Err.ensures.view (λ n. own_after c.in-Err.fault c.args.seat.now.me.0 n c.requires.own) c.give_back.ensures.back

pub returns-in-Err-clause-given : goal.returns-in-Err-clause-given
returns-in-Err-clause-given g c =
    gives (first_engine c.args.self.now) (λ old new. CallsCollect g.F.Fn LAST_EVENT old new (Err c.in-Err.fault)) c.args.seat.now.me.0 _ c.in-Err.ensures.view c.in-Err.ensures.made (given_after c.in-Err.fault) _ c.give_back.ensures.back
