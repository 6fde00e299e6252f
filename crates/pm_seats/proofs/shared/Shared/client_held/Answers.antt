use Rattle.std.proofs.Common.{Ok, Err, ap, arith, refl, ◌∙◌}
use Rattle.pm_engine.specs.contracts.Engine as engines
use Rattle.pm_seats.specs.declared.limits.TheConstants.{LAST_EVENT}
use Rattle.pm_seats.specs.Events.{CallsClient}
use Rattle.pm_seats.specs.Sharing.{first_engine}
use Rattle.pm_seats.specs.Turns.{given_after}
use Rattle.pm_seats.proofs.Answered.{client_faulted}
use Rattle.pm_seats.proofs.Turning.{adds, gives, gives_entered, may_entered, may_fail, own_after, own_back, own_then, place_below, ready}
use Rattle.pm_seats.proofs.shared.Shared.client_held.Goals as goal

pub overflow_add-seen : goal.overflow_add-seen
overflow_add-seen g c =
    let made = c.in-Ok.ensures.made in
    let below = place_below made.old made.new c.args.number c.args.client c.args.cmd.now c.in-Ok.seen made.event.does.does made.event.few in
    omega (arith, below)

pub enter-requires-clause-entry : goal.enter-requires-clause-entry
enter-requires-clause-entry g c =
    let made = c.in-Ok.ensures.made in
    (made.new, made.held, adds (first_engine c.args.self.now) (λ old new. CallsClient LAST_EVENT c.args.number c.args.client c.args.cmd.now old new (Ok c.in-Ok.seen)) c.args.seat.now.me.0 _ c.in-Ok.ensures.view made c.args.number c.args.client c.args.cmd.now c.in-Ok.seen c.requires.number made.event.does.does _ refl)

pub put_back-requires-clause-ready : goal.put_back-requires-clause-ready
put_back-requires-clause-ready g c =
    let view = c.in-Ok.ensures.view in
    let made = c.in-Ok.ensures.made in
    let x = c.enter.ensures.entered in
    ready (engines.the_row g.row.D g.row.F g.D.Disk).coded.code (first_engine c.args.self.now) _
    (may_entered (first_engine c.args.self.now) (λ old new. CallsClient LAST_EVENT c.args.number c.args.client c.args.cmd.now old new (Ok c.in-Ok.seen)) c.args.seat.now.me.0 _ view made c.args.number c.args.client c.args.cmd.now c.in-Ok.seen c.requires.number made.event.does.does _ x.value x.entry x.held x.last x.after)
    (ap (λ m. m.0.origin) x.after ∙ ap (λ m. m.origin) view ∙ c.requires.origin)

pub returns-in-Ok-clause-own : goal.returns-in-Ok-clause-own
returns-in-Ok-clause-own g c =
    let x = c.enter.ensures.entered in
    let y = c.put_back.ensures.back in
    own_then _ _ _ x y.0 y.2

pub returns-in-Ok-clause-given : goal.returns-in-Ok-clause-given
returns-in-Ok-clause-given g c =
    let made = c.in-Ok.ensures.made in
    let x = c.enter.ensures.entered in
    let y = c.put_back.ensures.back in
    gives_entered (first_engine c.args.self.now) (λ old new. CallsClient LAST_EVENT c.args.number c.args.client c.args.cmd.now old new (Ok c.in-Ok.seen)) c.args.seat.now.me.0 _ c.in-Ok.ensures.view made c.args.number c.args.client c.args.cmd.now c.in-Ok.seen c.requires.number made.event.does.does _ x.value x.entry x.held x.last x.after _ y.0 y.1 y.2

pub give_back-requires-clause-may : goal.give_back-requires-clause-may
give_back-requires-clause-may g c =
    let made = c.in-Err.ensures.made in
    may_fail (first_engine c.args.self.now) (λ old new. CallsClient LAST_EVENT c.args.number c.args.client c.args.cmd.now old new (Err c.in-Err.fault)) c.args.seat.now.me.0 _ c.in-Err.ensures.view made c.in-Err.fault
    (client_faulted c.args.number c.args.client c.args.cmd.now made.old made.new c.in-Err.fault made.event.does.does).0

pub returns-in-Err-clause-own : goal.returns-in-Err-clause-own
returns-in-Err-clause-own g c =
    own_back (given_after c.in-Err.fault) c.args.seat.now.me.0 _ _ c.in-Err.ensures.view (λ n. own_after c.in-Err.fault c.args.seat.now.me.0 n c.requires.own) c.give_back.ensures.back

pub returns-in-Err-clause-given : goal.returns-in-Err-clause-given
returns-in-Err-clause-given g c =
    gives (first_engine c.args.self.now) (λ old new. CallsClient LAST_EVENT c.args.number c.args.client c.args.cmd.now old new (Err c.in-Err.fault)) c.args.seat.now.me.0 _ c.in-Err.ensures.view c.in-Err.ensures.made (given_after c.in-Err.fault) _ c.give_back.ensures.back
