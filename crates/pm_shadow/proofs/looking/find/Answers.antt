use Rattle.std.proofs.Common.{Option, sym, subst, ◌∙◌}
use Rattle.pm_shadow.specs.Attaching.{IsSeenIn, AreSlotsOf, picked_in}
use Rattle.pm_shadow.specs.declared.attaching.Seen.{Seen}
use Rattle.pm_shadow.proofs.AttachLemmas.{current_short, seen_current, picked_lt, found_in, seen_kind, fault_of_rule, cause_of_rule}
use Rattle.pm_shadow.proofs.looking.find.Goals as goal

pub returns-in-Ok-None-clause-fault : goal.returns-in-Ok-None-clause-fault
returns-in-Ok-None-clause-fault g c bytes told = current_short bytes (subst (λ (seen : Option Seen). IsSeenIn bytes seen) c.in-Ok-None.field-0-is (c.in-Ok-None.ensures.seen bytes told))

pub returns-in-Ok-clause-found : goal.returns-in-Ok-clause-found
returns-in-Ok-clause-found g c bytes told =
    let seen = c.in-Ok-Some.seen in
    let slots : AreSlotsOf bytes seen = subst (λ (it : Option Seen). IsSeenIn bytes it) c.in-Ok-Some.field-0-is (c.in-Ok-Some.ensures.seen bytes told) in
    let e = c.in-Ok.ensures in
    found_in bytes (g.D.Disk.image c.look.new.disk) seen c.in-Ok.found slots (c.in-Ok-Some.ensures.only bytes told) e.ok e.slot e.count e.closed

pub returns-in-Err-current-clause-fault : goal.returns-in-Err-current-clause-fault
returns-in-Err-current-clause-fault g c bytes told =
    let seen = c.in-Ok-Some.seen in
    let slots : AreSlotsOf bytes seen = subst (λ (it : Option Seen). IsSeenIn bytes it) c.in-Ok-Some.field-0-is (c.in-Ok-Some.ensures.seen bytes told) in
    let err = c.in-Err-current.ensures.err in
    fault_of_rule bytes c.in-Err-current.fault (seen_kind seen (picked_in seen) c.in-Err-current.fault err) (sym (seen_current bytes seen slots (picked_lt seen)) ∙ err)

pub returns-in-Err-current-clause-cause : goal.returns-in-Err-current-clause-cause
returns-in-Err-current-clause-cause g c =
    let seen = c.in-Ok-Some.seen in
    cause_of_rule (g.D.Disk.count c.args.disk.now) (g.D.Disk.count c.look.new.disk) c.in-Err-current.fault (seen_kind seen (picked_in seen) c.in-Err-current.fault c.in-Err-current.ensures.err) c.in-Ok-Some.ensures.cause
