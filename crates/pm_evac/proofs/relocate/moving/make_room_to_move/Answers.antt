use Rattle.std.proofs.Common.{◌+◌, subst, ◌∙◌, List, Option}
use Rattle.pm_types.specs.declared.address.Addr.{Addr}
use Rattle.pm_space.specs.Linked.{HasRoom}
use Rattle.pm_evac.specs.Relocate.Named.{named_by, naming}
use Rattle.pm_evac.proofs.RelocateLemmas.Naming.{same_fields}
use Rattle.pm_evac.proofs.relocate.moving.make_room_to_move.Goals as goal

pub returns-clause-room : goal.returns-clause-room
returns-clause-room c = λ object here car.
    let fields = c.as_slice.ensures ∙ same_fields c.in-Some.object.now object (c.in-Some.ensures.object ∙ here) in
    subst (λ (old : List (Option Addr)). HasRoom c.make_room_for_named.new.links car (named_by old car + named_by c.args.fields.now car)) fields (c.in_ok-many.ensures.room car)

pub returns-clause-many : goal.returns-clause-many
returns-clause-many c = λ object here.
    let fields = c.as_slice.ensures ∙ same_fields c.in-Some.object.now object (c.in-Some.ensures.object ∙ here) in
    c.in_ok-many.ensures.many ∙ (λ i. naming (fields i) + naming c.args.fields.now)
