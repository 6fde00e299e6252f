use Rattle.std.proofs.Common.{◌≡◌, ◌-◌, sym, ap, ◌∙◌, None, rules, arith}
use Rattle.std.specs.FinMap.{get}
use Rattle.pm_snap.specs.Snapped.{without}
use Rattle.pm_snap.specs.Kept.{table_of}
use Rattle.pm_snap.proofs.Shown.{none_is_not_some}
use Rattle.pm_snap.proofs.Tables.{written, unwritten, used_part, ready_part, used_from_one, zero_stays}
use Rattle.pm_snap.proofs.Passed.{kept_freed, kept_above, some_counted}
use Rattle.pm_snap.proofs.table.Table.remove.Goals as goal
use Rattle.pm_snap.proofs.table.Table.remove.Goals.{then-key-self, else-key-self}

pub save-requires : goal.save-requires
save-requires g c = used_part c.self.inside.values c.self.inside.kept c.args.self.now c.args.key c.self.view_is c.requires

pub returns-in_err-save-clause-err : goal.returns-in_err-save-clause-err
returns-in_err-save-clause-err g c =
    let same : table_of c.self.inside.values c.save.new.kept ≡ c.args.self.now = unwritten c.self.inside.values c.self.inside.kept c.save.new.kept c.in_err-save.ensures.err ∙ c.self.view_is in
    search (rules, same)

pub returns-in_err-save-clause-succeeds : goal.returns-in_err-save-clause-succeeds
returns-in_err-save-clause-succeeds g c = λ ready.
    let ok = c.in_err-save.ensures.succeeds (ready_part c.self.inside.values c.self.inside.kept c.args.self.now c.args.key c.self.view_is ready) in
    absurd (grind (arith, ok))

pub unreachable-requires : goal.unreachable-requires
unreachable-requires g c =
    none_is_not_some _ (sym c.remove.ensures.value ∙ c.in_default.is) (used_part c.self.inside.values c.self.inside.kept c.args.self.now c.args.key c.self.view_is c.requires)

pub overflow_sub-self : goal.overflow_sub-self
overflow_sub-self g c =
    let used = used_part c.self.inside.values c.self.inside.kept c.args.self.now c.args.key c.self.view_is c.requires in
    some_counted c.self.inside.values c.self.inside.used c.self.inside.freed c.self.inside.next c.self.invariant.keys c.args.key used

pub put-requires-clause-room : goal.put-requires-clause-room
put-requires-clause-room g c =
    let used = used_part c.self.inside.values c.self.inside.kept c.args.self.now c.args.key c.self.view_is c.requires in
    let some = some_counted c.self.inside.values c.self.inside.used c.self.inside.freed c.self.inside.next c.self.invariant.keys c.args.key used in
    let room = c.self.invariant.keys.room in
    omega arith

pub invariant_of-self-then-key-self : goal.invariant_of-self-then-key-self
invariant_of-self-then-key-self g c =
    let m = c.self.inside.values in
    let used = used_part m c.self.inside.kept c.args.self.now c.args.key c.self.view_is c.requires in
    let some = some_counted m c.self.inside.used c.self.inside.freed c.self.inside.next c.self.invariant.keys c.args.key used in
    record {
      keys = kept_freed m c.self.inside.used c.self.inside.freed c.self.inside.next c.self.invariant.keys c.remove.new.self c.args.key used c.in-Some.ensures.after (c.self.inside.used - 1) (omega arith)
          c.put.new.self c.if-key-self.true c.put.ensures.keys c.put.ensures.room;
      zero_unnoted = zero_stays c.self.inside.kept c.save.new.kept c.args.key _ c.in_ok-save.ensures.ok (used_from_one m c.args.key c.self.invariant.keys.zero_unused used) c.self.invariant.zero_unnoted;
    }

pub invariant_of-self-else-key-self : goal.invariant_of-self-else-key-self
invariant_of-self-else-key-self g c =
    let m = c.self.inside.values in
    let used = used_part m c.self.inside.kept c.args.self.now c.args.key c.self.view_is c.requires in
    let some = some_counted m c.self.inside.used c.self.inside.freed c.self.inside.next c.self.invariant.keys c.args.key used in
    record {
      keys = kept_above m c.self.inside.used c.self.inside.freed c.self.inside.next c.self.invariant.keys c.remove.new.self c.args.key used c.in-Some.ensures.after (c.self.inside.used - 1) (omega arith) c.if-key-self.false;
      zero_unnoted = zero_stays c.self.inside.kept c.save.new.kept c.args.key _ c.in_ok-save.ensures.ok (used_from_one m c.args.key c.self.invariant.keys.zero_unused used) c.self.invariant.zero_unnoted;
    }

pub returns-clause-value : goal.returns-clause-value
returns-clause-value g c =
    ap (λ s. get s.current c.args.key) (sym c.self.view_is) ∙ sym c.in-Some.ensures.value

pub returns-clause-ok : goal.returns-clause-ok
returns-clause-ok g c =
    let view = written c.self.inside.values c.self.inside.kept c.save.new.kept c.args.key None c.in_ok-save.ensures.ok c.remove.new.self c.in-Some.ensures.after
    ∙ ap (λ s. without s c.args.key) c.self.view_is in
    elim c.if-key-self.branch [ then-key-self w ↦ w.self-is ∙ view | else-key-self w ↦ w.self-is ∙ view ]
