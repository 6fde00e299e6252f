use Rattle.std.proofs.Common.{sym, ap, subst, ◌∙◌, Some, None, arith}
use Rattle.std.specs.FinSet as set
use Rattle.pm_snap.specs.Snapped.{with_value}
use Rattle.pm_snap.specs.Kept.{Notes, table_of}
use Rattle.pm_snap.proofs.Tables.{written, unwritten, unused_part, zero_stays}
use Rattle.pm_snap.proofs.Passed.{kept_same, kept_added, added_there, undone}
use Rattle.pm_snap.proofs.table.Table.add_at.Goals as goal

pub unreachable-requires : goal.unreachable-requires
unreachable-requires g c =
    let there = added_there c.self.inside.values c.insert.new.self c.args.key c.args.value c.in_ok-insert.ensures.ok in
    let none = c.remove.ensures.value in
    grind (arith, there, none, c.in_default-remove.is)

pub returns-in-Err-note-clause-given_back : goal.returns-in-Err-note-clause-given_back
returns-in-Err-note-clause-given_back g c =
    let there = added_there c.self.inside.values c.insert.new.self c.args.key c.args.value c.in_ok-insert.ensures.ok in
    let some = c.in-Some-remove.ensures.value in
    grind (arith, there, some)

pub invariant_of-self-in-Err-note : goal.invariant_of-self-in-Err-note
invariant_of-self-in-Err-note g c =
    let m = c.self.inside.values in
    let unused = unused_part m c.self.inside.kept c.args.self.now c.args.key c.self.view_is c.requires.unused in
    let again = c.remove.ensures.after ∙ undone m c.insert.new.self c.args.key c.args.value unused c.in_ok-insert.ensures.ok in
    record {
      keys = kept_same m c.self.inside.used c.self.inside.freed c.self.inside.next c.self.invariant.keys c.remove.new.self c.reserve.new.self again c.reserve.ensures.keys c.reserve.ensures.kept;
      zero_unnoted = c.in-Err-note.ensures.err.same 0 ∙ c.self.invariant.zero_unnoted;
    }

pub returns-in-Err-note-clause-err : goal.returns-in-Err-note-clause-err
returns-in-Err-note-clause-err g c =
    let m = c.self.inside.values in
    let unused = unused_part m c.self.inside.kept c.args.self.now c.args.key c.self.view_is c.requires.unused in
    let again = c.remove.ensures.after ∙ undone m c.insert.new.self c.args.key c.args.value unused c.in_ok-insert.ensures.ok in
    ap (λ v. table_of v c.note.new.kept) again ∙ unwritten m c.self.inside.kept c.note.new.kept c.in-Err-note.ensures.err ∙ c.self.view_is

pub invariant_of-self-2 : goal.invariant_of-self-2
invariant_of-self-2 g c =
    let m = c.self.inside.values in
    let unused = unused_part m c.self.inside.kept c.args.self.now c.args.key c.self.view_is c.requires.unused in
    let reserved = c.in_default-reserve.ensures.room in
    let room = c.use_freed.ensures.room in
    record {
      keys = kept_added m c.self.inside.used c.self.inside.freed c.self.inside.next c.self.invariant.keys c.insert.new.self c.use_freed.new.freed c.args.key c.in-Some.after c.args.value
          c.in-Some-checked_add.used c.in-Some-checked_add.ensures.1 c.in-Some.ensures.found c.requires.from_one unused c.in_ok-insert.ensures.ok
          (c.use_freed.ensures.keys ∙ ap (λ s. set.remove s c.args.key) c.reserve.ensures.keys) (omega arith);
      zero_unnoted = zero_stays c.self.inside.kept c.note.new.kept c.args.key None c.in_default-note.ensures.ok c.requires.from_one c.self.invariant.zero_unnoted;
    }

pub returns-clause-ok : goal.returns-clause-ok
returns-clause-ok g c =
    let m = c.self.inside.values in
    let unused = unused_part m c.self.inside.kept c.args.self.now c.args.key c.self.view_is c.requires.unused in
    written m c.self.inside.kept c.note.new.kept c.args.key (Some c.args.value)
    (subst (Notes c.self.inside.kept c.note.new.kept c.args.key) (sym unused) c.in_default-note.ensures.ok) c.insert.new.self c.in_ok-insert.ensures.ok
    ∙ ap (λ s. with_value s c.args.key c.args.value) c.self.view_is
