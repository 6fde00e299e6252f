use Rattle.std.proofs.Common.{refl}
use Rattle.pm_view.specs.Law.{HeapLaw}
use Rattle.pm_space.specs.Shown.{view}
use Rattle.pm_view.specs.Stale.{IsSole}
use Rattle.pm_view.specs.Bounded.{KeepsRank, KeepsSunk}
use Rattle.pm_law_bound.proofs.RankLemmas.Compared.{itself}
use Rattle.pm_mutate.proofs.Carried.{refused_still, born_so, row_holds, adds_little, keeps_sunk}
use Rattle.pm_mutate.proofs.ShownBytes.{shown_leaves, shown_short}
use Rattle.pm_mutate.proofs.acting.act.Goals as goal

pub invariant_of-space : goal.invariant_of-space
invariant_of-space g c =
    let v = view c.args.space.now.parts in
    let w = view c.run.new.parts in
    let client = c.args.client in
    let cmd = c.args.cmd.now in
    let few = c.requires.client in
    let law = c.args.space.now.kept in
    record {
      kept = row_holds c.run.result HeapLaw v w client cmd law (λ picks are. c.a_command_keeps_the_heap_law.ensures v client cmd picks law few c.sound.ensures are) c.run.ensures.row.ok c.run.ensures.row.err;
      still = λ train is. refl;
      sole = row_holds c.run.result (λ u. IsSole u c.args.space.now.moved) v w client cmd c.args.space.now.sole
          (λ picks are. c.a_command_leaves_the_slot_that_moved.ensures v client cmd picks c.args.space.now.moved law few are c.args.space.now.sole) c.run.ensures.row.ok c.run.ensures.row.err;
    }

pub returns-clause-refused : goal.returns-clause-refused
returns-clause-refused g c =
    let v = view c.args.space.now.parts in
    refused_still v (view c.run.new.parts) c.args.client c.args.cmd.now c.run.result c.run.ensures.row.ok (λ picks refused. c.a_refused_command_leaves_the_space.ensures v c.args.client c.args.cmd.now picks refused)

pub returns-clause-born : goal.returns-clause-born
returns-clause-born g c =
    let v = view c.args.space.now.parts in
    born_so c.run.result v (view c.run.new.parts) c.args.client c.args.cmd.now c.sound.ensures c.run.ensures.row.ok
    (λ reg count bytes picks small are is. c.new_adds_one_object_in_the_open_train.ensures v c.args.client reg count bytes picks c.args.space.now.kept c.requires.client small are is)

pub returns-clause-course : goal.returns-clause-course
returns-clause-course g c =
    let v = view c.args.space.now.parts in
    let w = view c.run.new.parts in
    let client = c.args.client in
    let cmd = c.args.cmd.now in
    let few = c.requires.client in
    let law = c.args.space.now.kept in
    let row = c.run.ensures.row.ok in
    let err = c.run.ensures.row.err in
    record {
      work = adds_little c.run.result v w client cmd (λ picks are. c.a_command_adds_little_work.ensures v client cmd picks law few are) row err;
      rank = row_holds c.run.result (KeepsRank v) v w client cmd (itself v) (λ picks are. c.a_command_keeps_the_rank.ensures v client cmd picks law few c.sound.ensures are) row err;
      sunk = row_holds c.run.result (KeepsSunk v) v w client cmd (keeps_sunk v) (λ picks are. c.a_command_keeps_sunk_sets.ensures v client cmd picks law few c.sound.ensures are) row err;
    }

pub returns-clause-short : goal.returns-clause-short
returns-clause-short g c = shown_short (view c.args.space.now.parts) (view c.run.new.parts) c.args.space.now.kept c.args.client c.args.cmd.now c.run.result c.run.ensures.row.ok

pub returns-clause-shown : goal.returns-clause-shown
returns-clause-shown g c = shown_leaves (view c.args.space.now.parts) (view c.run.new.parts) c.args.space.now.kept c.args.client c.args.cmd.now c.run.result c.run.ensures.row.ok
