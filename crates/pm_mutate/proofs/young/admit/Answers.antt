use Rattle.std.proofs.Common.{refl, subst, IfOk}
use Rattle.pm_types.specs.declared.object.Object.{Object}
use Rattle.pm_view.specs.Law.{HeapLaw}
use Rattle.pm_view.specs.Stale.{IsSole}
use Rattle.pm_space.specs.Shown.{view}
use Rattle.pm_law_commands.proofs.RowLemmas.Born.{born_gives}
use Rattle.pm_mutate.specs.Commands.Births.{IsBornAt}
use Rattle.pm_mutate.specs.Young.{admitted}
use Rattle.pm_mutate.proofs.Late.{may_be_born, birth_holds, admits_too, adds_it}
use Rattle.pm_mutate.proofs.young.admit.Goals as goal

pub invariant_of-space : goal.invariant_of-space
invariant_of-space g c =
    let v = view c.args.space.now.parts in
    let w = view c.be_born.new.parts in
    let law = c.args.space.now.kept in
    let object = admitted c.args.id c.args.count c.args.bytes.now in
    let row = subst (λ (o : Object). IfOk c.be_born.result (λ place. IsBornAt v o (place, w))) c.in_ok-object.ensures c.be_born.ensures.row.ok in
    record {
      kept = birth_holds c.be_born.result HeapLaw v w object law
          (λ number vacant. (born_gives v number object law (may_be_born v c.args.id c.args.count c.args.bytes.now c.requires.may) vacant).law) row c.be_born.ensures.row.err;
      still = λ train is. refl;
      sole = birth_holds c.be_born.result (λ u. IsSole u c.args.space.now.moved) v w object c.args.space.now.sole
          (λ number vacant. c.a_source_or_a_birth_leaves_the_slot_that_moved.ensures.birth v number object c.args.space.now.moved law vacant c.args.space.now.sole) row c.be_born.ensures.row.err;
    }

pub returns-clause-worlds : goal.returns-clause-worlds
returns-clause-worlds g c =
    let v = view c.args.space.now.parts in
    let w = view c.be_born.new.parts in
    let row = subst (λ (o : Object). IfOk c.be_born.result (λ place. IsBornAt v o (place, w))) c.in_ok-object.ensures c.be_born.ensures.row.ok in
    admits_too v w c.args.id c.args.count c.args.bytes.now c.args.space.now.kept c.requires.may c.be_born.result row

pub returns-clause-objects : goal.returns-clause-objects
returns-clause-objects g c =
    let v = view c.args.space.now.parts in
    let w = view c.be_born.new.parts in
    let row = subst (λ (o : Object). IfOk c.be_born.result (λ place. IsBornAt v o (place, w))) c.in_ok-object.ensures c.be_born.ensures.row.ok in
    adds_it v w c.args.id c.args.count c.args.bytes.now c.args.space.now.kept c.requires.may c.be_born.result row
