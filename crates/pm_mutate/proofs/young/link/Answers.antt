use Rattle.std.proofs.Common.{Some, refl}
use Rattle.pm_types.specs.declared.source.RefSource.TheVariants.{Field}
use Rattle.pm_view.specs.Law.{HeapLaw}
use Rattle.pm_view.specs.Objects.{KeepsObjects}
use Rattle.pm_view.specs.Rows.{spread}
use Rattle.pm_view.specs.Stale.{IsSole}
use Rattle.pm_space.specs.Shown.{view}
use Rattle.pm_law_commands.proofs.Objects.{spread_keeps}
use Rattle.pm_mutate.proofs.Late.{links_too, still, source_holds}
use Rattle.pm_mutate.proofs.young.link.Goals as goal

pub invariant_of-space : goal.invariant_of-space
invariant_of-space g c =
    let v = view c.args.space.now.parts in
    let w = view c.spread.new.parts in
    let u = spread v (Field c.args.at c.args.index) (Some c.args.to) in
    record {
      kept = source_holds c.spread.result HeapLaw v w u c.args.space.now.kept (c.a_source_is_set.ensures.law v (Field c.args.at c.args.index) (Some c.args.to) c.args.space.now.kept c.requires.stands tt c.requires.live) c.spread.ensures.ok c.spread.ensures.err;
      still = λ train is. refl;
      sole = source_holds c.spread.result (λ u. IsSole u c.args.space.now.moved) v w u c.args.space.now.sole
          (c.a_source_or_a_birth_leaves_the_slot_that_moved.ensures.source v (Field c.args.at c.args.index) (Some c.args.to) c.args.space.now.moved c.args.space.now.sole) c.spread.ensures.ok c.spread.ensures.err;
    }

pub returns-clause-worlds : goal.returns-clause-worlds
returns-clause-worlds g c = links_too (view c.args.space.now.parts) (view c.spread.new.parts) c.args.space.now.kept c.spread.result c.args.at c.args.to c.args.index c.requires.stands c.requires.live c.spread.ensures.ok

pub returns-clause-objects : goal.returns-clause-objects
returns-clause-objects g c =
    let v = view c.args.space.now.parts in
    source_holds c.spread.result (KeepsObjects v) v (view c.spread.new.parts) (spread v (Field c.args.at c.args.index) (Some c.args.to)) (still v) (spread_keeps v (Field c.args.at c.args.index) (Some c.args.to)) c.spread.ensures.ok c.spread.ensures.err
