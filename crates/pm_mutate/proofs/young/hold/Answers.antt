use Rattle.std.proofs.Common.{Some, refl}
use Rattle.pm_types.specs.declared.source.RefSource.TheVariants.{Handle}
use Rattle.pm_view.specs.Law.{HeapLaw}
use Rattle.pm_view.specs.Objects.{KeepsObjects}
use Rattle.pm_view.specs.Rows.{spread}
use Rattle.pm_view.specs.Stale.{IsSole}
use Rattle.pm_space.specs.Shown.{view}
use Rattle.pm_law_commands.proofs.Objects.{spread_keeps}
use Rattle.pm_mutate.proofs.Late.{holds_too, still, source_holds}
use Rattle.pm_mutate.proofs.young.hold.Goals as goal

pub invariant_of-space : goal.invariant_of-space
invariant_of-space g c =
    let v = view c.args.space.now.parts in
    let w = view c.hold_with_room.new.parts in
    let u = spread v (Handle c.args.client c.args.register) (Some c.args.at) in
    record {
      kept = source_holds c.hold_with_room.result HeapLaw v w u c.args.space.now.kept (c.a_source_is_set.ensures.law v (Handle c.args.client c.args.register) (Some c.args.at) c.args.space.now.kept (c.requires.client, c.requires.register) tt c.requires.live) c.hold_with_room.ensures.ok c.hold_with_room.ensures.err;
      still = λ train is. refl;
      sole = source_holds c.hold_with_room.result (λ u. IsSole u c.args.space.now.moved) v w u c.args.space.now.sole
          (c.a_source_or_a_birth_leaves_the_slot_that_moved.ensures.source v (Handle c.args.client c.args.register) (Some c.args.at) c.args.space.now.moved c.args.space.now.sole) c.hold_with_room.ensures.ok c.hold_with_room.ensures.err;
    }

pub returns-clause-worlds : goal.returns-clause-worlds
returns-clause-worlds g c = holds_too (view c.args.space.now.parts) (view c.hold_with_room.new.parts) c.args.space.now.kept c.hold_with_room.result c.args.client c.args.register c.args.at c.requires.client c.requires.register c.requires.live c.hold_with_room.ensures.ok

pub returns-clause-objects : goal.returns-clause-objects
returns-clause-objects g c =
    let v = view c.args.space.now.parts in
    source_holds c.hold_with_room.result (KeepsObjects v) v (view c.hold_with_room.new.parts) (spread v (Handle c.args.client c.args.register) (Some c.args.at)) (still v) (spread_keeps v (Handle c.args.client c.args.register) (Some c.args.at)) c.hold_with_room.ensures.ok c.hold_with_room.ensures.err
