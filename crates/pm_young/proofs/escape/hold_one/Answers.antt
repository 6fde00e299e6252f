use Rattle.std.proofs.Common.{ℕ, ◌+◌, Some, get_or, drop, refl, subst, ◌∙◌, rules}
use Rattle.std.proofs.Math.ListN.{drop_of_length-le}
use Rattle.std.proofs.lemmas.List.{drop_more}
use Rattle.pm_types.specs.declared.source.RefSource.TheVariants.{Handle}
use Rattle.pm_space.specs.Shown.{view}
use Rattle.pm_young.proofs.Holding.{HoldingOne, holding_ends, holding_more, holding_none, holding_row, is_register, next_of_all}
use Rattle.pm_young.proofs.Linked.{keeps_still, next_still}
use Rattle.pm_young.proofs.escape.hold_one.Goals as goal

pub loop-client-init : goal.loop-client-init
loop-client-init g c = record {
  so_far = holding_none (view c.args.space.now.parts) c.args.id c.args.at c.holders-holders.result.now;
  rest = record { frozen = refl; place = refl };
}

pub hold-requires-clause-client : goal.hold-requires-clause-client
hold-requires-clause-client g c =
    let v = view c.args.space.now.parts in
    let u = view c.loop-client.space.parts in
    let whole = c.holders-holders.result.now in
    let i = c.loop-client.client-index in
    let holder : ℕ × (ℕ × ℕ) = get_or whole i (0, (0, 0)) in
    let left = subst (HoldingOne v u c.args.id c.args.at whole) (drop_more whole i (0, (0, 0)) c.loop-client-test.true) c.loop-client.invariant.so_far in
    (is_register c.args.nursery.now c.sound.ensures c.args.id whole c.holders-holders.ensures holder (next_of_all v u c.args.id c.args.at whole (drop (i + 1) whole) holder left)).1.0

pub hold-requires-clause-register : goal.hold-requires-clause-register
hold-requires-clause-register g c =
    let v = view c.args.space.now.parts in
    let u = view c.loop-client.space.parts in
    let whole = c.holders-holders.result.now in
    let i = c.loop-client.client-index in
    let holder : ℕ × (ℕ × ℕ) = get_or whole i (0, (0, 0)) in
    let left = subst (HoldingOne v u c.args.id c.args.at whole) (drop_more whole i (0, (0, 0)) c.loop-client-test.true) c.loop-client.invariant.so_far in
    (is_register c.args.nursery.now c.sound.ensures c.args.id whole c.holders-holders.ensures holder (next_of_all v u c.args.id c.args.at whole (drop (i + 1) whole) holder left)).1.1

pub loop-client-preserved : goal.loop-client-preserved
loop-client-preserved g c =
    let v = view c.args.space.now.parts in
    let u = view c.loop-client.space.parts in
    let w = view c.hold.new.space.parts in
    let whole = c.holders-holders.result.now in
    let i = c.loop-client.client-index in
    let holder : ℕ × (ℕ × ℕ) = get_or whole i (0, (0, 0)) in
    let left = subst (HoldingOne v u c.args.id c.args.at whole) (drop_more whole i (0, (0, 0)) c.loop-client-test.true) c.loop-client.invariant.so_far in
    let is = is_register c.args.nursery.now c.sound.ensures c.args.id whole c.holders-holders.ensures holder (next_of_all v u c.args.id c.args.at whole (drop (i + 1) whole) holder left) in
    record {
      so_far =
          holding_more v u w c.args.id c.args.at whole (drop (i + 1) whole) holder is.0 left (keeps_still v u c.loop-client.invariant.so_far.keeps c.args.id c.args.at c.requires.place)
          c.in_ok-hold.ensures.worlds c.in_ok-hold.ensures.row c.hold.ensures.objects (next_still c.hold.result u w (Handle holder.1.0 holder.1.1) (Some c.args.at) c.hold.ensures.row c.hold.ensures.err);
      rest = record { frozen = c.hold.ensures.rest.frozen ∙ c.loop-client.invariant.rest.frozen; place = c.hold.ensures.rest.place ∙ c.loop-client.invariant.rest.place };
    }

pub returns-clause-worlds : goal.returns-clause-worlds
returns-clause-worlds g c =
    let whole = c.holders-holders.result.now in
    holding_ends (view c.args.space.now.parts) (view c.loop-client.space.parts) c.args.nursery.now.registers c.args.id c.args.at whole (drop c.loop-client.client-index whole)
    (drop_of_length-le whole (search rules)) c.holders-holders.ensures c.loop-client.invariant.so_far

pub returns-clause-row : goal.returns-clause-row
returns-clause-row g c =
    let whole = c.holders-holders.result.now in
    holding_row (view c.args.space.now.parts) (view c.loop-client.space.parts) c.args.nursery.now.registers c.args.id c.args.at whole (drop c.loop-client.client-index whole)
    (drop_of_length-le whole (search rules)) c.holders-holders.ensures c.loop-client.invariant.so_far
