use Rattle.std.proofs.Common.{nat_lt, nat_le, arith, rules}
use Rattle.std.proofs.lemmas.List.Sorted.{IsPartitionPoint-from_clause, IsPartitionedBy-leb, IsPartitionedBy-ltb}
use Rattle.pm_nursery.specs.Turned.{Pair}
use Rattle.pm_nursery.proofs.Together.{in_turn, never_falls, of_id}
use Rattle.pm_nursery.proofs.index.of_id.Goals as goal

pub slice_bounds-result-count : goal.slice_bounds-result-count
slice_bounds-result-count c =
    let pairs = c.args.pairs.now in
    let first = c.partition_point-first in
    let last = c.partition_point-last in
    let low = IsPartitionPoint-from_clause (λ (p : Pair). nat_lt p.0 c.args.id) pairs first.result first.ensures.partitioned (IsPartitionedBy-ltb (λ (p : Pair). p.0) pairs c.args.id (never_falls pairs c.requires)) (λ a r f called. search rules) in
    let high = IsPartitionPoint-from_clause (λ (p : Pair). nat_le p.0 c.args.id) pairs last.result last.ensures.partitioned (IsPartitionedBy-leb (λ (p : Pair). p.0) pairs c.args.id (never_falls pairs c.requires)) (λ a r f called. search rules) in
    let in_order = in_turn pairs c.requires c.args.id first.result last.result first.ensures.bound last.ensures.bound low high in
    omega (arith, in_order)

pub slice_bounds-result-start : goal.slice_bounds-result-start
slice_bounds-result-start c =
    let pairs = c.args.pairs.now in
    let first = c.partition_point-first in
    let last = c.partition_point-last in
    let low = IsPartitionPoint-from_clause (λ (p : Pair). nat_lt p.0 c.args.id) pairs first.result first.ensures.partitioned (IsPartitionedBy-ltb (λ (p : Pair). p.0) pairs c.args.id (never_falls pairs c.requires)) (λ a r f called. search rules) in
    let high = IsPartitionPoint-from_clause (λ (p : Pair). nat_le p.0 c.args.id) pairs last.result last.ensures.partitioned (IsPartitionedBy-leb (λ (p : Pair). p.0) pairs c.args.id (never_falls pairs c.requires)) (λ a r f called. search rules) in
    let in_order = in_turn pairs c.requires c.args.id first.result last.result first.ensures.bound last.ensures.bound low high in
    omega (arith, in_order)

pub returns : goal.returns
returns c =
    let pairs = c.args.pairs.now in
    let first = c.partition_point-first in
    let last = c.partition_point-last in
    let low = IsPartitionPoint-from_clause (λ (p : Pair). nat_lt p.0 c.args.id) pairs first.result first.ensures.partitioned (IsPartitionedBy-ltb (λ (p : Pair). p.0) pairs c.args.id (never_falls pairs c.requires)) (λ a r f called. search rules) in
    let high = IsPartitionPoint-from_clause (λ (p : Pair). nat_le p.0 c.args.id) pairs last.result last.ensures.partitioned (IsPartitionedBy-leb (λ (p : Pair). p.0) pairs c.args.id (never_falls pairs c.requires)) (λ a r f called. search rules) in
    of_id pairs c.requires c.args.id first.result last.result first.ensures.bound last.ensures.bound low high
