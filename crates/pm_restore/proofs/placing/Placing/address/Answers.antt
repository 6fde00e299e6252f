use Rattle.std.proofs.Common.{◌≡◌, ℕ, ◌+◌, ◌-◌, ◌<◌, ◌≤◌, nat_le, true, false, List, length, get_or, sym, ap, subst, ◌∙◌, arith, rules}
use Rattle.std.specs.List.Sorted.{IsNonDecreasingBy, IsPartitionPoint}
use Rattle.std.proofs.lemmas.List.{get_or_read}
use Rattle.std.proofs.lemmas.List.Sorted.{IsPartitionPoint-from_clause, IsPartitionedBy-leb}
use Rattle.pm_dump.specs.Dump.{Dump}
use Rattle.pm_dump.specs.Sound.{IsSoundDump}
use Rattle.pm_restore.specs.Packing.Packing.{filled, place_among}
use Rattle.pm_restore.specs.Firsts.{firsts_of}
use Rattle.pm_restore.proofs.FirstLemmas.{IsLastBegun, LiesAt, last_begun, never_fall, placed_at}
use Rattle.pm_restore.proofs.placing.Placing.address.Goals as goal

-- the first places never fall
in_order : (dump : Dump) (xs : List ℕ) → xs ≡ firsts_of dump.objects → IsNonDecreasingBy (λ (n : ℕ). n) xs
in_order dump xs same = subst (λ (ys : List ℕ). IsNonDecreasingBy (λ (n : ℕ). n) ys) (sym same) (never_fall 0 (filled dump.objects))

-- what the search says of the place
lies : (dump : Dump) → IsSoundDump dump → (place count : ℕ) (xs : List ℕ) → xs ≡ firsts_of dump.objects → place < length dump.objects → count ≤ length xs
    → IsPartitionPoint (λ (y : ℕ). nat_le y place ≡ true) (λ (y : ℕ). nat_le y place ≡ false) xs count → LiesAt 0 place count (filled dump.objects) 1
lies dump sound place count xs same there within parted =
    placed_at dump sound place count there (subst (λ (ys : List ℕ). IsLastBegun ys place count) same (last_begun xs place count within parted))

-- what is read of the first places
read : (dump : Dump) (place count first : ℕ) (xs : List ℕ) → xs ≡ firsts_of dump.objects → first ≡ get_or xs (count - 1) 0 → first ≡ get_or (firsts_of dump.objects) (count - 1) 0
read dump place count first xs same is = is ∙ ap (λ (ys : List ℕ). get_or ys (count - 1) 0) same

pub overflow_sub-car : goal.overflow_sub-car
overflow_sub-car c =
    let same : c.deref.result.now ≡ firsts_of c.args.dump.now.objects = cc (c.deref.ensures.value, c.self.view_is, c.requires.placed) in
    let car = c.partition_point-car.result in
    let parted = IsPartitionPoint-from_clause (λ (y : ℕ). nat_le y c.args.place) c.deref.result.now car c.partition_point-car.ensures.partitioned
    (IsPartitionedBy-leb (λ (n : ℕ). n) c.deref.result.now c.args.place (in_order c.args.dump.now c.deref.result.now same)) (λ a r f called. search rules) in
    let it = lies c.args.dump.now c.requires.sound c.args.place car c.deref.result.now same c.requires.there c.partition_point-car.ensures.bound parted in
    let some = it.some in
    omega (arith, some)

pub overflow_sub-result : goal.overflow_sub-result
overflow_sub-result c =
    let same : c.deref.result.now ≡ firsts_of c.args.dump.now.objects = cc (c.deref.ensures.value, c.self.view_is, c.requires.placed) in
    let car = c.partition_point-car.result in
    let parted = IsPartitionPoint-from_clause (λ (y : ℕ). nat_le y c.args.place) c.deref.result.now car c.partition_point-car.ensures.partitioned
    (IsPartitionedBy-leb (λ (n : ℕ). n) c.deref.result.now c.args.place (in_order c.args.dump.now c.deref.result.now same)) (λ a r f called. search rules) in
    let it = lies c.args.dump.now c.requires.sound c.args.place car c.deref.result.now same c.requires.there c.partition_point-car.ensures.bound parted in
    let some = it.some in
    let within = c.partition_point-car.ensures.bound in
    let items : c.self.inside.firsts.items ≡ c.deref.result.now = cc (c.deref.ensures.value, c.self.view_is) in
    let long = ap (λ (xs : List ℕ). length xs) items in
    let first = read c.args.dump.now c.args.place car c.index.result.now c.self.inside.firsts.items (items ∙ same) (get_or_read c.self.inside.firsts.items _ _ (omega (arith, some, within, long)) c.index.ensures 0) in
    let low = it.low in
    omega (arith, first, low)

pub overflow_cast-result : goal.overflow_cast-result
overflow_cast-result c =
    let same : c.deref.result.now ≡ firsts_of c.args.dump.now.objects = cc (c.deref.ensures.value, c.self.view_is, c.requires.placed) in
    let car = c.partition_point-car.result in
    let parted = IsPartitionPoint-from_clause (λ (y : ℕ). nat_le y c.args.place) c.deref.result.now car c.partition_point-car.ensures.partitioned
    (IsPartitionedBy-leb (λ (n : ℕ). n) c.deref.result.now c.args.place (in_order c.args.dump.now c.deref.result.now same)) (λ a r f called. search rules) in
    let it = lies c.args.dump.now c.requires.sound c.args.place car c.deref.result.now same c.requires.there c.partition_point-car.ensures.bound parted in
    let some = it.some in
    let within = c.partition_point-car.ensures.bound in
    let items : c.self.inside.firsts.items ≡ c.deref.result.now = cc (c.deref.ensures.value, c.self.view_is) in
    let long = ap (λ (xs : List ℕ). length xs) items in
    let first = read c.args.dump.now c.args.place car c.index.result.now c.self.inside.firsts.items (items ∙ same) (get_or_read c.self.inside.firsts.items _ _ (omega (arith, some, within, long)) c.index.ensures 0) in
    let few = it.few in
    omega (arith, first, few)

pub returns : goal.returns
returns c =
    let same : c.deref.result.now ≡ firsts_of c.args.dump.now.objects = cc (c.deref.ensures.value, c.self.view_is, c.requires.placed) in
    let car = c.partition_point-car.result in
    let parted = IsPartitionPoint-from_clause (λ (y : ℕ). nat_le y c.args.place) c.deref.result.now car c.partition_point-car.ensures.partitioned
    (IsPartitionedBy-leb (λ (n : ℕ). n) c.deref.result.now c.args.place (in_order c.args.dump.now c.deref.result.now same)) (λ a r f called. search rules) in
    let it = lies c.args.dump.now c.requires.sound c.args.place car c.deref.result.now same c.requires.there c.partition_point-car.ensures.bound parted in
    let some = it.some in
    let within = c.partition_point-car.ensures.bound in
    let items : c.self.inside.firsts.items ≡ c.deref.result.now = cc (c.deref.ensures.value, c.self.view_is) in
    let long = ap (λ (xs : List ℕ). length xs) items in
    let first = read c.args.dump.now c.args.place car c.index.result.now c.self.inside.firsts.items (items ∙ same) (get_or_read c.self.inside.firsts.items _ _ (omega (arith, some, within, long)) c.index.ensures 0) in
    let number : car ≡ 1 + (car - 1) = omega (arith, some) in
    let place : c.args.place - 0 ≡ c.args.place = omega arith in
    (λ i. record { car = number i; slot = c.args.place - first i })
    ∙ sym it.address
    ∙ ap (place_among 1 (filled c.args.dump.now.objects)) place
