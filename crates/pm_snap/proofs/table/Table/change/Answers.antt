use Rattle.std.proofs.Common.{◌≡◌, refl, sym, ap, ◌∙◌, is_some, Some, rules, arith, true}
use Rattle.std.specs.FinMap.{get}
use Rattle.pm_types.proofs.Lent.{from_some}
use Rattle.pm_snap.specs.Snapped.{with_value, is_ready}
use Rattle.pm_snap.specs.Kept.{table_of}
use Rattle.pm_snap.proofs.Tables.{written, unwritten, used_part, ready_part, used_from_one, zero_stays}
use Rattle.pm_snap.proofs.Passed.{kept_written}
use Rattle.pm_snap.proofs.table.Table.change.Goals as goal

pub save-requires : goal.save-requires
save-requires g c = used_part c.self.inside.values c.self.inside.kept c.args.self.now c.args.key c.self.view_is c.requires

pub returns-in_err-save : goal.returns-in_err-save
returns-in_err-save g c =
    let same : table_of c.self.inside.values c.save.new.kept ≡ c.args.self.now = unwritten c.self.inside.values c.self.inside.kept c.save.new.kept c.in_err-save.ensures.err ∙ c.self.view_is in
    let unready : is_ready c.args.self.now c.args.key ≡ true → ⊥ = λ ready. (let ok = c.in_err-save.ensures.succeeds (ready_part c.self.inside.values c.self.inside.kept c.args.self.now c.args.key c.self.view_is ready) in grind (arith, ok)) in
    search (rules, same, unready)

pub returns : goal.returns
returns g c =
    let values = c.self.inside.values in
    let used = used_part values c.self.inside.kept c.args.self.now c.args.key c.self.view_is c.requires in (
      (
        refl,
        (λ w _. written values c.self.inside.kept c.save.new.kept c.args.key (Some w) c.in_ok-save.ensures.ok (c.get_mut.follows.lender w) (from_some c.get_mut.result (c.get_mut.follows.holds w) (ap is_some c.in-Some.is))
            ∙ ap (λ s. with_value s c.args.key w) c.self.view_is),
        tt,
      ),
      record {
        writes_back = tt;
        value = sym (c.in-Some.ensures.value ∙ ap (λ s. get s.current c.args.key) c.self.view_is);
        succeeds = λ _. refl;
      },
    )

pub invariant_of-self-lent : goal.invariant_of-self-lent
invariant_of-self-lent g c = λ w.
    let values = c.self.inside.values in
    let used = used_part values c.self.inside.kept c.args.self.now c.args.key c.self.view_is c.requires in
    let written = from_some c.get_mut.result (c.get_mut.follows.holds w) (ap is_some c.in-Some.is) in
    record {
      keys = kept_written values c.self.inside.used c.self.inside.freed c.self.inside.next c.self.invariant.keys (c.get_mut.follows.lender w) c.args.key w used written;
      zero_unnoted = zero_stays c.self.inside.kept c.save.new.kept c.args.key (get values c.args.key) c.in_ok-save.ensures.ok (used_from_one values c.args.key c.self.invariant.keys.zero_unused used) c.self.invariant.zero_unnoted;
    }

pub unreachable-requires : goal.unreachable-requires
unreachable-requires g c =
    let used = used_part c.self.inside.values c.self.inside.kept c.args.self.now c.args.key c.self.view_is c.requires in
    let none = c.in-None.ensures.value in
    grind (arith, used, none)
