use Rattle.std.proofs.Common.{◌≡◌, ◌==◌, ◌<◌, ◌≤◌, true, false, length, get_or, sym, ap, subst, ◌∙◌, arith, rules}
use Rattle.std.specs.FinMap.{from_entries}
use Rattle.std.proofs.lemmas.Bool.Decides.{nat_tests}
use Rattle.pm_types.specs.Orders.{source_cmp}
use Rattle.pm_remset.specs.Listed.{Entry, IsInOrder}
use Rattle.pm_remset.specs.Remembered.{IsFirstEntry}
use Rattle.pm_remset.proofs.Lists.{listed_begins, looks_on, looks_found, looks_in_vain}
use Rattle.pm_remset.proofs.list.SourceList.least_of.Goals as goal

pub loop-entry-init : goal.loop-entry-init
loop-entry-init c =
    let same = c.deref-entry-items.ensures.value in
    listed_begins c.args.self.now (λ _ named. (named == c.args.slot) ≡ false) c.deref-entry-items.result.now
    (ap (from_entries {R = source_cmp}) same ∙ c.self.view_is) (subst IsInOrder (sym same) c.self.invariant)

pub returns-then-slot : goal.returns-then-slot
returns-then-slot c =
    let es = c.deref-entry-items.result.now in
    let d : Entry = c.entry-item.result in
    let e : Entry = get_or es c.loop-entry.entry-index d in
    let is : d ≡ e = search rules in
    let within : c.loop-entry.entry-index < length es = search rules in
    let source : c.source.result ≡ e.0 = c.source.ensures ∙ ap (λ (x : Entry). x.0) is in
    let names : e.1 ≡ c.args.slot = ap (λ (x : Entry). x.1) (sym is) ∙ sym c.slot.ensures ∙ c.if-slot.true in
    let passes : (e.1 == c.args.slot) ≡ true = grind (arith, nat_tests, names) in
    subst (λ (x : Entry). IsFirstEntry (λ _ named. (named == c.args.slot) ≡ true) (λ _ named. (named == c.args.slot) ≡ false) c.args.self.now x.0 x.1) (λ i. (sym source i, names i))
    (looks_found c.args.self.now (λ _ named. (named == c.args.slot) ≡ false) es c.loop-entry.entry-index c.loop-entry.invariant d within (λ _ named. (named == c.args.slot) ≡ true) passes)

pub loop-entry-preserved : goal.loop-entry-preserved
loop-entry-preserved c =
    let es = c.deref-entry-items.result.now in
    let d : Entry = c.entry-item.result in
    let e : Entry = get_or es c.loop-entry.entry-index d in
    let is : d ≡ e = search rules in
    let within : c.loop-entry.entry-index < length es = search rules in
    let named : c.slot.result ≡ e.1 = c.slot.ensures ∙ ap (λ (x : Entry). x.1) is in
    let other = c.if-slot.false in
    let fails : (e.1 == c.args.slot) ≡ false = grind (arith, nat_tests, other, named) in
    looks_on c.args.self.now (λ _ named. (named == c.args.slot) ≡ false) es c.loop-entry.entry-index c.loop-entry.invariant d within fails

pub returns : goal.returns
returns c =
    let all : length c.deref-entry-items.result.now ≤ c.loop-entry.entry-index = search rules in
    looks_in_vain c.args.self.now (λ _ named. (named == c.args.slot) ≡ false) c.deref-entry-items.result.now c.loop-entry.entry-index c.loop-entry.invariant all
