use Rattle.std.proofs.Common.{◌≡◌, ◌<◌, true, false, length, get_or, sym, ap, subst, ◌∙◌, rules}
use Rattle.std.specs.FinMap.{from_entries}
use Rattle.pm_types.specs.Orders.{source_cmp}
use Rattle.pm_remset.specs.Listed.{Entry, IsInOrder}
use Rattle.pm_remset.specs.Remembered.{IsFirstEntry}
use Rattle.pm_remset.proofs.Lists.{listed_begins, looks_on, looks_found}
use Rattle.pm_remset.proofs.list.SourceList.next_where.Goals as goal

pub loop-entry-init : goal.loop-entry-init
loop-entry-init g c =
    let same = c.deref-entry-items.ensures.value in
    listed_begins c.args.self.now (λ source slot. g.P.Fn.post c.args.pass.now (source, (slot, tt)) false) c.deref-entry-items.result.now
    (ap (from_entries {R = source_cmp}) same ∙ c.self.view_is) (subst IsInOrder (sym same) c.self.invariant)

pub returns-then-pass : goal.returns-then-pass
returns-then-pass g c =
    let es = c.deref-entry-items.result.now in
    let d : Entry = c.entry-item.result in
    let e : Entry = get_or es c.loop-entry.entry-index d in
    let is : d ≡ e = search rules in
    let within : c.loop-entry.entry-index < length es = search rules in
    let source : c.source-source.result ≡ e.0 = c.source-source.ensures ∙ ap (λ (x : Entry). x.0) is in
    let slot : c.slot-slot.result ≡ e.1 = c.slot-slot.ensures ∙ ap (λ (x : Entry). x.1) is in
    subst (λ (x : Entry). IsFirstEntry (λ source slot. g.P.Fn.post c.args.pass.now (source, (slot, tt)) true) (λ source slot. g.P.Fn.post c.args.pass.now (source, (slot, tt)) false) c.args.self.now x.0 x.1)
    (λ i. (sym source i, sym slot i))
    (looks_found c.args.self.now (λ source slot. g.P.Fn.post c.args.pass.now (source, (slot, tt)) false) es c.loop-entry.entry-index c.loop-entry.invariant d within
    (λ source slot. g.P.Fn.post c.args.pass.now (source, (slot, tt)) true) (subst (λ (x : Entry). g.P.Fn.post c.args.pass.now (x.0, (x.1, tt)) true) (λ i. (source i, slot i)) c.if-pass.ensures))

pub loop-entry-preserved : goal.loop-entry-preserved
loop-entry-preserved g c =
    let es = c.deref-entry-items.result.now in
    let d : Entry = c.entry-item.result in
    let e : Entry = get_or es c.loop-entry.entry-index d in
    let is : d ≡ e = search rules in
    let within : c.loop-entry.entry-index < length es = search rules in
    let source : c.source-source.result ≡ e.0 = c.source-source.ensures ∙ ap (λ (x : Entry). x.0) is in
    let slot : c.slot-slot.result ≡ e.1 = c.slot-slot.ensures ∙ ap (λ (x : Entry). x.1) is in
    looks_on c.args.self.now (λ source slot. g.P.Fn.post c.args.pass.now (source, (slot, tt)) false) es c.loop-entry.entry-index c.loop-entry.invariant d within
    (subst (λ (x : Entry). g.P.Fn.post c.args.pass.now (x.0, (x.1, tt)) false) (λ i. (source i, slot i)) c.if-pass.ensures)
