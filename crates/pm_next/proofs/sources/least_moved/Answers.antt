use Rattle.std.proofs.Common.{[], ◌∷◌, ◌++◌, refl, sym, ap, ◌∙◌, take}
use Rattle.std.specs.FinMap.{entries}
use Rattle.std.proofs.lemmas.List.{take_more}
use Rattle.pm_next.proofs.Searches.{none_found, moved_next}
use Rattle.pm_next.proofs.sources.least_moved.Goals as goal

pub loop-entry-init : goal.loop-entry-init
loop-entry-init c = sym (none_found (entries c.args.set.now) _ (λ e. refl))

pub loop-entry-preserved : goal.loop-entry-preserved
loop-entry-preserved c =
    let slots = c.args.slots.now in
    let i = c.loop-entry.entry-index in
    let e = c.entry-item.result in
    c.lesser-least.ensures
    ∙ moved_next c.args.set.now (take i slots) _ e c.loop-entry.least c.least_of_moved.result
    (take_more slots i e c.loop-entry-test.true ∙ ap (λ x. take i slots ++ x ∷ []) (sym c.entry-item.is)) c.loop-entry.invariant c.least_of_moved.ensures
