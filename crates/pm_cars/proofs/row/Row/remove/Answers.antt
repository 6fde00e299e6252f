use Rattle.std.proofs.Common.{◌+◌, ◌<◌, ap, ◌∙◌, drop, length, arith}
use Rattle.std.proofs.lemmas.List.{length-drop}
use Rattle.std.specs.List.{remove}
use Rattle.pm_cars.specs.Rows.{Row}
use Rattle.pm_cars.proofs.Blanks.{drop_remove}
use Rattle.pm_cars.proofs.row.Row.remove.Goals as goal

pub returns-then-behind-place-clause-items : goal.returns-then-behind-place-clause-items
returns-then-behind-place-clause-items c =
    let inside = c.self.inside in
    let same = ap (λ (row : Row). length row.items) c.self.view_is in
    let longer = length-drop inside.blanks inside.items.items in
    let within : inside.blanks + c.args.place < length inside.items.items = omega arith in
    ap (drop inside.blanks) c.remove.ensures.items
    ∙ drop_remove inside.items.items inside.blanks c.args.place within
    ∙ ap (λ (row : Row). remove row.items c.args.place) c.self.view_is
