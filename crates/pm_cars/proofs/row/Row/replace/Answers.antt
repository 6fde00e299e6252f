use Rattle.std.proofs.Common.{◌≡◌, ◌+◌, ◌-◌, ◌<◌, ap, sym, ◌∙◌, drop, set, get_or, length, arith, vec_capacity}
use Rattle.std.proofs.lemmas.List.{drop-set-add, get_or-drop, get_or_default, length-drop}
use Rattle.pm_cars.specs.Rows.{Row}
use Rattle.pm_cars.proofs.row.Row.replace.Goals as goal

pub returns-clause-row : goal.returns-clause-row
returns-clause-row c d =
    let inside = c.self.inside in
    let xs = inside.items.items in
    let b = inside.blanks in
    let place = c.args.place in
    let e = c.index_mut-entry.result.now in
    let same = ap (λ (row : Row). length row.items) c.self.view_is in
    let longer = length-drop b xs in
    let within : b + place < length xs = omega arith in
    let here : e ≡ get_or (drop b xs) place d = c.index_mut-entry.ensures.value ∙ get_or_default xs (b + place) e d within ∙ sym (get_or-drop b xs place d) in
    (λ i. record { items = drop-set-add b xs place (e.0, c.replace.ensures.after i) i; capacity = vec_capacity inside.items - b })
    ∙ (λ i. record { items = set (drop b xs) place ((here i).0, c.args.content); capacity = vec_capacity inside.items - b })
    ∙ ap (λ (row : Row). record row { items = set row.items place ((get_or row.items place d).0, c.args.content) }) c.self.view_is
