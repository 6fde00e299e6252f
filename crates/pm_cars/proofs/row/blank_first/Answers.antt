use Rattle.std.proofs.Common.{◌≡◌, ◌-◌, ap, ◌∙◌, List, take, drop, get_or, length, arith}
use Rattle.std.specs.List.{remove}
use Rattle.std.proofs.lemmas.List.{length-take, length-drop, take_rest}
use Rattle.pm_cars.specs.Entries.{Entry}
use Rattle.pm_cars.proofs.Places.{blank}
use Rattle.pm_cars.proofs.Blanks.{drop_written}
use Rattle.pm_cars.proofs.row.blank_first.Goals as goal

pub returns-clause-rest : goal.returns-clause-rest
returns-clause-rest c =
    let xs = c.deref_mut.result.now in
    let b = c.args.blanks in
    let place = c.args.place in
    let part : List Entry = take (length xs - b) (drop b xs) in
    let longer : length xs ≡ length c.args.items.now.items = ap length c.deref_mut.ensures.value in
    let front : length (take b xs) ≡ b = omega (arith, length-take b xs) in
    let behind : length part ≡ length xs - b = omega (arith, length-take (length xs - b) (drop b xs), length-drop b xs) in
    let same : part ≡ drop b c.args.items.now.items = take_rest xs b ∙ ap (drop b) c.deref_mut.ensures.value in
    drop_written (take b xs) c.bring_first.new.entries _ _ (get_or part place blank) (remove part place) _ b _ front (omega (arith, c.bring_first.auto.entries)) (c.bring_first.ensures blank)
    ∙ ap (λ (es : List Entry). remove es place) same
