use Rattle.std.proofs.Common.{◌∙◌, ◌++◌, ℕ, List, ap, sym, is_some}
use Rattle.pm_space.specs.Shown.{view}
use Rattle.pm_walk.specs.Lines.{led_line}
use Rattle.pm_walk.proofs.ToldLines.{held_object, held_line}
use Rattle.pm_walk.proofs.text.object_text.Goals as goal

pub append_led-requires : goal.append_led-requires
append_led-requires g c =
    let v = view c.args.space.now.parts in
    let there = held_object v c.args.client c.args.register c.in-Some.to c.args.space.now.kept (sym c.get.ensures ∙ c.in-Some.is) in
    ap is_some there.1.here

pub returns : goal.returns
returns g c = λ world stands.
    let v = view c.args.space.now.parts in
    held_line v world c.args.client c.args.register c.in-Some.to c.append_led.new.out.items c.args.space.now.kept stands (sym c.get.ensures ∙ c.in-Some.is)
    (c.in_ok-append_led.ensures ∙ ap (λ (xs : List ℕ). xs ++ led_line v c.in-Some.to) c.new-out.ensures.items)
