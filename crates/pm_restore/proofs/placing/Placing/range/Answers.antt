use Rattle.std.proofs.Common.{◌≡◌, inl, inr, ℕ, ◌-◌, get_or, length, sym, subst, ◌∙◌, arith}
use Rattle.pm_restore.specs.Firsts.{firsts_of}
use Rattle.pm_restore.specs.Parts.{IsPartRange}
use Rattle.pm_restore.proofs.PartLemmas.{no_range, part_range}
use Rattle.pm_restore.proofs.placing.Placing.range.Goals as goal
use Rattle.pm_restore.proofs.placing.Placing.range.Goals.{then-number-eq0-via-then-number-eq0, then-number-eq0-via-else-number-eq0+then-number-len}

pub returns-then-number-eq0 : goal.returns-then-number-eq0
returns-then-number-eq0 c =
    let same : c.self.inside.firsts.items ≡ firsts_of c.args.dump.now.objects = c.self.view_is ∙ c.requires.placed in
    elim c.then-number-eq0.branch [
      | then-number-eq0-via-then-number-eq0 w ↦ let none = w.if-number-eq0.true in no_range c.args.dump.now c.args.number c.self.inside.firsts.items same (inl (omega (arith, none)))
      | then-number-eq0-via-else-number-eq0+then-number-len w ↦ let past = w.if-number-len.true in let long = w.len.ensures in no_range c.args.dump.now c.args.number c.self.inside.firsts.items same (inr (omega (arith, past, long)))
    ]

pub returns : goal.returns
returns c =
    let same : c.self.inside.firsts.items ≡ firsts_of c.args.dump.now.objects = c.self.view_is ∙ c.requires.placed in
    let some = c.if-number-eq0.false in
    let past = c.if-number-len.false in
    let long = c.len.ensures in
    let end = c.object_count-end.ensures in
    let from_is : c.first_or.result ≡ get_or c.self.inside.firsts.items (c.args.number - 1) (length c.args.dump.now.objects) =
    c.first_or.ensures ∙ (λ i. get_or (c.deref.ensures.value i) (c.args.number - 1) (end i)) in
    let end_is : c.first_or-2.result ≡ get_or c.self.inside.firsts.items c.args.number (length c.args.dump.now.objects) =
    c.first_or-2.ensures ∙ (λ i. get_or (c.deref-2.ensures.value i) c.args.number (end i)) in
    let it = part_range c.args.dump.now c.requires.sound c.args.number c.self.inside.firsts.items same (omega (arith, some)) (omega (arith, past, long)) in
    subst (λ (from : ℕ). IsPartRange c.args.dump.now.objects c.args.number from c.first_or-2.result) (sym from_is)
    (subst (λ (to : ℕ). IsPartRange c.args.dump.now.objects c.args.number (get_or c.self.inside.firsts.items (c.args.number - 1) (length c.args.dump.now.objects)) to) (sym end_is) it)
