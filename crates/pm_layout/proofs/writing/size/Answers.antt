use Rattle.std.proofs.Common.{◌≡◌, ◌+◌, ◌*◌, length, sym, ◌∙◌, ap, refl}
use Rattle.pm_layout.specs.Spelling.{slot_size}
use Rattle.pm_layout.proofs.Sizes.{spelling_length}
use Rattle.pm_layout.proofs.writing.size.Goals as goal

pub returns-in-Live-clause-spelled : goal.returns-in-Live-clause-spelled
returns-in-Live-clause-spelled c =
    let counted : slot_size c.args.slot.now ≡ 13 + 12 * length c.as_slice.result.now + length c.as_slice-in-Live.result.now = ap slot_size c.in-Live.is ∙ rw (c.as_slice.ensures, c.as_slice-in-Live.ensures) refl in
    sym (spelling_length c.args.slot.now ∙ counted)

pub returns-in-Moved-clause-spelled : goal.returns-in-Moved-clause-spelled
returns-in-Moved-clause-spelled c = sym (spelling_length c.args.slot.now ∙ ap slot_size c.in-Moved.is)
