use Rattle.std.proofs.Common.{◌∙◌, inl, refl, ap}
use Rattle.pm_saving.specs.Serving.{world}
use Rattle.pm_engine.specs.Shown.{serving}
use Rattle.pm_talk.specs.Texts.{held_line, look_line}
use Rattle.std.proofs.Common.{ℕ}
use Rattle.pm_talk.proofs.questions.answer_look.Goals as goal

pub returns-in-Ok : goal.returns-in-Ok
returns-in-Ok g c = λ events buffer.
    let tells = c.in-Ok.ensures in
    record { says = inl ((refl, tells.told buffer ∙ ap (λ (reg : ℕ). look_line (held_line (world (serving c.args.engine.now)) c.args.client reg)) c.number.ensures.number), tells.none); within = tells.within buffer }
