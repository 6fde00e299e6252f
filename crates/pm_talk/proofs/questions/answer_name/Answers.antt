use Rattle.std.proofs.Common.{inl, refl}
use Rattle.pm_talk.proofs.questions.answer_name.Goals as goal

pub returns-in-Ok : goal.returns-in-Ok
returns-in-Ok g c = λ events buffer. let tells = c.in-Ok.ensures in record { says = inl ((refl, tells.told buffer), tells.none); within = tells.within buffer }
