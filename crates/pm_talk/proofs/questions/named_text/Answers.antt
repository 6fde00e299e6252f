use Rattle.std.proofs.Common.{◌∙◌, ap, subst, sym}
use Rattle.std.specs.Coded.{Coded-set, coded_list, coded_option, coded_ℕ}
use Rattle.std.proofs.Math.Logic.{∥∥₁_elim}
use Rattle.std.proofs.lemmas.Result.{IfOk-weaker}
use Rattle.pm_view.specs.Represents.{Represents}
use Rattle.pm_view.specs.View.{SpaceView}
use Rattle.pm_saving.specs.Serving.{world}
use Rattle.pm_engine.specs.Shown.{serving}
use Rattle.pm_talk.specs.Texts.{named_line}
use Rattle.pm_talk.proofs.Saying.{named_is}
use Rattle.pm_talk.proofs.questions.named_text.Goals as goal

pub returns : goal.returns
returns g c =
    let it = serving c.args.engine.now in
    IfOk-weaker c.root_text.result _ _
    (λ told tells. ∥∥₁_elim c.keep_their_images.ensures.served (Coded-set (coded_option (coded_list coded_ℕ)) _ _)
    (λ served. named_is (world it) c.from.result _ (tells (world it) (subst (λ (view : SpaceView). Represents view (world it)) (sym c.space.ensures.heap) served.represents)) ∙ ap (named_line (world it)) c.from.ensures))
    c.root_text.ensures
