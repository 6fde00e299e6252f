use Rattle.std.proofs.Common.{subst, sym}
use Rattle.std.specs.Coded.{Coded-set, coded_list, coded_option, coded_ℕ}
use Rattle.std.proofs.Math.Logic.{∥∥₁_elim}
use Rattle.std.proofs.lemmas.Result.{IfOk-weaker}
use Rattle.pm_view.specs.Represents.{Represents}
use Rattle.pm_view.specs.View.{SpaceView}
use Rattle.pm_saving.specs.Serving.{world}
use Rattle.pm_engine.specs.Shown.{serving}
use Rattle.pm_talk.proofs.Saying.{held_is}
use Rattle.pm_talk.proofs.questions.held_text.Goals as goal

pub returns : goal.returns
returns g c =
    let it = serving c.args.engine.now in
    IfOk-weaker c.object_text.result _ _
    (λ told tells. ∥∥₁_elim c.keep_their_images.ensures.served (Coded-set (coded_option (coded_list coded_ℕ)) _ _)
    (λ served. held_is (world it) c.args.client c.args.register _ (tells (world it) (subst (λ (view : SpaceView). Represents view (world it)) (sym c.space.ensures.heap) served.represents))))
    c.object_text.ensures
