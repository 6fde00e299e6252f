use Rattle.std.proofs.Common.{◌∷◌, [], ◌++◌, Some, refl, ap, ◌∙◌}
use Rattle.pm_passes.proofs.Steps.{opens_as}
use Rattle.pm_passes.proofs.home.Home.new.Goals as goal

pub new-requires : goal.new-requires
new-requires g c =
    let only = c.push_reserved.ensures.items ∙ ap (λ slots. slots ++ Some c.args.value ∷ []) c.in-Ok.ensures.items in
    opens_as _ _ _ c.args.value _ _ only c.of-about.ensures c.requires.new refl
