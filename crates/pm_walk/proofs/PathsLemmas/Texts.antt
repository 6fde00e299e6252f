-- The text of a path, line by line.
use Rattle.std.proofs.Common.{◌≡◌, ap, ◌∙◌, List, ◌∷◌, ◌++◌}
use Rattle.std.specs.List.{flat_map}
use Rattle.std.proofs.lemmas.List.Folds.{flat_map-map}
use Rattle.pm_walk.specs.declared.paths.path.PathStep.{PathStep}
use Rattle.pm_walk.specs.Paths.Paths.{Path}
use Rattle.pm_walk.specs.Paths.PathText.{RootLine, path_line_text, step_line, lines_from, path_text_of}

pub text_of_steps : (path : Path) (first : PathStep) (rest : List PathStep) → path.steps ≡ first ∷ rest → path_text_of path ≡ path_line_text (RootLine path.name first.id) ++ flat_map (λ step. path_line_text (step_line step)) rest
text_of_steps path first rest is =
    ap (λ steps. flat_map path_line_text (lines_from path.name steps)) is
    ∙ ap (λ (t : List _). path_line_text (RootLine path.name first.id) ++ t) (flat_map-map path_line_text step_line rest)
