-- What is told of one watch more.
use Rattle.std.proofs.Common.{◌≡◌, ◌<◌, ℕ, ◌+◌, List, [], ◌∷◌, ◌++◌, length, take, get_or, sym, ap, ◌∙◌, arith, length-take}
use Rattle.std.proofs.lemmas.List.{take_more}
use Rattle.pm_types.specs.declared.event.Watch.{Watch}
use Rattle.pm_view.specs.View.{SpaceView}
use Rattle.pm_view.specs.Watches.{line_of, lines_from}

lines_more : (view : SpaceView) (number : ℕ) (watches : List Watch) (watch : Watch) → lines_from view number (watches ++ watch ∷ []) ≡ lines_from view number watches ++ line_of view (number + length watches) watch ∷ []
lines_more view number [] watch = let same : number ≡ number + length {A = Watch} [] = omega arith in ap (λ (n : ℕ). line_of view n watch ∷ []) same
lines_more view number (first ∷ watches) watch =
    let same : number + 1 + length watches ≡ number + length (first ∷ watches) = omega arith in
    ap (λ lines. line_of view number first ∷ lines) (lines_more view (number + 1) watches watch ∙ ap (λ (n : ℕ). lines_from view (number + 1) watches ++ line_of view n watch ∷ []) same)

pub lines_next : (view : SpaceView) (watches : List Watch) (k number : ℕ) (d : Watch) → k < length watches → number ≡ k
    → lines_from view 1 (take k watches) ++ line_of view (number + 1) (get_or watches k d) ∷ [] ≡ lines_from view 1 (take (k + 1) watches)
lines_next view watches k number d inside numbered =
    let long = length-take k watches in
    let at : number + 1 ≡ 1 + length (take k watches) = omega (arith, long, numbered, inside) in
    ap (λ (n : ℕ). lines_from view 1 (take k watches) ++ line_of view n (get_or watches k d) ∷ []) at
    ∙ sym (lines_more view 1 (take k watches) (get_or watches k d))
    ∙ ap (lines_from view 1) (sym (take_more watches k d inside))
