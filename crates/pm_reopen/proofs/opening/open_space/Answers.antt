use Rattle.std.proofs.Common.{◌≡◌, List, sym, subst, ◌∙◌}
use Rattle.std.proofs.lemmas.List.Elements.{same_from_all_zip}
use Rattle.pm_image.specs.declared.settled.KeptPage.{KeptPage}
use Rattle.pm_shadow.specs.Pages.{state}
use Rattle.pm_space.specs.Shown.{view}
use Rattle.pm_reopen.specs.Opening.{MakesSpace, OpensStore}
use Rattle.pm_reopen.proofs.opening.open_space.Goals as goal

pub returns-in-Ok-clause-opened : goal.returns-in-Ok-clause-opened
returns-in-Ok-clause-opened g c bytes told =
    let of = c.in-Ok.ensures.opened in
    let are = same_from_all_zip (λ (packed kept : KeptPage). packed ≡ kept) c.in-Ok.packed.items of.0 of.1 (λ packed kept same. sym same) ∙ sym c.from_vec.ensures in
    subst (λ (ks : List KeptPage). OpensStore (state c.args.pages.now) (state c.open_with.new.pages) bytes (view c.in-Ok.space.parts) ks) are (of.2.told bytes told)

pub returns-in-Ok-clause-made_of : goal.returns-in-Ok-clause-made_of
returns-in-Ok-clause-made_of g c =
    let of = c.in-Ok.ensures.opened in
    let are = same_from_all_zip (λ (packed kept : KeptPage). packed ≡ kept) c.in-Ok.packed.items of.0 of.1 (λ packed kept same. sym same) ∙ sym c.from_vec.ensures in
    subst (λ (ks : List KeptPage). MakesSpace (state c.args.pages.now) (state c.open_with.new.pages) c.in-Ok.space.parts c.args.place ks) are of.2.made
