-- Lists that are compared place by place.
use Rattle.std.proofs.Common.{◌≡◌, ℕ, ◌<◌, List, length, get_or, sym, ap, ◌∙◌}
use Rattle.std.proofs.lemmas.List.{get_or-map, length-map}
use Rattle.pm_image.specs.declared.car.CarImage.{CarImage}
use Rattle.pm_image.specs.declared.settled.KeptPage.{KeptPage}
use Rattle.pm_image.specs.Graphs.{images_of}

-- what is at each place
pub same_at : (cars others : List KeptPage) (i : ℕ) (d e : KeptPage) → i < length cars → i < length others → images_of cars ≡ images_of others → (get_or cars i d).image ≡ (get_or others i e).image
same_at cars others i d e inside within same =
    sym (get_or-map (λ (kept : KeptPage). kept.image) cars i d d.image inside) ∙ ap (λ (images : List CarImage). get_or images i d.image) same ∙ get_or-map (λ (kept : KeptPage). kept.image) others i e d.image within

-- as many
pub same_long : (cars others : List KeptPage) → images_of cars ≡ images_of others → length cars ≡ length others
same_long cars others same =
    sym (length-map cars (λ (kept : KeptPage). kept.image)) ∙ ap (λ (images : List CarImage). length images) same ∙ length-map others (λ (kept : KeptPage). kept.image)
