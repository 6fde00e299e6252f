-- Which address a fault is of.
use Rattle.std.proofs.Common.{◌≡◌, Bool, true, false, List, [], ◌∷◌, ◌++◌, Result, Err, refl, ap, if◌then◌else◌}
use Rattle.std.specs.List.{AllByRecursion}
use Rattle.pm_types.specs.declared.fault.OpenFault.{OpenFault}
use Rattle.pm_types.specs.declared.fault.OpenFault.TheVariants.{Malformed}
use Rattle.pm_image.specs.declared.car.CarImage.{CarImage}
use Rattle.pm_image.specs.Graphs.{Site, leads, linked}

-- the fault is of the first of these addresses that leads to no slot of a kind that it may
pub record IsOfFirst (cars : List CarImage) (sites : List Site) (fault : OpenFault) : Type 0 where
  pub before : List Site
  pub astray : Site
  pub after : List Site
  pub parts : sites ≡ before ++ (astray ∷ after)
  pub lead : AllByRecursion (λ (site : Site). leads cars site ≡ true) before
  pub leads_not : leads cars astray ≡ false
  pub told : fault ≡ Malformed astray.page astray.at

astray_later : (cars : List CarImage) (site : Site) (sites : List Site) (fault : OpenFault) → leads cars site ≡ true → IsOfFirst cars sites fault → IsOfFirst cars (site ∷ sites) fault
astray_later cars site sites fault here others = record {
  before = site ∷ others.before;
  astray = others.astray;
  after = others.after;
  parts = ap (λ (list : List Site). site ∷ list) others.parts;
  lead = (here, others.lead);
  leads_not = others.leads_not;
  told = others.told;
}

astray_here : (cars : List CarImage) (site : Site) (sites : List Site) (fault : OpenFault) (rest : Result (Unit {0}) OpenFault) → (rest ≡ Err fault → IsOfFirst cars sites fault)
    → (b : Bool) → leads cars site ≡ b → (if b then rest else Err (Malformed site.page site.at)) ≡ Err fault → IsOfFirst cars (site ∷ sites) fault
astray_here cars site sites fault rest others true here is = astray_later cars site sites fault here (others is)
astray_here cars site sites fault rest others false here is = record { before = []; astray = site; after = sites; parts = refl; lead = tt; leads_not = here; told = cc }

pub first_astray : (cars : List CarImage) (sites : List Site) (fault : OpenFault) → linked cars sites ≡ Err fault → IsOfFirst cars sites fault
unfolding linked
first_astray cars [] fault is = absurd cc
first_astray cars (site ∷ sites) fault is = astray_here cars site sites fault (linked cars sites) (first_astray cars sites fault) (leads cars site) refl is
