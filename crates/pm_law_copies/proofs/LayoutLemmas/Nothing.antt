-- A new store holds the plan of nothing.
use Rattle.std.proofs.Common.{◌≡◌, ℕ, ◌+◌, ◌<◌, ◌≤◌, ◌==◌, Bool, true, false, [], ◌∷◌, refl, arith, if◌then◌else◌}
use Rattle.pm_image.specs.Blank.{blank_catalog_page, blank_header}
use Rattle.pm_image.specs.Graphs.{Pages}
use Rattle.pm_copies.specs.Accepted.{IsAccepted}
use Rattle.pm_copies.specs.Apart.{AreApart}
use Rattle.pm_copies.specs.Plans.{planned_roots, planned_list}
use Rattle.pm_copies.specs.Laid.{IsLaidBehind}
use Rattle.pm_law_copies.specs.Layout.Examples.{nothing}

nothing_accepted : IsAccepted (planned_list nothing) (planned_roots nothing) 1
nothing_accepted = record {
  next = (omega arith, omega arith);
  trains = tt;
  cars = tt;
  differ = tt;
  given = λ a object is. absurd cc;
  apart = λ a b o p at_a at_b same. absurd cc;
  lead = tt;
  roots = tt;
  names = tt;
  few = omega arith;
}

one_page : (page : ℕ) → AreApart (page ∷ [])
one_page page number = by (page == number)
  where
    by : (b : Bool) → (if b then 1 else 0) + 0 ≤ 1
    by true = omega arith
    by false = omega arith

pub holds_nothing : (pages : Pages) → 2 < pages.count → pages.page 2 ≡ blank_catalog_page → IsLaidBehind pages blank_header nothing
unfolding blank_catalog_page
holds_nothing pages some is = record {
  of_store = record { accepted = nothing_accepted; fields = tt; in_range = record { names = tt; cars = tt; trains = tt } };
  listed = record { whole = refl; fit = (omega arith, tt); filled = tt; some = omega arith };
  held = record { cars = tt; catalog = (is, tt); own_pages = record { within = ((omega arith, some), tt); apart = one_page 2 } };
  header_of = record { version = refl; first = refl; digest = refl };
}
