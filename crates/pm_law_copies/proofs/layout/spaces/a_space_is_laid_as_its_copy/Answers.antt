use Rattle.pm_law_copies.proofs.LayoutLemmas.OfSpace.{space_of_store, space_stands}
use Rattle.pm_law_copies.proofs.layout.spaces.a_space_is_laid_as_its_copy.Goals as goal

pub returns-clause-of_store : goal.returns-clause-of_store
returns-clause-of_store c = space_of_store

pub returns-clause-stands : goal.returns-clause-stands
returns-clause-stands c = space_stands
