-- Which answers the rules of opening give.
use Rattle.pm_types.specs.declared.fault.OpenFault.{OpenFault}
use Rattle.pm_types.specs.declared.fault.OpenFault.TheVariants.{NotAStore, Version, Damaged, Malformed, Disk, Memory}

-- a page has another digest than the one that is kept, or a field of it is at fault
abbrev pub IsOfPages : OpenFault → Type 0
IsOfPages NotAStore = ⊥
IsOfPages (Version version) = ⊥
IsOfPages (Damaged page kept found) = Unit {0}
IsOfPages (Malformed page at) = Unit {0}
IsOfPages (Disk before after) = ⊥
IsOfPages (Memory _) = ⊥

-- one of the answers of the seven rules
abbrev pub IsOfRules : OpenFault → Type 0
IsOfRules NotAStore = Unit {0}
IsOfRules (Version version) = Unit {0}
IsOfRules (Damaged page kept found) = Unit {0}
IsOfRules (Malformed page at) = Unit {0}
IsOfRules (Disk before after) = ⊥
IsOfRules (Memory _) = ⊥
