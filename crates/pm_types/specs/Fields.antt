-- When two lists of fields are the same.
use Rattle.std.specs.Prelude.{Bool, List, Option}
use Rattle.std.specs.Cmp.{IsEquivalence, IsPartialEquivalence, partial_equiv_from_equiv}
use Rattle.std.specs.Cmp.Lexicographic.{pointwise, lists_equiv, options_equiv}
use Rattle.std.specs.Option.{option_eq}
use Rattle.pm_types.specs.declared.address.Addr.{Addr}
use Rattle.pm_types.specs.contracts.address.AddrPartialEq.TheImpl.{ghosts}
use Rattle.pm_types.specs.contracts.address.AddrEq.TheImpl.Laws as address

-- fields are compared one by one, each null or an address
abbrev pub same_fields : List (Option Addr) → List (Option Addr) → Bool
same_fields = pointwise (option_eq ghosts.eq)

-- that is an equivalence
pub fields_equiv : IsEquivalence same_fields
fields_equiv = lists_equiv (options_equiv address.laws-law)

-- and so one that need not hold of a value and itself
pub fields_partly_equiv : IsPartialEquivalence same_fields
fields_partly_equiv = partial_equiv_from_equiv fields_equiv
