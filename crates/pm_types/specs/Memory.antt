-- The evidence that memory ran out: it tells nothing but that.
use Rattle.pm_types.specs.declared.no_memory.NoMemory.{NoMemory}

-- the one value of the evidence
abbrev pub no_memory : NoMemory
no_memory = record { refused = tt }
