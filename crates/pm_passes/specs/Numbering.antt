-- What is counted of a value, and how far passes and shares are counted.
use Rattle.std.specs.Prelude.{◌≡◌, ℕ, ◌+◌, ◌≤◌, List, [], ◌∷◌}
use Rattle.pm_passes.specs.declared.view.Numbers.{Numbers}

-- all shares, of which each pass has some
abbrev pub every : ℕ
every = 4294967296

-- the last number that is left, which no pass gets
abbrev pub last_number : ℕ
last_number = 18446744073709551615

-- nothing is counted
abbrev pub nothing : Numbers
nothing = record { made = 0; flushed = 0; struck = 0; faults = 0; events = 0 }

-- nothing that is counted has fallen
pub record NotLess (old new : Numbers) : Type 0 where
  pub made : old.made ≤ new.made
  pub flushed : old.flushed ≤ new.flushed
  pub struck : old.struck ≤ new.struck
  pub faults : old.faults ≤ new.faults
  pub events : old.events ≤ new.events

-- what passes count stays, and no count has fallen
pub record KeepsCounts (old new : Numbers) : Type 0 where
  pub made : new.made ≡ old.made
  pub flushed : new.flushed ≡ old.flushed
  pub struck : new.struck ≡ old.struck
  pub faults : old.faults ≤ new.faults
  pub events : old.events ≤ new.events

-- a measure of each, added up
abbrev pub total : {A : Type 0} → (A → ℕ) → List A → ℕ
total f [] = 0
total f (x ∷ xs) = f x + total f xs
