-- How a file stands that was opened for a store, and which options opened it.
use Rattle.std.specs.Prelude.{◌≡◌, ℕ, ℤ, Bool, true, List, [], ◌∷◌, Option, Some, None}
use Rattle.std.specs.Fs.{new_options, with_read, with_write, with_create}
use Rattle.std.specs.Path.{path_parent}
use Rattle.std.specs.declared.fs.options.OpenOptions.{OpenOptions}

-- The descriptor of a file, where it is told, and what was had of the file since it was opened: that no other opening has
-- it, that a crash does not lose its name, and that a sync of all that it has succeeded.
pub record Standing : Type 0 where
  pub descriptor : Option ℤ
  pub locked : Bool
  pub named : Bool
  pub whole : Bool

-- the file after it was locked
abbrev pub with_lock : Standing → Standing
with_lock standing = record { descriptor = standing.descriptor; locked = true; named = standing.named; whole = standing.whole }

-- the file after its folder was synced
abbrev pub with_name : Standing → Standing
with_name standing = record { descriptor = standing.descriptor; locked = standing.locked; named = true; whole = standing.whole }

-- the file after all that it has was synced
abbrev pub with_whole : Standing → Standing
with_whole standing = record { descriptor = standing.descriptor; locked = standing.locked; named = standing.named; whole = true }

-- how a file stands of which nothing is told: nothing that it may lack is told either
abbrev pub untold_standing : Option ℤ → Standing
untold_standing descriptor = record { descriptor = descriptor; locked = true; named = true; whole = true }

-- to read, and nothing else
abbrev pub to_read : OpenOptions
to_read = with_read new_options true

-- to read and to write, made where it is missing, and never cut
abbrev pub to_store : OpenOptions
to_store = with_create (with_write (with_read new_options true) true) true

-- this is the name of the folder in which the process runs
abbrev pub here : List ℕ
here = 46 ∷ []

-- the folder in which the file of this path has its name
pub record IsFolder (path folder : List ℕ) : Type 0 where
  pub within : (parent : List ℕ) → path_parent path ≡ Some parent → (parent ≡ [] → ⊥) → folder ≡ parent
  pub here : path_parent path ≡ Some [] → folder ≡ here
  pub top : path_parent path ≡ None → folder ≡ path
