-- The ends of reply lines, and bytes that are put at a place.
use Rattle.std.specs.Prelude.{◌≡◌, ℕ, ◌+◌, List, [], ◌++◌, length, take, drop, decimal}
use Rattle.pm_model.specs.Text.{pairs}
use Rattle.pm_script.specs.declared.reply.Ending.{Ending}
use Rattle.pm_script.specs.declared.reply.Ending.TheVariants.{Nothing, Number, Pairs}

-- the words stand from a place up to the end, what stood before them and after them stands as it did
pub record Puts (old : List ℕ) (at : ℕ) (words new : List ℕ) (end : ℕ) : Type 0 where
  pub ends : end ≡ at + length words
  pub front : take end new ≡ take at old ++ words
  pub rest : drop end new ≡ drop end old

-- what stands after a reply's words
abbrev pub ending_text : Ending → List ℕ
ending_text Nothing = []
ending_text (Number number) = decimal number
ending_text (Pairs bytes) = pairs bytes.now
