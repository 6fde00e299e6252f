-- Which lines of a conversation spell what is asked.
use Rattle.std.specs.Prelude.{◌≡◌, ℕ, ◌<◌, ◌^◌, List, ◌∷◌, ◌++◌, codes, decimal}
use Rattle.pm_types.specs.declared.limits.TheConstants.{CLIENTS, REGISTERS}
use Rattle.pm_script.specs.Script.{IsBody}
use Rattle.pm_peer.specs.declared.asked.Asked.{Asked}
use Rattle.pm_peer.specs.declared.asked.Asked.TheVariants.{Line, Look, Name, Count, Watch}

-- The body of a line spells what is asked: what a line of a script asks as in scripts, and a question as an exclamation
-- mark, its word, and its numbers without leading zeros, with one space between each two.
abbrev pub Spells : List ℕ → Asked → Type 0
Spells body (Line line) = IsBody body line
Spells body (Look client reg) = (client < CLIENTS) × (reg < REGISTERS) × (body ≡ codes "! look " ++ (decimal client ++ 32 ∷ decimal reg))
Spells body (Name place) = (place < 2 ^ 32) × (body ≡ codes "! name " ++ decimal place)
Spells body Count = body ≡ codes "! count"
Spells body (Watch number) = (number < 2 ^ 32) × (body ≡ codes "! watch " ++ decimal number)
