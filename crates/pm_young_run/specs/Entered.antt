-- Which identities enter a car while lines are run with a nursery, and what is young behind them.
use Rattle.std.specs.Prelude.{◌≡◌, ℕ, List, [], ◌∷◌, ◌++◌, is_some}
use Rattle.std.specs.FinMap.{get}
use Rattle.pm_types.specs.declared.command.Cmd.{Cmd}
use Rattle.pm_disk.specs.declared.disk.Disk.{Ghosts}
use Rattle.pm_model.specs.World.{World}
use Rattle.pm_model.specs.Answer.{answer}
use Rattle.pm_nursery.specs.Young.{NurseryView, no_nursery}
use Rattle.pm_nursery.specs.Escaping.{AreEscaping, young_then}
use Rattle.pm_saving.specs.Serving.{world}
use Rattle.pm_script.specs.declared.line.Line.TheVariants.{Client, Gc, Flush}
use Rattle.pm_script.specs.declared.line.YoungLine.{YoungLine}
use Rattle.pm_script.specs.declared.line.YoungLine.TheVariants.{Base, Young}
use Rattle.pm_young.specs.declared.engine.YoungEngine.{YoungEngine}
use Rattle.pm_young.specs.Entering.{AreKept}
use Rattle.pm_young.specs.Kept.{IsYoungPart}
use Rattle.pm_young.specs.Seen.{entered_in, serving, young_in}

-- Nothing enters: world and nursery stay.
pub record LetsNone (before : World) (nursery : NurseryView) (ids : List ℕ) (after : World) (later : NurseryView)
    : Type 0 where
  pub none : ids ≡ []
  pub world : after ≡ before
  pub young : later ≡ nursery

-- A client's command lets enter what escapes at it, ascending. The world answers it; young is what stays so, or is
-- born; and the nursery is the young part of the next world. So no part of it is a free choice.
pub record LetsEscape (before : World) (nursery : NurseryView) (client : ℕ) (cmd : Cmd) (ids : List ℕ)
    (after : World) (later : NurseryView) : Type 0 where
  pub escaping : AreEscaping before nursery client cmd ids
  pub world : after ≡ (answer before client cmd).1
  pub young : (id : ℕ) → is_some (get later.objects id) ≡ young_then before nursery client cmd ids id
  pub part : IsYoungPart after later

-- A sweep lets enter the young objects that the world's names and registers reach, ascending. The world stays, and
-- nothing is young any more.
pub record LetsReached (before : World) (nursery : NurseryView) (ids : List ℕ) (after : World) (later : NurseryView)
    : Type 0 where
  pub kept : AreKept before nursery ids
  pub world : after ≡ before
  pub none : later ≡ no_nursery

-- What a line lets enter a car, from this world and nursery to those. Steps of the collector and pages let nothing
-- enter.
abbrev pub Lets : World → NurseryView → YoungLine → List ℕ → World → NurseryView → Type 0
Lets before nursery (Base (Client client cmd)) ids after later = LetsEscape before nursery client cmd ids after later
Lets before nursery (Base (Gc count)) ids after later = LetsNone before nursery ids after later
Lets before nursery (Base (Flush count)) ids after later = LetsNone before nursery ids after later
Lets before nursery Young ids after later = LetsReached before nursery ids after later

-- Lines let these identities enter, in this order, from this world and nursery to those.
abbrev pub AreEntered : World → NurseryView → List YoungLine → List ℕ → World → NurseryView → Type 0
AreEntered before nursery [] ids after later = LetsNone before nursery ids after later
AreEntered before nursery (line ∷ lines) ids after later =
    (first : List ℕ) × (rest : List ℕ) × (between : World) × (beyond : NurseryView) × (ids ≡ first ++ rest)
    × Lets before nursery line first between beyond × AreEntered between beyond lines rest after later

module _ {D : Type 0} {F : Type 0} {g : Ghosts D} where
  -- what a line let enter an engine
  pub record Enters (line : YoungLine) (old new : YoungEngine D F g) : Type 0 where
    pub ids : List ℕ
    pub entered : entered_in new ≡ entered_in old ++ ids
    pub lets : ∥ Lets (world (serving old)) (young_in old) line ids (world (serving new)) (young_in new) ∥₁

  -- what lines did
  pub record EntersAll (lines : List YoungLine) (old new : YoungEngine D F g) : Type 0 where
    pub ids : List ℕ
    pub entered : entered_in new ≡ entered_in old ++ ids
    pub lets : ∥ AreEntered (world (serving old)) (young_in old) lines ids (world (serving new)) (young_in new) ∥₁
