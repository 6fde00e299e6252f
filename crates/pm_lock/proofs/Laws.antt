-- Facts of a book that hold as soon as it is known that they hold in some way.
use Rattle.std.proofs.Common.{◌≡◌, ◌⊎◌, inl, inr, ℕ, ◌<◌, ◌≤◌, Bool, true, false, List, Option, Some, None, refl}
use Rattle.std.specs.Coded.{Coded, Coded-set, code_by, coded_bool, coded_option, coded_ℕ, coded⊎}
use Rattle.std.specs.List.{AllByRecursion-prop}
use Rattle.std.proofs.Math.Logic.{∥∥₁_elim, ∥∥₁_map}
use Rattle.std.proofs.Props.{props}
use mathlib.Core.HLevel.{⊥_prop}
use Rattle.pm_types.specs.declared.limits.TheConstants.{CLIENTS}
use Rattle.pm_types.specs.declared.fault.EngineFault.{EngineFault}
use Rattle.pm_types.specs.declared.fault.EngineFault.TheVariants.{Memory, Disk, Reopen}
use Rattle.pm_script.specs.declared.line.Line.{Line}
use Rattle.pm_script.specs.declared.line.Line.TheVariants.{Client, Gc, Flush}
use Rattle.pm_script.specs.Script.{AreLines, first_of}
use Rattle.pm_script.specs.Words.{IsFirst}
use Rattle.pm_engine.proofs.WorksLemmas.Counts.{splits_rose}
use Rattle.pm_engine.specs.declared.unmade.Unmade.{Unmade}
use Rattle.pm_engine.specs.declared.unmade.Unmade.TheVariants.{OfClient, OfCollector, OfFlusher}
use Rattle.pm_lock.specs.Kept.{HasCauseSince, UnlessMemory}

-- a fact with one proof at most
pub splits_once : {A : Type 0} → IsProp A → ∥ A ∥₁ → A
splits_once once known = ∥∥₁_elim known once (λ x. x)

pub below_once : (a b : ℕ) → IsProp (a < b)
below_once a b = hlevel props

pub within_once : (a b : ℕ) → IsProp (a ≤ b)
within_once a b = hlevel props

pub number_once : (a b : ℕ) → IsProp (a ≡ b)
number_once a b = hlevel props

-- ---- lines

client_once : (line : Line) → IsProp (IsFirst (first_of line))
client_once (Client client cmd) = below_once client CLIENTS
client_once (Gc count) = hlevel props
client_once (Flush count) = hlevel props

pub splits_lines : (lines : List Line) → ∥ AreLines lines ∥₁ → AreLines lines
splits_lines lines known = record {
  few = splits_once (within_once _ _) (∥∥₁_map known (λ are. are.few));
  clients = splits_once (AllByRecursion-prop (λ line. IsFirst (first_of line)) client_once lines) (∥∥₁_map known (λ are. are.clients));
}

-- ---- counts

pub splits_cause : (fault : Option EngineFault) (opened first now : ℕ) → ∥ HasCauseSince fault opened first now ∥₁ → HasCauseSince fault opened first now
splits_cause None opened first now known = tt
splits_cause (Some (Memory _)) opened first now known = tt
splits_cause (Some (Disk before after)) opened first now known = (
  splits_once (within_once opened before) (∥∥₁_map known (λ is. is.0)),
  (
    splits_once (number_once before first) (∥∥₁_map known (λ is. is.1.0)),
    splits_once (number_once after now) (∥∥₁_map known (λ is. is.1.1)),
    splits_rose before after (∥∥₁_map known (λ is. is.1.2)),
  ),
)
splits_cause (Some (Reopen count)) opened first now known = absurd (∥∥₁_elim known ⊥_prop (λ is. is))

-- ---- the event for which memory ran out

-- whose event it is, as a number or a truth value, and back
abbrev whose : Unmade → ℕ ⊎ Bool
whose (OfClient client) = inl client
whose OfCollector = inr true
whose OfFlusher = inr false

abbrev of_whom : ℕ ⊎ Bool → Unmade
of_whom (inl client) = OfClient client
of_whom (inr true) = OfCollector
of_whom (inr false) = OfFlusher

same_event : (event : Unmade) → of_whom (whose event) ≡ event
same_event (OfClient client) = refl
same_event OfCollector = refl
same_event OfFlusher = refl

unmade_code : Coded Unmade
unmade_code = code_by (ℕ ⊎ Bool) (coded⊎ coded_ℕ coded_bool) whose of_whom same_event

unmade_once : (one other : Option Unmade) → IsProp (one ≡ other)
unmade_once one other = Coded-set (coded_option unmade_code) one other

pub splits_unmade : (fault : Option EngineFault) (now first : Option Unmade) → ∥ UnlessMemory fault (now ≡ first) ∥₁ → UnlessMemory fault (now ≡ first)
splits_unmade None now first known = splits_once (unmade_once now first) known
splits_unmade (Some (Memory _)) now first known = tt
splits_unmade (Some (Disk before after)) now first known = splits_once (unmade_once now first) known
splits_unmade (Some (Reopen count)) now first known = splits_once (unmade_once now first) known
