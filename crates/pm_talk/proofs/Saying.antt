-- Objects and names in their world, and who may ask.
use Rattle.std.proofs.Common.{◌≡◌, ℕ, List, Option, Some, None, ap, sym, ◌∙◌}
use Rattle.std.specs.Prelude.{IsSomeAnd, option_map, slice_get}
use Rattle.std.specs.FinMap.{entries, get}
use Rattle.std.specs.Option.{option_and_then}
use Rattle.pm_model.specs.Heap.{Object}
use Rattle.pm_model.specs.World.{World}
use Rattle.pm_dump.specs.Dump.{line_text, ObjectLine, RootLine}
use Rattle.pm_script.specs.declared.line.Line.TheVariants.{Client, Gc, Flush}
use Rattle.pm_peer.specs.declared.asked.Asked.{Asked}
use Rattle.pm_peer.specs.declared.asked.Asked.TheVariants.{Line, Look, Name, Count, Watch}
use Rattle.pm_peer.specs.Spelled.{Spells}
use Rattle.pm_walk.specs.Told.{TellsHeld, TellsNamed}
use Rattle.pm_talk.specs.Saying.{IsAskable}
use Rattle.pm_talk.specs.Texts.{held_line, named_line}

-- ---- objects and names

pub held_is : (world : World) (client reg : ℕ) (text : Option (List ℕ)) → TellsHeld world client reg text → text ≡ held_line world client reg
held_is world client reg None tells = sym (ap (λ (id : Option ℕ). option_and_then (λ id. option_map (λ object. line_text (ObjectLine id object)) (get world.heap id)) id) tells)
held_is world client reg (Some text) tells =
    ap Some tells.told
    ∙ sym (ap (λ (object : Option Object). option_map (λ object. line_text (ObjectLine tells.id object)) object) tells.known)
    ∙ sym (ap (λ (id : Option ℕ). option_and_then (λ id. option_map (λ object. line_text (ObjectLine id object)) (get world.heap id)) id) tells.held)

pub named_is : (world : World) (place : ℕ) (text : Option (List ℕ)) → TellsNamed world place text → text ≡ named_line world place
named_is world place None tells = sym (ap (λ (root : Option (List ℕ × ℕ)). option_map (λ root. line_text (RootLine root.0 root.1)) root) tells)
named_is world place (Some text) tells = there (slice_get (entries world.roots) place) tells where
  there : (root : Option (List ℕ × ℕ)) → IsSomeAnd root (λ e. text ≡ line_text (RootLine e.0 e.1)) → Some text ≡ option_map (λ root. line_text (RootLine root.0 root.1)) root
  there None none = absurd none
  there (Some root) told = ap Some told

-- ---- who may ask

-- the numbers of what a line spells are those of clients and of registers
pub askable : (body : List ℕ) (asked : Asked) → Spells body asked → IsAskable asked
askable body (Line (Client client cmd)) spells = spells.first
askable body (Line (Gc count)) spells = tt
askable body (Line (Flush count)) spells = tt
askable body (Look client reg) spells = (spells.0, spells.1)
askable body (Name place) spells = tt
askable body Count spells = tt
askable body (Watch number) spells = tt
