-- Journals: what was asked and answered, in order.
use Rattle.std.specs.Prelude.{◌≡◌, ℕ, ◌+◌, Bool, true, false, List, [], ◌∷◌, ◌++◌, map, filter, nat_eq, if◌then◌else◌, Option}
use Rattle.pm_types.specs.declared.command.Cmd.{Cmd}
use Rattle.pm_types.specs.declared.command.Cmd.TheVariants.{Watch}
use Rattle.pm_types.specs.declared.entry.Entry.{Entry}
use Rattle.pm_model.specs.declared.request.Request.{Request}
use Rattle.pm_types.specs.declared.reply.Reply.{Reply}
use Rattle.pm_types.specs.declared.reply.Reply.TheVariants.{Saved, Watching}
use Rattle.pm_model.specs.World.{World, Copy}
use Rattle.pm_model.specs.Answer.{answer}

-- each reply is the one that the world at that point gives
abbrev pub IsLegal : World → List Entry → Type 0
IsLegal world [] = Unit {0}
IsLegal world (entry ∷ rest) = (entry.reply ≡ (answer world entry.client entry.cmd).0) × IsLegal (answer world entry.client entry.cmd).1 rest

-- the world at the journal's end
abbrev pub after : World → List Entry → World
after world [] = world
after world (entry ∷ rest) = after (answer world entry.client entry.cmd).1 rest

-- what was asked, in order
abbrev pub requests_of : List Entry → List Request
requests_of journal = map (λ entry. record { client = entry.client; cmd = entry.cmd }) journal

-- the commands of one client, in order
abbrev pub commands_of : ℕ → List Request → List Cmd
commands_of client requests = map (λ request. request.cmd) (filter (λ request. nat_eq request.client client) requests)

-- the part of one client: its commands in the journal, in order
abbrev pub part : ℕ → List Entry → List Cmd
part client journal = commands_of client (requests_of journal)

-- the journal serves what is asked: each client's part is the list of its commands
abbrev pub Serves : List Entry → List Request → Type 0
Serves journal asked = (client : ℕ) → part client journal ≡ commands_of client asked

-- a list is another one's first part: something behind it makes it the other
abbrev pub IsFirstPart : {X : Type 0} → List X → List X → Type 0
IsFirstPart {X = X} first whole = (rest : List X) × (first ++ rest ≡ whole)

-- the number and the copy that settled last in a world
abbrev pub settled_in : World → ℕ × Copy
settled_in world = (world.settled, world.settled_copy)

-- the reply says that a copy settled
abbrev pub says_saved : Reply → Bool
says_saved (Saved number) = true
says_saved reply = false

-- the copies that settle along a journal, in order, each with its number
abbrev pub settled_along : World → List Entry → List (ℕ × Copy)
settled_along world [] = []
settled_along world (entry ∷ rest) =
    let next = (answer world entry.client entry.cmd).1 in
    (if says_saved entry.reply then settled_in next ∷ [] else []) ++ settled_along next rest

-- the chain of settled copies: the one that had settled before, and those that settle along the journal
abbrev pub chain : World → List Entry → List (ℕ × Copy)
chain world journal = settled_in world ∷ settled_along world journal

-- the copy that is in progress at the journal's end, if there is one
abbrev pub progress : World → List Entry → Option (ℕ × Copy)
progress world journal = (after world journal).saving

-- a command that is answered so sets a watch
abbrev pub says_watching : Cmd → Reply → Bool
says_watching Watch (Watching number) = true
says_watching cmd reply = false

-- the places of the entries that set a watch, where the first entry stands at this place
abbrev pub watch_places : ℕ → List Entry → List ℕ
watch_places place [] = []
watch_places place (entry ∷ rest) =
    (if says_watching entry.cmd entry.reply then place ∷ [] else []) ++ watch_places (place + 1) rest
