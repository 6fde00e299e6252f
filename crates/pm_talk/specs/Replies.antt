-- What is told to a line, and what becomes of the engine until then.
use Rattle.std.specs.Prelude.{◌≡◌, ◌⊎◌, ℕ, true, List, IsSome, Result, Ok, Err}
use Rattle.pm_types.specs.declared.command.Cmd.{Cmd}
use Rattle.pm_types.specs.declared.reply.Reply.{Reply}
use Rattle.pm_types.specs.Replies.{IsShortReply}
use Rattle.pm_model.specs.Frames.{is_settle}
use Rattle.pm_model.specs.Text.{reply_line}
use Rattle.pm_script.specs.declared.fault.Cause.{Cause}
use Rattle.pm_script.specs.declared.line.Line.TheVariants.{Client, Gc, Flush}
use Rattle.pm_peer.specs.declared.asked.Asked.{Asked}
use Rattle.pm_peer.specs.declared.asked.Asked.TheVariants.{Line, Look, Name, Count, Watch}
use Rattle.pm_saving.specs.Serving.{Serving, world}
use Rattle.pm_saving.specs.Events.{Serves, ServesNothing}
use Rattle.pm_engine.specs.Events.Events.{IsUnfinished}
use Rattle.pm_engine.specs.History.{IsCollected}
use Rattle.pm_engine.specs.Shown.{tally_in}
use Rattle.pm_engine.specs.Works.Acting.{ChangesSpace}
use Rattle.pm_talk.specs.Events.{CollectsFewer, FlushesAll, FlushesFewer, FlushesUntil, Makes, due_behind}
use Rattle.pm_talk.specs.Texts.{end_of, fault_line, flush_line, gc_line, held_line, line_numbered, look_line, marked, name_line, named_line, no_memory_line, watch_told}

-- A command was answered: one entry was added, whose reply is the world's, and its reply line is told.
pub record AnswersCommand (client : ℕ) (cmd : Cmd) (old new : Serving) (told : List ℕ) : Type 0 where
  pub reply : Reply
  pub serves : Serves client cmd old new reply
  pub space : ChangesSpace client cmd old.view new.view reply
  pub short : IsShortReply reply
  pub line : told ≡ reply_line (record { client = client; cmd = cmd; reply = reply })

-- What is told to what a line asks, and the engine then. A question changes nothing.
abbrev pub Answers : Asked → Serving → Serving → List ℕ → Type 0
Answers (Line (Client client cmd)) old new told = AnswersCommand client cmd old new told
Answers (Line (Gc count)) old new told = Makes IsCollected count old new × (told ≡ gc_line new.view.completed)
Answers (Line (Flush count)) old new told = (wrote : ℕ) × FlushesAll count wrote old new × (told ≡ flush_line wrote)
Answers (Look client reg) old new told = (new ≡ old) × (told ≡ look_line (held_line (world old) client reg))
Answers (Name place) old new told = (new ≡ old) × (told ≡ name_line (named_line (world old) place))
Answers Count old new told = (new ≡ old) × (told ≡ marked (end_of (tally_in old)))
Answers (Watch number) old new told = (new ≡ old) × (told ≡ watch_told (line_numbered number (tally_in old).lines))

-- How many events of the collector are due behind the answer, where so many are due behind each reply to a command.
abbrev pub due_to : ℕ → Asked → ℕ
due_to events (Line (Client client cmd)) = due_behind events cmd
due_to events asked = 0

-- A faulty line changes nothing, and its cause is told.
abbrev pub Replies : ℕ → Result Asked Cause → Serving → Serving → List ℕ → ℕ → Type 0
Replies events (Err cause) old new told due = (new ≡ old) × (told ≡ fault_line cause) × (due ≡ 0)
Replies events (Ok asked) old new told due = Answers asked old new told × (due ≡ due_to events asked)

-- What may have changed where memory ran out: of `settle` pages were written, and one is left; of events some were made.
abbrev pub WasBegun : Result Asked Cause → Serving → Serving → Type 0
WasBegun (Ok (Line (Client client cmd))) old new = (is_settle cmd ≡ true) × ServesNothing old new × IsUnfinished new
WasBegun (Ok (Line (Gc count))) old new = CollectsFewer count old new
WasBegun (Ok (Line (Flush count))) old new = FlushesFewer count old new
WasBegun asked old new = ⊥

-- Memory ran out: nothing was answered and nothing is due.
pub record RunsShort (asked : Result Asked Cause) (old new : Serving) (told : List ℕ) (due : ℕ) : Type 0 where
  pub changed : (new ≡ old) ⊎ WasBegun asked old new
  pub line : told ≡ no_memory_line
  pub none : due ≡ 0

-- What is told to a line, the engine then, and how many events of the collector are due behind it.
abbrev pub Says : ℕ → Result Asked Cause → Serving → Serving → List ℕ → ℕ → Type 0
Says events asked old new told due = Replies events asked old new told due ⊎ RunsShort asked old new told due

-- The disk failed, in `settle` or in a flush event: nothing was answered, and the engine is stopped.
abbrev pub FailsDisk : Result Asked Cause → Serving → Serving → Type 0
FailsDisk (Ok (Line (Client client cmd))) old new = (is_settle cmd ≡ true) × ServesNothing old new × IsSome new.stopped
FailsDisk (Ok (Line (Flush count))) old new = FlushesUntil count old new
FailsDisk asked old new = ⊥
