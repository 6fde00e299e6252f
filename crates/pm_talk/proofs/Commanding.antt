-- A command, from what the engine says of its call.
use Rattle.std.proofs.Common.{◌≡◌, ⊎_elim, inl, inr, ℕ, ◌+◌, ◌<◌, ◌≤◌, Bool, true, false, List, [], ◌∷◌, ◌++◌, length, length-append, min, take, arith, Some, None, Result, Ok, Err, OnOk, refl, ap, sym, subst, ◌∙◌}
use Rattle.std.specs.Option.{is_some}
use Rattle.std.specs.Prelude.{IfErr}
use Rattle.std.proofs.lemmas.List.{length-take}
use Rattle.pm_types.specs.declared.command.Cmd.{Cmd}
use Rattle.pm_types.specs.declared.entry.Entry.{Entry}
use Rattle.pm_types.specs.declared.fault.EngineFault.{EngineFault}
use Rattle.pm_types.specs.declared.fault.EngineFault.TheVariants.{Memory, Disk, Reopen}
use Rattle.pm_types.specs.declared.reply.Reply.{Reply as Replies}
use Rattle.pm_disk.specs.declared.disk.Disk.{Ghosts}
use Rattle.pm_model.specs.Frames.{is_settle}
use Rattle.pm_model.specs.Text.{reply_line}
use Rattle.pm_script.specs.declared.line.Line.TheVariants.{Client}
use Rattle.pm_peer.specs.declared.asked.Asked.TheVariants.{Line}
use Rattle.pm_saving.specs.Serving.{Serving}
use Rattle.pm_saving.specs.Events.{Serves}
use Rattle.pm_engine.specs.declared.engine.Engine.{Engine}
use Rattle.pm_engine.specs.Calls.{AnswersClient}
use Rattle.pm_engine.specs.Shown.{recent, room, serving}
use Rattle.pm_engine.specs.Works.Acting.{ChangesSpace}
use Rattle.pm_talk.specs.declared.answer.Saying.TheVariants.{Reply}
use Rattle.pm_talk.specs.Events.{due_behind}
use Rattle.pm_talk.specs.Flushing.{StopsCommand}
use Rattle.pm_talk.specs.Saying.{AddsLast, IsReady}

module _ {D F : Type 0} {g : Ghosts D} where
  -- it was answered
  pub adds_last : (old new : Engine D F g) (client : ℕ) (cmd : Cmd) (reply : Replies) → AnswersClient client cmd old new (Ok reply) → AddsLast client cmd old new
  adds_last old new client cmd reply call = record { reply = reply; serves = call.serves; space = call.space; short = call.shown; entries = recent old; last = call.kept.recent }

  -- also by an engine that serves the same
  pub adds_from : (old mid new : Engine D F g) (client : ℕ) (cmd : Cmd) → serving mid ≡ serving old → AddsLast client cmd mid new → AddsLast client cmd old new
  adds_from old mid new client cmd same adds = record {
    reply = adds.reply;
    serves = subst (λ (it : Serving). Serves client cmd it (serving new) adds.reply) same adds.serves;
    space = subst (λ (it : Serving). ChangesSpace client cmd it.view (serving new).view adds.reply) same adds.space;
    short = adds.short;
    entries = adds.entries;
    last = adds.last;
  }

  module _ (old new : Engine D F g) (client : ℕ) (cmd : Cmd) (running : (serving old).stopped ≡ None) where
    -- memory ran out
    short_of : (refused : _) → AnswersClient client cmd old new (Err (Memory refused)) → 0 < room old → (settles : Bool) → is_settle cmd ≡ settles → StopsCommand cmd (serving old) (serving new) (Memory refused)
    short_of refused call within true is =
        inr (is, call.fails.0, ⊎_elim (λ both. both.1) (λ none. absurd (omega (arith, none, within))) (call.short is))
    short_of refused call within false is = inl (call.lasts is)

    -- the disk failed, in a settle
    broken_of : (before after : ℕ) → AnswersClient client cmd old new (Err (Disk before after)) → (settles : Bool) → is_settle cmd ≡ settles → StopsCommand cmd (serving old) (serving new) (Disk before after)
    broken_of before after call true is = (is, call.fails.0, ap is_some call.fails.2)
    broken_of before after call false is = absurd ((call.still is).none)

    -- why it was not
    pub stops_command : (fault : EngineFault) → AnswersClient client cmd old new (Err fault) → 0 < room old → StopsCommand cmd (serving old) (serving new) fault
    stops_command (Memory refused) call within = short_of refused call within (is_settle cmd) refl
    stops_command (Disk before after) call within = broken_of before after call (is_settle cmd) refl
    stops_command (Reopen count) call within = let stopped = call.fails.1 in absurd (cc (running, stopped))

    -- the same of a result
    pub adds_of : (result : Result Replies EngineFault) → AnswersClient client cmd old new result → OnOk result (AddsLast client cmd old new)
    adds_of (Ok reply) call = adds_last old new client cmd reply call
    adds_of (Err fault) call = tt

    pub stops_of : (result : Result Replies EngineFault) → AnswersClient client cmd old new result → 0 < room old → IfErr result (StopsCommand cmd (serving old) (serving new))
    stops_of (Ok reply) call within = tt
    stops_of (Err fault) call within = stops_command fault call within

  -- its reply line is ready
  pub ready_command : (events client due bytes : ℕ) (cmd : Cmd) (old new : Engine D F g) (buffer : List ℕ) → (adds : AddsLast client cmd old new) → take bytes buffer ≡ reply_line (record { client = client; cmd = cmd; reply = adds.reply }) → bytes ≤ length buffer → due ≡ due_behind events cmd
      → IsReady events (Ok (Line (Client client cmd))) (serving old) (serving new) buffer (Some (Reply bytes due))
  ready_command events client due bytes cmd old new buffer adds told within is = record {
    says = inl (record { reply = adds.reply; serves = adds.serves; space = adds.space; short = adds.short; line = told }, is);
    within = within;
  }

-- there is a last one
pub some_last : (entries kept : List Entry) (entry : Entry) → kept ≡ entries ++ entry ∷ [] → 0 < length kept
some_last entries kept entry is = let long : length kept ≡ length entries + 1 = ap length is ∙ length-append entries (entry ∷ []) in omega (arith, long)

-- what is a first part of the buffer is within it
pub within_buffer : (bytes : ℕ) (buffer line : List ℕ) → take bytes buffer ≡ line → bytes ≡ length line → bytes ≤ length buffer
within_buffer bytes buffer line is long =
    let all : length (take bytes buffer) ≡ bytes = ap length is ∙ sym long in
    let most : length (take bytes buffer) ≡ min bytes (length buffer) = length-take bytes buffer in
    omega (arith, all, most)
