-- An engine with a nursery lets no entry go.
use Rattle.std.proofs.Common.{◌≡◌, ℕ, true, List, [], ◌++◌, length, ◌∙◌, sym, ap}
use Rattle.pm_types.specs.declared.command.Cmd.{Cmd}
use Rattle.pm_types.specs.declared.command.Cmd.TheVariants.{Save, Settle, Unsave}
use Rattle.pm_types.specs.declared.entry.Entry.{Entry}
use Rattle.pm_types.specs.declared.reply.Reply.{Reply}
use Rattle.pm_disk.specs.declared.disk.Disk.{Ghosts}
use Rattle.pm_model.specs.Frames.{saves}
use Rattle.pm_engine.specs.declared.works.works.Works.{Works}
use Rattle.pm_engine.specs.Works.Working.{Answers, journal_in, past_in}
use Rattle.pm_engine.proofs.WorksLemmas.Answering.{save_adds, settle_adds, unsave_adds}
use Rattle.pm_engine.proofs.WorksLemmas.Whole.{same_past}
use Rattle.pm_young.specs.declared.engine.YoungEngine.{YoungEngine}
use Rattle.pm_young.specs.Seen.{YoungTotal, young_tally_in}

module _ {D : Type 0} {F : Type 0} {g : Ghosts D} where
  -- what had been let go stays
  pub whole_still : (old new : Works D F g) → new.past ≡ old.past → past_in old ≡ [] → past_in new ≡ []
  whole_still old new past whole = same_past old new past ∙ whole

  -- so it does where a copy begins, is settled or given up
  module _ (client : ℕ) (old new : Works D F g) where
    answered_past : (cmd : Cmd) → saves cmd ≡ true → (reply : Reply) → Answers client cmd old new reply → new.past ≡ old.past
    answered_past Save save reply is = (save_adds client old new reply is).past
    answered_past Settle save reply is = (settle_adds client old new reply is).past
    answered_past Unsave save reply is = (unsave_adds client old new reply is).past
    answered_past cmd save reply is = cc save

    pub whole_answered : (cmd : Cmd) → saves cmd ≡ true → (reply : Reply) → Answers client cmd old new reply → past_in old ≡ [] → past_in new ≡ []
    whole_answered cmd save reply is whole = whole_still old new (answered_past cmd save reply is) whole

  -- the entries that are kept are the whole journal
  pub all_kept : (works : Works D F g) → past_in works ≡ [] → works.journal.items ≡ journal_in works
  all_kept works whole = sym (ap (λ (past : List Entry). past ++ works.journal.items) whole)

  -- so what is counted of them is what an engine comes to
  pub tally_whole : (it : YoungEngine D F g) (total : YoungTotal) → total ≡ record (young_tally_in it) { entries = length it.works.journal.items; journal = it.works.journal.items } → total ≡ young_tally_in it
  tally_whole it total is = is ∙ ap (λ (entries : List Entry). record (young_tally_in it) { entries = length entries; journal = entries }) (all_kept it.works it.whole)
