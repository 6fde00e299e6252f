use Rattle.std.proofs.Common.{◌∙◌, inl, ap, subst}
use Rattle.std.specs.Prelude.{IfErr}
use Rattle.std.proofs.lemmas.Result.{on_ok_weaker}
use Rattle.pm_saving.specs.Serving.{Serving}
use Rattle.pm_engine.specs.Shown.{disk_in, serving}
use Rattle.pm_talk.specs.Flushing.{StopsCommand}
use Rattle.pm_talk.specs.Going.{halt_after}
use Rattle.pm_talk.proofs.Commanding.{adds_from}
use Rattle.pm_talk.proofs.Going.{talk_still, talk_then}
use Rattle.pm_talk.proofs.command.ask_engine.Goals as goal

pub give_command-requires-clause-running : goal.give_command-requires-clause-running
give_command-requires-clause-running g c = ap (λ (it : Serving). it.stopped) c.reserve_entries.ensures.serving ∙ c.requires.running

pub returns-in-Ok-clause-adds : goal.returns-in-Ok-clause-adds
returns-in-Ok-clause-adds g c =
    on_ok_weaker c.give_command.result (λ adds. adds_from c.args.engine.now c.reserve_entries.new.self c.give_command.new.engine c.args.client c.args.cmd c.reserve_entries.ensures.serving adds) c.give_command.ensures.adds

pub returns-in-Ok-clause-stops : goal.returns-in-Ok-clause-stops
returns-in-Ok-clause-stops g c =
    subst (λ (it : Serving). IfErr c.give_command.result (StopsCommand c.args.cmd it (serving c.give_command.new.engine))) c.reserve_entries.ensures.serving c.give_command.ensures.stops

pub returns-in-Ok-clause-engine : goal.returns-in-Ok-clause-engine
returns-in-Ok-clause-engine g c =
    let law = c.keep_their_images.ensures in
    let room = c.reserve_entries.ensures in
    talk_then c.args.engine.now c.reserve_entries.new.self c.give_command.new.engine (halt_after c.give_command.result)
    (talk_still c.args.engine.now c.reserve_entries.new.self room.start room.serving room.disk c.requires.running law.legal (law.settled c.requires.running) (g.met.D.Disk.only_now (disk_in c.args.engine.now)))
    c.give_command.ensures.engine

pub returns-in-Err-clause-stops : goal.returns-in-Err-clause-stops
returns-in-Err-clause-stops g c = inl c.reserve_entries.ensures.serving

pub returns-in-Err-clause-engine : goal.returns-in-Err-clause-engine
returns-in-Err-clause-engine g c =
    let law = c.keep_their_images.ensures in
    let room = c.reserve_entries.ensures in
    talk_still c.args.engine.now c.reserve_entries.new.self room.start room.serving room.disk c.requires.running law.legal (law.settled c.requires.running) (g.met.D.Disk.only_now (disk_in c.args.engine.now))
