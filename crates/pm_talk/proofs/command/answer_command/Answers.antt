use Rattle.std.proofs.Common.{◌∙◌, ap}
use Rattle.pm_model.specs.Text.{reply_line}
use Rattle.pm_talk.proofs.Commanding.{ready_command, within_buffer}
use Rattle.pm_talk.proofs.command.answer_command.Goals as goal

pub returns-in-Ok-clause-ready : goal.returns-in-Ok-clause-ready
returns-in-Ok-clause-ready g c =
    let adds = c.in-Ok.ensures.adds in
    let is = c.last_of.ensures adds.entries (record { client = c.args.client; cmd = c.args.cmd; reply = adds.reply }) (c.recent.ensures.kept ∙ adds.last) in
    let line = c.reply_into-bytes.ensures in
    ready_command c.args.events c.args.client c.due_behind-due.result c.reply_into-bytes.result c.args.cmd c.args.engine.now c.ask_engine.new.engine c.reply_into-bytes.new.out adds (line.text ∙ ap reply_line is)
    (within_buffer c.reply_into-bytes.result c.reply_into-bytes.new.out (reply_line c.last_of.result.now) line.text line.len) c.due_behind-due.ensures
