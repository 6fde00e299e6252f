use Rattle.std.proofs.Common.{None, ap, refl}
use Rattle.std.specs.Prelude.{option_map}
use Rattle.pm_shadow.specs.State.{abandoned_in}
use Rattle.pm_shadow.specs.Pages.{state, disk_of}
use Rattle.pm_save.specs.Progress.Seen.{progress_seen}
use Rattle.pm_save.specs.Writer.Shown.{writing}
use Rattle.pm_save.proofs.WriterLemmas.DropLemmas.{same_tied, kept_copy}
use Rattle.pm_save.proofs.writer.writer.Writer.drop_copy.Goals as goal

pub returns-clause-tied : goal.returns-clause-tied
returns-clause-tied g c frozen tied =
    let self = c.args.self.now in
    let settled = self.settled.items in
    let s = state c.args.pages.now in
    same_tied settled None (option_map (progress_seen settled) c.take.new.self) None None (abandoned_in s) (state c.abandon.new.self)
    (g.D.Disk.contents (disk_of c.args.pages.now)) (g.D.Disk.contents (disk_of c.abandon.new.self))
    (ap (option_map (progress_seen settled)) c.take.ensures.after) refl c.abandon.ensures.state (ap g.D.Disk.contents c.abandon.ensures.still)
    (c.a_copy_is_given_up.ensures (writing self) frozen s (g.D.Disk.contents (disk_of c.args.pages.now)) tied)

pub returns-clause-has : goal.returns-clause-has
returns-clause-has g c known =
    let s = state c.args.pages.now in
    kept_copy s (abandoned_in s) (state c.abandon.new.self) (g.D.Disk.contents (disk_of c.args.pages.now)) (g.D.Disk.contents (disk_of c.abandon.new.self))
    (c.the_next_copy_grows_beside_the_current_one.ensures.abandoned s known) c.abandon.ensures.state (ap g.D.Disk.contents c.abandon.ensures.still)
