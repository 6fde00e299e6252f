use Rattle.std.proofs.Common.{◌∙◌}
use Rattle.pm_shadow.specs.Pages.{state, disk_of}
use Rattle.pm_ship.proofs.StandbyLemmas.{pages_first, pages_listable, pages_used, standby_read}
use Rattle.pm_ship.proofs.standby.take_standby.Goals as goal

pub know_pages-requires-clause-there : goal.know_pages-requires-clause-there
know_pages-requires-clause-there g c unknown =
    pages_listable (state c.args.pages.now) (g.E.Disk.contents (disk_of c.args.pages.now)) c.args.read c.requires.read c.deref.result.now
    (c.deref.ensures.value ∙ c.in_ok-standby.ensures.pages_are) (c.keep_their_header.ensures.begun unknown)

pub know_pages-requires-clause-first : goal.know_pages-requires-clause-first
know_pages-requires-clause-first g c =
    pages_first (state c.args.pages.now) (g.E.Disk.contents (disk_of c.args.pages.now)) c.args.read c.requires.read c.deref.result.now
    (c.deref.ensures.value ∙ c.in_ok-standby.ensures.pages_are)

pub know_pages-requires-clause-used : goal.know_pages-requires-clause-used
know_pages-requires-clause-used g c =
    pages_used (state c.args.pages.now) (g.E.Disk.contents (disk_of c.args.pages.now)) c.args.read c.requires.read c.deref.result.now
    (c.deref.ensures.value ∙ c.in_ok-standby.ensures.pages_are)

pub returns-clause-taken : goal.returns-clause-taken
returns-clause-taken g c =
    standby_read (state c.args.pages.now) (g.E.Disk.contents (disk_of c.args.pages.now)) c.args.read c.requires.read c.deref.result.now
    (c.deref.ensures.value ∙ c.in_ok-standby.ensures.pages_are) (state c.know_pages.new.pages) c.requires.ready c.keep_their_header.ensures.begun
    c.in_ok-know_pages.ensures.known c.in_ok-know_pages.ensures.listed c.keep_their_header.ensures.within c.in_ok-standby.standby c.in_ok-standby.used.items c.in_ok-standby.ensures
