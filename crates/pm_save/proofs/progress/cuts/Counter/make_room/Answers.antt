use Rattle.pm_save.proofs.ProgressLemmas.CountLemmas.{page_ended, still_roomy}
use Rattle.pm_save.proofs.progress.cuts.Counter.make_room.Goals as goal

pub returns-in_ok-end_page-clause-roomy : goal.returns-in_ok-end_page-clause-roomy
returns-in_ok-end_page-clause-roomy c met entry is had =
    page_ended met entry c.args.size c.args.self.now _ had is c.requires c.if-self-size-gt-PAGE_BYTES.true c.in_ok-end_page.ensures.counts c.in_ok-end_page.ensures.count
    c.in_ok-end_page.ensures.used c.cutting_goes_on_at_the_last_page.ensures.full

pub returns-else-self-size-gt-PAGE_BYTES-clause-roomy : goal.returns-else-self-size-gt-PAGE_BYTES-clause-roomy
returns-else-self-size-gt-PAGE_BYTES-clause-roomy c met entry is had =
    still_roomy met entry c.args.size c.args.self.now had is c.if-self-size-gt-PAGE_BYTES.false c.cutting_goes_on_at_the_last_page.ensures.room
