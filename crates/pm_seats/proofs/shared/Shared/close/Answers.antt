use Rattle.std.proofs.Common.{ap, sym, subst, ◌∙◌}
use Rattle.std.specs.List.{AllByRecursion}
use Rattle.pm_engine.specs.declared.engine.Engine.{Engine}
use Rattle.pm_engine.specs.Shown.{past_of, serving}
use Rattle.pm_engine.specs.Events.Events.{FitsLine}
use Rattle.pm_seats.specs.Sharing.{first_engine}
use Rattle.pm_seats.proofs.Closing.{closes_first, closes_legal, closes_whole}
use Rattle.pm_seats.proofs.shared.Shared.close.Goals as goal

pub returns-clause-legal : goal.returns-clause-legal
returns-clause-legal g c =
    closes_legal _ c.close-book.result c.into_engine.result c.into_engine.ensures c.keep_its_log.ensures.paired _ c.close-book.ensures.tie c.keep_its_engine.ensures.goes c.keep_its_log.ensures.legal

pub returns-clause-journal : goal.returns-clause-journal
returns-clause-journal g c =
    closes_first (first_engine c.args.self) c.close-book.result c.into_engine.result c.into_engine.ensures c.keep_its_log.ensures.paired _ c.close-book.ensures.log

pub returns-clause-whole : goal.returns-clause-whole
returns-clause-whole g c = λ all.
    let whole = c.close-book.ensures.whole all in
    closes_whole (first_engine c.args.self) c.close-book.result c.into_engine.result c.into_engine.ensures c.keep_its_log.ensures.paired _ whole.log_is whole.made whole.flushed whole.struck whole.covers c.keep_its_engine.ensures.counted

pub returns-clause-past : goal.returns-clause-past
returns-clause-past g c = ap (λ (e : Engine g.row.D.Denot g.row.F.Denot g.D.Disk). past_of e) c.into_engine.ensures ∙ c.keep_its_engine.ensures.whole

pub returns-clause-lines : goal.returns-clause-lines
returns-clause-lines g c = subst (λ (e : Engine g.row.D.Denot g.row.F.Denot g.D.Disk). AllByRecursion FitsLine (serving e).journal) (sym c.into_engine.ensures) c.keep_its_log.ensures.lines
