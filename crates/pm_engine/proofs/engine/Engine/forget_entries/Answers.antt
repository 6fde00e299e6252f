use Rattle.std.proofs.Common.{◌≤◌, refl, sym, ap, subst}
use Rattle.pm_space.specs.declared.space.Space.{Space}
use Rattle.pm_space.specs.Shown.{view}
use Rattle.pm_shadow.specs.declared.pages.Pages.{Pages}
use Rattle.pm_shadow.specs.Pages.{disk_of, state}
use Rattle.pm_saving.specs.Serving.{Serving}
use Rattle.pm_saving.specs.Bounds.{KeepsBounds}
use Rattle.pm_engine.specs.History.{HasHistory}
use Rattle.pm_engine.proofs.engine.Engine.forget_entries.Goals as goal
use Rattle.pm_engine.proofs.WorksLemmas.Asking.{kept_journal}
use Rattle.pm_engine.proofs.WorksLemmas.Whole.{forgets_seen}
use Rattle.pm_engine.proofs.Standing.{safe, sound_kept}

pub invariant_of-self : goal.invariant_of-self
invariant_of-self g c =
    let it = c.args.self.now in
    let old = it.works in
    let new = c.forget.new.self in
    let is = c.forget.ensures in
    let same = forgets_seen old new it.opening it.stopped is in
    record {
      sound = sound_kept it.opening it.stopped old new it.sound it.stopped
          (kept_journal it.opening it.stopped old new is.journal is.course is.watches is.events is.steps is.store.space is.store.saver is.store.pages (safe it.sound)) is.journal (ap (λ (space : Space g.row.F.Denot). view space.parts) is.store.space);
      bounded = subst (λ (now : Serving). ∥ KeepsBounds now ∥₁) (sym same) it.bounded;
      counted = subst (λ (pages : Pages g.row.D.Denot g.D.Disk). it.opening.count ≤ g.D.Disk.count (disk_of pages)) (sym is.store.pages) it.counted;
      past = subst (λ (now : Serving). ∥ HasHistory now ∥₁) (sym same) it.past;
    }

pub returns-clause-serving : goal.returns-clause-serving
returns-clause-serving g c = forgets_seen c.args.self.now.works c.forget.new.self c.args.self.now.opening c.args.self.now.stopped c.forget.ensures

pub returns-clause-disk : goal.returns-clause-disk
returns-clause-disk g c = ap (λ (pages : Pages g.row.D.Denot g.D.Disk). disk_of pages) c.forget.ensures.store.pages

pub returns-clause-pages : goal.returns-clause-pages
returns-clause-pages g c = ap (λ (pages : Pages g.row.D.Denot g.D.Disk). state pages) c.forget.ensures.store.pages

pub returns-clause-start : goal.returns-clause-start
returns-clause-start g c = record {
  opening = record { number = refl; opened = refl };
  disk = refl;
  count = refl;
  chooser = ap (λ (space : Space g.row.F.Denot). space.parts.place) c.forget.ensures.store.space;
}

pub returns-clause-kept : goal.returns-clause-kept
returns-clause-kept g c = c.forget.ensures.kept

pub returns-clause-beyond : goal.returns-clause-beyond
returns-clause-beyond g c = c.forget.ensures.beyond

pub returns-clause-room : goal.returns-clause-room
returns-clause-room g c = c.forget.ensures.room
