use Rattle.std.proofs.Common.{rules, ◌≤◌, ◌+◌, sym, ap, subst}
use Rattle.pm_view.specs.View.{SpaceView}
use Rattle.pm_view.specs.Work.{work}
use Rattle.pm_view.specs.Bounded.{KeepsWatches}
use Rattle.pm_space.specs.declared.space.Space.{Space}
use Rattle.pm_space.specs.Shown.{view}
use Rattle.pm_mutate.specs.Acts.{Serves}
use Rattle.pm_law_collect.specs.Work.Raises.{raises}
use Rattle.pm_engine.specs.Works.Acting.{DoesItsRow}
use Rattle.pm_engine.proofs.works.works.Works.act.Goals as goal

pub returns-clause-acts : goal.returns-clause-acts
returns-clause-acts g c =
    let old = view c.args.self.now.space.parts in
    let client = c.args.client in
    let cmd = c.args.cmd in
    let reply = c.in_ok-reply.reply in
    let told = c.in_ok-reply.ensures in
    let same = sym (ap (λ (s : Space g.row.F.Denot). view s.parts) c.append.ensures.store.space) in
    record {
      adds = search rules;
      served = subst (λ (v : SpaceView). Serves old client cmd reply v) same told.served;
      frozen = search rules;
      saving = search rules;
      short = told.short;
      work = subst (λ (v : SpaceView). work v ≤ work old + raises cmd) same told.course.work;
      row = subst (λ (v : SpaceView). DoesItsRow client cmd old v reply) same told.row;
      bound = subst (λ (v : SpaceView). KeepsWatches old v) same told.bound;
    }
