use Rattle.std.proofs.Common.{rules, ℕ, List, take, sym, ap, ◌∙◌, subst}
use Rattle.std.specs.List.{AllByRecursion}
use Rattle.pm_shadow.specs.State.{State}
use Rattle.pm_shadow.specs.Pages.{state}
use Rattle.pm_saving.specs.Paging.{clean_page}
use Rattle.pm_saving.specs.Tied.{IsOnPage, with_all_kept}
use Rattle.pm_save.specs.Progress.Seen.{place_seen}
use Rattle.pm_save.specs.Progress.Putting.{pages_in}
use Rattle.pm_save.proofs.ProgressLemmas.Keeping.{all_kept_known, kept_on_pages, kept_then, pages_more}
use Rattle.pm_save.proofs.progress.written.keep_clean.Goals as goal

pub keep_page-requires-clause-known : goal.keep_page-requires-clause-known
keep_page-requires-clause-known g c =
    ap (λ (s : State). s.known) c.loop-one.invariant.state ∙ all_kept_known (pages_in c.args.settled.now (take c.loop-one.one-index c.args.cars.now)) (state c.args.pages.now) ∙ c.requires.known

pub keep_page-requires-clause-on_pages : goal.keep_page-requires-clause-on_pages
keep_page-requires-clause-on_pages g c =
    subst (λ (s : State). AllByRecursion (IsOnPage s) c.args.settled.now) (sym c.loop-one.invariant.state)
    (kept_on_pages (pages_in c.args.settled.now (take c.loop-one.one-index c.args.cars.now)) (state c.args.pages.now) c.args.settled.now c.requires.on_pages)

pub loop-one-preserved : goal.loop-one-preserved
loop-one-preserved g c =
    let settled = c.args.settled.now in
    let front = pages_in settled (take c.loop-one.one-index c.args.cars.now) in
    let here = clean_page (place_seen settled c.one-item.result.place) in
    record {
      state =
          c.keep_page.ensures.state ∙ ap (with_all_kept here) c.loop-one.invariant.state ∙ sym (kept_then front here (state c.args.pages.now))
          ∙ ap (λ (pages : List ℕ). with_all_kept pages (state c.args.pages.now)) (sym (pages_more settled c.args.cars.now c.loop-one.one-index c.one-item.result (search rules) c.one-item.is));
      still = c.keep_page.ensures.still ∙ c.loop-one.invariant.still;
    }
