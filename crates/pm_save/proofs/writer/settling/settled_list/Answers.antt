use Rattle.std.proofs.Common.{rules, ◌≡◌, ◌+◌, ◌<◌, List, [], ◌∷◌, ◌++◌, length, take, drop, get_or, sym, ap, ◌∙◌, subst, arith}
use Rattle.std.specs.List.{AllByRecursion}
use Rattle.std.proofs.lemmas.List.{drop_more, drop-set-lt}
use Rattle.pm_image.specs.declared.settled.KeptPage.{KeptPage}
use Rattle.pm_saving.specs.Progress.{page_in}
use Rattle.pm_save.specs.declared.progress.place.Place.{Place}
use Rattle.pm_save.specs.declared.progress.place.PlacedCar.{PlacedCar}
use Rattle.pm_save.specs.Progress.Seen.{place_seen}
use Rattle.pm_save.specs.Progress.Taken.{AreOnce, StaysBut, StaysFor, pages_of}
use Rattle.pm_save.proofs.ProgressLemmas.TakeLemmas.{all_stay, kept_more, same_at}
use Rattle.pm_save.proofs.writer.settling.settled_list.Goals as goal

pub loop-index-preserved : goal.loop-index-preserved
loop-index-preserved c =
    let i = c.loop-index.index in
    let is = c.loop-index.invariant in
    let orig = c.args.it.cars.items in
    let settled = c.args.settled.items in
    let now = c.loop-index.settled.items in
    let new = c.take_kept.new.settled.items in
    let one = c.index_mut.result.now in
    let length_is = is.length in
    let low : i < length c.loop-index.cars.items = search rules in
    let there : i < length orig = omega (arith, low, length_is) in
    let both = same_at c.loop-index.cars.items orig i one is.rest low there in
    let one_is : one ≡ get_or orig i one = c.index_mut.ensures.value ∙ both.0 in
    let split : drop i orig ≡ one ∷ drop (i + 1) orig = drop_more orig i one there ∙ ap (λ (first : PlacedCar). first ∷ drop (i + 1) orig) (sym one_is) in
    let once = subst AreOnce split is.once in
    let stays = subst (AllByRecursion (StaysFor settled now)) split is.stays in
    let place_is : c.replace-place.result ≡ one.place = c.replace-place.ensures.value in
    let but = subst (λ (place : Place). StaysBut place now new) place_is c.take_kept.ensures.rest in
    let kept : c.take_kept.result ∷ [] ≡ page_in (place_seen settled one.place) = c.take_kept.ensures.kept ∙ ap (λ (place : Place). page_in (place_seen now place)) place_is ∙ ap page_in stays.0.same in
    record {
      room =
          c.push_reserved.ensures.items ∙ ap (λ (pages : List KeptPage). pages ++ c.take_kept.result ∷ []) is.room
          ∙ ap (λ (more : List KeptPage). pages_of settled (take i orig) ++ more) kept ∙ sym (kept_more settled orig i one there one_is);
      count = search rules;
      capacity = search rules;
      length = search rules;
      rest = drop-set-lt (i + 1) c.loop-index.cars.items i _ (omega arith) ∙ both.1;
      once = once.1;
      stays = all_stay settled now new one.place (drop (i + 1) orig) once.0 but c.take_kept.ensures.len stays.1;
    }
