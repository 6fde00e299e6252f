-- A store that was just opened, a copy that is given up, and the gate of the next header.
use Rattle.std.proofs.Common.{◌≡◌, ℕ, ◌<◌, ◌≤◌, true, false, List, Option, Some, None, refl, ◌∙◌}
use Rattle.std.specs.List.{AllByRecursion}
use Rattle.pm_disk.specs.Disk.{IfTold}
use Rattle.pm_image.specs.Opening.{page_of}
use Rattle.pm_image.specs.declared.settled.KeptPage.{KeptPage}
use Rattle.pm_shadow.specs.State.{State, IsIdle, abandoned_in, with_closed}
use Rattle.pm_shadow.specs.Images.{Holds}
use Rattle.pm_shadow.specs.Copies.{KeepsSamePages}
use Rattle.pm_shadow.proofs.CopyLemmas.{abandoned_idle, abandoned_keeps}
use Rattle.pm_view.specs.View.{Cars}
use Rattle.pm_law_copies.proofs.GraphsLemmas.Lists.{all_follow}
use Rattle.pm_saving.specs.Progress.{Saving}
use Rattle.pm_saving.specs.Tied.{AreSettled, IsOnPage, IsPut, IsTied, all_puts}
use Rattle.pm_law_saving.proofs.Staying.{held_settled, idle_pages, still_on_pages, still_settled}

pub store_begins : (settled : List KeptPage) (s : State) (contents : Option (List ℕ)) → s.failed ≡ false → s.known ≡ true → s.settled ≤ s.count → IsIdle s → AllByRecursion (IsOnPage s) settled
    → IfTold contents (AreSettled settled s) → IsTied (record { settled = settled; progress = None }) None s contents
store_begins settled s contents sound known grown idle on current =
    record { sound = sound; known = known; grown = grown; current = current; on_pages = on; pages = idle_pages s contents idle; begun = tt }

pub copy_given_up : (saving : Saving) (frozen : Option Cars) (s : State) (contents : Option (List ℕ)) → IsTied saving frozen s contents
    → IsTied (record saving { progress = None }) None (abandoned_in s) contents
copy_given_up saving frozen s contents tied =
    let same = abandoned_keeps s tied.known in
    record {
      sound = tied.sound;
      known = tied.known;
      grown = tied.grown;
      current = λ bytes told. still_settled saving.settled s (abandoned_in s) bytes same (tied.current bytes told);
      on_pages = still_on_pages saving.settled s (abandoned_in s) same tied.on_pages;
      pages = idle_pages (abandoned_in s) contents (abandoned_idle s);
      begun = tt;
    }

-- what was told before the gate was closed, and what the image then holds
abbrev IsClosedFrom : State → Option (List ℕ) → List ℕ → Type 0
IsClosedFrom s was after =
    (before : List ℕ) × (was ≡ Some before) × Holds s before after × ((page : ℕ) → 2 ≤ page → page < s.count → page_of after page ≡ page_of before page)

pub gate_closed : (saving : Saving) (frozen : Option Cars) (s : State) (was now : Option (List ℕ)) → IsTied saving frozen s was → IfTold now (IsClosedFrom s was) → IsTied saving frozen (with_closed s) now
gate_closed saving frozen s was now tied closed =
    let t = with_closed s in
    let same : KeepsSamePages s t = record { slot = refl; header = refl; settled = refl; known = refl; kept = λ page. refl } in
    let pages = tied.pages in
    record {
      sound = tied.sound;
      known = tied.known;
      grown = tied.grown;
      current = λ bytes told.
          let from = closed bytes told in
          still_settled saving.settled s t bytes same (held_settled saving.settled s from.0 bytes from.2 (tied.current from.0 from.1));
      on_pages = still_on_pages saving.settled s t same tied.on_pages;
      pages = record {
        claimed = pages.claimed;
        written = pages.written;
        apart = pages.apart;
        read = all_follow (IsPut s was) (IsPut t now) (all_puts saving.progress)
            (λ put is. record {
              from_2 = is.from_2;
              there = is.there;
              whole = is.whole;
              reads = λ bytes told. let from = closed bytes told in from.3 put.0 is.from_2 is.there ∙ is.reads from.0 from.1;
            })
            pages.read;
        kept = pages.kept;
        are_kept = pages.are_kept;
      };
      begun = tied.begun;
    }
