-- A copy whose header was published is the settled one.
use Rattle.std.proofs.Common.{◌≡◌, ℕ, Bool, true, false, List, Option, Some, None, refl, ap, ◌∙◌, arith, if◌then◌else◌}
use Rattle.std.specs.Prelude.{nat_lt}
use Rattle.pm_disk.specs.Disk.{IfTold}
use Rattle.pm_layout.specs.declared.header.Header.{Header}
use Rattle.pm_model.specs.World.{Copy}
use Rattle.pm_image.specs.Stands.{StandsForCopy}
use Rattle.pm_shadow.specs.declared.page_use.PageUse.{PageUse}
use Rattle.pm_shadow.specs.declared.page_use.PageUse.TheVariants.{Free, Current, Claimed, Kept}
use Rattle.pm_shadow.specs.Uses.{is_next, renewed}
use Rattle.pm_shadow.specs.State.{State, keeps, keeps_by, published}
use Rattle.pm_shadow.specs.Images.{Holds, Renews}
use Rattle.pm_shadow.specs.Copies.{current_graph, next_graph}
use Rattle.pm_shadow.proofs.CopyLemmas.{held_keeps, held_opened, published_idle, renewed_keeps, renewed_opened}
use Rattle.pm_view.specs.View.{Cars}
use Rattle.pm_saving.specs.Progress.{Progress, Saving, car_pages, copy_of}
use Rattle.pm_saving.specs.Paging.{header_of, left}
use Rattle.pm_saving.specs.Tied.{HasCopy, IsOnPage, IsTied, IsWhole}
use Rattle.pm_law_saving.proofs.Members.{by_members}
use Rattle.pm_law_saving.proofs.Staying.{idle_pages}
use Rattle.pm_law_saving.proofs.Standing.{IsItsPage, car_page_next}

pub copy_held : (s : State) (bytes image : List ℕ) (copy : Copy) → HasCopy s bytes copy → Holds s bytes image → StandsForCopy image s.header.epoch copy
copy_held s bytes image copy has held =
    record { found = current_graph s has.graph; is_found = held_opened s bytes image has.graph has.keeps held; is_number = refl; is_copy = has.is_copy }

pub copy_still : (s : State) (bytes image : List ℕ) (copy : Copy) → HasCopy s bytes copy → Holds s bytes image → HasCopy s image copy
copy_still s bytes image copy has held = record { graph = has.graph; keeps = held_keeps s bytes image has.graph has.keeps held; is_copy = has.is_copy }

pub copy_renewed : (s : State) (bytes image : List ℕ) (cars : Cars) (progress : Progress) → IsWhole s bytes cars progress → Renews s (header_of progress) bytes image → StandsForCopy image progress.number (copy_of cars progress)
copy_renewed s bytes image cars progress whole new =
    record { found = next_graph s (header_of progress) whole.graph; is_found = renewed_opened s (header_of progress) bytes image whole.graph whole.next new; is_number = refl; is_copy = whole.is_copy }

pub copy_next : (s : State) (bytes image : List ℕ) (cars : Cars) (progress : Progress) → IsWhole s bytes cars progress → Renews s (header_of progress) bytes image → HasCopy (published s (header_of progress)) image (copy_of cars progress)
copy_next s bytes image cars progress whole new =
    record { graph = whole.graph; keeps = renewed_keeps s (header_of progress) bytes image whole.graph whole.next new; is_copy = whole.is_copy }

-- a page of the next copy is one of the current copy once its header is published
kept_now : (s : State) (header : Header) (page : ℕ) → IsItsPage s page → keeps (published s header) page ≡ true
kept_now s header page is =
    let low = is.from_2 in
    let past : nat_lt page 2 ≡ false = grind (arith, low) in
    ap (λ (b : Bool). keeps_by true (if b then Current else renewed (s.uses page))) past ∙ by (s.uses page) is.next
  where
    by : (u : PageUse) → is_next u ≡ true → keeps_by true (renewed u) ≡ true
    by Free is = absurd cc
    by Current is = absurd cc
    by Claimed is = refl
    by Kept is = refl

-- what is told of the published copy
abbrev IsNew : State → Cars → Progress → Option (List ℕ) → List ℕ → Type 0
IsNew s cars progress was after = (before : List ℕ) × (was ≡ Some before) × IsWhole s before cars progress × Renews s (header_of progress) before after

pub copy_settled : (saving : Saving) (cars : Cars) (s : State) (was now : Option (List ℕ)) (progress : Progress) → IsTied saving (Some cars) s was → saving.progress ≡ Some progress → left progress ≡ 0
    → IfTold now (IsNew s cars progress was) → IsTied (record { settled = car_pages progress; progress = None }) None (published s (header_of progress)) now
copy_settled saving cars s was now progress tied is none new =
    let header = header_of progress in
    record {
      sound = refl;
      known = refl;
      grown = omega arith;
      current = λ bytes told.
          let from = new bytes told in
          let whole = from.2 in
          record { graph = whole.graph; keeps = renewed_keeps s header from.0 bytes whole.graph whole.next from.3; cars = whole.cars_are };
      on_pages = by_members (IsOnPage (published s header)) (car_pages progress) (λ kept within.
          let its = car_page_next saving cars s was progress tied is none kept within in
          record { from_2 = its.from_2; keeps = kept_now s header kept.page its });
      pages = idle_pages (published s header) now (published_idle s header);
      begun = tt;
    }
