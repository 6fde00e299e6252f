-- What is written beside the copy of a standby.
use Rattle.std.proofs.Common.{◌≡◌, ◌≢◌, ◌⊎◌, inl, inr, ⊎_elim, ℕ, ◌+◌, ◌≤◌, ◌==◌, Bool, true, false, List, [], ◌∷◌, Option, Some, None, option_map, Ok, Err, refl, sym, ap, subst, ◌∙◌, arith, if◌then◌else◌}
use Rattle.std.specs.Prelude.{Contains}
use Rattle.std.specs.List.{AllByRecursion}
use Rattle.std.proofs.lemmas.Bool.{cases_eq}
use Rattle.std.proofs.lemmas.Bool.Decides.{nat_tests}
use Rattle.std.proofs.lemmas.Option.{same_Some}
use Rattle.pm_types.specs.Memory.{no_memory}
use Rattle.pm_types.specs.Counts.{Rose}
use Rattle.pm_disk.specs.declared.disk.Disk.{Ghosts}
use Rattle.pm_disk.specs.Made.{MadeAtMost, MadeMore}
use Rattle.pm_disk.proofs.RunLemmas.{started, weaker}
use Rattle.pm_layout.specs.declared.header.Header.{Header}
use Rattle.pm_model.specs.World.{Copy}
use Rattle.pm_model.proofs.Members.{at_first, first_or_rest, in_none, in_rest}
use Rattle.pm_image.specs.declared.settled.KeptPage.{KeptPage}
use Rattle.pm_image.specs.Graphs.{Graph, used_pages}
use Rattle.pm_image.specs.Stands.{StandsForCopy}
use Rattle.pm_shadow.specs.declared.page_use.PageUse.{PageUse}
use Rattle.pm_shadow.specs.declared.page_use.PageUse.TheVariants.{Claimed, Current, Free, Kept}
use Rattle.pm_shadow.specs.Uses.{AreLowestFree, with_use}
use Rattle.pm_shadow.specs.State.{State, keeps_by}
use Rattle.pm_shadow.specs.Copies.{KeepsGraph, current_graph}
use Rattle.pm_shadow.specs.Images.{shutting}
use Rattle.pm_shadow.specs.Pages.{current_kept, disk_of, state}
use Rattle.pm_shadow.specs.Runs.{OnlyLooks}
use Rattle.pm_shadow.specs.declared.pages.Pages.{Pages}
use Rattle.pm_view.specs.View.{Cars}
use Rattle.pm_law_saving.proofs.Publishing.{copy_held}
use Rattle.pm_saving.specs.Progress.{Progress, Saving, copy_of}
use Rattle.pm_saving.specs.Paging.{CarPage, NextPage, PartPage, left, left_of, next_page, with_next, written_on}
use Rattle.pm_saving.specs.Tied.{HasCopy, IsTied, settled_on}
use Rattle.pm_save.specs.declared.progress.fault.SaveFault.{SaveFault}
use Rattle.pm_save.specs.declared.progress.fault.SaveFault.TheVariants as saving
use Rattle.pm_save.specs.Progress.Answers.{IfMemory, IsFaultOf, TellsOn}
use Rattle.pm_save.specs.Writer.Settling.{IsLeftSo, SettlesPages, SparesEither, StandsThen, settling_syncs}
use Rattle.pm_ship.specs.declared.fault.Shipped.{Shipped}
use Rattle.pm_ship.specs.declared.fault.ShipFault.TheVariants.{Memory}
use Rattle.pm_ship.specs.Begun.{BeginsOffered, IsOfferBegun, idle}
use Rattle.pm_ship.specs.Cars.{cars_kept}
use Rattle.pm_ship.specs.Offers.{Offer, copy_offered}
use Rattle.pm_ship.specs.Written.{AreLowestBeside, HasOffered, IsBeside, IsLaid, IsLaidOn, LeavesCopy, LeavesEitherOf, SparesCopy, WritesAtMost}
use Rattle.pm_ship.specs.Shipped.{LeavesWritten, saving_fault}
use Rattle.pm_ship.proofs.StandbyLemmas.{ok_is}

-- ---- the pages that were free

free_kept : (known : Bool) (use_ : PageUse) → known ≡ true → use_ ≡ Free → keeps_by known use_ ≡ false
free_kept known use_ is free = λ i. keeps_by (is i) (free i)

-- a page that was free is none of the copy's
free_beside : (s : State) (bytes : List ℕ) (mine : Graph) (page : ℕ) → s.known ≡ true → KeepsGraph s bytes mine → 2 ≤ page → s.uses page ≡ Free → IsBeside mine page
free_beside s bytes mine page known keeps_ from_2 free = record {
  from_2 = from_2;
  apart = λ within. let kept = (keeps_.kept page within).kept in let not = free_kept s.known (s.uses page) known free in absurd (cc (kept, not));
}

from_2_each : (pages : List ℕ) (uses : ℕ → PageUse) → AreLowestFree uses pages → AllByRecursion (λ (page : ℕ). 2 ≤ page) pages
from_2_each [] uses low = tt
from_2_each (page ∷ pages) uses low = (low.0.from_2, from_2_each pages (with_use page Claimed uses) low.1)

all_beside : (s : State) (bytes : List ℕ) (mine : Graph) (pages : List ℕ) → s.known ≡ true → KeepsGraph s bytes mine → AllByRecursion (λ (page : ℕ). 2 ≤ page) pages → AllByRecursion (λ (page : ℕ). s.uses page ≡ Free) pages
    → AllByRecursion (IsBeside mine) pages
all_beside s bytes mine [] known keeps_ from_2 free = tt
all_beside s bytes mine (page ∷ pages) known keeps_ from_2 free = (free_beside s bytes mine page known keeps_ from_2.0 free.0, all_beside s bytes mine pages known keeps_ from_2.1 free.1)

-- these are the pages that are not free, behind the headers'
record AreUses (used : List ℕ) (uses : ℕ → PageUse) : Type 0 where
  within : (page : ℕ) → 2 ≤ page → (uses page ≡ Free → ⊥) → Contains used page
  apart : (page : ℕ) → uses page ≡ Free → Contains used page → ⊥

use_here : (page : ℕ) (use_ : PageUse) (uses : ℕ → PageUse) → with_use page use_ uses page ≡ use_
use_here page use_ uses =
    let self : (page == page) ≡ true = grind (arith, nat_tests) in
    ap (λ (b : Bool). if b then use_ else uses page) self

use_there : (page other : ℕ) (use_ : PageUse) (uses : ℕ → PageUse) → other ≢ page → with_use page use_ uses other ≡ uses other
use_there page other use_ uses apart =
    let off : (other == page) ≡ false = grind (arith, nat_tests, apart) in
    ap (λ (b : Bool). if b then use_ else uses other) off

-- one page more is used
uses_more : (used : List ℕ) (uses : ℕ → PageUse) (page : ℕ) → AreUses used uses → AreUses (page ∷ used) (with_use page Claimed uses)
uses_more used uses page are = record {
  within = λ other from_2 taken.
      ⊎_elim (λ (same : other ≡ page). subst (Contains (page ∷ used)) (sym same) (at_first page used))
      (λ apart. in_rest page other used (are.within other from_2 (λ free. taken (use_there page other Claimed uses apart ∙ free)))) (cases_eq other page);
  apart = λ other free within.
      ⊎_elim (λ (same : page ≡ other). let here = use_here page Claimed uses in let now = subst (λ (n : ℕ). with_use page Claimed uses n ≡ Free) (sym same) free in absurd (cc (here, now)))
      (λ rest.
      ⊎_elim (λ (same : other ≡ page). let here = use_here page Claimed uses in let now = subst (λ (n : ℕ). with_use page Claimed uses n ≡ Free) same free in absurd (cc (here, now)))
      (λ apart. are.apart other (sym (use_there page other Claimed uses apart) ∙ free) rest) (cases_eq other page))
      (first_or_rest page other used within);
}

lowest_beside : (used pages : List ℕ) (uses : ℕ → PageUse) → AreUses used uses → AreLowestFree uses pages → AreLowestBeside used pages
lowest_beside used [] uses are low = tt
lowest_beside used (page ∷ pages) uses are low = (
  record { from_2 = low.0.from_2; apart = are.apart page low.0.free; lowest = λ below from_2 less. are.within below from_2 (low.0.lowest below less) },
  lowest_beside (page ∷ used) pages (with_use page Claimed uses) (uses_more used uses page are) low.1,
)

-- where the pages of the copy are known, and none is claimed, they are those that are not free
uses_of : (s : State) (bytes : List ℕ) (mine : Graph) → s.known ≡ true → KeepsGraph s bytes mine → ((page : ℕ) → s.uses page ≡ Claimed → ⊥) → AreUses (used_pages mine) s.uses
uses_of s bytes mine known keeps_ unclaimed = record {
  within = λ page from_2 taken. keeps_.only known page from_2 (by page taken (s.uses page) refl);
  apart = λ page free within. let kept = (keeps_.kept page within).kept in let not = free_kept s.known (s.uses page) known free in absurd (cc (kept, not));
}
  where
    by : (page : ℕ) → (s.uses page ≡ Free → ⊥) → (use_ : PageUse) → s.uses page ≡ use_ → keeps_by s.known (s.uses page) ≡ true
    by page taken Free is = absurd (taken is)
    by page taken Current is = ap (keeps_by s.known) is
    by page taken Claimed is = absurd (unclaimed page is)
    by page taken Kept is = ap (keeps_by s.known) is

-- nothing is claimed where no copy is in progress
none_claimed : (settled : List KeptPage) (s : State) (contents : Option (List ℕ)) → IsTied (idle settled) None s contents → (page : ℕ) → s.uses page ≡ Claimed → ⊥
none_claimed settled s contents tied page claimed = in_none page (tied.pages.claimed page claimed)

-- the cars of the copy are the settled ones
cars_settled : (settled : List KeptPage) (s : State) (contents : Option (List ℕ)) (bytes : List ℕ) (mine : Graph) → IsTied (idle settled) None s contents → contents ≡ Some bytes → KeepsGraph s bytes mine → settled ≡ mine.cars
cars_settled settled s contents bytes mine tied told keeps_ =
    let it = tied.current bytes told in
    sym it.cars ∙ ap (λ (graph : Graph). graph.cars) (ok_is (sym it.keeps.found ∙ keeps_.found))

-- ---- the header

written_number : (cars : Cars) (pages : List ℕ) (progress : Progress) → (written_on cars pages progress).number ≡ progress.number
written_number cars [] progress = refl
written_number cars (page ∷ pages) progress = written_number cars pages (with_next page progress (next_page cars progress)) ∙ by (next_page cars progress)
  where
    by : (o : Option NextPage) → (with_next page progress o).number ≡ progress.number
    by None = refl
    by (Some (CarPage image)) = refl
    by (Some (PartPage entries)) = refl

written_next : (cars : Cars) (pages : List ℕ) (progress : Progress) → (written_on cars pages progress).next_id ≡ progress.next_id
written_next cars [] progress = refl
written_next cars (page ∷ pages) progress = written_next cars pages (with_next page progress (next_page cars progress)) ∙ by (next_page cars progress)
  where
    by : (o : Option NextPage) → (with_next page progress o).next_id ≡ progress.next_id
    by None = refl
    by (Some (CarPage image)) = refl
    by (Some (PartPage entries)) = refl

module _ {E : Type 0} {e : Ghosts E} where
  -- ---- nothing was written

  -- each image now stands for the copy that the pages have
  pub stands_now : (it : Pages E e) → (state it).failed ≡ false → (mine : Copy) (was image : List ℕ) → e.contents (disk_of it) ≡ Some was → HasCopy (state it) was mine → e.image (disk_of it) image
      → StandsForCopy image (state it).header.epoch mine
  stands_now it fine mine was image told has left = copy_held (state it) was image mine has ((current_kept it fine was told).each image left)

  pub looked_leaves : (before after : Pages E e) → (state before).failed ≡ false → OnlyLooks e.contents e.image e.moment e.since (disk_of before) (disk_of after) → LeavesCopy before after
  looked_leaves before after fine looks mine was told has =
      weaker e.moment e.since (disk_of before) (disk_of after) (e.image (disk_of before)) (λ image. StandsForCopy image (state before).header.epoch mine) looks.leaves
      (λ image left. stands_now before fine mine was image told has left)

  pub none_leaves : (it : Pages E e) → (state it).failed ≡ false → ((left : List ℕ) → e.since (disk_of it) (e.moment (disk_of it)) left → e.image (disk_of it) left) → LeavesCopy it it
  none_leaves it fine now mine was told has =
      started e.moment e.since (disk_of it) (λ image. StandsForCopy image (state it).header.epoch mine)
      (λ image left. stands_now it fine mine was image told has (now image left))

  pub either_leaves : (offer : Offer) (before after : Pages E e) → LeavesCopy before after → LeavesEitherOf offer before after
  either_leaves offer before after leaves mine was told has =
      weaker e.moment e.since (disk_of before) (disk_of after) (λ image. StandsForCopy image (state before).header.epoch mine)
      (λ image. StandsForCopy image (state before).header.epoch mine ⊎ StandsForCopy image offer.epoch (copy_offered offer)) (leaves mine was told has) (λ image stands. inl stands)

  -- no call was made
  pub none_spared : (it : Pages E e) → (state it).failed ≡ false → ((left : List ℕ) → e.since (disk_of it) (e.moment (disk_of it)) left → e.image (disk_of it) left) → SparesCopy it it
  none_spared it fine now = record {
    leaves = none_leaves it fine now;
    has = λ mine was told has bytes held. let same : was ≡ bytes = same_Some was bytes (sym told ∙ held) in subst (λ (bs : List ℕ). HasCopy (state it) bs mine) same has;
    epoch = refl;
  }

  -- memory ran out while it was written
  pub left_spared : (before after : Pages E e) (old new : Saving) → IsLeftSo e.contents e.moment e.since old new (state before) (state after) (disk_of before) (disk_of after) → SparesCopy before after
  left_spared before after old new it = record {
    leaves = λ mine was told has. it.spares mine was told has;
    has = λ mine was told has. it.has mine was told has;
    epoch = ap (λ (h : Header). h.epoch) it.stays.header;
  }

  -- ---- the copy was written

  module _ (offer : Offer) (settled cars : List KeptPage) (saving : Saving) (begun : BeginsOffered offer settled saving cars) (before after : Pages E e) where
    offered_stands : (image : List ℕ) (number : ℕ) → number ≡ offer.epoch → StandsForCopy image number (copy_of (cars_kept cars) begun.progress) → StandsForCopy image offer.epoch (copy_offered offer)
    offered_stands image number is stands = subst (λ (n : ℕ). StandsForCopy image n (copy_offered offer)) is (subst (λ (copy : Copy). StandsForCopy image number copy) begun.copy stands)

    pub either_spared : SparesEither e.contents e.moment e.since saving.progress (cars_kept cars) (state before) (disk_of before) (disk_of after) → LeavesEitherOf offer before after
    either_spared spares mine was told has =
        let run = subst (λ (o : Option Progress). SparesEither e.contents e.moment e.since o (cars_kept cars) (state before) (disk_of before) (disk_of after)) begun.is_progress spares in
        weaker e.moment e.since (disk_of before) (disk_of after)
        (λ image. StandsForCopy image (state before).header.epoch mine ⊎ StandsForCopy image begun.progress.number (copy_of (cars_kept cars) begun.progress))
        (λ image. StandsForCopy image (state before).header.epoch mine ⊎ StandsForCopy image offer.epoch (copy_offered offer))
        (run mine was told has)
        (λ image stands. ⊎_elim (λ was. inl was) (λ now. inr (offered_stands image begun.progress.number begun.number now)) stands)

    -- no more calls were made than the whole takes
    pub most_written : MadeAtMost (left_of saving.progress + (shutting (state before) + 2)) (settling_syncs (state before)) (e.made (disk_of before)) (e.made (disk_of after)) → WritesAtMost offer settled before after
    most_written most = record {
      written = left begun.progress;
      count = begun.count;
      most = subst (λ (o : Option Progress). MadeAtMost (left_of o + (shutting (state before) + 2)) (settling_syncs (state before)) (e.made (disk_of before)) (e.made (disk_of after))) begun.is_progress most;
    }

    module _ (known : (state before).known ≡ true) (new : Saving) (number : ℕ) (it : SettlesPages saving new (cars_kept cars) before after number) where
      same_progress : it.settles.progress ≡ begun.progress
      same_progress = same_Some it.settles.progress begun.progress (sym it.settles.is_progress ∙ begun.is_progress)

      header_epoch : (state after).header.epoch ≡ offer.epoch
      header_epoch = ap (λ (h : Header). h.epoch) it.settles.header ∙ written_number (cars_kept cars) it.settles.pages it.settles.progress ∙ ap (λ (p : Progress). p.number) same_progress ∙ begun.number

      header_next : (state after).header.next ≡ offer.next
      header_next = ap (λ (h : Header). h.next) it.settles.header ∙ written_next (cars_kept cars) it.settles.pages it.settles.progress ∙ ap (λ (p : Progress). p.next_id) same_progress ∙ begun.next

      now : StandsThen e.contents e.image (Some begun.progress) (cars_kept cars) (state after) (disk_of before) (disk_of after) number
      now = subst (λ (o : Option Progress). StandsThen e.contents e.image o (cars_kept cars) (state after) (disk_of before) (disk_of after) number) begun.is_progress it.now

      number_is : number ≡ offer.epoch
      number_is = it.settles.number_is ∙ ap (λ (p : Progress). p.number) same_progress ∙ begun.number

      pub offered_had : HasOffered offer before after
      offered_had = record {
        epoch = header_epoch;
        next = header_next;
        stands = λ was told image left. offered_stands image number number_is ((now was told).0 image left);
        has = λ was told bytes held. subst (λ (copy : Copy). HasCopy (state after) bytes copy) begun.copy ((now was told).1 bytes held);
      }

      -- the bytes, with what is offered on the pages
      laid_on : (mine : Graph) (was bytes : List ℕ) → settled ≡ mine.cars → e.contents (disk_of before) ≡ Some was → e.contents (disk_of after) ≡ Some bytes
          → IsLaidOn offer (current_graph (state before) mine) (state before).closed it.settles.pages was bytes
      laid_on mine was bytes cars_are told held = record {
        begun = begun.progress;
        is_begun = subst (λ (ks : List KeptPage). IsOfferBegun offer ks begun.progress) cars_are begun.begun;
        bytes =
            same_Some bytes (settled_on (cars_kept cars) it.settles.pages it.settles.progress (state before) was)
            (sym held ∙ it.settles.contents ∙ ap (option_map (settled_on (cars_kept cars) it.settles.pages it.settles.progress (state before))) told)
            ∙ (λ i. settled_on (begun.cars_are i) it.settles.pages (same_progress i) (state before) was);
      }

      pub copy_laid : IsTied (idle settled) None (state before) (e.contents (disk_of before)) → (written : ℕ) → written ≡ left begun.progress → (shipped : Shipped) → shipped.epoch ≡ number → shipped.written ≡ written → IsLaid offer settled before after shipped
      copy_laid tied written counted shipped epoch is =
          let settles = it.settles in
          let all : shipped.written ≡ left begun.progress = is ∙ counted in
          record {
            epoch = epoch ∙ number_is;
            has = offered_had;
            count = record { missing = begun.count.missing; are_missing = begun.count.are_missing; sum = all ∙ begun.count.sum };
            lays = λ mine was bytes told keeps_ held. record {
              changes = record {
                pages = settles.pages;
                count = settles.count ∙ ap left same_progress ∙ sym all;
                apart = settles.apart;
                beside = all_beside (state before) was mine settles.pages known keeps_ (from_2_each settles.pages (state before).uses settles.lowest) settles.free;
                only = settles.only was told bytes held;
              };
              lowest = lowest_beside (used_pages mine) settles.pages (state before).uses
                  (uses_of (state before) was mine known keeps_ (none_claimed settled (state before) (e.contents (disk_of before)) tied)) settles.lowest;
              laid = laid_on mine was bytes (cars_settled settled (state before) (e.contents (disk_of before)) was mine tied told keeps_) told held;
            };
            made = subst (λ (n : ℕ). MadeMore (n + (shutting (state before) + 2)) (settling_syncs (state before)) 0 (e.made (disk_of before)) (e.made (disk_of after))) (sym all)
                (subst (λ (o : Option Progress). MadeMore (left_of o + (shutting (state before) + 2)) (settling_syncs (state before)) 0 (e.made (disk_of before)) (e.made (disk_of after))) begun.is_progress it.made);
          }

  -- ---- what is left, whatever was answered

  -- nothing was written, since memory ran out
  pub none_written : (offer : Offer) (it : Pages E e) → (state it).failed ≡ false → ((left : List ℕ) → e.since (disk_of it) (e.moment (disk_of it)) left → e.image (disk_of it) left) → LeavesWritten offer it it (Err (Memory no_memory))
  none_written offer it fine now = record {
    leaves = either_leaves offer it it (none_leaves it fine now);
    spares = none_spared it fine now;
    sound = fine;
    told = λ bytes told. (bytes, told);
    cause = refl;
  }

  -- it was not written whole
  pub part_written : (offer : Offer) (before after : Pages E e) (old new : Saving) (frozen : Option Cars) (was is : ℕ) (fault : SaveFault) → was ≡ e.count (disk_of before) → is ≡ e.count (disk_of after) → LeavesEitherOf offer before after
      → IfMemory (IsLeftSo e.contents e.moment e.since old new (state before) (state after) (disk_of before) (disk_of after)) fault → IfMemory (IsTied new frozen (state after) (e.contents (disk_of after))) fault
      → TellsOn (e.contents (disk_of before)) (e.contents (disk_of after)) → IsFaultOf (e.count (disk_of before)) (e.count (disk_of after)) fault → LeavesWritten offer before after (Err (saving_fault was is fault))
  part_written offer before after old new frozen was is saving.Disk was_is is_is leaves memory tied told rose = record { leaves = leaves; spares = tt; sound = tt; told = told; cause = (was_is, is_is, subst (λ (n : ℕ). Rose n is) (sym was_is) (subst (λ (n : ℕ). Rose (e.count (disk_of before)) n) (sym is_is) rose)) }
  part_written offer before after old new frozen was is (saving.Memory _) was_is is_is leaves memory tied told stays = record { leaves = leaves; spares = left_spared before after old new memory; sound = tied.sound; told = told; cause = stays }

  -- it was
  pub whole_written : (offer : Offer) (before after : Pages E e) (shipped : Shipped) → LeavesEitherOf offer before after → (state after).failed ≡ false → TellsOn (e.contents (disk_of before)) (e.contents (disk_of after))
      → e.count (disk_of after) ≡ e.count (disk_of before) → LeavesWritten offer before after (Ok shipped)
  whole_written offer before after shipped leaves sound told stays = record { leaves = leaves; spares = tt; sound = sound; told = told; cause = stays }
