-- What holds once a standby was read, and once it was written.
use Rattle.std.proofs.Common.{◌≡◌, ◌⊎◌, inl, inr, ℕ, ◌+◌, ◌<◌, Bool, true, false, List, map, length, Option, Some, Result, Ok, Err, refl, sym, ap, subst, ◌∙◌, arith}
use Rattle.std.specs.Prelude.{IfErr, IfOk}
use Rattle.pm_types.specs.Counts.{ShowsRise}
use Rattle.std.proofs.lemmas.List.{length-map}
use Rattle.std.proofs.lemmas.Option.{same_Some}
use Rattle.pm_types.specs.declared.fault.OpenFault.{OpenFault}
use Rattle.pm_types.specs.declared.fault.OpenFault.TheVariants.{NotAStore, Version, Damaged, Malformed}
use Rattle.pm_types.specs.declared.fault.OpenFault.TheVariants as unopened
use Rattle.pm_disk.specs.Disk.{IfTold, LeavesOnly}
use Rattle.pm_disk.specs.declared.disk.Disk.{Ghosts}
use Rattle.pm_disk.specs.Made.{Made, MadeAtMost, MadeMore}
use Rattle.pm_disk.proofs.RunLemmas.{joined, started, weaker}
use Rattle.pm_layout.specs.declared.header.Header.{Header}
use Rattle.pm_model.specs.World.{Copy}
use Rattle.pm_image.specs.declared.settled.KeptPage.{KeptPage}
use Rattle.pm_image.specs.Graphs.{Graph, copy_of as copy_of_graph, entries_of, images_of}
use Rattle.pm_image.specs.Stands.{Opened, StandsForCopy}
use Rattle.pm_image.proofs.FrameLaws.{found_of}
use Rattle.pm_shadow.specs.State.{State, abandoned_in, known_by, other}
use Rattle.pm_shadow.specs.Copies.{current_graph}
use Rattle.pm_shadow.specs.Images.{shutting}
use Rattle.pm_shadow.specs.Pages.{disk_of, state}
use Rattle.pm_shadow.specs.Runs.{OnlyLooks}
use Rattle.pm_shadow.specs.declared.page_use.PageUse.{PageUse}
use Rattle.pm_shadow.specs.declared.pages.Pages.{Pages}
use Rattle.pm_graphs.specs.Reopening.{IsGraphFault}
use Rattle.pm_copies.specs.Listed.{copy_listed}
use Rattle.pm_copies.specs.Plans.{root_entry}
use Rattle.pm_reopen.specs.Opening.{IsUnopened}
use Rattle.pm_saving.specs.Tied.{HasCopy}
use Rattle.pm_save.specs.Progress.Answers.{TellsOn}
use Rattle.pm_ship.specs.declared.fault.Shipped.{Shipped}
use Rattle.pm_ship.specs.declared.fault.ShipFault.{ShipFault}
use Rattle.pm_ship.specs.declared.fault.ShipFault.TheVariants.{From, To, Ahead, Foreign, Disk, OtherDisk, Memory}
use Rattle.pm_ship.specs.declared.store.StoreRead.{StoreRead}
use Rattle.pm_ship.specs.declared.standby.Standby.{Standby}
use Rattle.pm_ship.specs.Listing.{with_trains}
use Rattle.pm_ship.specs.Offers.{AreSame, IsOffered, Offer, copy_offered, offer_of}
use Rattle.pm_ship.specs.Stores.{IsKnownFrom, IsReady, IsStandby, IsStill, offered}
use Rattle.pm_ship.specs.SameLists.{HaveSameCopy}
use Rattle.pm_ship.specs.Written.{IsLaid, LaysBeside, LeavesEitherOf, SparesCopy, WritesAtMost}
use Rattle.pm_ship.specs.Shipped.{GotIt, IsShipFault, IsShipped, IsStandbyCause, IsStandbyFault, IsWritingFault, LeavesEither, LeavesStandby, LeavesWritten, MayGoAgain, ShipsFirst, UnlessOther, UnlessStopped, WritesBeside, WritesFirst, standby_fault}
use Rattle.pm_ship.proofs.ListLemmas.{both_told, trains_counted}
use Rattle.pm_ship.proofs.OfferedLemmas.{graph_offers, standby_list, stood_offered}
use Rattle.pm_ship.proofs.StandbyLemmas.{ok_is}
use Rattle.pm_ship.proofs.WriteLemmas.{either_leaves, looked_leaves, none_leaves, none_spared, stands_now}

-- ---- what stays of pages that are known now

known_still : {A : Type 0} (part : State → A) → ((s : State) (uses : ℕ → PageUse) → part (known_by s uses) ≡ part s) → ((s : State) → part (abandoned_in s) ≡ part s) → (s t : State) → IsKnownFrom s t → part t ≡ part s
known_still part known given s t it = by s.known refl
  where
    by : (b : Bool) → s.known ≡ b → part t ≡ part s
    by true now = ap part (it.again now) ∙ given s
    by false none = ap part (it.first none) ∙ known s t.uses

module _ (s t : State) (it : IsKnownFrom s t) where
  pub header_still : t.header ≡ s.header
  header_still = known_still (λ (u : State). u.header) (λ u uses. refl) (λ u. refl) s t it

  other_still : other t.slot ≡ other s.slot
  other_still = known_still (λ (u : State). other u.slot) (λ u uses. refl) (λ u. refl) s t it

  shutting_still : shutting t ≡ shutting s
  shutting_still = known_still (λ (u : State). shutting u) (λ u uses. refl) (λ u. refl) s t it

  pub epoch_still : t.header.epoch ≡ s.header.epoch
  epoch_still = ap (λ (h : Header). h.epoch) header_still

-- ---- faults

pub unless_stopped : (P : Type 0) (fault : ShipFault) → P → UnlessStopped fault P
unless_stopped P (From fault) holds = holds
unless_stopped P (To fault) holds = holds
unless_stopped P (Ahead to from) holds = holds
unless_stopped P (Foreign number) holds = holds
unless_stopped P (Disk before after) holds = holds
unless_stopped P (OtherDisk before after) holds = tt
unless_stopped P (Memory _) holds = tt

pub unless_other : (P : Type 0) (fault : ShipFault) → P → UnlessOther fault P
unless_other P (From fault) holds = holds
unless_other P (To fault) holds = holds
unless_other P (Ahead to from) holds = holds
unless_other P (Foreign number) holds = holds
unless_other P (Disk before after) holds = holds
unless_other P (OtherDisk before after) holds = tt
unless_other P (Memory _) holds = holds

-- why the standby was not read
pub standby_refused : (offer : Offer) (s : State) (contents : Option (List ℕ)) (before after : ℕ) (fault : OpenFault) → IfTold contents (λ bytes. IsUnopened s bytes fault) → IsGraphFault before after fault
    → IsStandbyFault offer s contents (standby_fault fault)
standby_refused offer s contents before after NotAStore why cause = absurd cause
standby_refused offer s contents before after (Version version) why cause = absurd cause
standby_refused offer s contents before after (Damaged page kept found) why cause = record { of_page = tt; unopened = why }
standby_refused offer s contents before after (Malformed page at) why cause = record { of_page = tt; unopened = why }
standby_refused offer s contents before after (unopened.Disk b a) why cause = tt
standby_refused offer s contents before after (unopened.Memory _) why cause = tt

pub standby_cause : (before after : ℕ) (fault : OpenFault) → IsGraphFault before after fault → IsStandbyCause before after (standby_fault fault)
standby_cause before after NotAStore cause = absurd cause
standby_cause before after (Version version) cause = absurd cause
standby_cause before after (Damaged page kept found) cause = cause
standby_cause before after (Malformed page at) cause = cause
standby_cause before after (unopened.Disk b a) cause = cause
standby_cause before after (unopened.Memory _) cause = cause

-- ---- a standby that was read

-- the lists of both are the same where what is offered is
lists_told : (first : StoreRead) (standby : Standby) (s t : State) (contents : Option (List ℕ)) (is : IsStandby s t contents standby) → length first.trains.items ≡ length first.cars
    → AreSame (offered first) (offer_of s.header (record { catalog = is.catalog; cars = standby.settled })) → HaveSameCopy first standby t.header
lists_told first standby s t contents is paired same =
    let counted : length standby.trains.items ≡ length standby.settled =
    ap (λ (trains : List ℕ). length trains) is.trains ∙ trains_counted is.whole.most s.header.next _ (entries_of is.catalog) standby.settled is.whole.reads in
    let both = both_told first.trains.items standby.trains.items (images_of first.cars) (images_of standby.settled)
    (paired ∙ sym (length-map first.cars (λ (kept : KeptPage). kept.image))) (counted ∙ sym (length-map standby.settled (λ (kept : KeptPage). kept.image))) (same.list ∙ sym (standby_list s t contents standby is)) in
    record {
      next = ap (λ (h : Header). h.next) (header_still s t is.known) ∙ sym same.next;
      lists = record { trains = both.trains; roots = same.roots ∙ sym is.roots; cars = both.cars };
    }

-- and what is offered is the same where the lists are
same_told : (first : StoreRead) (standby : Standby) (s t : State) (contents : Option (List ℕ)) (is : IsStandby s t contents standby) → HaveSameCopy first standby t.header
    → AreSame (offered first) (offer_of s.header (record { catalog = is.catalog; cars = standby.settled }))
same_told first standby s t contents is same = record {
  next = sym same.next ∙ ap (λ (h : Header). h.next) (header_still s t is.known);
  list = (λ i. with_trains (same.lists.trains i) (same.lists.cars i)) ∙ standby_list s t contents standby is;
  roots = same.lists.roots ∙ is.roots;
}

-- what the standby has is another copy under the same number
pub standby_foreign : (first : StoreRead) (standby : Standby) (s t : State) (contents : Option (List ℕ)) → IsStandby s t contents standby → length first.trains.items ≡ length first.cars
    → t.header.epoch ≡ first.epoch → (HaveSameCopy first standby t.header → ⊥) → IsStandbyFault (offered first) s contents (Foreign t.header.epoch)
standby_foreign first standby s t contents is paired equal differ = record {
  number_is = epoch_still s t is.known;
  equal = sym (epoch_still s t is.known) ∙ equal;
  other = λ bytes told. (record { catalog = is.catalog; cars = standby.settled }, is.found bytes told, λ same. differ (lists_told first standby s t contents is paired same));
}

-- it is ahead
pub standby_ahead : (first : StoreRead) (standby : Standby) (s t : State) (contents : Option (List ℕ)) → IsStandby s t contents standby → first.epoch < t.header.epoch
    → IsStandbyFault (offered first) s contents (Ahead t.header.epoch first.epoch)
standby_ahead first standby s t contents is ahead = (
  record { to_is = epoch_still s t is.known; from_is = refl; ahead = ahead },
  λ bytes told. (record { catalog = is.catalog; cars = standby.settled }, is.found bytes told),
)

-- the copy that it had it has still
copy_known : (standby : Standby) (s t : State) (contents : Option (List ℕ)) → IsStandby s t contents standby → (mine : Copy) (was : List ℕ) → contents ≡ Some was → HasCopy s was mine → HasCopy t was mine
copy_known standby s t contents is mine was told has =
    let graph : Graph = record { catalog = is.catalog; cars = standby.settled } in
    let same : has.graph ≡ graph = ok_is (sym has.keeps.found ∙ (found_of was (current_graph s graph) (is.found was told)).1) in
    record {
      graph = graph;
      keeps = is.keeps was told;
      is_copy = has.is_copy ∙ ap (copy_of_graph s.header.next) same ∙ ap (λ (h : Header). copy_of_graph h.next graph) (sym (header_still s t is.known));
    }

module _ {E : Type 0} {e : Ghosts E} where
  -- ---- pages that were only looked at

  -- their disk was read, and the copy that they had they have still
  pub record HaveLooked (before after : Pages E e) : Type 0 where
    pub looks : OnlyLooks e.contents e.image e.moment e.since (disk_of before) (disk_of after)
    pub has : (mine : Copy) (was : List ℕ) → e.contents (disk_of before) ≡ Some was → HasCopy (state before) was mine → HasCopy (state after) was mine
    pub epoch : (state after).header.epoch ≡ (state before).header.epoch

  pub same_looked : (before after : Pages E e) → OnlyLooks e.contents e.image e.moment e.since (disk_of before) (disk_of after) → state after ≡ state before → HaveLooked before after
  same_looked before after looks same = record {
    looks = looks;
    has = λ mine was told has. subst (λ (s : State). HasCopy s was mine) (sym same) has;
    epoch = ap (λ (s : State). s.header.epoch) same;
  }

  pub read_looked : (standby : Standby) (before after : Pages E e) → OnlyLooks e.contents e.image e.moment e.since (disk_of before) (disk_of after)
      → IsStandby (state before) (state after) (e.contents (disk_of before)) standby → HaveLooked before after
  read_looked standby before after looks is = record {
    looks = looks;
    has = copy_known standby (state before) (state after) (e.contents (disk_of before)) is;
    epoch = epoch_still (state before) (state after) is.known;
  }

  pub looked_either : (offer : Offer) (before after : Pages E e) → (state before).failed ≡ false → HaveLooked before after → LeavesEitherOf offer before after
  looked_either offer before after fine it = either_leaves offer before after (looked_leaves before after fine it.looks)

  pub looked_spared : (before after : Pages E e) → (state before).failed ≡ false → HaveLooked before after → SparesCopy before after
  looked_spared before after fine it = record {
    leaves = looked_leaves before after fine it.looks;
    has = λ mine was told has now held. subst (λ (bytes : List ℕ). HasCopy (state after) bytes mine) (same_Some was now (sym (it.looks.told ∙ told) ∙ held)) (it.has mine was told has);
    epoch = it.epoch;
  }

  pub read_still : (before after : Pages E e) → OnlyLooks e.contents e.image e.moment e.since (disk_of before) (disk_of after) → e.made (disk_of after) ≡ e.made (disk_of before) → IsKnownFrom (state before) (state after)
      → IsStill before after
  read_still before after looks made known = record { looks = looks; made = made; pages = inr known }

  pub same_again : (before after : Pages E e) → IsReady (state before) (e.contents (disk_of before)) → OnlyLooks e.contents e.image e.moment e.since (disk_of before) (disk_of after) → state after ≡ state before
      → MayGoAgain before after
  same_again before after ready looks same was told =
      subst (λ (contents : Option (List ℕ)). IsReady (state after) contents) (sym looks.told) (subst (λ (s : State). IsReady s (e.contents (disk_of before))) (sym same) ready)

  pub read_again : (standby : Standby) (before after : Pages E e) → OnlyLooks e.contents e.image e.moment e.since (disk_of before) (disk_of after)
      → IsStandby (state before) (state after) (e.contents (disk_of before)) standby → MayGoAgain before after
  read_again standby before after looks is was told = record {
    sound = is.tied.sound;
    right = λ known. (was, looks.told ∙ told, (record { catalog = is.catalog; cars = standby.settled }, is.keeps was told));
  }

  -- ---- pages that were written then

  module _ (offer : Offer) (before mid after : Pages E e) (fine : (state before).failed ≡ false) (it : HaveLooked before mid) where
    pub both_leave : LeavesEitherOf offer mid after → LeavesEitherOf offer before after
    both_leave leaves mine was told has =
        let P : List ℕ → Type 0 = λ image. StandsForCopy image (state before).header.epoch mine ⊎ StandsForCopy image offer.epoch (copy_offered offer) in
        joined e.moment e.since (disk_of before) (disk_of mid) (disk_of after) P
        (looked_either offer before mid fine it mine was told has)
        (subst (λ (n : ℕ). LeavesOnly e.moment e.since (disk_of mid) (disk_of after) (λ image. StandsForCopy image n mine ⊎ StandsForCopy image offer.epoch (copy_offered offer))) it.epoch
        (leaves mine was (it.looks.told ∙ told) (it.has mine was told has)))

    pub both_spare : SparesCopy mid after → SparesCopy before after
    both_spare spares = record {
      leaves = λ mine was told has.
          joined e.moment e.since (disk_of before) (disk_of mid) (disk_of after) (λ image. StandsForCopy image (state before).header.epoch mine)
          (looked_leaves before mid fine it.looks mine was told has)
          (subst (λ (n : ℕ). LeavesOnly e.moment e.since (disk_of mid) (disk_of after) (λ image. StandsForCopy image n mine)) it.epoch
          (spares.leaves mine was (it.looks.told ∙ told) (it.has mine was told has)));
      has = λ mine was told has. spares.has mine was (it.looks.told ∙ told) (it.has mine was told has);
      epoch = spares.epoch ∙ it.epoch;
    }

  -- ---- whatever was answered

  -- the standby was not read
  pub refused_leaves : (offer : Offer) (before after : Pages E e) (fault : OpenFault) → IsReady (state before) (e.contents (disk_of before)) → OnlyLooks e.contents e.image e.moment e.since (disk_of before) (disk_of after)
      → e.made (disk_of after) ≡ e.made (disk_of before) → state after ≡ state before → IsGraphFault (e.count (disk_of before)) (e.count (disk_of after)) fault → LeavesStandby offer before after (Err (standby_fault fault))
  refused_leaves offer before after fault ready looks made same cause =
      let it = same_looked before after looks same in
      record {
        leaves = looked_either offer before after ready.sound it;
        still = unless_stopped (IsStill before after) (standby_fault fault) (record { looks = looks; made = made; pages = inl same });
        spares = unless_other (SparesCopy before after) (standby_fault fault) (looked_spared before after ready.sound it);
        again = unless_other (MayGoAgain before after) (standby_fault fault) (same_again before after ready looks same);
        told = λ bytes told. (bytes, looks.told ∙ told);
        cause = standby_cause (e.count (disk_of before)) (e.count (disk_of after)) fault cause;
        most = inl (record { looks = looks; made = made; pages = inl same });
      }

  module _ (offer : Offer) (standby : Standby) (before mid : Pages E e) (ready : IsReady (state before) (e.contents (disk_of before))) (is : IsStandby (state before) (state mid) (e.contents (disk_of before)) standby)
      (looks : OnlyLooks e.contents e.image e.moment e.since (disk_of before) (disk_of mid)) (made : e.made (disk_of mid) ≡ e.made (disk_of before)) (count : e.count (disk_of mid) ≡ e.count (disk_of before)) where
    it : HaveLooked before mid
    it = read_looked standby before mid looks is

    tells : TellsOn (e.contents (disk_of before)) (e.contents (disk_of mid))
    tells bytes told = (bytes, looks.told ∙ told)

    -- it had what is offered
    pub same_leaves : (shipped : Shipped) → LeavesStandby offer before mid (Ok shipped)
    same_leaves shipped = record { leaves = looked_either offer before mid ready.sound it; still = tt; spares = tt; again = read_again standby before mid looks is; told = tells; cause = count; most = inl (read_still before mid looks made is.known) }

    -- it has another copy
    pub foreign_leaves : (number : ℕ) → LeavesStandby offer before mid (Err (Foreign number))
    foreign_leaves number = record {
      leaves = looked_either offer before mid ready.sound it;
      still = read_still before mid looks made is.known;
      spares = looked_spared before mid ready.sound it;
      again = read_again standby before mid looks is;
      told = tells;
      cause = count;
      most = inl (read_still before mid looks made is.known);
    }

    pub ahead_leaves : (to from : ℕ) → LeavesStandby offer before mid (Err (Ahead to from))
    ahead_leaves to from = record {
      leaves = looked_either offer before mid ready.sound it;
      still = read_still before mid looks made is.known;
      spares = looked_spared before mid ready.sound it;
      again = read_again standby before mid looks is;
      told = tells;
      cause = count;
      most = inl (read_still before mid looks made is.known);
    }

    -- no more calls were made than the whole takes
    most_beside : (after : Pages E e) → (state mid).header.epoch < offer.epoch → (after ≡ mid) ⊎ WritesAtMost offer standby.settled mid after → IsStill before after ⊎ WritesBeside offer before after
    most_beside after later (inl same) = inl (subst (IsStill before) (sym same) (read_still before mid looks made is.known))
    most_beside after later (inr most) =
        let one = epoch_still (state before) (state mid) is.known in
        inr (record {
          later = omega (arith, one, later);
          settled = standby.settled;
          found = λ was told. (record { catalog = is.catalog; cars = standby.settled }, is.found was told, refl);
          most = record {
            written = most.written;
            count = most.count;
            most = subst (λ (m : Made). MadeAtMost (most.written + (shutting (state before) + 2)) (shutting (state before) + 2) m (e.made (disk_of after))) made
                (subst (λ (n : ℕ). MadeAtMost (most.written + (n + 2)) (n + 2) (e.made (disk_of mid)) (e.made (disk_of after))) (shutting_still (state before) (state mid) is.known) most.most);
          };
        })

    -- it was written
    pub written_leaves : (after : Pages E e) (result : Result Shipped ShipFault) → LeavesWritten offer mid after result → IfErr result IsWritingFault → IfOk result (IsLaid offer standby.settled mid after)
        → (state mid).header.epoch < offer.epoch → (after ≡ mid) ⊎ WritesAtMost offer standby.settled mid after → LeavesStandby offer before after result
    written_leaves after (Ok shipped) written stops laid later most = record {
      most = most_beside after later most;
      leaves = both_leave offer before mid after ready.sound it written.leaves;
      still = tt;
      spares = tt;
      again = λ was told.
          let now = written.told was (looks.told ∙ told) in
          let has = laid.has.has was (looks.told ∙ told) now.0 now.1 in
          record { sound = written.sound; right = λ known. (now.0, now.1, (has.graph, has.keeps)) };
      told = λ was told. written.told was (looks.told ∙ told);
      cause = written.cause ∙ count;
    }
    written_leaves after (Err (Memory _)) written stops laid later most = record {
      most = most_beside after later most;
      leaves = both_leave offer before mid after ready.sound it written.leaves;
      still = tt;
      spares = both_spare offer before mid after ready.sound it written.spares;
      again = λ was told.
          let now = written.told was (looks.told ∙ told) in
          let graph : Graph = record { catalog = is.catalog; cars = standby.settled } in
          let has = written.spares.has (copy_of_graph (state mid).header.next graph) was (looks.told ∙ told) (record { graph = graph; keeps = is.keeps was told; is_copy = refl }) now.0 now.1 in
          record { sound = written.sound; right = λ known. (now.0, now.1, (has.graph, has.keeps)) };
      told = λ was told. written.told was (looks.told ∙ told);
      cause = written.cause ∙ count;
    }
    written_leaves after (Err (OtherDisk b a)) written stops laid later most = record {
      most = most_beside after later most;
      leaves = both_leave offer before mid after ready.sound it written.leaves;
      still = tt;
      spares = tt;
      again = tt;
      told = λ was told. written.told was (looks.told ∙ told);
      cause = subst (λ (n : ℕ). ShowsRise b a n (e.count (disk_of after))) count written.cause;
    }
    written_leaves after (Err (From fault)) written stops laid later most = absurd stops
    written_leaves after (Err (To fault)) written stops laid later most = absurd stops
    written_leaves after (Err (Ahead to from)) written stops laid later most = absurd stops
    written_leaves after (Err (Foreign number)) written stops laid later most = absurd stops
    written_leaves after (Err (Disk b a)) written stops laid later most = absurd stops

  -- ---- what was shipped

  module _ (first : StoreRead) (standby : Standby) (before mid : Pages E e) (is : IsStandby (state before) (state mid) (e.contents (disk_of before)) standby)
      (looks : OnlyLooks e.contents e.image e.moment e.since (disk_of before) (disk_of mid)) (made : e.made (disk_of mid) ≡ e.made (disk_of before)) where
    abbrev graph : Graph
    graph = record { catalog = is.catalog; cars = standby.settled }

    module _ (equal : (state mid).header.epoch ≡ first.epoch) (same : HaveSameCopy first standby (state mid).header) where
      same_offer : AreSame (offered first) (offer_of (state before).header graph)
      same_offer = same_told first standby (state before) (state mid) (e.contents (disk_of before)) is same

      copy_same : copy_offered (offered first) ≡ copy_offered (offer_of (state before).header graph)
      copy_same = λ i. copy_listed (same_offer.list i) (map root_entry (same_offer.roots i)) (same_offer.next i)

      has_now : (was : List ℕ) → e.contents (disk_of before) ≡ Some was → HasCopy (state mid) was (copy_offered (offered first))
      has_now was told = record {
        graph = graph;
        keeps = is.keeps was told;
        is_copy = copy_same ∙ sym (graph_offers (state before) was graph (is.found was told))
            ∙ ap (λ (h : Header). copy_of_graph h.next graph) (sym (header_still (state before) (state mid) is.known));
      }

      -- the standby had it
      pub had_it : IsShipped (offered first) before mid (record { epoch = first.epoch; written = 0 })
      had_it = record {
        epoch = refl;
        has = record {
          epoch = equal;
          next = same.next;
          stands = λ was told image left. subst (λ (n : ℕ). StandsForCopy image n (copy_offered (offered first))) equal
              (stands_now mid is.tied.sound (copy_offered (offered first)) was image (looks.told ∙ told) (has_now was told) left);
          has = λ was told now held. subst (λ (bytes : List ℕ). HasCopy (state mid) bytes (copy_offered (offered first))) (same_Some was now (sym (looks.told ∙ told) ∙ held)) (has_now was told);
        };
        ships = λ was told now held. record {
          mine = graph;
          found = is.found was told;
          way = inl (record { equal = sym (epoch_still (state before) (state mid) is.known) ∙ equal; same = same_offer; none = refl; still = same_Some now was (sym held ∙ looks.told ∙ told) });
        };
        behind = let one = epoch_still (state before) (state mid) is.known in omega (arith, one, equal);
        again = λ same_number. (refl, read_still before mid looks made is.known);
        made = λ less. let one = epoch_still (state before) (state mid) is.known in absurd (omega (arith, one, equal, less));
      }

    -- it got it
    pub got_it : (later : (state mid).header.epoch < first.epoch) (after : Pages E e) (shipped : Shipped) → IsLaid (offered first) standby.settled mid after shipped → IsShipped (offered first) before after shipped
    got_it later after shipped laid =
        let one = epoch_still (state before) (state mid) is.known in
        let less : (state before).header.epoch < first.epoch = omega (arith, one, later) in
        record {
          epoch = laid.epoch;
          has = record {
            epoch = laid.has.epoch;
            next = laid.has.next;
            stands = λ was told. laid.has.stands was (looks.told ∙ told);
            has = λ was told. laid.has.has was (looks.told ∙ told);
          };
          ships = λ was told now held. record {
            mine = graph;
            found = is.found was told;
            way = inr (got_in less was now (lays was now (laid.lays graph was now (looks.told ∙ told) (is.keeps was told) held)));
          };
          behind = omega (arith, less);
          again = λ equal. absurd (omega (arith, less, equal));
          made = λ behind. more laid.made;
        }
      where
        seen_still : current_graph (state mid) graph ≡ current_graph (state before) graph
        seen_still = known_still (λ (u : State). current_graph u graph) (λ u uses. refl) (λ u. refl) (state before) (state mid) is.known

        closed_still : (state mid).closed ≡ (state before).closed
        closed_still = known_still (λ (u : State). u.closed) (λ u uses. refl) (λ u. refl) (state before) (state mid) is.known

        lays : (was now : List ℕ) → LaysBeside (offered first) (current_graph (state mid) graph) (state mid).closed was now shipped.written → LaysBeside (offered first) (current_graph (state before) graph) (state before).closed was now shipped.written
        lays was now it =
            subst (λ (b : Bool). LaysBeside (offered first) (current_graph (state before) graph) b was now shipped.written) closed_still
            (subst (λ (mine : Opened). LaysBeside (offered first) mine (state mid).closed was now shipped.written) seen_still it)

        got_in : (state before).header.epoch < first.epoch → (was now : List ℕ) → LaysBeside (offered first) (current_graph (state before) graph) (state before).closed was now shipped.written
            → GotIt (offered first) (current_graph (state before) graph) (state before).closed was now shipped.written
        got_in less was now it = record { later = less; count = laid.count; changes = it.changes; lowest = it.lowest; laid = it.laid }

        more : MadeMore (shipped.written + (shutting (state mid) + 2)) (shutting (state mid) + 2) 0 (e.made (disk_of mid)) (e.made (disk_of after))
            → MadeMore (shipped.written + (shutting (state before) + 2)) (shutting (state before) + 2) 0 (e.made (disk_of before)) (e.made (disk_of after))
        more calls =
            subst (λ (m : Made). MadeMore (shipped.written + (shutting (state before) + 2)) (shutting (state before) + 2) 0 m (e.made (disk_of after))) made
            (subst (λ (n : ℕ). MadeMore (shipped.written + (n + 2)) (n + 2) 0 (e.made (disk_of mid)) (e.made (disk_of after))) (shutting_still (state before) (state mid) is.known) calls)

    pub got_each : (later : (state mid).header.epoch < first.epoch) (after : Pages E e) (result : Result Shipped ShipFault) → IfOk result (IsLaid (offered first) standby.settled mid after) → IfOk result (IsShipped (offered first) before after)
    got_each later after (Ok shipped) laid = got_it later after shipped laid
    got_each later after (Err fault) laid = tt

  -- ---- the first store's copy

  module _ {D : Type 0} {d : Ghosts D} where
    -- what is offered is the copy for which the first store stands
    pub offered_either : (from : Pages D d) (offer : Offer) (before after : Pages E e) → IsOffered (state from) (d.contents (disk_of from)) offer → LeavesEitherOf offer before after → LeavesEither from before after
    offered_either from offer before after is leaves mine theirs was bytes told has held stands =
        let same = stood_offered (state from) (d.contents (disk_of from)) offer bytes theirs is held stands in
        subst (λ (copy : Copy). LeavesOnly e.moment e.since (disk_of before) (disk_of after) (λ image. StandsForCopy image (state before).header.epoch mine ⊎ StandsForCopy image (state from).header.epoch copy)) (sym same)
        (subst (λ (n : ℕ). LeavesOnly e.moment e.since (disk_of before) (disk_of after) (λ image. StandsForCopy image (state before).header.epoch mine ⊎ StandsForCopy image n (copy_offered offer))) is.epoch
        (leaves mine was told has))

    module _ (from : Pages D d) (offer : Offer) (is : IsOffered (state from) (d.contents (disk_of from)) offer) (before after : Pages E e) where
      pub first_shipped : (result : Result Shipped ShipFault) → IfOk result (IsShipped offer before after) → IfOk result (ShipsFirst from before after)
      first_shipped (Ok shipped) was = (offer, is, was)
      first_shipped (Err fault) was = tt

      pub first_sound : (result : Result Shipped ShipFault) → IfErr result (IsStandbyFault offer (state before) (e.contents (disk_of before))) → IfErr result (IsShipFault from before)
      first_sound (Ok shipped) why = tt
      first_sound (Err (From fault)) why = absurd why
      first_sound (Err (To fault)) why = (offer, is, why)
      first_sound (Err (Ahead to number)) why = (offer, is, why)
      first_sound (Err (Foreign number)) why = (offer, is, why)
      first_sound (Err (Disk b a)) why = tt
      first_sound (Err (OtherDisk b a)) why = tt
      first_sound (Err (Memory _)) why = tt

    -- no more was written than that takes
    pub first_most : (from : Pages D d) (offer : Offer) (before after : Pages E e) → IsOffered (state from) (d.contents (disk_of from)) offer → IsStill before after ⊎ WritesBeside offer before after → WritesFirst from before after
    first_most from offer before after is (inl still) = inl still
    first_most from offer before after is (inr most) = inr (offer, is, most)

    pub uncalled_most : (from : Pages D d) (it : Pages E e) → ((left : List ℕ) → e.since (disk_of it) (e.moment (disk_of it)) left → e.image (disk_of it) left) → WritesFirst from it it
    uncalled_most from it now = inl (record {
      looks = record { told = refl; images = record { no_more = λ image left. left; no_fewer = λ image left. left }; leaves = started e.moment e.since (disk_of it) (e.image (disk_of it)) now };
      made = refl;
      pages = inl refl;
    })

    -- the first store was not read, and the standby was not called
    pub uncalled_either : (from : Pages D d) (it : Pages E e) → (state it).failed ≡ false → ((left : List ℕ) → e.since (disk_of it) (e.moment (disk_of it)) left → e.image (disk_of it) left) → LeavesEither from it it
    uncalled_either from it fine now mine theirs was bytes told has held stands =
        weaker e.moment e.since (disk_of it) (disk_of it) (λ image. StandsForCopy image (state it).header.epoch mine)
        (λ image. StandsForCopy image (state it).header.epoch mine ⊎ StandsForCopy image (state from).header.epoch theirs) (none_leaves it fine now mine was told has) (λ image left. inl left)

  pub uncalled_spared : (it : Pages E e) (fault : ShipFault) → (state it).failed ≡ false → ((left : List ℕ) → e.since (disk_of it) (e.moment (disk_of it)) left → e.image (disk_of it) left) → UnlessOther fault (SparesCopy it it)
  uncalled_spared it fault fine now = unless_other (SparesCopy it it) fault (none_spared it fine now)
