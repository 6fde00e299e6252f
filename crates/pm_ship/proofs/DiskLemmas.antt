-- A ship from the store of one disk to that of another.
use Rattle.std.proofs.Common.{◌≡◌, ◌⊎◌, inl, inr, ⊎_elim, ℕ, ◌+◌, ◌≤◌, Bool, true, false, List, Some, Result, Ok, Err, refl, sym, ap, subst, ◌∙◌, arith, if◌then◌else◌}
use Rattle.std.specs.Prelude.{IfErr, IfOk}
use Rattle.std.proofs.lemmas.Bool.{cases_lt}
use Rattle.pm_types.specs.declared.fault.OpenFault.{OpenFault}
use Rattle.pm_types.specs.declared.fault.OpenFault.TheVariants.{NotAStore, Version, Damaged, Malformed}
use Rattle.pm_types.specs.declared.fault.OpenFault.TheVariants as unopened
use Rattle.pm_disk.specs.Disk.{IfTold, LeavesOnly}
use Rattle.pm_disk.specs.declared.disk.Disk.{Ghosts}
use Rattle.pm_disk.specs.Images.{IsBytes}
use Rattle.pm_disk.specs.Made.{Made, MadeAtMost, MadeMore, with_sync}
use Rattle.pm_disk.proofs.RunLemmas.{joined, started, weaker}
use Rattle.pm_model.specs.World.{Copy}
use Rattle.pm_image.specs.declared.settled.KeptPage.{KeptPage}
use Rattle.pm_image.specs.Graphs.{Graph, images_of}
use Rattle.pm_image.specs.Opening.{Current, page_count}
use Rattle.pm_image.specs.Stands.{Opened, StandsForCopy, copy_in, opened}
use Rattle.pm_image.proofs.FrameLaws.{found_of}
use Rattle.pm_shadow.specs.Attaching.{HasFound, IsAttachFault, IsFaultOf}
use Rattle.pm_shadow.specs.Copies.{current_graph}
use Rattle.pm_shadow.specs.Images.{shutting}
use Rattle.pm_shadow.specs.Pages.{disk_of, state}
use Rattle.pm_shadow.specs.State.{State, attached}
use Rattle.pm_shadow.specs.declared.pages.Pages.{Pages}
use Rattle.pm_graphs.specs.Reading.{Looked}
use Rattle.pm_graphs.specs.Reopening.{IsGraphFault}
use Rattle.pm_reopen.specs.Opening.{IsUnopened}
use Rattle.pm_reopen.specs.Refused.{IsRefusal}
use Rattle.pm_reopen.proofs.Refusals.{graph_refused, header_refused}
use Rattle.pm_saving.specs.Tied.{HasCopy}
use Rattle.pm_reopen.proofs.StoodLaws.{bytes_are}
use Rattle.pm_save.specs.Progress.Answers.{TellsOn}
use Rattle.pm_ship.specs.declared.fault.Shipped.{Shipped}
use Rattle.pm_ship.specs.declared.fault.ShipFault.{ShipFault}
use Rattle.pm_ship.specs.declared.fault.ShipFault.TheVariants.{From, To, Ahead, Foreign, Disk, OtherDisk, Memory}
use Rattle.pm_ship.specs.Counting.{IsCount}
use Rattle.pm_ship.specs.Offers.{AreSame, IsOffered, Offer, copy_offered, offer_in}
use Rattle.pm_ship.specs.Stores.{IsOfPage, IsStill}
use Rattle.pm_ship.specs.Written.{MakesPages, SparesCopy}
use Rattle.pm_ship.specs.Shipped.{GotIt, HadIt, HasShipCause, IsOfDisk, IsShipFault, IsShipped, LeavesEither, ShipsFirst, TellsFirst, UnlessOther, UnlessStopped, WritesBeside, WritesFirst, first_fault, standby_fault}
use Rattle.pm_ship.specs.Disks.{BreaksRule, Finds, FindsBoth, IsFaultBetween, IsOfRule, NamesRule, NeedsPages, OnlyReads, ShipsBetween, ShipsDisks, StandsFor, Writes, WritesNoMore, number_in}
use Rattle.pm_ship.proofs.HistoryLemmas.{attached_has}
use Rattle.pm_ship.proofs.OfferedLemmas.{graph_offers}
use Rattle.pm_ship.proofs.ShipLemmas.{unless_other, unless_stopped}

-- ---- faults

stopped_too : {P Q : Type 0} → (P → Q) → (fault : ShipFault) → UnlessStopped fault P → UnlessStopped fault Q
stopped_too goes (From fault) holds = goes holds
stopped_too goes (To fault) holds = goes holds
stopped_too goes (Ahead to from) holds = goes holds
stopped_too goes (Foreign number) holds = goes holds
stopped_too goes (Disk before after) holds = goes holds
stopped_too goes (OtherDisk before after) holds = tt
stopped_too goes (Memory _) holds = tt

other_too : {P Q : Type 0} → (P → Q) → (fault : ShipFault) → UnlessOther fault P → UnlessOther fault Q
other_too goes (From fault) holds = goes holds
other_too goes (To fault) holds = goes holds
other_too goes (Ahead to from) holds = goes holds
other_too goes (Foreign number) holds = goes holds
other_too goes (Disk before after) holds = goes holds
other_too goes (OtherDisk before after) holds = tt
other_too goes (Memory _) holds = goes holds

-- what opening refuses breaks a rule
breaks : (bytes : List ℕ) (fault : OpenFault) → IsOfRule fault → IsRefusal bytes fault → BreaksRule bytes fault
breaks bytes NotAStore rule is = record { rule = tt; first = is }
breaks bytes (Version version) rule is = record { rule = tt; first = is }
breaks bytes (Damaged page kept found) rule is = record { rule = tt; first = is }
breaks bytes (Malformed page at) rule is = record { rule = tt; first = is }
breaks bytes (unopened.Disk before after) rule is = absurd rule
breaks bytes (unopened.Memory _) rule is = absurd rule

-- a fault of a page is of a rule
rule_of : (fault : OpenFault) → IsOfPage fault → IsOfRule fault
rule_of NotAStore of = absurd of
rule_of (Version version) of = absurd of
rule_of (Damaged page kept found) of = tt
rule_of (Malformed page at) of = tt
rule_of (unopened.Disk before after) of = absurd of
rule_of (unopened.Memory _) of = absurd of

-- a page behind the header
breaks_behind : (s : State) (bytes : List ℕ) (fault : OpenFault) → s.count ≡ page_count bytes → IsUnopened s bytes fault → (before after : ℕ) → IsGraphFault before after fault → (was : List ℕ) → IsFaultBetween bytes was (first_fault fault)
breaks_behind s bytes NotAStore counted is before after cause was = absurd cause
breaks_behind s bytes (Version version) counted is before after cause was = absurd cause
breaks_behind s bytes (Damaged page kept found) counted is before after cause was = record { rule = tt; first = is.refused counted }
breaks_behind s bytes (Malformed page at) counted is before after cause was = record { rule = tt; first = is.refused counted }
breaks_behind s bytes (unopened.Disk b a) counted is before after cause was = tt
breaks_behind s bytes (unopened.Memory _) counted is before after cause was = tt

-- a header
first_header : (bytes was : List ℕ) (fault : OpenFault) → IsFaultOf bytes fault → IsFaultBetween bytes was (first_fault fault)
first_header bytes was NotAStore is = record { rule = tt; first = header_refused bytes NotAStore is }
first_header bytes was (Version version) is = record { rule = tt; first = header_refused bytes (Version version) is }
first_header bytes was (Damaged page kept found) is = record { rule = tt; first = header_refused bytes (Damaged page kept found) is }
first_header bytes was (Malformed page at) is = record { rule = tt; first = header_refused bytes (Malformed page at) is }
first_header bytes was (unopened.Disk before after) is = tt
first_header bytes was (unopened.Memory _) is = tt

standby_header : (bytes was : List ℕ) (fault : OpenFault) → IsFaultOf was fault → IsOfDisk fault ⊎ ((theirs : Opened) × (opened bytes ≡ Ok theirs)) → IsFaultBetween bytes was (standby_fault fault)
standby_header bytes was NotAStore is (inr found) = (found, record { rule = tt; first = header_refused was NotAStore is })
standby_header bytes was (Version version) is (inr found) = (found, record { rule = tt; first = header_refused was (Version version) is })
standby_header bytes was (Damaged page kept digest) is (inr found) = (found, record { rule = tt; first = header_refused was (Damaged page kept digest) is })
standby_header bytes was (Malformed page at) is (inr found) = (found, record { rule = tt; first = header_refused was (Malformed page at) is })
standby_header bytes was (unopened.Disk before after) is found = tt
standby_header bytes was (unopened.Memory _) is found = tt
standby_header bytes was NotAStore is (inl of) = absurd of
standby_header bytes was (Version version) is (inl of) = absurd of
standby_header bytes was (Damaged page kept digest) is (inl of) = absurd of
standby_header bytes was (Malformed page at) is (inl of) = absurd of

first_ruled : (before after : ℕ) (fault : OpenFault) → IsAttachFault before after fault → NamesRule (first_fault fault)
first_ruled before after NotAStore cause = tt
first_ruled before after (Version version) cause = tt
first_ruled before after (Damaged page kept found) cause = tt
first_ruled before after (Malformed page at) cause = tt
first_ruled before after (unopened.Disk b a) cause = tt
first_ruled before after (unopened.Memory _) cause = absurd cause

standby_ruled : (before after : ℕ) (fault : OpenFault) → IsAttachFault before after fault → NamesRule (standby_fault fault)
standby_ruled before after NotAStore cause = tt
standby_ruled before after (Version version) cause = tt
standby_ruled before after (Damaged page kept found) cause = tt
standby_ruled before after (Malformed page at) cause = tt
standby_ruled before after (unopened.Disk b a) cause = tt
standby_ruled before after (unopened.Memory _) cause = absurd cause

behind_ruled : (before after : ℕ) (fault : OpenFault) → IsGraphFault before after fault → NamesRule (first_fault fault)
behind_ruled before after NotAStore cause = tt
behind_ruled before after (Version version) cause = tt
behind_ruled before after (Damaged page kept found) cause = tt
behind_ruled before after (Malformed page at) cause = tt
behind_ruled before after (unopened.Disk b a) cause = tt
behind_ruled before after (unopened.Memory _) cause = tt

-- ---- causes

first_cause : (before after n : ℕ) (fault : OpenFault) → IsAttachFault before after fault → HasShipCause before after n n (Err (first_fault fault))
first_cause before after n NotAStore cause = record { first = cause; standby = refl }
first_cause before after n (Version version) cause = record { first = cause; standby = refl }
first_cause before after n (Damaged page kept found) cause = record { first = cause; standby = refl }
first_cause before after n (Malformed page at) cause = record { first = cause; standby = refl }
first_cause before after n (unopened.Disk b a) cause = record { first = cause; standby = refl }
first_cause before after n (unopened.Memory _) cause = absurd cause

standby_cause : (n m before after : ℕ) (fault : OpenFault) → m ≡ n → IsAttachFault before after fault → HasShipCause n m before after (Err (standby_fault fault))
standby_cause n m before after NotAStore same cause = record { first = same; standby = cause }
standby_cause n m before after (Version version) same cause = record { first = same; standby = cause }
standby_cause n m before after (Damaged page kept found) same cause = record { first = same; standby = cause }
standby_cause n m before after (Malformed page at) same cause = record { first = same; standby = cause }
standby_cause n m before after (unopened.Disk b a) same cause = record { first = same; standby = cause }
standby_cause n m before after (unopened.Memory _) same cause = absurd cause

-- the standby's count stands still unless its disk failed
header_stays : (before after : ℕ) (fault : OpenFault) → (IsOfDisk fault → ⊥) → IsAttachFault before after fault → after ≡ before
header_stays before after NotAStore apart cause = cause
header_stays before after (Version version) apart cause = cause
header_stays before after (Damaged page kept found) apart cause = cause
header_stays before after (Malformed page at) apart cause = cause
header_stays before after (unopened.Disk b a) apart cause = absurd (apart tt)
header_stays before after (unopened.Memory _) apart cause = absurd cause

behind_cause : (before after n m : ℕ) (fault : OpenFault) → IsGraphFault before after fault → m ≡ n → HasShipCause before after n m (Err (first_fault fault))
behind_cause before after n m NotAStore cause same = absurd cause
behind_cause before after n m (Version version) cause same = absurd cause
behind_cause before after n m (Damaged page kept found) cause same = record { first = cause; standby = same }
behind_cause before after n m (Malformed page at) cause same = record { first = cause; standby = same }
behind_cause before after n m (unopened.Disk b a) cause same = record { first = cause; standby = same }
behind_cause before after n m (unopened.Memory _) cause same = record { first = cause; standby = same }

-- ---- pages that were attached

now_is : {a b : Current} → ◌≡◌ {A = Result Current OpenFault} (Ok a) (Ok b) → a ≡ b
now_is same = cc

-- what opening finds in the bytes of pages is behind their header
found_here : (s : State) (bytes : List ℕ) (found : Opened) → HasFound s bytes → opened bytes ≡ Ok found → found ≡ current_graph s found.graph
found_here s bytes found has is =
    let now : found.current ≡ record { slot = s.slot; header = s.header } = now_is (sym (found_of bytes found is).0 ∙ has.now) in
    ap (λ (c : Current). record { current = c; graph = found.graph }) now

shut_most : (s : State) → shutting s ≤ 1
shut_most s = by s.closed
  where
    by : (b : Bool) → (if b then 0 else 1) ≤ 1
    by true = omega arith
    by false = omega arith

module _ {D : Type 0} (d : Ghosts D) where
  -- What attaching says of the pages of a disk.
  pub record IsAttached (disk : D) (it : Pages D d) : Type 0 where
    pub found : IfTold (d.contents disk) (HasFound (state it))
    pub fresh : state it ≡ attached (state it).slot (state it).header (state it).count (state it).closed
    pub count : d.count (disk_of it) ≡ d.count disk
    pub told : d.contents (disk_of it) ≡ d.contents disk
    pub leaves : LeavesOnly d.moment d.since disk (disk_of it) (d.image disk)
    pub made : d.made (disk_of it) ≡ with_sync (d.moment disk) (d.made disk)

  -- the laws of a disk
  pub record IsDisk : Type 0 where
    pub counts : (disk : D) (t : ℕ) (bytes : List ℕ) → t ≤ d.moment disk → d.image disk bytes → d.since disk t bytes
    pub now : (disk : D) (bytes : List ℕ) → d.since disk (d.moment disk) bytes → d.image disk bytes
    pub stay : (disk : D) (bytes : List ℕ) → d.contents disk ≡ Some bytes → d.image disk bytes
    pub bytes : (disk : D) (t : ℕ) (bytes : List ℕ) → d.since disk t bytes → IsBytes bytes

  module _ (laws : IsDisk) where
    -- no call was made
    none_read : (disk : D) → OnlyReads d disk disk
    none_read disk = record { told = refl; leaves = started d.moment d.since disk (d.image disk) (λ image left. laws.now disk image left); made = inl refl }

    -- it was attached, and looked at then
    looked_too : (disk : D) (it after : Pages D d) → IsAttached disk it → Looked it after → OnlyReads d disk (disk_of after)
    looked_too disk it after attached_ looked = record {
      told = looked.looks.told ∙ attached_.told;
      leaves = joined d.moment d.since disk (disk_of it) (disk_of after) (d.image disk) attached_.leaves
          (weaker d.moment d.since (disk_of it) (disk_of after) (d.image (disk_of it)) (d.image disk) looked.looks.leaves
          (λ image left. attached_.leaves.each image (laws.counts (disk_of it) (d.moment disk) image attached_.leaves.later left)));
      made = inr (looked.made (ap (λ (s : State). s.failed) attached_.fresh) ∙ attached_.made);
    }

    still_too : (disk : D) (it after : Pages D d) → IsAttached disk it → IsStill it after → OnlyReads d disk (disk_of after)
    still_too disk it after attached_ still = record {
      told = still.looks.told ∙ attached_.told;
      leaves = joined d.moment d.since disk (disk_of it) (disk_of after) (d.image disk) attached_.leaves
          (weaker d.moment d.since (disk_of it) (disk_of after) (d.image (disk_of it)) (d.image disk) still.looks.leaves
          (λ image left. attached_.leaves.each image (laws.counts (disk_of it) (d.moment disk) image attached_.leaves.later left)));
      made = inr (still.made ∙ attached_.made);
    }

    -- attached pages have the copy that is found
    has_found : (disk : D) (it : Pages D d) → IsAttached disk it → (was : List ℕ) → d.contents disk ≡ Some was → (mine : Opened) → opened was ≡ Ok mine → HasCopy (state it) was (copy_in mine)
    has_found disk it attached_ was told mine found =
        attached_has (state it) was (number_in mine) (copy_in mine) (bytes_are was (laws.bytes disk (d.moment disk) was (laws.counts disk (d.moment disk) was (omega arith) (laws.stay disk was told))))
        (attached_.found was told) attached_.fresh (record { found = mine; is_found = found; is_number = refl; is_copy = refl })

module _ {D E : Type 0} (d : Ghosts D) (e : Ghosts E) (of_first : IsDisk d) (of_other : IsDisk e) where
  -- ---- the first store was not attached

  pub first_unattached : (disk end : D) (other : E) (fault : OpenFault) → IfTold (d.contents disk) (λ bytes. IsFaultOf bytes fault) → IsAttachFault (d.count disk) (d.count end) fault → d.contents end ≡ d.contents disk
      → LeavesOnly d.moment d.since disk end (d.image disk) → d.made end ≡ with_sync (d.moment disk) (d.made disk)
      → ShipsDisks d e disk other (record { disk = end; other = other; shipped = Err (first_fault fault) })
  first_unattached disk end other fault why cause told leaves made =
      let none = none_read e of_other other in
      record {
        shipped = λ bytes was now one two three. tt;
        fault = λ bytes was one two. first_header bytes was fault (why bytes one);
        rule = first_ruled (d.count disk) (d.count end) fault cause;
        images = λ bytes was one two both. weaker e.moment e.since other other (e.image other) (λ image. e.image other image ⊎ (StandsFor both.mine image ⊎ StandsFor both.theirs image)) none.leaves (λ image left. inl left);
        still = unless_stopped (OnlyReads e other other) (first_fault fault) none;
        spares = λ was one mine found. unless_other (LeavesOnly e.moment e.since other other (λ image. e.image other image ⊎ StandsFor mine image)) (first_fault fault)
            (weaker e.moment e.since other other (e.image other) (λ image. e.image other image ⊎ StandsFor mine image) none.leaves (λ image left. inl left));
        made = tt;
        most = inl none;
        spoils = λ apart. (none.told, none.leaves);
        told = λ bytes one. (bytes, one);
        first = record { told = told; leaves = leaves; made = inr made };
        cause = first_cause (d.count disk) (d.count end) (e.count other) fault cause;
      }

  module _ (disk : D) (from after : Pages D d) (is_from : IsAttached d disk from) (looked : Looked from after) where
    -- ---- the standby was not attached

    module _ (other end : E) (fault : OpenFault) (why : IfTold (e.contents other) (λ bytes. IsFaultOf bytes fault)) (cause : IsAttachFault (e.count other) (e.count end) fault) (told : e.contents end ≡ e.contents other)
        (leaves : LeavesOnly e.moment e.since other end (e.image other)) (made : e.made end ≡ with_sync (e.moment other) (e.made other)) where
      read : OnlyReads e other end
      read = record { told = told; leaves = leaves; made = inr made }

      unattached : (answer : ShipFault) → ((bytes was : List ℕ) → d.contents disk ≡ Some bytes → e.contents other ≡ Some was → IsFaultBetween bytes was answer) → NamesRule answer → HasShipCause (d.count disk) (d.count (disk_of after)) (e.count other) (e.count end) (Err answer)
          → ShipsDisks d e disk other (record { disk = disk_of after; other = end; shipped = Err answer })
      unattached answer is rule cause_is = record {
        shipped = λ bytes was now one two three. tt;
        fault = is;
        rule = rule;
        images = λ bytes was one two both. weaker e.moment e.since other end (e.image other) (λ image. e.image other image ⊎ (StandsFor both.mine image ⊎ StandsFor both.theirs image)) leaves (λ image left. inl left);
        still = unless_stopped (OnlyReads e other end) answer read;
        spares = λ was one mine found. unless_other (LeavesOnly e.moment e.since other end (λ image. e.image other image ⊎ StandsFor mine image)) answer
            (weaker e.moment e.since other end (e.image other) (λ image. e.image other image ⊎ StandsFor mine image) leaves (λ image left. inl left));
        made = tt;
        most = inl read;
        spoils = λ apart. (told, leaves);
        told = λ bytes one. (bytes, told ∙ one);
        first = looked_too d of_first disk from after is_from looked;
        cause = cause_is;
      }

      found_too : IsOfDisk fault ⊎ IfTold (d.contents (disk_of from)) (λ bytes. (graph : Graph) × (opened bytes ≡ Ok (current_graph (state from) graph))) → (bytes : List ℕ) → d.contents disk ≡ Some bytes
          → IsOfDisk fault ⊎ ((theirs : Opened) × (opened bytes ≡ Ok theirs))
      found_too (inl of) bytes one = inl of
      found_too (inr is) bytes one = let it = is bytes (is_from.told ∙ one) in inr (current_graph (state from) it.0, it.1)

      pub standby_unattached : (answer : ShipFault) → TellsFirst (state from) (d.contents (disk_of from)) (d.count (disk_of from)) (d.count (disk_of after)) fault answer
          → ShipsDisks d e disk other (record { disk = disk_of after; other = end; shipped = Err answer })
      standby_unattached answer (inl (is, stays, found)) =
          subst (λ (answer : ShipFault). ShipsDisks d e disk other (record { disk = disk_of after; other = end; shipped = Err answer })) (sym is)
          (unattached (standby_fault fault) (λ bytes was one two. standby_header bytes was fault (why was two) (found_too found bytes one)) (standby_ruled (e.count other) (e.count end) fault cause)
          (standby_cause (d.count disk) (d.count (disk_of after)) (e.count other) (e.count end) fault (stays ∙ is_from.count) cause))
      standby_unattached answer (inr (first, is, apart, unopened_, rise)) =
          subst (λ (answer : ShipFault). ShipsDisks d e disk other (record { disk = disk_of after; other = end; shipped = Err answer })) (sym is)
          (unattached (first_fault first) (λ bytes was one two. breaks_behind (state from) bytes first (is_from.found bytes one).count (unopened_ bytes (is_from.told ∙ one)) _ _ rise was) (behind_ruled _ _ first rise)
          (behind_cause (d.count disk) (d.count (disk_of after)) (e.count other) (e.count end) first
          (subst (λ (n : ℕ). IsGraphFault n (d.count (disk_of after)) first) is_from.count rise) (header_stays (e.count other) (e.count end) fault apart cause)))

    -- ---- both were

    module _ (other : E) (to done : Pages E e) (is_to : IsAttached e other to) where
      offer_is : (offer : Offer) → IsOffered (state from) (d.contents (disk_of from)) offer → (bytes : List ℕ) → d.contents disk ≡ Some bytes
          → (theirs : Opened) × (opened bytes ≡ Ok theirs) × (offer ≡ offer_in theirs) × (number_in theirs ≡ offer.epoch) × (copy_in theirs ≡ copy_offered offer)
      offer_is offer is bytes one =
          let it = is.found bytes (is_from.told ∙ one) in
          let theirs = current_graph (state from) it.0 in
          (theirs, it.1, it.2, sym is.epoch, graph_offers (state from) bytes it.0 it.1 ∙ ap copy_offered (sym it.2))

      got_between : (bytes was now : List ℕ) → d.contents disk ≡ Some bytes → e.contents other ≡ Some was → e.contents (disk_of done) ≡ Some now → (shipped : Shipped) → ShipsFirst from to done shipped
          → ShipsBetween bytes was now (e.image (disk_of done)) shipped
      got_between bytes was now one two three shipped (offer, is, it) =
          let theirs = offer_is offer is bytes one in
          let ships = it.ships was (is_to.told ∙ two) now three in
          record {
            both = record { theirs = theirs.0; first = theirs.1; mine = current_graph (state to) ships.mine; standby = ships.found };
            epoch = it.epoch ∙ sym theirs.3;
            stands = λ image left. subst (λ (n : ℕ). StandsForCopy image n (copy_in theirs.0)) (sym theirs.3) (subst (λ (copy : Copy). StandsForCopy image offer.epoch copy) (sym theirs.4) (it.has.stands was (is_to.told ∙ two) image left));
            way = subst (λ (b : Bool). HadIt (offer_in theirs.0) (current_graph (state to) ships.mine) was now shipped.written ⊎ GotIt (offer_in theirs.0) (current_graph (state to) ships.mine) b was now shipped.written) (is_to.found was two).closed
                (subst (λ (o : Offer). HadIt o (current_graph (state to) ships.mine) was now shipped.written ⊎ GotIt o (current_graph (state to) ships.mine) (state to).closed was now shipped.written) theirs.2 ships.way);
          }

      shipped_between : (bytes was now : List ℕ) → d.contents disk ≡ Some bytes → e.contents other ≡ Some was → e.contents (disk_of done) ≡ Some now → (result : Result Shipped ShipFault) → IfOk result (ShipsFirst from to done)
          → IfOk result (ShipsBetween bytes was now (e.image (disk_of done)))
      shipped_between bytes was now one two three (Ok shipped) it = got_between bytes was now one two three shipped it
      shipped_between bytes was now one two three (Err fault) it = tt

      -- the first store is refused, or the standby
      page_broken : (s : State) (bytes : List ℕ) (fault : OpenFault) → s.count ≡ page_count bytes → IsUnopened s bytes fault → IsOfPage fault → BreaksRule bytes fault
      page_broken s bytes fault counted is of = breaks bytes fault (rule_of fault of) (graph_refused bytes fault (is.refused counted))

      fault_between : (bytes was : List ℕ) → d.contents disk ≡ Some bytes → e.contents other ≡ Some was → (fault : ShipFault) → IsShipFault from to fault → IsFaultBetween bytes was fault
      fault_between bytes was one two (From fault) is = page_broken (state from) bytes fault (is_from.found bytes one).count (is.unopened bytes (is_from.told ∙ one)) is.of_page
      fault_between bytes was one two (To fault) (offer, offered_, is) =
          let theirs = offer_is offer offered_ bytes one in
          ((theirs.0, theirs.1), page_broken (state to) was fault (is_to.found was two).count (is.unopened was (is_to.told ∙ two)) is.of_page)
      fault_between bytes was one two (Ahead number behind) (offer, offered_, both) =
          let theirs = offer_is offer offered_ bytes one in
          let is = both.0 in
          let mine = both.1 was (is_to.told ∙ two) in
          record {
            both = record { theirs = theirs.0; first = theirs.1; mine = current_graph (state to) mine.0; standby = mine.1 };
            to_is = is.to_is;
            from_is = is.from_is ∙ sym theirs.3;
            ahead = is.ahead;
          }
      fault_between bytes was one two (Foreign number) (offer, offered_, is) =
          let theirs = offer_is offer offered_ bytes one in
          let mine = is.other was (is_to.told ∙ two) in
          record {
            both = record { theirs = theirs.0; first = theirs.1; mine = current_graph (state to) mine.0; standby = mine.1 };
            number_is = is.number_is;
            equal = is.equal ∙ sym theirs.3;
            other = subst (λ (o : Offer). AreSame o (offer_in (current_graph (state to) mine.0)) → ⊥) theirs.2 mine.2;
          }
      fault_between bytes was one two (Disk before after_) is = tt
      fault_between bytes was one two (OtherDisk before after_) is = tt
      fault_between bytes was one two (Memory _) is = tt

      ruled_between : (result : Result Shipped ShipFault) → IfErr result (IsShipFault from to) → IfErr result NamesRule
      ruled_between (Ok shipped) is = tt
      ruled_between (Err (From fault)) is = rule_of fault is.of_page
      ruled_between (Err (To fault)) (offer, offered_, is) = rule_of fault is.of_page
      ruled_between (Err (Ahead number behind)) is = tt
      ruled_between (Err (Foreign number)) is = tt
      ruled_between (Err (Disk before after_)) is = tt
      ruled_between (Err (OtherDisk before after_)) is = tt
      ruled_between (Err (Memory _)) is = tt

      why_between : (bytes was : List ℕ) → d.contents disk ≡ Some bytes → e.contents other ≡ Some was → (result : Result Shipped ShipFault) → IfErr result (IsShipFault from to) → IfErr result (IsFaultBetween bytes was)
      why_between bytes was one two (Ok shipped) is = tt
      why_between bytes was one two (Err fault) is = fault_between bytes was one two fault is

      -- the images
      from_start : (P : List ℕ → Type 0) → LeavesOnly e.moment e.since (disk_of to) (disk_of done) P → LeavesOnly e.moment e.since other (disk_of done) (λ image. e.image other image ⊎ P image)
      from_start P run =
          joined e.moment e.since other (disk_of to) (disk_of done) (λ image. e.image other image ⊎ P image)
          (weaker e.moment e.since other (disk_of to) (e.image other) (λ image. e.image other image ⊎ P image) is_to.leaves (λ image left. inl left))
          (weaker e.moment e.since (disk_of to) (disk_of done) P (λ image. e.image other image ⊎ P image) run (λ image holds. inr holds))

      number_here : (s : State) (bytes : List ℕ) (found : Opened) → HasFound s bytes → opened bytes ≡ Ok found → s.header.epoch ≡ number_in found
      number_here s bytes found has is = ap number_in (sym (found_here s bytes found has is))

      images_between : LeavesEither from to done → (bytes was : List ℕ) → d.contents disk ≡ Some bytes → e.contents other ≡ Some was → (both : FindsBoth bytes was)
          → LeavesOnly e.moment e.since other (disk_of done) (λ image. e.image other image ⊎ (StandsFor both.mine image ⊎ StandsFor both.theirs image))
      images_between leaves bytes was one two both =
          let first = number_here (state from) bytes both.theirs (is_from.found bytes one) both.first in
          let standby = number_here (state to) was both.mine (is_to.found was two) both.standby in
          from_start (λ image. StandsFor both.mine image ⊎ StandsFor both.theirs image)
          (subst (λ (n : ℕ). LeavesOnly e.moment e.since (disk_of to) (disk_of done) (λ image. StandsForCopy image n (copy_in both.mine) ⊎ StandsFor both.theirs image)) standby
          (subst (λ (n : ℕ). LeavesOnly e.moment e.since (disk_of to) (disk_of done) (λ image. StandsForCopy image (state to).header.epoch (copy_in both.mine) ⊎ StandsForCopy image n (copy_in both.theirs))) first
          (leaves (copy_in both.mine) (copy_in both.theirs) was bytes (is_to.told ∙ two) (has_found e of_other other to is_to was two both.mine both.standby) (is_from.told ∙ one)
          (record { found = both.theirs; is_found = both.first; is_number = first; is_copy = refl }))))

      mine_spared : (was : List ℕ) → e.contents other ≡ Some was → (mine : Opened) → opened was ≡ Ok mine → SparesCopy to done → LeavesOnly e.moment e.since other (disk_of done) (λ image. e.image other image ⊎ StandsFor mine image)
      mine_spared was two mine found spares =
          from_start (StandsFor mine)
          (subst (λ (n : ℕ). LeavesOnly e.moment e.since (disk_of to) (disk_of done) (λ image. StandsForCopy image n (copy_in mine))) (number_here (state to) was mine (is_to.found was two) found)
          (spares.leaves (copy_in mine) was (is_to.told ∙ two) (has_found e of_other other to is_to was two mine found)))

      -- the calls
      calls_between : (offer : Offer) (shipped : Shipped) → IsShipped offer to done shipped → ((shipped.written ≡ 0) × OnlyReads e other (disk_of done)) ⊎ Writes e shipped.written other (disk_of done)
      calls_between offer shipped it =
          ⊎_elim
          (λ less. inr (writes (it.made less)))
          (λ over. let behind = it.behind in let had = it.again (omega (arith, behind, over)) in inl (had.0, still_too e of_other other to done is_to had.1))
          (cases_lt (state to).header.epoch offer.epoch)
        where
          writes : MakesPages shipped.written to done → Writes e shipped.written other (disk_of done)
          writes more =
              let all = subst (λ (m : Made). MadeMore (shipped.written + (shutting (state to) + 2)) (shutting (state to) + 2) 0 m (e.made (disk_of done))) is_to.made more in
              record {
                shut = shutting (state to);
                most = shut_most (state to);
                made = record { writes = all.writes; syncs = (let syncs = all.syncs in omega (arith, syncs)); past = all.past };
              }

      made_between : (result : Result Shipped ShipFault) → IfOk result (ShipsFirst from to done)
          → IfOk result (λ shipped. ((shipped.written ≡ 0) × OnlyReads e other (disk_of done)) ⊎ Writes e shipped.written other (disk_of done))
      made_between (Ok shipped) (offer, is, it) = calls_between offer shipped it
      made_between (Err fault) it = tt

      -- no more than that takes
      needs_between : (offer : Offer) → IsOffered (state from) (d.contents (disk_of from)) offer → (it : WritesBeside offer to done) → (bytes was : List ℕ) → d.contents disk ≡ Some bytes → e.contents other ≡ Some was → NeedsPages bytes was it.most.written
      needs_between offer is it bytes was one two =
          let theirs = offer_is offer is bytes one in
          let mine = it.found was (is_to.told ∙ two) in
          let later = it.later in
          let number = theirs.3 in
          record {
            both = record { theirs = theirs.0; first = theirs.1; mine = current_graph (state to) mine.0; standby = mine.1 };
            later = omega (arith, later, number);
            count = subst (λ (o : Offer). IsCount (images_of mine.0.cars) o it.most.written) theirs.2 (subst (λ (ks : List KeptPage). IsCount (images_of ks) offer it.most.written) (sym mine.2) it.most.count);
          }

      most_between : WritesFirst from to done → OnlyReads e other (disk_of done) ⊎ WritesNoMore d e disk other (disk_of done)
      most_between (inl still) = inl (still_too e of_other other to done is_to still)
      most_between (inr (offer, is, it)) =
          let all = subst (λ (m : Made). MadeAtMost (it.most.written + (shutting (state to) + 2)) (shutting (state to) + 2) m (e.made (disk_of done))) is_to.made it.most.most in
          inr (record {
            written = it.most.written;
            needs = needs_between offer is it;
            shut = shutting (state to);
            few = shut_most (state to);
            made = record { writes = all.writes; syncs = (let syncs = all.syncs in omega (arith, syncs)); past = all.past };
          })

      -- it stays unless both are found
      spoils_between : WritesFirst from to done → (Finds (d.contents disk) × Finds (e.contents other) → ⊥) → (e.contents (disk_of done) ≡ e.contents other) × LeavesOnly e.moment e.since other (disk_of done) (e.image other)
      spoils_between (inl still) apart = let read = still_too e of_other other to done is_to still in (read.told, read.leaves)
      spoils_between (inr (offer, is, it)) apart =
          absurd (apart (
            (λ bytes one. let theirs = offer_is offer is bytes one in (theirs.0, theirs.1)),
            (λ was two. let mine = it.found was (is_to.told ∙ two) in (current_graph (state to) mine.0, mine.1)),
          ))

      still_between : (result : Result Shipped ShipFault) → IfErr result (λ fault. UnlessStopped fault (IsStill to done)) → IfErr result (λ fault. UnlessStopped fault (OnlyReads e other (disk_of done)))
      still_between (Ok shipped) it = tt
      still_between (Err fault) it = stopped_too (still_too e of_other other to done is_to) fault it

      spares_between : (result : Result Shipped ShipFault) → IfErr result (λ fault. UnlessOther fault (SparesCopy to done)) → (was : List ℕ) → e.contents other ≡ Some was → (mine : Opened) → opened was ≡ Ok mine
          → IfErr result (λ fault. UnlessOther fault (LeavesOnly e.moment e.since other (disk_of done) (λ image. e.image other image ⊎ StandsFor mine image)))
      spares_between (Ok shipped) it was two mine found = tt
      spares_between (Err fault) it was two mine found = other_too (mine_spared was two mine found) fault it

      pub both_attached : (result : Result Shipped ShipFault) → IfOk result (ShipsFirst from to done) → IfErr result (IsShipFault from to) → LeavesEither from to done → IfErr result (λ fault. UnlessStopped fault (IsStill to done))
          → IfErr result (λ fault. UnlessOther fault (SparesCopy to done)) → TellsOn (e.contents (disk_of to)) (e.contents (disk_of done))
          → HasShipCause (d.count (disk_of from)) (d.count (disk_of after)) (e.count (disk_of to)) (e.count (disk_of done)) result → WritesFirst from to done
          → ShipsDisks d e disk other (record { disk = disk_of after; other = disk_of done; shipped = result })
      both_attached result shipped fault images still spares told cause most = record {
        most = most_between most;
        spoils = spoils_between most;
        shipped = λ bytes was now one two three. shipped_between bytes was now one two three result shipped;
        fault = λ bytes was one two. why_between bytes was one two result fault;
        rule = ruled_between result fault;
        images = images_between images;
        still = still_between result still;
        spares = spares_between result spares;
        made = made_between result shipped;
        told = λ bytes one. told bytes (is_to.told ∙ one);
        first = looked_too d of_first disk from after is_from looked;
        cause = subst (λ (n : ℕ). HasShipCause (d.count disk) (d.count (disk_of after)) n (e.count (disk_of done)) result) is_to.count
            (subst (λ (n : ℕ). HasShipCause n (d.count (disk_of after)) (e.count (disk_of to)) (e.count (disk_of done)) result) is_from.count cause);
      }
