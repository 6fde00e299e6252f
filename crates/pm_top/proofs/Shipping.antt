-- What a ship leaves, and that it is done with what it needs.
use Rattle.std.proofs.Common.{◌≡◌, ◌⊎◌, inl, inr, ℕ, List, [], None, Result, Ok, Err, refl, sym, ap, subst, ◌∙◌, arith}
use Rattle.std.specs.Prelude.{MatchResult, IfErr}
use Rattle.pm_types.specs.Memory.{no_memory}
use Rattle.pm_types.specs.Counts.{Rose}
use Rattle.pm_types.specs.declared.fault.OpenFault.{OpenFault}
use Rattle.pm_disk.specs.declared.disk.Disk as disk
use Rattle.pm_disk.proofs.RunLemmas.{started}
use Rattle.pm_io.specs.declared.source.Source as source
use Rattle.pm_io.specs.declared.sink.Sink as sink
use Rattle.pm_image.specs.Stands.{Opened}
use Rattle.pm_ship.specs.declared.disks.ShipEnd.{ShipEnd}
use Rattle.pm_ship.specs.declared.fault.Shipped.{Shipped}
use Rattle.pm_ship.specs.declared.fault.ShipFault.{ShipFault}
use Rattle.pm_ship.specs.declared.fault.ShipFault.TheVariants as fault
use Rattle.pm_ship.specs.Offers.{AreSame, offer_in}
use Rattle.pm_ship.specs.Disks.{IsFaultBetween, ShipsDisks, StandsFor, number_in}
use Rattle.pm_runs.specs.declared.ends.ended.Detail.{Detail}
use Rattle.pm_runs.specs.declared.ends.ended.Detail.TheVariants.{Fine, Usage, Script, Dump as BadDump, Reading, Writing, Device, NotEmpty, Refused, Standby, Ahead, Foreign, OtherDevice, Memory}
use Rattle.pm_runs.specs.declared.ends.ended.Alone.{Alone}
use Rattle.pm_runs.specs.declared.ends.ended.Ended.{Ended}
use Rattle.pm_runs.specs.Ends.Alone.{alone}
use Rattle.pm_runs.specs.Ends.Ends.{ShowsDevice, ShowsOther, ShowsWriting, not_shipped, shipped_line}
use Rattle.pm_runs.specs.Ends.Wrote.{IsWriting, WroteText}
use Rattle.pm_runs.specs.Ends.Causes.{ShowsCauses}
use Rattle.pm_top.specs.Needs.{NothingFails}
use Rattle.pm_top.specs.Ships.{MayShip, ShipsStore}
use Rattle.pm_top.proofs.Complete.{IsComplete, rises}

-- how a ship may end
abbrev pub ShipEnds : Detail → Result Shipped ShipFault → Type 0
ShipEnds detail result = MatchResult result (λ shipped. IsWriting detail) (λ why. detail ≡ not_shipped why)

-- what it wrote
abbrev pub ShipWrote : {K : Type 0} → sink.Ghosts K → K → K → Detail → Result Shipped ShipFault → Type 0
ShipWrote k old new detail result = MatchResult result (λ shipped. WroteText k old new (shipped_line shipped) detail) (λ why. new ≡ old)

module _ {D E S K : Type 0} (d : disk.Ghosts D) (e : disk.Ghosts E) (k : sink.Ghosts K) where
  -- the end of a ship, put together
  pub ship_left : (disk : D) (other : E) (source : S) (old new : K) (end : ShipEnd D E) (detail : Detail) → ShipsDisks d e disk other end → ShipEnds detail end.shipped → ShipWrote k old new detail end.shipped
      → (ended : Ended D E S K) (it : Alone D S K) → alone ended ≡ it → it.detail ≡ detail → it.journal.items ≡ [] → it.tally ≡ None → it.young ≡ None → it.disk ≡ end.disk → it.source ≡ source → it.sink ≡ new → ended.other ≡ end.other
      → ShipsStore d e k disk other source old ended
  ship_left disk other source old new end detail ships ends wrote ended it same detail_is journal_is tally_is young_is disk_is source_is sink_is other_is =
      let detail_here : ended.detail ≡ detail = ap (λ (a : Alone D S K). a.detail) same ∙ detail_is in
      let sink_here : ended.sink ≡ new = ap (λ (a : Alone D S K). a.sink) same ∙ sink_is in
      record {
        end = end;
        ships = ships;
        disk_is = ap (λ (a : Alone D S K). a.disk) same ∙ disk_is;
        other_is = other_is;
        ends = subst (λ (t : Detail). ShipEnds t end.shipped) (sym detail_here) ends;
        wrote = subst (λ (t : Detail). ShipWrote k old ended.sink t end.shipped) (sym detail_here) (subst (λ (snk : K). ShipWrote k old snk detail end.shipped) (sym sink_here) wrote);
        source_stays = ap (λ (a : Alone D S K). a.source) same ∙ source_is;
        no_event = ap (λ (a : Alone D S K). a.journal.items) same ∙ journal_is;
        no_tally = ap (λ (a : Alone D S K). a.tally) same ∙ tally_is;
        no_young = ap (λ (a : Alone D S K). a.young) same ∙ young_is;
      }

-- ---- nothing was called

module _ {D E : Type 0} (d : disk.Ghosts D) (e : disk.Ghosts E) where
  -- memory ran out before
  pub none_shipped : (disk : D) (other : E) → ((image : List ℕ) → d.since disk (d.moment disk) image → d.image disk image) → ((image : List ℕ) → e.since other (e.moment other) image → e.image other image)
      → ShipsDisks d e disk other (record { disk = disk; other = other; shipped = Err (fault.Memory no_memory) })
  none_shipped disk other here there = record {
    shipped = λ bytes was now one two three. tt;
    fault = λ bytes was one two. tt;
    rule = tt;
    images = λ bytes was one two both. started e.moment e.since other (λ image. e.image other image ⊎ (StandsFor both.mine image ⊎ StandsFor both.theirs image)) (λ image left. inl (there image left));
    still = tt;
    spares = λ was one mine found. started e.moment e.since other (λ image. e.image other image ⊎ StandsFor mine image) (λ image left. inl (there image left));
    made = tt;
    most = inl (record { told = refl; leaves = started e.moment e.since other (e.image other) there; made = inl refl });
    spoils = λ apart. (refl, started e.moment e.since other (e.image other) there);
    told = λ bytes told. (bytes, told);
    first = record { told = refl; leaves = started d.moment d.since disk (d.image disk) here; made = inl refl };
    cause = record { first = refl; standby = refl };
  }

-- ---- with what it needs it is done

one_found : {a b : Opened} → ◌≡◌ {A = Result Opened OpenFault} (Ok a) (Ok b) → a ≡ b
one_found same = cc

writing_done : (detail : Detail) (was now : ℕ) → IsWriting detail → ShowsWriting detail was now → ¬ (Rose was now) → IsComplete detail
writing_done Fine was now writing shows stands = inl refl
writing_done (Writing before after) was now writing shows stands = absurd (stands (rises before after was now shows))
writing_done Usage was now writing shows stands = absurd writing
writing_done (Script fault) was now writing shows stands = absurd writing
writing_done (BadDump fault) was now writing shows stands = absurd writing
writing_done (Reading before after) was now writing shows stands = absurd writing
writing_done (Device before after opened) was now writing shows stands = absurd writing
writing_done (NotEmpty bytes) was now writing shows stands = absurd writing
writing_done (Refused fault) was now writing shows stands = absurd writing
writing_done (Standby fault) was now writing shows stands = absurd writing
writing_done (Ahead to from) was now writing shows stands = absurd writing
writing_done (Foreign number) was now writing shows stands = absurd writing
writing_done (OtherDevice before after) was now writing shows stands = absurd writing
writing_done (Memory opened _) was now writing shows stands = absurd writing

module _ {D E S K : Type 0} (d : disk.Ghosts D) (e : disk.Ghosts E) (s : source.Ghosts S) (k : sink.Ghosts K) (disk : D) (other : E) (source : S) (sink : K) (ended : Ended D E S K) (causes : ShowsCauses d s k disk source sink (alone ended))
    (shows : ShowsOther ended.detail (e.count other) (e.count ended.other)) (may : MayShip d e disk other) (none : NothingFails d s k disk source sink (alone ended)) (stands : ¬ (Rose (e.count other) (e.count ended.other))) where
  why_not : (why : ShipFault) → ended.detail ≡ not_shipped why → IsFaultBetween may.bytes may.was why → IsComplete ended.detail
  why_not (fault.From it) ends is = let broken = is.first in let found = may.both.first in absurd (cc (broken, found))
  why_not (fault.To it) ends is = let broken = is.1.first in let found = may.both.standby in absurd (cc (broken, found))
  why_not (fault.Ahead to from) ends is =
      let theirs = ap number_in (one_found (sym is.both.first ∙ may.both.first)) in
      let mine = ap number_in (one_found (sym is.both.standby ∙ may.both.standby)) in
      let to_is = is.to_is in let from_is = is.from_is in let ahead = is.ahead in let behind = may.behind in
      absurd (omega (arith, theirs, mine, to_is, from_is, ahead, behind))
  why_not (fault.Foreign number) ends is =
      let theirs = one_found (sym may.both.first ∙ is.both.first) in
      let mine = one_found (sym may.both.standby ∙ is.both.standby) in
      let same = may.same (ap number_in mine ∙ is.equal ∙ sym (ap number_in theirs)) in
      absurd (is.other (subst (λ (o : Opened). AreSame (offer_in is.both.theirs) (offer_in o)) mine (subst (λ (o : Opened). AreSame (offer_in o) (offer_in may.both.mine)) theirs same)))
  why_not (fault.Disk before after) ends is =
      let device = subst (λ (t : Detail). ShowsDevice t (d.count disk) (d.count ended.disk)) ends causes.device in
      absurd (none.disk_stands (rises before after (d.count disk) (d.count ended.disk) device))
  why_not (fault.OtherDisk before after) ends is =
      let device = subst (λ (t : Detail). ShowsOther t (e.count other) (e.count ended.other)) ends shows in
      absurd (stands (rises before after (e.count other) (e.count ended.other) device))
  why_not (fault.Memory _) ends is = subst IsComplete (sym ends) (inr refl)

  ship_ended : (result : Result Shipped ShipFault) → ShipEnds ended.detail result → IfErr result (IsFaultBetween may.bytes may.was) → IsComplete ended.detail
  ship_ended (Ok shipped) ends is = writing_done ended.detail (k.count sink) (k.count ended.sink) ends causes.writing none.sink_stands
  ship_ended (Err why) ends is = why_not why ends is

  pub ship_done : ShipsStore d e k disk other source sink ended → IsComplete ended.detail
  ship_done it = ship_ended it.end.shipped it.ends (it.ships.fault may.bytes may.was may.is_told may.other_told)
