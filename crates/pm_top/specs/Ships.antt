-- What `ship FILE OTHER` does.
use Rattle.std.specs.Prelude.{◌≡◌, ◌≤◌, ℕ, List, [], Some, None, MatchResult}
use Rattle.pm_disk.specs.declared.disk.Disk as disk
use Rattle.pm_io.specs.declared.sink.Sink as sink
use Rattle.pm_ship.specs.declared.disks.ShipEnd.{ShipEnd}
use Rattle.pm_ship.specs.Disks.{FindsBoth, ShipsDisks, number_in}
use Rattle.pm_ship.specs.Offers.{AreSame, offer_in}
use Rattle.pm_runs.specs.declared.ends.ended.Ended.{Ended}
use Rattle.pm_runs.specs.Ends.Ends.{not_shipped, shipped_line}
use Rattle.pm_runs.specs.Ends.Wrote.{IsWriting, WroteText}

module _ {D E S K : Type 0} (d : disk.Ghosts D) (e : disk.Ghosts E) (k : sink.Ghosts K) where
  -- What `ship FILE OTHER` does: the first store is shipped to the other, and what was shipped is told in a line.
  pub record ShipsStore (disk : D) (other : E) (source : S) (sink : K) (ended : Ended D E S K) : Type 0 where
    -- what was shipped, or why nothing was, and what that did to both disks
    pub end : ShipEnd D E
    pub ships : ShipsDisks d e disk other end
    pub disk_is : ended.disk ≡ end.disk
    pub other_is : ended.other ≡ end.other
    -- it comes to the line where something was shipped, and else ends for what the ship answered
    pub ends : MatchResult end.shipped (λ shipped. IsWriting ended.detail) (λ fault. ended.detail ≡ not_shipped fault)
    pub wrote : MatchResult end.shipped (λ shipped. WroteText k sink ended.sink (shipped_line shipped) ended.detail) (λ fault. ended.sink ≡ sink)
    -- the source is not called
    pub source_stays : ended.source ≡ source
    pub no_event : ended.journal.items ≡ []
    pub no_tally : ended.tally ≡ None
    pub no_young : ended.young ≡ None

module _ {D E : Type 0} (d : disk.Ghosts D) (e : disk.Ghosts E) where
  -- What it needs: both disks tell that they hold a store, and the standby is neither ahead nor foreign.
  pub record MayShip (disk : D) (other : E) : Type 0 where
    pub bytes : List ℕ
    pub is_told : d.contents disk ≡ Some bytes
    pub was : List ℕ
    pub other_told : e.contents other ≡ Some was
    pub both : FindsBoth bytes was
    pub behind : number_in both.mine ≤ number_in both.theirs
    pub same : number_in both.mine ≡ number_in both.theirs → AreSame (offer_in both.theirs) (offer_in both.mine)
