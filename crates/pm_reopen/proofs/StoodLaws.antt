-- The bytes of a disk stand for the copy in the space that was opened of them.
use Rattle.std.proofs.Common.{◌≡◌, ⊎_elim, ℕ, ◌<◌, ◌≤◌, length, false, List, sym, ap, subst, ◌∙◌, arith}
use Rattle.std.proofs.lemmas.Bool.{cases_lt}
use Rattle.std.proofs.lemmas.List.{get_or_past}
use Rattle.pm_disk.specs.Images.{IsBytes}
use Rattle.pm_image.specs.CarAnswers.{AreBytes}
use Rattle.pm_image.specs.declared.settled.KeptPage.{KeptPage}
use Rattle.pm_image.specs.Graphs.{copy_of, entries_of}
use Rattle.pm_image.specs.Stands.{Opened, StandsForCopy}
use Rattle.pm_shadow.specs.State.{State}
use Rattle.pm_shadow.specs.Copies.{KeepsGraph, current_graph}
use Rattle.pm_shadow.specs.Images.{Holds}
use Rattle.pm_shadow.proofs.CopyLemmas.{held_opened}
use Rattle.pm_view.specs.View.{SpaceView}
use Rattle.pm_copies.specs.Listed.{copy_in}
use Rattle.pm_copies.specs.Opened.{listed_graph}
use Rattle.pm_law_copies.proofs.OpenedStands.{saves_again}
use Rattle.pm_law_copies.proofs.FoundStore.{store_accepted, store_copy}
use Rattle.pm_reopen.specs.Opening.{OpensStore}

pub bytes_are : (bytes : List ℕ) → IsBytes bytes → AreBytes bytes
bytes_are bytes each place =
    ⊎_elim (each place) (λ (past : length bytes ≤ place). subst (λ (byte : ℕ). byte < 256) (sym (get_or_past bytes place 0 past)) (omega arith)) (cases_lt place (length bytes))

module _ (before now : State) (bytes : List ℕ) (view : SpaceView) (cars : List KeptPage) (unknown : before.known ≡ false) (opens : OpensStore before now bytes view cars) where
  -- the graph that was found is the one behind the current header
  pub graph_kept : KeepsGraph now bytes opens.store.found.graph
  graph_kept = opens.keeps (λ is. absurd (cc (unknown, is)))

  module _ (held : Holds now bytes bytes) (each : IsBytes bytes) where
    is_current : opens.store.found ≡ current_graph now opens.store.found.graph
    is_current = cc (opens.store.is_found, held_opened now bytes bytes opens.store.found.graph graph_kept held)

    -- the space would save the copy that was found
    found_again : copy_in view ≡ copy_of opens.store.found.current.header.next opens.store.found.graph
    found_again =
        let found = opens.store.found in
        saves_again (listed_graph found.graph) (entries_of found.graph.catalog) found.current.header.next view (store_accepted bytes found (bytes_are bytes each) opens.store.is_found) opens.store.is_opened
        ∙ store_copy bytes found opens.store.is_found

    pub copy_kept : copy_in view ≡ copy_of now.header.next opens.store.found.graph
    copy_kept = found_again ∙ ap (λ (found : Opened). copy_of found.current.header.next opens.store.found.graph) is_current

    pub bytes_stand : StandsForCopy bytes now.header.epoch (copy_in view)
    bytes_stand = record {
      found = opens.store.found;
      is_found = opens.store.is_found;
      is_number = sym (ap (λ (found : Opened). found.current.header.epoch) is_current);
      is_copy = found_again;
    }
