-- What a standby has had since it was made.
use Rattle.std.proofs.Common.{◌≡◌, ◌⊎◌, inl, inr, ⊎_elim, ℕ, ◌<◌, ◌≤◌, nat_lt, if◌then◌else◌, Bool, true, false, List, [], ◌∷◌, Some, Result, Ok, Err, refl, sym, ap, subst, ◌∙◌, arith}
use Rattle.std.specs.Prelude.{Contains}
use Rattle.std.specs.List.{AllByRecursion}
use Rattle.pm_types.specs.declared.fault.OpenFault.{OpenFault}
use Rattle.pm_disk.specs.Disk.{LeavesOnly}
use Rattle.pm_disk.specs.declared.disk.Disk.{Ghosts}
use Rattle.pm_disk.proofs.RunLemmas.{joined, started, weaker}
use Rattle.pm_layout.specs.declared.header.Header.{Header}
use Rattle.pm_model.specs.World.{Copy, empty_copy}
use Rattle.pm_model.proofs.Members.{first_or_rest, in_none}
use Rattle.pm_image.specs.Blank.{blank_store}
use Rattle.pm_image.specs.CarAnswers.{AreBytes}
use Rattle.pm_image.specs.Graphs.{copy_of as copy_of_graph, graph_of, used_pages}
use Rattle.pm_image.specs.Opening.{Current, page_count}
use Rattle.pm_image.specs.Stands.{Opened, StandsForCopy, copy_in, opened, pages_of}
use Rattle.pm_image.proofs.BlankLaws.{blank_stands}
use Rattle.pm_image.proofs.FrameLaws.{found_of}
use Rattle.pm_image.proofs.StandsLaws.{one_copy}
use Rattle.pm_shadow.specs.declared.page_use.PageUse.TheVariants as page_use
use Rattle.pm_shadow.specs.Attaching.{HasFound}
use Rattle.pm_shadow.specs.Pages.{disk_of, state}
use Rattle.pm_shadow.specs.State.{State, attached, keeps, keeps_by}
use Rattle.pm_shadow.specs.Uses.{use_of}
use Rattle.pm_shadow.proofs.UsedLemmas.{graph_first}
use Rattle.pm_law_copies.proofs.GraphsLemmas.Found.{opened_spelled}
use Rattle.pm_saving.specs.Tied.{HasCopy}
use Rattle.pm_ship.specs.Disks.{Finds, FindsBoth, StandsFor, number_in}
use Rattle.pm_ship.specs.History.{AreCommands, AreShips, Call, Chain, Command, Grows, IsCalled, IsCommand, IsJustMade, IsLookedAt, IsShip, StandsForOne, settled_at_last, settled_by}
use Rattle.pm_ship.proofs.WriteLemmas.{stands_now}

-- ---- the copies that were settled

grown : (before after : Chain) → Grows before after → (image : List ℕ) → StandsForOne before image → StandsForOne after image
grown before after grows image (inl none) = inl none
grown before after grows image (inr one) = inr (one.0, one.1, grows one.0 one.1 one.2, one.3)

-- bytes that stand for one of them stand for no other copy
only_one : (chain : Chain) (was : List ℕ) (number : ℕ) (mine : Copy) → StandsForOne chain was → StandsForCopy was number mine → (image : List ℕ) → StandsForCopy image number mine → StandsForOne chain image
only_one chain was number mine (inl none) stands image left =
    let same = one_copy was number 0 mine empty_copy stands none in
    inl (subst (λ (copy : Copy). StandsForCopy image 0 copy) same.1 (subst (λ (n : ℕ). StandsForCopy image n mine) same.0 left))
only_one chain was number mine (inr one) stands image left =
    let same = one_copy was number one.0 mine one.1 stands one.3 in
    inr (one.0, one.1, one.2, subst (λ (copy : Copy). StandsForCopy image one.0 copy) same.1 (subst (λ (n : ℕ). StandsForCopy image n mine) same.0 left))

-- ---- one ship behind another

module _ {D E : Type 0} (d : Ghosts D) (e : Ghosts E) (counts : (disk : E) (t : ℕ) (bytes : List ℕ) → t ≤ e.moment disk → e.image disk bytes → e.since disk t bytes)
    (stay : (disk : E) (bytes : List ℕ) → e.contents disk ≡ Some bytes → e.image disk bytes) (start : E) where
  -- the disk tells its contents, and at every moment since the start each image stood for one of these copies
  record HasOne (chain : Chain) (disk : E) : Type 0 where
    bytes : List ℕ
    told : e.contents disk ≡ Some bytes
    leaves : LeavesOnly e.moment e.since start disk (StandsForOne chain)

  each_now : (chain : Chain) (disk : E) → HasOne chain disk → (image : List ℕ) → e.image disk image → StandsForOne chain image
  each_now chain disk it image left = it.leaves.each image (counts disk (e.moment start) image it.leaves.later left)

  looked_on : (chain : Chain) (before after : E) → HasOne chain before → IsLookedAt e before after → HasOne chain after
  looked_on chain before after it looked = record {
    bytes = it.bytes;
    told = looked.told ∙ it.told;
    leaves = joined e.moment e.since start before after (StandsForOne chain) it.leaves
        (weaker e.moment e.since before after (e.image before) (StandsForOne chain) looked.leaves (each_now chain before it));
  }

  grown_on : (before after : Chain) (disk : E) → Grows before after → HasOne before disk → HasOne after disk
  grown_on before after disk grows it = record {
    bytes = it.bytes;
    told = it.told;
    leaves = weaker e.moment e.since start disk (StandsForOne before) (StandsForOne after) it.leaves (grown before after grows);
  }

  shipped_on : (call : Call d e) → IsCalled d e call → IsShip d e call → HasOne call.chain (disk_of call.before) → HasOne call.chain (disk_of call.after)
  shipped_on call called ship it =
      let number = (state call.before).header.epoch in
      let has = called.has it.bytes it.told in
      let now : StandsForCopy it.bytes number called.mine = stands_now call.before called.sound called.mine it.bytes it.bytes it.told has (stay (disk_of call.before) it.bytes it.told) in
      let was = each_now call.chain (disk_of call.before) it it.bytes (stay (disk_of call.before) it.bytes it.told) in
      let after = ship.told it.bytes it.told in
      record {
        bytes = after.0;
        told = after.1;
        leaves = joined e.moment e.since start (disk_of call.before) (disk_of call.after) (StandsForOne call.chain) it.leaves
            (weaker e.moment e.since (disk_of call.before) (disk_of call.after)
            (λ image. StandsForCopy image number called.mine ⊎ StandsForCopy image (state call.from).header.epoch called.copy) (StandsForOne call.chain)
            (ship.images called.mine called.copy it.bytes called.bytes it.told has called.told called.stands)
            (λ image either. ⊎_elim (λ mine. only_one call.chain it.bytes number called.mine was now image mine)
            (λ theirs. inr ((state call.from).header.epoch, called.copy, called.settled, theirs)) either));
      }

  all_on : (chain : Chain) (calls : List (Call d e)) (before end : E) → HasOne chain before → AreShips d e before chain calls end → HasOne (settled_by d e chain calls) end
  all_on chain [] before end it looked = looked_on chain before end it looked
  all_on chain (call ∷ calls) before end it (looked, grows, called, ship, rest) =
      all_on call.chain calls (disk_of call.after) end
      (shipped_on call called ship (grown_on chain call.chain (disk_of call.before) grows (looked_on chain before (disk_of call.before) it looked))) rest

  -- at every moment each image stands for one of them
  pub has_settled : ((image : List ℕ) → e.since start (e.moment start) image → e.image start image) → (end : E) (calls : List (Call d e)) → IsJustMade e start → AreShips d e start [] calls end
      → LeavesOnly e.moment e.since start end (StandsForOne (settled_by d e [] calls))
  has_settled now end calls made ships =
      let first : HasOne [] start = record {
        bytes = blank_store;
        told = made.blank;
        leaves = started e.moment e.since start (StandsForOne [])
            (λ image left. inl (subst (λ (bytes : List ℕ). StandsForCopy bytes 0 empty_copy) (sym (made.only image (now image left))) blank_stands));
      } in
      (all_on [] calls start end first ships).leaves

  -- ---- whole commands

  standing : (chain : Chain) (disk : E) (it : HasOne chain disk) → (found : Opened) × (opened it.bytes ≡ Ok found)
  standing chain disk it =
      ⊎_elim (λ none. (none.found, none.is_found)) (λ one. (one.3.found, one.3.is_found)) (each_now chain disk it it.bytes (stay disk it.bytes it.told))

  command_on : (command : Command d e) → IsCommand d e command → HasOne command.chain command.other → HasOne command.chain command.end.other
  command_on command is it =
      let after = is.ships.told it.bytes it.told in
      record { bytes = after.0; told = after.1; leaves = by (opened is.bytes) refl }
    where
      chain : Chain
      chain = command.chain

      joins : (P : List ℕ → Type 0) → LeavesOnly e.moment e.since command.other command.end.other P → ((image : List ℕ) → P image → StandsForOne chain image) → LeavesOnly e.moment e.since start command.end.other (StandsForOne chain)
      joins P run holds =
          joined e.moment e.since start command.other command.end.other (StandsForOne chain) it.leaves
          (weaker e.moment e.since command.other command.end.other P (StandsForOne chain) run holds)

      mine_on : (found : Opened) → opened it.bytes ≡ Ok found → (image : List ℕ) → StandsFor found image → StandsForOne chain image
      mine_on found is_found image stands =
          only_one chain it.bytes (number_in found) (copy_in found) (each_now chain command.other it it.bytes (stay command.other it.bytes it.told))
          (record { found = found; is_found = is_found; is_number = refl; is_copy = refl }) image stands

      by : (answer : Result Opened OpenFault) → opened is.bytes ≡ answer → LeavesOnly e.moment e.since start command.end.other (StandsForOne chain)
      by (Ok theirs) first =
          let mine = standing chain command.other it in
          let both : FindsBoth is.bytes it.bytes = record { theirs = theirs; first = first; mine = mine.0; standby = mine.1 } in
          joins (λ image. e.image command.other image ⊎ (StandsFor mine.0 image ⊎ StandsFor theirs image)) (is.ships.images is.bytes it.bytes is.told it.told both)
          (λ image either.
          ⊎_elim (λ was. each_now chain command.other it image was)
          (λ one.
          ⊎_elim (λ old. mine_on mine.0 mine.1 image old)
          (λ new. inr (
            number_in theirs,
            copy_in theirs,
            is.settled (number_in theirs) (copy_in theirs) (record { found = theirs; is_found = first; is_number = refl; is_copy = refl }),
            new,
          )) one) either)
      by (Err fault) refused =
          let none : Finds (d.contents command.disk) × Finds (e.contents command.other) → ⊥ = λ found. let one = found.0 is.bytes is.told in let it_is = one.1 in absurd (cc (it_is, refused)) in
          let spared = is.ships.spoils none in
          joins (e.image command.other) spared.1 (λ image was. each_now chain command.other it image was)

  commands_on : (chain : Chain) (commands : List (Command d e)) (before end : E) → HasOne chain before → AreCommands d e before chain commands end → HasOne (settled_at_last d e chain commands) end
  commands_on chain [] before end it looked = looked_on chain before end it looked
  commands_on chain (command ∷ commands) before end it (looked, grows, is, rest) =
      commands_on command.chain commands command.end.other end
      (command_on command is (grown_on chain command.chain command.other grows (looked_on chain before command.other it looked))) rest

  -- at every moment each image stands for one of them
  pub has_settled_at_last : ((image : List ℕ) → e.since start (e.moment start) image → e.image start image) → (bytes : List ℕ) → e.contents start ≡ Some bytes → ((image : List ℕ) → e.image start image → StandsForCopy image 0 empty_copy)
      → (end : E) (commands : List (Command d e)) → AreCommands d e start [] commands end → LeavesOnly e.moment e.since start end (StandsForOne (settled_at_last d e [] commands))
  has_settled_at_last now bytes told new end commands are =
      let first : HasOne [] start = record {
        bytes = bytes;
        told = told;
        leaves = started e.moment e.since start (StandsForOne []) (λ image left. inl (new image (now image left)));
      } in
      (commands_on [] commands start end first are).leaves

-- ---- pages that were attached

current_is : {a b : Current} → ◌≡◌ {A = Result Current OpenFault} (Ok a) (Ok b) → a ≡ b
current_is same = cc

member : (P : ℕ → Type 0) (pages : List ℕ) (page : ℕ) → AllByRecursion P pages → Contains pages page → P page
member P [] page all within = absurd (in_none page within)
member P (first ∷ pages) page all within = ⊎_elim (λ (same : first ≡ page). subst P same all.0) (λ rest. member P pages page all.1 rest) (first_or_rest first page pages within)

none_used : (page : ℕ) → keeps_by false (use_of [] page) ≡ true
none_used page = by (nat_lt page 2)
  where
    by : (b : Bool) → keeps_by false (if b then page_use.Current else page_use.Free) ≡ true
    by true = refl
    by false = refl

pub attached_has : (s : State) (bytes : List ℕ) (number : ℕ) (copy : Copy) → AreBytes bytes → HasFound s bytes → s ≡ attached s.slot s.header s.count s.closed → StandsForCopy bytes number copy → HasCopy s bytes copy
attached_has s bytes number copy are found is stands =
    let both = found_of bytes stands.found stands.is_found in
    let now : stands.found.current ≡ record { slot = s.slot; header = s.header } = current_is (sym both.0 ∙ found.now) in
    let header = ap (λ (c : Current). c.header) now in
    let graph = stands.found.graph in
    let spelled = opened_spelled bytes stands.found are stands.is_found in
    let behind : graph_of (pages_of bytes) s.header ≡ Ok graph = subst (λ (h : Header). graph_of (pages_of bytes) h ≡ Ok graph) header both.1 in
    let unknown = ap (λ (t : State). t.known) is in
    record {
      graph = graph;
      keeps = record {
        found = behind;
        first = graph_first (pages_of bytes) s.header graph behind;
        kept = λ page within.
            let placed = member (λ (page : ℕ). (2 ≤ page) × (page < page_count bytes)) (used_pages graph) page spelled.own_pages.within within in
            record {
              from_2 = placed.0;
              settled = (let below = placed.1 in let counted = found.count in let begun = ap (λ (t : State). t.settled) is in omega (arith, below, counted, begun));
              kept = ap (λ (t : State). keeps t page) is ∙ none_used page;
            };
        only = λ known. absurd (cc (known, unknown));
      };
      is_copy = stands.is_copy ∙ ap (λ (h : Header). copy_of_graph h.next graph) header;
    }
