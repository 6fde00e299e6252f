-- What a settle leaves: all of the copy was written, the other gate is closed, and the header is published.
use Rattle.std.proofs.Common.{◌≡◌, ◌⊎◌, inl, inr, ⊎_elim, ℕ, ◌+◌, ◌<◌, ◌≤◌, ◌^◌, false, if◌then◌else◌, Bool, List, length, Option, Some, None, option_map, refl, sym, ap, ◌∙◌, subst, arith}
use Rattle.std.specs.Prelude.{IfSome}
use Rattle.std.specs.List.{AllByRecursion}
use Rattle.std.proofs.lemmas.Bool.{cases_lt}
use Rattle.std.proofs.lemmas.List.{get_or_past}
use Rattle.pm_disk.specs.Disk.{IfTold, LeavesOnly}
use Rattle.pm_disk.specs.Images.{IsBytes}
use Rattle.pm_disk.specs.Made.{Made, MadeAtMost, MadeMore}
use Rattle.pm_disk.specs.declared.disk.Disk.{Ghosts}
use Rattle.pm_disk.proofs.RunLemmas.{joined, weaker}
use Rattle.pm_layout.specs.declared.header.Header.{Header}
use Rattle.pm_image.specs.CarAnswers.{AreBytes}
use Rattle.pm_image.specs.Opening.{open_gate, page_count}
use Rattle.pm_image.specs.Stands.{StandsForCopy}
use Rattle.pm_image.specs.declared.settled.KeptPage.{KeptPage}
use Rattle.pm_shadow.specs.State.{State, IsPublishable, other, published, with_closed}
use Rattle.pm_shadow.specs.Images.{Holds, Renews, shutting, with_gate, with_header, with_shut_gate}
use Rattle.pm_shadow.specs.Copies.{KeepsSamePages}
use Rattle.pm_shadow.specs.Pages.{current_kept, disk_of, state}
use Rattle.pm_shadow.specs.declared.pages.Pages.{Pages}
use Rattle.pm_view.specs.View.{Cars}
use Rattle.pm_saving.specs.Progress.{Progress, Saving, car_pages, cars_or_none, copy_of}
use Rattle.pm_saving.specs.Paging.{header_of, left, left_of, put_on, written_on}
use Rattle.pm_saving.specs.Beginning.{IsInProgress}
use Rattle.pm_saving.specs.Tied.{ChangesOnly, HasCopy, IsBegun, IsTied, IsWhole, Settles, settled_on}
use Rattle.pm_law_saving.proofs.Giving.{gate_closed}
use Rattle.pm_law_saving.proofs.Members.{of_member}
use Rattle.pm_shadow.specs.declared.page_use.PageUse.TheVariants.{Free}
use Rattle.pm_law_saving.proofs.Whole.{copy_header, copy_whole}
use Rattle.pm_law_saving.proofs.Publishing.{copy_held, copy_next, copy_renewed, copy_settled, copy_still}
use Rattle.pm_save.specs.declared.progress.place.InProgress.{InProgress}
use Rattle.pm_save.specs.Progress.Seen.{progress_seen}
use Rattle.pm_save.specs.Progress.Kept.{AreKept, IsKept, IsPlaced}
use Rattle.pm_save.specs.Progress.Taken.{AreOnce}
use Rattle.pm_save.specs.declared.progress.fault.SaveFault.{SaveFault}
use Rattle.pm_save.specs.declared.progress.fault.SaveFault.TheVariants.{Disk, Memory}
use Rattle.pm_save.specs.Progress.Answers.{IfMemory, KeepsCopy, Spares, TellsOn}
use Rattle.pm_save.specs.Writer.Runs.{Runs}
use Rattle.pm_save.specs.Writer.Settling.{ClosesFrom, IsLeftSo, PublishesFrom, SparesEither, StandsThen}
use Rattle.pm_save.proofs.WriterLemmas.FlushLemmas.{begun_from, copy_still as copy_stays}
use Rattle.pm_save.proofs.WriterLemmas.OnceLemmas.{once_by, placed_by}
use Rattle.pm_save.proofs.WriterLemmas.RunLemmas.{spares_then, tells_then}

-- ---- the cars of the copy, once all of it was written

pub placed_in : (settled : List KeptPage) (p : Option InProgress) → AreKept settled p → left_of (option_map (progress_seen settled) p) ≡ 0
    → IfSome p (λ (it : InProgress). AllByRecursion IsPlaced it.cars.items)
placed_in settled None kept none = tt
placed_in settled (Some it) kept none = placed_by settled it kept none

pub once_in : (settled : List KeptPage) (p : Option InProgress) (frozen : Option Cars) (epoch : ℕ) → AreKept settled p → IsBegun settled (option_map (progress_seen settled) p) frozen epoch
    → IfSome p (λ (it : InProgress). AreOnce it.cars.items)
once_in settled None frozen epoch kept begun = tt
once_in settled (Some it) None epoch kept begun = absurd begun
once_in settled (Some it) (Some cars) epoch kept begun =
    let copy : IsInProgress settled cars (progress_seen settled it) = begun.0 in
    once_by settled cars it.cars.items kept.within copy.stand copy.accepted.differ

pub header_whole : (settled : List KeptPage) (p : Option InProgress) (it : InProgress) (header : Header) (written : Progress) → AreKept settled p → p ≡ Some it → left_of (option_map (progress_seen settled) p) ≡ 0
    → ((settled : List KeptPage) → IsKept settled it → AllByRecursion IsPlaced it.cars.items → header ≡ header_of (progress_seen settled it))
    → option_map (progress_seen settled) p ≡ Some written → header ≡ header_of written
header_whole settled p it header written kept is none header_is is_written =
    let its : IsKept settled it = subst (AreKept settled) is kept in
    let none_left : left (progress_seen settled it) ≡ 0 = sym (ap (λ (p : Option InProgress). left_of (option_map (progress_seen settled) p)) is) ∙ none in
    let both : Some (progress_seen settled it) ≡ Some written = sym (ap (option_map (progress_seen settled)) is) ∙ is_written in
    let same : progress_seen settled it ≡ written = cc both in
    header_is settled its (placed_by settled it its none_left) ∙ ap header_of same

-- ---- what a disk tells is bytes

pub bytes_are : (bytes : List ℕ) → IsBytes bytes → AreBytes bytes
bytes_are bytes each place =
    ⊎_elim (each place) (λ (past : length bytes ≤ place). subst (λ (byte : ℕ). byte < 256) (sym (get_or_past bytes place 0 past)) (omega arith)) (cases_lt place (length bytes))

-- ---- how many calls settle a copy

pub gate_calls : (s m : State) → m.closed ≡ s.closed → shutting m ≡ shutting s
gate_calls s m closed = ap (λ (b : Bool). if b then 0 else 1) closed

module _ (l n k : ℕ) (same : k ≡ n) (a b c d : Made) (rest : MadeMore l 0 0 a b) where
  pub gate_most : MadeAtMost k k b c → MadeAtMost (l + (n + 2)) (n + 2) a c
  gate_most gate = record {
    writes = let one = rest.writes in let two = gate.writes in omega (arith, one, two, same);
    syncs = let one = rest.syncs in let two = gate.syncs in omega (arith, one, two, same);
    past = let one = rest.past in let two = gate.past in omega (arith, one, two);
  }

  pub publish_most : MadeMore k k 0 b c → MadeAtMost 2 2 c d → MadeAtMost (l + (n + 2)) (n + 2) a d
  publish_most gate last = record {
    writes = let one = rest.writes in let two = gate.writes in let three = last.writes in omega (arith, one, two, three, same);
    syncs = let one = rest.syncs in let two = gate.syncs in let three = last.syncs in omega (arith, one, two, three, same);
    past = let one = rest.past in let two = gate.past in let three = last.past in omega (arith, one, two, three);
  }

  pub settle_made : MadeMore k k 0 b c → MadeMore 2 2 0 c d → MadeMore (l + (n + 2)) (n + 2) 0 a d
  settle_made gate last = record {
    writes = let one = rest.writes in let two = gate.writes in let three = last.writes in omega (arith, one, two, three, same);
    syncs = let one = rest.syncs in let two = gate.syncs in let three = last.syncs in omega (arith, one, two, three, same);
    past = let one = rest.past in let two = gate.past in let three = last.past in omega (arith, one, two, three);
  }

pub wider : (l n : ℕ) (a b : Made) → MadeAtMost l 0 a b → MadeAtMost (l + (n + 2)) (n + 2) a b
wider l n a b most = record {
  writes = let one = most.writes in omega (arith, one);
  syncs = let one = most.syncs in omega (arith, one);
  past = most.past;
}

-- ---- what the disk holds then

map_thrice : (f g h : List ℕ → List ℕ) (was : Option (List ℕ)) → option_map f (option_map g (option_map h was)) ≡ option_map (λ (bytes : List ℕ). f (g (h bytes))) was
map_thrice f g h None = refl
map_thrice f g h (Some bytes) = refl

settled_then : (cars : Cars) (pages : List ℕ) (progress : Progress) (s m k : State) (header : Header) (c0 c1 c2 c3 : Option (List ℕ)) → m.slot ≡ s.slot → m.closed ≡ s.closed → k.slot ≡ s.slot → header ≡ header_of (written_on cars pages progress)
    → c1 ≡ option_map (put_on cars pages progress) c0 → c2 ≡ option_map (with_shut_gate m) c1 → c3 ≡ option_map (λ told. with_gate (other k.slot) open_gate (with_header (other k.slot) header told)) c2
    → c3 ≡ option_map (settled_on cars pages progress s) c0
settled_then cars pages progress s m k header c0 c1 c2 c3 slot closed slot_then is one two three =
    let shut : List ℕ → List ℕ = with_shut_gate s in
    let write : List ℕ → List ℕ = λ told. with_gate (other s.slot) open_gate (with_header (other s.slot) (header_of (written_on cars pages progress)) told) in
    let two_is : c2 ≡ option_map shut (option_map (put_on cars pages progress) c0) = two ∙ (λ i. option_map (λ (bytes : List ℕ). if closed i then bytes else with_gate (other (slot i)) 0 bytes) (one i)) in
    three
    ∙ (λ i. option_map (λ (told : List ℕ). with_gate (other (slot_then i)) open_gate (with_header (other (slot_then i)) (is i) told)) (two_is i))
    ∙ map_thrice write shut (put_on cars pages progress) c0

-- ---- one call behind another

-- where the copy that was settled is left, one of the two is
pub either_of : {D : Type 0} (contents : D → Option (List ℕ)) (moment : D → ℕ) (since : D → ℕ → List ℕ → Type 0) (p : Option Progress) (cars : Cars) (s : State) (old new : D) → Spares contents moment since s old new
    → SparesEither contents moment since p cars s old new
either_of contents moment since None cars s old new spares = tt
either_of contents moment since (Some progress) cars s old new spares =
    λ copy bytes told has. weaker moment since old new (λ image. StandsForCopy image s.header.epoch copy) (λ image. StandsForCopy image s.header.epoch copy ⊎ StandsForCopy image progress.number (copy_of cars progress)) (spares copy bytes told has) (λ image stands. inl stands)

-- All of the copy was written, by calls that left the one that was settled.
pub record AllWritten {D : Type 0} (contents : D → Option (List ℕ)) (moment : D → ℕ) (since : D → ℕ → List ℕ → Type 0) (frozen : Option Cars) (old mid : Saving) (s m : State) (d0 d1 : D) : Type 0 where
  pub runs : Runs frozen (cars_or_none frozen) old mid s m (contents d0) (contents d1)
  pub none : left_of mid.progress ≡ 0
  pub spares : Spares contents moment since s d0 d1
  pub told : TellsOn (contents d0) (contents d1)
  pub counted : IfTold (contents d1) (λ bytes. m.count ≤ page_count bytes)

-- The other gate was closed then.
pub record IsShut {D : Type 0} (contents : D → Option (List ℕ)) (moment : D → ℕ) (since : D → ℕ → List ℕ → Type 0) (m k : State) (d1 d2 : D) : Type 0 where
  pub state : k ≡ with_closed m
  pub closes : IfTold (contents d2) (ClosesFrom m (contents d1))
  pub shuts : contents d2 ≡ option_map (with_shut_gate m) (contents d1)
  pub leaves : IfTold (contents d1) (λ told. LeavesOnly moment since d1 d2 (Holds m told))
  pub told : TellsOn (contents d1) (contents d2)
  pub counted : IfTold (contents d2) (λ bytes. k.count ≤ page_count bytes)
  pub bytes : IfTold (contents d2) AreBytes
  pub few : k.count ≤ 2 ^ 64

module _ {D : Type 0} {contents : D → Option (List ℕ)} {moment : D → ℕ} {since : D → ℕ → List ℕ → Type 0} {frozen : Option Cars} {old mid : Saving} {s m : State} {d0 d1 : D} (all : AllWritten contents moment since frozen old mid s m d0 d1) where
  abbrev cars : Cars
  cars = cars_or_none frozen

  abbrev before : Progress
  before = all.runs.progress

  abbrev written : Progress
  written = written_on cars all.runs.pages before

  pub is_written : mid.progress ≡ Some written
  is_written = ap (λ (saving : Saving). saving.progress) all.runs.run.saving

  none_left : left written ≡ 0
  none_left = sym (ap left_of is_written) ∙ all.none

  begun : (frozen ≡ Some cars) × IsInProgress mid.settled cars written × (m.header.epoch < written.number)
  begun = begun_from mid.settled mid.progress written frozen m.header.epoch all.runs.run.tied.begun is_written

  pub gate_spares : (d2 : D) → IfTold (contents d1) (λ told. LeavesOnly moment since d1 d2 (Holds m told)) → Spares contents moment since s d0 d2
  gate_spares d2 leaves =
      spares_then contents moment since s m d0 d1 d2 all.runs.run.header all.told all.runs.run.has all.spares (λ copy bytes told has. weaker moment since d1 d2 (Holds m bytes) (λ left. StandsForCopy left m.header.epoch copy) (leaves bytes told) (λ left held. copy_held m bytes left copy has held))

  pub gate_either : (d2 : D) → IfTold (contents d1) (λ told. LeavesOnly moment since d1 d2 (Holds m told)) → SparesEither contents moment since old.progress cars s d0 d2
  gate_either d2 leaves = either_of contents moment since old.progress cars s d0 d2 (gate_spares d2 leaves)

  -- an image of the whole copy is one of the copy as it was before its last pages were written
  stands_before : (left : List ℕ) → StandsForCopy left written.number (copy_of cars written) → StandsForCopy left before.number (copy_of cars before)
  stands_before left stands =
      let goes = all.runs.run.goes in
      subst (λ (number : ℕ). StandsForCopy left number (copy_of cars before)) goes.number (subst (StandsForCopy left written.number) (goes.copy cars) stands)

  module _ {k : State} {d2 : D} (shut : IsShut contents moment since m k d1 d2) where
    tied_shut : IsTied mid frozen k (contents d2)
    tied_shut =
        subst (λ (k : State). IsTied mid frozen k (contents d2)) (sym shut.state)
        (gate_closed mid frozen m (contents d1) (contents d2) all.runs.run.tied (λ after told.
        let from = shut.closes after told in (
          from.0,
          from.1,
          from.2,
          (λ page low there.
              let enough = all.counted from.0 from.1 in
              from.3.same page (omega (arith, there, enough)) (λ same. absurd (omega (arith, low, same)))),
        )))

    tied_some : IsTied mid (Some cars) k (contents d2)
    tied_some = subst (λ (frozen : Option Cars). IsTied mid frozen k (contents d2)) begun.0 tied_shut

    whole : (bytes : List ℕ) → contents d2 ≡ Some bytes → IsWhole k bytes cars written
    whole bytes told =
        copy_whole mid cars k bytes written (subst (λ (told : Option (List ℕ)). IsTied mid (Some cars) k told) told tied_some) is_written none_left (shut.bytes bytes told) (shut.counted bytes told) shut.few

    header_shut : k.header ≡ s.header
    header_shut = ap (λ (k : State). k.header) shut.state ∙ all.runs.run.header

    slot_shut : k.slot ≡ s.slot
    slot_shut = ap (λ (k : State). k.slot) shut.state ∙ all.runs.run.slot

    has_shut : KeepsCopy s k (contents d0) (contents d2)
    has_shut copy bytes told has after now =
        let from = shut.closes after now in
        let same : KeepsSamePages m (with_closed m) = record { slot = refl; header = refl; settled = refl; known = refl; kept = λ page. refl } in
        subst (λ (k : State). HasCopy k after copy) (sym shut.state) (copy_stays m (with_closed m) after copy same (copy_still m from.0 after copy (all.runs.run.has copy bytes told has from.0 from.1) from.2))

    pub publishable : (header : Header) → header ≡ header_of written → IsPublishable k header
    publishable header is =
        let may = copy_header mid cars k (contents d2) written tied_some is_written none_left in
        subst (IsPublishable k) (sym is) (record { closed = ap (λ (k : State). k.closed) shut.state; sound = tied_shut.sound; spelled = may.0; later = may.1 })

    pub publish_either : (header : Header) (d3 : D) → header ≡ header_of written → IfTold (contents d2) (λ told. LeavesOnly moment since d2 d3 (λ image. Holds k told image ⊎ Renews k header told image))
        → SparesEither contents moment since old.progress cars s d0 d3
    publish_either header d3 is leaves =
        subst (λ (p : Option Progress). SparesEither contents moment since p cars s d0 d3) (sym all.runs.is_progress) (λ copy bytes told has.
        let one = all.told bytes told in
        let two = shut.told one.0 one.1 in
        let Either : List ℕ → Type 0 = λ left. StandsForCopy left s.header.epoch copy ⊎ StandsForCopy left before.number (copy_of cars before) in
        joined moment since d0 d2 d3 Either
        (weaker moment since d0 d2 (λ left. StandsForCopy left s.header.epoch copy) Either (gate_spares d2 shut.leaves copy bytes told has) (λ left stands. inl stands))
        (weaker moment since d2 d3 (λ left. Holds k two.0 left ⊎ Renews k header two.0 left) Either (leaves two.0 two.1) (λ left kept_or_new.
        ⊎_elim
        (λ (held : Holds k two.0 left). inl (subst (λ (header : Header). StandsForCopy left header.epoch copy) header_shut (copy_held k two.0 left copy (has_shut copy bytes told has two.0 two.1) held)))
        (λ (renews : Renews k header two.0 left). inr (stands_before left (copy_renewed k two.0 left cars written (whole two.0 two.1) (subst (λ (header : Header). Renews k header two.0 left) is renews))))
        kept_or_new)))

    module _ (header : Header) (t : State) (d3 : D) (is : header ≡ header_of written) (state : t ≡ published k header) (publishes : IfTold (contents d3) (PublishesFrom k header (contents d2))) where
      state_is : t ≡ published k (header_of written)
      state_is = state ∙ ap (published k) is

      only_then : IfTold (contents d0) (λ was. IfTold (contents d3) (ChangesOnly s all.runs.pages was))
      only_then was told after now page low aside out =
          let last = publishes after now in
          let gate = shut.closes last.0 last.1 in
          let run = all.runs.run.only was told gate.0 gate.1 in
          let longer = run.longer in
          let longer_then = gate.3.longer in
          let apart : page ≡ other m.slot → ⊥ = λ same. aside (same ∙ ap other all.runs.run.slot) in
          let apart_then : page ≡ other k.slot → ⊥ = λ same. aside (same ∙ ap other slot_shut) in
          last.3.same page (omega (arith, low, longer, longer_then)) apart_then ∙ gate.3.same page (omega (arith, low, longer)) apart ∙ run.same page low out

      pub settles_by : (new : Saving) → contents d3 ≡ option_map (λ told. with_gate (other k.slot) open_gate (with_header (other k.slot) header told)) (contents d2) → IfSome mid.progress (λ (progress : Progress). new ≡ record { settled = car_pages progress; progress = None }) → Settles old new cars s t (contents d0) (contents d3) header.epoch
      settles_by new wrote finished = record {
        progress = before;
        is_progress = all.runs.is_progress;
        number_is = ap (λ (header : Header). header.epoch) is ∙ all.runs.run.goes.number;
        pages = all.runs.pages;
        count = let count = all.runs.run.left in let none = none_left in omega (arith, count, none);
        free = all.runs.run.free;
        apart = all.runs.run.apart;
        lowest = all.runs.run.lowest;
        saving = subst (λ (p : Option Progress). IfSome p (λ (progress : Progress). new ≡ record { settled = car_pages progress; progress = None })) is_written finished;
        header = ap (λ (t : State). t.header) state_is;
        slot = ap (λ (t : State). t.slot) state_is ∙ ap other slot_shut;
        contents = settled_then cars all.runs.pages before s m k header (contents d0) (contents d1) (contents d2) (contents d3) all.runs.run.slot all.runs.run.closed slot_shut is all.runs.run.contents shut.shuts wrote;
        only = only_then;
      }

      pub tied_by : (new : Saving) → IfSome mid.progress (λ (progress : Progress). new ≡ record { settled = car_pages progress; progress = None }) → IsTied new None t (contents d3)
      tied_by new finished =
          let saving_is : new ≡ record { settled = car_pages written; progress = None } = subst (λ (p : Option Progress). IfSome p (λ (progress : Progress). new ≡ record { settled = car_pages progress; progress = None })) is_written finished in
          subst (λ (new : Saving). IsTied new None t (contents d3)) (sym saving_is)
          (subst (λ (t : State). IsTied (record { settled = car_pages written; progress = None }) None t (contents d3)) (sym state_is)
          (copy_settled mid cars k (contents d2) (contents d3) written tied_some is_written none_left (λ after now.
          let last = publishes after now in
          (last.0, last.1, whole last.0 last.1, subst (λ (header : Header). Renews k header last.0 after) is last.2))))

      pub stands_by : (image : D → List ℕ → Type 0) → TellsOn (contents d2) (contents d3) → IfTold (contents d3) (λ told. (left : List ℕ) → image d3 left → left ≡ told) → StandsThen contents image old.progress cars t d0 d3 header.epoch
      stands_by image told only =
          subst (λ (p : Option Progress). StandsThen contents image p cars t d0 d3 header.epoch) (sym all.runs.is_progress) (λ was was_told.
          let one = all.told was was_told in
          let two = shut.told one.0 one.1 in
          let three = told two.0 two.1 in (
            (λ left may.
                let last = publishes three.0 three.1 in
                let new : Renews k (header_of written) last.0 three.0 = subst (λ (header : Header). Renews k header last.0 three.0) is last.2 in
                let stands : StandsForCopy three.0 before.number (copy_of cars before) = stands_before three.0 (copy_renewed k last.0 three.0 cars written (whole last.0 last.1) new) in
                let number : header.epoch ≡ before.number = ap (λ (header : Header). header.epoch) is ∙ all.runs.run.goes.number in
                subst (λ (left : List ℕ). StandsForCopy left header.epoch (copy_of cars before)) (sym (only three.0 three.1 left may)) (subst (λ (number : ℕ). StandsForCopy three.0 number (copy_of cars before)) (sym number) stands)),
            (λ after now.
                let last = publishes after now in
                let new : Renews k (header_of written) last.0 after = subst (λ (header : Header). Renews k header last.0 after) is last.2 in
                let has : HasCopy (published k (header_of written)) after (copy_of cars written) = copy_next k last.0 after cars written (whole last.0 last.1) new in
                subst (λ (t : State). HasCopy t after (copy_of cars before)) (sym state_is) (subst (HasCopy (published k (header_of written)) after) (all.runs.run.goes.copy cars) has)),
          ))

    pub told_by : (d3 : D) → TellsOn (contents d2) (contents d3) → TellsOn (contents d0) (contents d3)
    told_by d3 told = tells_then (contents d0) (contents d2) (contents d3) (tells_then (contents d0) (contents d1) (contents d2) all.told shut.told) told

-- ---- the same of the pages of a store

module _ {D : Type 0} {g : Ghosts D} where
  pub all_written : (frozen : Option Cars) (old mid : Saving) (s : State) (d0 : D) (it : Pages D g) → Runs frozen (cars_or_none frozen) old mid s (state it) (g.contents d0) (g.contents (disk_of it)) → left_of mid.progress ≡ 0
      → Spares g.contents g.moment g.since s d0 (disk_of it) → TellsOn (g.contents d0) (g.contents (disk_of it)) → AllWritten g.contents g.moment g.since frozen old mid s (state it) d0 (disk_of it)
  all_written frozen old mid s d0 it runs none spares told =
      record { runs = runs; none = none; spares = spares; told = told; counted = λ bytes now. (current_kept it runs.run.tied.sound bytes now).counted }

  pub is_shut : (m : State) (d1 : D) (it : Pages D g) → m.failed ≡ false → state it ≡ with_closed m → IfTold (g.contents (disk_of it)) (ClosesFrom m (g.contents d1)) → g.contents (disk_of it) ≡ option_map (with_shut_gate m) (g.contents d1) → IfTold (g.contents d1) (λ told. LeavesOnly g.moment g.since d1 (disk_of it) (Holds m told))
      → TellsOn (g.contents d1) (g.contents (disk_of it)) → ((t : ℕ) (bytes : List ℕ) → g.since (disk_of it) t bytes → IsBytes bytes) → ((t : ℕ) (bytes : List ℕ) → t ≤ g.moment (disk_of it) → g.image (disk_of it) bytes → g.since (disk_of it) t bytes)
      → ((bytes : List ℕ) → g.contents (disk_of it) ≡ Some bytes → g.image (disk_of it) bytes) → IsShut g.contents g.moment g.since m (state it) d1 (disk_of it)
  is_shut m d1 it sound is closes shuts leaves told leaves_bytes counts stay = record {
    state = is;
    closes = closes;
    shuts = shuts;
    leaves = leaves;
    told = told;
    counted = λ bytes now. (current_kept it (ap (λ (k : State). k.failed) is ∙ sound) bytes now).counted;
    bytes = λ bytes now. bytes_are bytes (leaves_bytes (g.moment (disk_of it)) bytes (counts (g.moment (disk_of it)) bytes (omega arith) (stay bytes now)));
    few = let few = it.few in omega (arith, few);
  }

-- memory ran out while the copy was written
module _ {D : Type 0} (contents : D → Option (List ℕ)) (moment : D → ℕ) (since : D → ℕ → List ℕ → Type 0) (frozen : Option Cars) (cars : Cars) (old new : Saving) (s t : State) (before after : D) where
  pub left_by : (fault : SaveFault) → IfMemory (Runs frozen cars old new s t (contents before) (contents after)) fault → 0 < left_of old.progress → 0 < left_of new.progress → Spares contents moment since s before after
      → IfMemory (IsLeftSo contents moment since old new s t before after) fault
  left_by Disk runs some still spares = tt
  left_by (Memory _) runs some still spares = record {
    stays = record {
      before = runs.progress;
      after = written_on cars runs.pages runs.progress;
      is_before = runs.is_progress;
      saving = runs.run.saving;
      some_left = subst (λ (o : Option Progress). 0 < left_of o) runs.is_progress some;
      goes_on = runs.run.goes;
      header = runs.run.header;
      slot = runs.run.slot;
      closed = runs.run.closed;
      only = λ told is told_now also page there not_free. (runs.run.only told is told_now also).same page there (λ within. not_free (of_member (λ (p : ℕ). s.uses p ≡ Free) runs.pages page runs.run.free within));
    };
    left = still;
    spares = spares;
    has = runs.run.has;
  }
