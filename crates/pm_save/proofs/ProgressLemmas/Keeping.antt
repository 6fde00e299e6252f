-- Pages that are kept, and one that is claimed.
use Rattle.std.proofs.Common.{◌≡◌, ℕ, zero, suc, ◌+◌, ◌<◌, ◌==◌, Bool, true, false, List, [], ◌∷◌, ◌++◌, length, map, take, get_or, Option, refl, sym, ap, ◌∙◌, subst, arith, if◌then◌else◌}
use Rattle.std.specs.List.{AllByRecursion, flat_map, slice_get}
use Rattle.std.proofs.lemmas.Bool.Decides.{nat_tests}
use Rattle.std.proofs.lemmas.List.{take_more}
use Rattle.pm_disk.specs.Disk.{IfTold, LeavesOnly}
use Rattle.pm_disk.proofs.RunLemmas.{weaker}
use Rattle.pm_image.specs.declared.settled.KeptPage.{KeptPage}
use Rattle.pm_shadow.specs.declared.page_use.PageUse.{PageUse}
use Rattle.pm_shadow.specs.declared.page_use.PageUse.TheVariants.{Claimed, Free, Kept}
use Rattle.pm_shadow.specs.Uses.{with_use}
use Rattle.pm_shadow.specs.State.{State, keeps, keeps_by, with_claimed, with_kept, with_uses}
use Rattle.pm_shadow.specs.Images.{Holds}
use Rattle.pm_shadow.specs.Copies.{KeepsSamePages}
use Rattle.pm_shadow.proofs.CopyLemmas.{claimed_keeps}
use Rattle.pm_law_copies.proofs.GraphsLemmas.Lists.{all_both, all_follow}
use Rattle.pm_law_saving.proofs.Keeping.{all_kept_failed, all_kept_same, free_keeps, same_then, use_here, use_other}
use Rattle.pm_law_saving.proofs.Staying.{held_same}
use Rattle.pm_saving.specs.Progress as seen
use Rattle.pm_saving.specs.Paging.{clean_page, newly_kept}
use Rattle.pm_saving.specs.Tied.{IsOnPage, with_all_kept}
use Rattle.pm_save.specs.declared.progress.place.Place.{Place}
use Rattle.pm_save.specs.declared.progress.place.Place.TheVariants.{Clean, Unwritten, Written}
use Rattle.pm_save.specs.declared.progress.place.PlacedCar.{PlacedCar}
use Rattle.pm_save.specs.declared.progress.place.InProgress.{InProgress}
use Rattle.pm_save.specs.Progress.Seen.{car_seen, clean_at, place_seen, progress_seen}
use Rattle.pm_save.specs.Progress.Putting.{pages_in}
use Rattle.pm_save.proofs.ProgressLemmas.TakeLemmas.{flat_more, map_both, nil_right}

-- ---- pages that are kept

pub all_kept_known : (pages : List ℕ) (s : State) → (with_all_kept pages s).known ≡ s.known
all_kept_known [] s = refl
all_kept_known (page ∷ pages) s = all_kept_known pages (with_kept s page)

all_kept_closed : (pages : List ℕ) (s : State) → (with_all_kept pages s).closed ≡ s.closed
all_kept_closed [] s = refl
all_kept_closed (page ∷ pages) s = all_kept_closed pages (with_kept s page)

kept_keeps : (s : State) (page other : ℕ) → keeps s other ≡ true → keeps (with_kept s page) other ≡ true
kept_keeps s page other is = by (other == page)
  where
    by : (b : Bool) → keeps_by s.known (if b then Kept else s.uses other) ≡ true
    by true = refl
    by false = is

all_kept_keeps : (pages : List ℕ) (s : State) (other : ℕ) → keeps s other ≡ true → keeps (with_all_kept pages s) other ≡ true
all_kept_keeps [] s other is = is
all_kept_keeps (page ∷ pages) s other is = all_kept_keeps pages (with_kept s page) other (kept_keeps s page other is)

pub kept_on_pages : (pages : List ℕ) (s : State) (settled : List KeptPage) → AllByRecursion (IsOnPage s) settled → AllByRecursion (IsOnPage (with_all_kept pages s)) settled
kept_on_pages pages s settled on =
    all_follow (IsOnPage s) (IsOnPage (with_all_kept pages s)) settled (λ kept is. record { from_2 = is.from_2; keeps = all_kept_keeps pages s kept.page is.keeps }) on

pub kept_then : (one two : List ℕ) (s : State) → with_all_kept (one ++ two) s ≡ with_all_kept two (with_all_kept one s)
kept_then [] two s = refl
kept_then (page ∷ one) two s = kept_then one two (with_kept s page)

-- ---- those of the clean cars

pub pages_more : (settled : List KeptPage) (cars : List PlacedCar) (i : ℕ) (one : PlacedCar) → i < length cars → one ≡ get_or cars i one
    → pages_in settled (take (i + 1) cars) ≡ pages_in settled (take i cars) ++ clean_page (place_seen settled one.place)
pages_more settled cars i one low is =
    ap (pages_in settled) (take_more cars i one low)
    ∙ ap (flat_map (λ (one : seen.PlacedCar). clean_page one.place)) (map_both (car_seen settled) (take i cars) (get_or cars i one ∷ []))
    ∙ flat_more (λ (one : seen.PlacedCar). clean_page one.place) (map (car_seen settled) (take i cars)) (car_seen settled (get_or cars i one) ∷ [])
    ∙ ap (λ (pages : List ℕ). pages_in settled (take i cars) ++ pages) (nil_right (clean_page (place_seen settled (get_or cars i one).place)) ∙ ap (λ (one : PlacedCar). clean_page (place_seen settled one.place)) (sym is))

-- each is one of the current copy
clean_is_on : (s : State) (settled : List KeptPage) (index : ℕ) → AllByRecursion (IsOnPage s) settled → AllByRecursion (λ (page : ℕ). keeps s page ≡ true) (clean_page (clean_at (slice_get settled index)))
clean_is_on s [] index on = tt
clean_is_on s (kept ∷ settled) zero on = (on.0.keeps, tt)
clean_is_on s (kept ∷ settled) (suc index) on = clean_is_on s settled index on.1

place_is_on : (s : State) (settled : List KeptPage) (place : Place) → AllByRecursion (IsOnPage s) settled → AllByRecursion (λ (page : ℕ). keeps s page ≡ true) (clean_page (place_seen settled place))
place_is_on s settled (Clean index) on = clean_is_on s settled index on
place_is_on s settled Unwritten on = tt
place_is_on s settled (Written kept) on = tt

clean_on : (s : State) (settled : List KeptPage) (cars : List PlacedCar) → AllByRecursion (IsOnPage s) settled → AllByRecursion (λ (page : ℕ). keeps s page ≡ true) (pages_in settled cars)
clean_on s settled [] on = tt
clean_on s settled (one ∷ cars) on = all_both (λ (page : ℕ). keeps s page ≡ true) (clean_page (place_seen settled one.place)) (pages_in settled cars) (place_is_on s settled one.place on) (clean_on s settled cars on)

pub newly_on : (s : State) (settled : List KeptPage) (it : InProgress) → AllByRecursion (IsOnPage s) settled → AllByRecursion (λ (page : ℕ). keeps s page ≡ true) (newly_kept (progress_seen settled it))
newly_on s settled it on = by it.kept
  where
    by : (b : Bool) → AllByRecursion (λ (page : ℕ). keeps s page ≡ true) (if b then [] else pages_in settled it.cars.items)
    by true = tt
    by false = clean_on s settled it.cars.items on

-- ---- a page that is claimed before them

swapped : (k page other : ℕ) (uses : ℕ → PageUse) → (k ≡ page → ⊥) → with_use k Kept (with_use page Claimed uses) other ≡ with_use page Claimed (with_use k Kept uses) other
swapped k page other uses apart = by (other == k) (other == page) refl refl
  where
    by : (b c : Bool) → (other == k) ≡ b → (other == page) ≡ c
        → (if b then Kept else (if c then Claimed else uses other)) ≡ (if c then Claimed else (if b then Kept else uses other))
    by true true one two = let here : k ≡ page = grind (arith, nat_tests) in absurd (apart here)
    by true false one two = refl
    by false true one two = refl
    by false false one two = refl

swap : (s : State) (k page : ℕ) → (k ≡ page → ⊥) → with_kept (with_claimed s page) k ≡ with_claimed (with_kept s k) page
swap s k page apart = λ i. with_uses s (λ other. swapped k page other s.uses apart i)

not_free : (s : State) (k page : ℕ) → s.known ≡ true → s.uses page ≡ Free → keeps s k ≡ true → k ≡ page → ⊥
not_free s k page known free is same =
    let none = free_keeps s page known free in
    let here : keeps s page ≡ true = ap (λ (k : ℕ). keeps s k) (sym same) ∙ is in
    absurd cc

pub kept_beside : (ks : List ℕ) (s : State) (page : ℕ) → s.known ≡ true → s.uses page ≡ Free → AllByRecursion (λ (k : ℕ). keeps s k ≡ true) ks → with_all_kept ks (with_claimed s page) ≡ with_claimed (with_all_kept ks s) page
kept_beside [] s page known free on = refl
kept_beside (k ∷ ks) s page known free on =
    let apart : k ≡ page → ⊥ = not_free s k page known free on.0 in
    ap (with_all_kept ks) (swap s k page apart)
    ∙ kept_beside ks (with_kept s k) page known (use_other k page Kept s.uses (λ same. apart (sym same)) ∙ free)
    (all_follow (λ (k : ℕ). keeps s k ≡ true) (λ (other : ℕ). keeps (with_kept s k) other ≡ true) ks (λ other is. kept_keeps s k other is) on.1)

-- the state in which the page is written
pub record IsBeside (ks : List ℕ) (s mid : State) (page : ℕ) : Type 0 where
  pub state : mid ≡ with_claimed (with_all_kept ks s) page
  pub claimed : mid.uses page ≡ Claimed
  pub failed : mid.failed ≡ s.failed
  pub closed : mid.closed ≡ s.closed
  pub same : KeepsSamePages s mid

pub beside : (ks : List ℕ) (s mid : State) (page : ℕ) → s.known ≡ true → s.uses page ≡ Free → AllByRecursion (λ (k : ℕ). keeps s k ≡ true) ks → mid ≡ with_all_kept ks (with_claimed s page) → IsBeside ks s mid page
beside ks s mid page known free on is =
    let state : mid ≡ with_claimed (with_all_kept ks s) page = is ∙ kept_beside ks s page known free on in
    let first : KeepsSamePages s (with_claimed s page) = claimed_keeps s page known free in
    let second : KeepsSamePages (with_claimed s page) (with_all_kept ks (with_claimed s page)) =
    all_kept_same ks (with_claimed s page) (all_follow (λ (k : ℕ). keeps s k ≡ true) (λ (k : ℕ). keeps (with_claimed s page) k ≡ true) ks (λ k kept. first.kept k ∙ kept) on) in
    record {
      state = state;
      claimed = ap (λ (s : State). s.uses page) state ∙ use_here page Claimed (with_all_kept ks s).uses;
      failed = ap (λ (s : State). s.failed) is ∙ all_kept_failed ks (with_claimed s page);
      closed = ap (λ (s : State). s.closed) is ∙ all_kept_closed ks (with_claimed s page);
      same = subst (KeepsSamePages s) (sym is) (same_then s (with_claimed s page) (with_all_kept ks (with_claimed s page)) first second);
    }

-- what a write there leaves
pub put_leaves : {D : Type 0} (contents : D → Option (List ℕ)) (moment : D → ℕ) (since : D → ℕ → List ℕ → Type 0) (s m : State) (old mid new : D) → mid ≡ old → KeepsSamePages s m → m.closed ≡ s.closed
    → IfTold (contents mid) (λ told. LeavesOnly moment since mid new (Holds m told)) → IfTold (contents old) (λ told. LeavesOnly moment since old new (Holds s told))
put_leaves {D = D} contents moment since s m old mid new is same closed leaves bytes told =
    weaker moment since old new (Holds m bytes) (Holds s bytes)
    (subst (λ (d : D). IfTold (contents d) (λ told. LeavesOnly moment since d new (Holds m told))) is leaves bytes told)
    (λ image held. held_same s m bytes image same closed held)
