-- Reading entries one after the other, as a loop does.
use Rattle.std.proofs.Common.{◌≡◌, ℕ, suc, ◌-◌, ◌+◌, ◌≤◌, ◌<◌, List, [], ◌∷◌, ◌++◌, length, Option, Some, None, Result, Ok, Err, refl, sym, ap, subst, ◌∙◌, arith}
use Rattle.std.proofs.lemmas.List.{append-nil}
use Rattle.std.proofs.lemmas.Bool.{ltb-true}
use Rattle.pm_types.specs.declared.address.Addr.{Addr}
use Rattle.pm_types.specs.declared.limits.TheConstants.{ROOTS, PAGE_BYTES}
use Rattle.pm_layout.proofs.Numbers.{IsBytes}
use Rattle.pm_image.specs.declared.fault.PageFault.{PageFault}
use Rattle.pm_image.specs.declared.catalog.CatEntry.{CatEntry}
use Rattle.pm_image.specs.declared.catalog.CatEntry.TheVariants.{Car, Root}
use Rattle.pm_types.specs.Results.{◌>>=◌}
use Rattle.pm_types.proofs.Fronts.{with_front_of, regroup_of}
use Rattle.pm_image.specs.Answers.{Gives}
use Rattle.pm_image.specs.CatalogPages.{Met, meeting, meeting_all, entry_at, entries_at}
use Rattle.pm_image.specs.CatalogReading.{HasRoomForRoots}
use Rattle.pm_image.proofs.Answered.{fails_too}
use Rattle.pm_image.proofs.CatalogTakes.{EntryTaken, entry_takes, entry_end}

abbrev pub Read : Type 0
Read = Result (List CatEntry × ℕ) ℕ

-- one entry more was read
pub goes_on : (count : Option ℕ) (met : Met) (page : List ℕ) (front : List CatEntry) (len i place next : ℕ) (e : CatEntry) (total : Read) → i < len → entry_at count met page place ≡ Ok (e, next)
    → with_front_of front (entries_at count met page (len - i) place) ≡ total → with_front_of (front ++ e ∷ []) (entries_at count (meeting met e) page (len - (i + 1)) next) ≡ total
unfolding entries_at
goes_on count met page front len i place next e total lt h so_far =
    let k : len - i ≡ suc (len - (i + 1)) = omega arith in
    let one : with_front_of front (entries_at count met page (len - i) place) ≡ with_front_of (front ++ e ∷ []) (entries_at count (meeting met e) page (len - (i + 1)) next) = rw (k, h) (regroup_of front e (entries_at count (meeting met e) page (len - (i + 1)) next)) in
    sym one ∙ so_far

-- a fault of one entry is that of all
pub ends : (count : Option ℕ) (met : Met) (page : List ℕ) (fault : PageFault) (front : List CatEntry) (len i place : ℕ) (total : Read) → i < len → Gives {X = CatEntry × ℕ} (Err fault) (entry_at count met page place)
    → with_front_of front (entries_at count met page (len - i) place) ≡ total → Gives {X = List CatEntry × ℕ} (Err fault) total
unfolding entries_at
ends count met page fault front len i place total lt h so_far =
    let k : len - i ≡ suc (len - (i + 1)) = omega arith in
    let others = λ (first : CatEntry × ℕ). entries_at count (meeting met first.0) page (len - (i + 1)) first.1 >>= λ x. Ok (first.0 ∷ x.0, x.1) in
    let one : with_front_of front (entry_at count met page place >>= others) ≡ total = ap (λ (n : ℕ). with_front_of front (entries_at count met page n place)) (sym k) ∙ so_far in
    subst (λ (r : Read). Gives {X = List CatEntry × ℕ} (Err fault) r) one (fails_too fault (entry_at count met page place >>= others) (λ x. Ok (front ++ x.0, x.1)) (fails_too fault (entry_at count met page place) others h))

-- all of the entries were read
pub is_done : (count : Option ℕ) (met : Met) (page : List ℕ) (front : List CatEntry) (len i place : ℕ) (total : Read) → len ≤ i → with_front_of front (entries_at count met page (len - i) place) ≡ total → total ≡ Ok (front, place)
unfolding entries_at
is_done count met page front len i place total le so_far =
    let k : len - i ≡ 0 = omega arith in
    let one : with_front_of front (entries_at count met page (len - i) place) ≡ Ok (front, place) = rw k (ap (λ (es : List CatEntry). Ok (es, place)) (append-nil front)) in
    sym so_far ∙ one

-- one entry more was met
pub meets_more : (met : Met) (es : List CatEntry) (e : CatEntry) → meeting_all met (es ++ e ∷ []) ≡ meeting (meeting_all met es) e
meets_more met [] e = refl
meets_more met (x ∷ es) e = meets_more (meeting met x) es e

-- an entry that was read ends inside the page
pub ends_inside : (count : Option ℕ) (met : Met) (page : List ℕ) (place : ℕ) (e : CatEntry) (next : ℕ) → IsBytes page → entry_at count met page place ≡ Ok (e, next) → next ≤ length page
ends_inside count met page place e next fits read = (entry_takes count met page place (e, next) fits read).stands.inside

room_of : (count : Option ℕ) (met : Met) (page : List ℕ) (place : ℕ) (name : List ℕ) (at : Addr) (next : ℕ) → place ≤ length page → EntryTaken count met page place (Root name at) next → HasRoomForRoots count met.roots place → HasRoomForRoots count (met.roots + 1) next
room_of None met page place name at next start taken room =
    let some = taken.fits.named.some in
    omega (arith, entry_end None met page place (Root name at) next start taken)
room_of (Some count) met page place name at next start taken room = tt

-- the roots that were met have room before the next place
pub has_room : (count : Option ℕ) (met : Met) (page : List ℕ) (place : ℕ) (e : CatEntry) (next : ℕ) → IsBytes page → place ≤ length page → entry_at count met page place ≡ Ok (e, next) → HasRoomForRoots count met.roots place → HasRoomForRoots count (meeting met e).roots next
has_room count met page place (Root name at) next fits start read room = room_of count met page place name at next start (entry_takes count met page place (Root name at, next) fits read) room
has_room None met page place (Car car train at digest) next fits start read room =
    let end = entry_end None met page place (Car car train at digest) next start (entry_takes None met page place (Car car train at digest, next) fits read) in
    omega arith
has_room (Some count) met page place (Car car train at digest) next fits start read room = tt

-- a root that was read is within the limit
pub one_more_root : (count : Option ℕ) (met : Met) (page : List ℕ) (place : ℕ) (e : CatEntry) (next : ℕ) → IsBytes page → place ≤ length page → length page ≡ PAGE_BYTES → entry_at count met page place ≡ Ok (e, next) → HasRoomForRoots count met.roots place
    → (name : List ℕ) (at : Addr) → e ≡ Root name at → met.roots < ROOTS
one_more_root None met page place e next fits start whole read room name at is = omega arith
one_more_root (Some count) met page place e next fits start whole read room name at is =
    let taken = entry_takes (Some count) met page place (Root name at, next) fits (read ∙ ap (λ (x : CatEntry). Ok (x, next)) is) in
    ltb-true met.roots ROOTS taken.fits.left
