-- How the copy of a dump begins.
use Rattle.std.proofs.Common.{◌≡◌, ℕ, zero, suc, ◌+◌, ◌<◌, ◌≤◌, ◌^◌, List, [], ◌∷◌, ◌++◌, map, length, Option, Some, None, refl, sym, ap, subst, ◌∙◌, arith}
use Rattle.std.specs.Prelude.{IfSome}
use Rattle.std.specs.List.{AllByRecursion}
use Rattle.pm_types.specs.Names.{IsName}
use Rattle.pm_types.specs.declared.address.Addr.{Addr}
use Rattle.pm_image.specs.declared.car.CarImage.{CarImage}
use Rattle.pm_image.specs.declared.settled.KeptPage.{KeptPage}
use Rattle.pm_shadow.specs.State.{State}
use Rattle.pm_view.specs.View.{Cars}
use Rattle.pm_copies.specs.Accepted.{IsAccepted}
use Rattle.pm_copies.specs.Listed.{Listed, copy_listed}
use Rattle.pm_copies.specs.Plans.{root_entry}
use Rattle.pm_saving.specs.Beginning.{AreFrozen, ArePlaced, BeginsListed, IsCarNumbered}
use Rattle.pm_saving.specs.Progress.{Progress, Saving, copy_of}
use Rattle.pm_saving.specs.Tied.{IsTied}
use Rattle.pm_save.specs.declared.progress.place.Place.TheVariants.{Unwritten}
use Rattle.pm_save.specs.declared.progress.place.PlacedCar.{PlacedCar}
use Rattle.pm_save.specs.Progress.Kept.{IsWithin}
use Rattle.pm_save.specs.Writer.Planned.{IsPlanned}
use Rattle.pm_save.specs.Progress.Seen.{car_seen}
use Rattle.pm_dump.specs.Dump.{Dump}
use Rattle.pm_dump.specs.Read.{root_shown}
use Rattle.pm_dump.specs.declared.parts.DumpRoot.{DumpRoot}
use Rattle.pm_dump.specs.Sound.{IsListed, IsSoundDump, IsIdBelow}
use Rattle.pm_restore.proofs.PackingLemmas.Accepted.{packed_accepted}
use Rattle.pm_restore.proofs.PackingLemmas.Copies.{copy_packed}
use Rattle.pm_restore.specs.Packing.Packing.{DumpEntry, address_of, filled, packed_cars, packed_list, packed_names, packed_parts}
use Rattle.pm_restore.specs.Parts.{cars_of_dump}
use Rattle.pm_restore.specs.Restored.{BeginsDump, open_cars}
use Rattle.pm_restore.proofs.PartLemmas.{frozen_dump}
use Rattle.pm_restore.proofs.LaidLemmas.{cars_begun}

-- one car more
pub open_more : (number count : ℕ) → open_cars number (count + 1) ≡ open_cars number count ++ record { train = 1; number = number + count; place = Unwritten } ∷ []
open_more number zero =
    let same : number ≡ number + 0 = omega arith in
    ap (λ (n : ℕ). record { train = 1; number = n; place = Unwritten } ∷ []) same
open_more number (suc count) =
    let more : suc count + 1 ≡ suc (count + 1) = omega arith in
    let last : number + 1 + count ≡ number + suc count = omega arith in
    ap (open_cars number) more
    ∙ ap (λ (cars : List PlacedCar). record { train = 1; number = number; place = Unwritten } ∷ cars) (open_more (number + 1) count)
    ∙ ap (λ (n : ℕ). record { train = 1; number = number; place = Unwritten } ∷ (open_cars (number + 1) count ++ record { train = 1; number = n; place = Unwritten } ∷ [])) last

pub within_open : (settled : List KeptPage) (number count : ℕ) → AllByRecursion (λ (one : PlacedCar). IsWithin settled one.place) (open_cars number count)
within_open settled number zero = tt
within_open settled number (suc count) = (tt, within_open settled (number + 1) count)

numbered_open : (number count : ℕ) → number + count ≤ 2 ^ 64 → AllByRecursion IsCarNumbered (map (car_seen []) (open_cars number count))
numbered_open number zero few = tt
numbered_open number (suc count) few = (record { train = omega arith; number = omega (arith, few) }, numbered_open (number + 1) count (omega (arith, few)))

placed_open : (to : ℕ → Addr) (number : ℕ) (parts : List (List DumpEntry)) → ArePlaced [] (map (λ (car : CarImage). (1, car)) (packed_parts to number parts)) (map (car_seen []) (open_cars number (length (packed_parts to number parts))))
placed_open to number [] = tt
placed_open to number (part ∷ parts) = (refl, refl, (λ kept is same. absurd cc), placed_open to (number + 1) parts)

pub open_pushed : (items old : List PlacedCar) (index : ℕ) → items ≡ old ++ record { train = 1; number = index + 1; place = Unwritten } ∷ [] → old ≡ open_cars 1 index → items ≡ open_cars 1 (index + 1)
open_pushed items old index pushed was =
    let same : index + 1 ≡ 1 + index = omega arith in
    pushed
    ∙ ap (λ (cars : List PlacedCar). cars ++ record { train = 1; number = index + 1; place = Unwritten } ∷ []) was
    ∙ ap (λ (n : ℕ). open_cars 1 index ++ record { train = 1; number = n; place = Unwritten } ∷ []) same
    ∙ sym (open_more 1 index)

pub within_at : (settled : List KeptPage) (cars : List PlacedCar) (count : ℕ) → cars ≡ open_cars 1 count → AllByRecursion (λ (one : PlacedCar). IsWithin settled one.place) cars
within_at settled cars count same = subst (λ (all : List PlacedCar). AllByRecursion (λ (one : PlacedCar). IsWithin settled one.place) all) (sym same) (within_open settled 1 count)

-- the cars of a dump, none of which was written
pub planned_open : (dump : Dump) (count : ℕ) → count ≡ length (packed_cars dump) → count < 2 ^ 64 → IsPlanned [] (packed_list dump) (open_cars 1 count)
planned_open dump count same few = record {
  placed = subst (λ (n : ℕ). ArePlaced [] (packed_list dump) (map (car_seen []) (open_cars 1 n))) (sym same) (placed_open (address_of dump.objects) 1 (filled dump.objects));
  within = within_open [] 1 count;
  numbered = numbered_open 1 count (omega (arith, few));
}

-- ---- names

pub listed_shown : (objects : List DumpEntry) (roots : List DumpRoot) → AllByRecursion (λ (e : List ℕ × ℕ). IsListed objects e.1) (map root_shown roots) → AllByRecursion (λ (root : DumpRoot). IsListed objects root.id) roots
listed_shown objects [] all = tt
listed_shown objects (root ∷ roots) all = (all.0, listed_shown objects roots all.1)

abbrev with_address : List DumpEntry → DumpRoot → List ℕ × Addr
with_address objects root = (root.name, address_of objects root.id)

abbrev with_place : List DumpEntry → List ℕ × ℕ → List ℕ × Addr
with_place objects root = (root.0, address_of objects root.1)

named_shown : (objects : List DumpEntry) (roots : List DumpRoot) → map (with_address objects) roots ≡ map (with_place objects) (map root_shown roots)
named_shown objects [] = refl
named_shown objects (root ∷ roots) = ap (λ (rest : List (List ℕ × Addr)). with_address objects root ∷ rest) (named_shown objects roots)

-- the names with the addresses of their objects
pub names_packed : (dump : Dump) (roots : List DumpRoot) → map root_shown roots ≡ dump.roots → map (with_address dump.objects) roots ≡ packed_names dump
names_packed dump roots same = named_shown dump.objects roots ∙ ap (map (with_place dump.objects)) same

-- they are names
are_names : (objects : List DumpEntry) (next : ℕ) (roots : List (List ℕ × ℕ)) → AllByRecursion (λ (e : List ℕ × ℕ). IsName e.0 × IsIdBelow next e.1) roots
    → AllByRecursion (λ (root : List ℕ × Addr). IsName root.0) (map (with_place objects) roots)
are_names objects next [] all = tt
are_names objects next (root ∷ roots) all = (all.0.0, are_names objects next roots all.1)

pub names_sound : (dump : Dump) → IsSoundDump dump → (names : List (List ℕ × Addr)) → names ≡ packed_names dump → AllByRecursion (λ (root : List ℕ × Addr). IsName root.0) names
names_sound dump sound names same = subst (λ (all : List (List ℕ × Addr)). AllByRecursion (λ (root : List ℕ × Addr). IsName root.0) all) (sym same) (are_names dump.objects dump.next dump.roots sound.named)

names_accepted : (dump : Dump) → IsSoundDump dump → (names : List (List ℕ × Addr)) (next : ℕ) → names ≡ packed_names dump → next ≡ dump.next → IsAccepted (packed_list dump) (map root_entry names) next
names_accepted dump sound names next same next_is =
    subst (λ (n : ℕ). IsAccepted (packed_list dump) (map root_entry names) n) (sym next_is)
    (subst (λ (all : List (List ℕ × Addr)). IsAccepted (packed_list dump) (map root_entry all) dump.next) (sym same) (packed_accepted dump sound))

-- the copy that begins with these cars and names is the dump's
pub begins_dump : (dump shown : Dump) → shown ≡ dump → IsSoundDump dump → (old new : Saving) (cars : List PlacedCar) (names : List (List ℕ × Addr)) (count next number : ℕ)
    → old ≡ record { settled = []; progress = None } → cars ≡ open_cars 1 count → count ≡ length (packed_cars dump) → count < 2 ^ 64 → names ≡ packed_names dump → next ≡ dump.next → number ≡ 1
    → ((list : List Listed) → IsPlanned old.settled list cars → BeginsListed old new list names next number)
    → ((list : List Listed) (frozen : Cars) → IsPlanned old.settled list cars → AreFrozen frozen list → IfSome new.progress (λ progress. copy_of frozen progress ≡ copy_listed list (map root_entry names) next))
    → ((list : List Listed) (frozen : Cars) (s : State) (contents : Option (List ℕ)) → IsPlanned old.settled list cars → AreFrozen frozen list → IsAccepted list (map root_entry names) next
    → s.header.epoch < number → IsTied old None s contents → IsTied new (Some frozen) s contents)
    → BeginsDump shown new
begins_dump dump shown is_shown sound old new cars names count next number old_is cars_are counted few names_are next_is number_is begun copy tied =
    let planned : IsPlanned old.settled (packed_list dump) cars =
    subst (λ (saving : Saving). IsPlanned saving.settled (packed_list dump) cars) (sym old_is) (subst (λ (cs : List PlacedCar). IsPlanned [] (packed_list dump) cs) (sym cars_are) (planned_open dump count counted few)) in
    let begins = begun (packed_list dump) planned in
    let cars_now = cars_begun (packed_cars dump) begins.begun.cars (subst (λ (saving : Saving). ArePlaced saving.settled (packed_list dump) begins.begun.cars) old_is begins.cars) in
    let frozen = frozen_dump dump sound in
    let accepted = names_accepted dump sound names next names_are next_is in
    let is_copy = subst (λ (o : Option Progress). IfSome o (λ (progress : Progress). copy_of (cars_of_dump dump) progress ≡ copy_listed (packed_list dump) (map root_entry names) next)) begins.now
    (copy (packed_list dump) (cars_of_dump dump) planned frozen) in
    subst (λ (d : Dump). BeginsDump d new) (sym is_shown) (record {
      progress = begins.begun;
      is_progress = begins.now;
      is_begun = λ i. record { number = (begins.number_is ∙ number_is) i; cars = cars_now i; roots = (begins.roots ∙ names_are) i; next_id = (begins.next_id ∙ next_is) i; kept = begins.kept i; parts = begins.parts i };
      copy = is_copy ∙ (λ i. copy_listed (packed_list dump) (map root_entry (names_are i)) (next_is i)) ∙ copy_packed dump sound;
      tied = λ s contents less was. tied (packed_list dump) (cars_of_dump dump) s contents planned frozen accepted (subst (λ (n : ℕ). s.header.epoch < n) (sym number_is) less) (subst (λ (saving : Saving). IsTied saving None s contents) (sym old_is) was);
    })
