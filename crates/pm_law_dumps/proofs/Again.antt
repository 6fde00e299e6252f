-- A dump that is restored, and told again.
use Rattle.std.proofs.Common.{◌≡◌, ◌∙◌, ℕ, List, ap, subst, sym}
use Rattle.pm_model.specs.Heap.{Heap}
use Rattle.pm_model.specs.World.{Copy, Roots}
use Rattle.pm_model.specs.Copying.{copied}
use Rattle.pm_image.specs.CarAnswers.{AreBytes}
use Rattle.pm_image.specs.Graphs.{entries_of, heap_of, images_of, roots_of}
use Rattle.pm_image.specs.Stands.{StandsForCopy}
use Rattle.pm_image.proofs.StandsLaws.{one_copy}
use Rattle.pm_copies.specs.Listed.{copy_in}
use Rattle.pm_dump.specs.Dump.{Dump, copy_of_dump, dump_of, dump_text_of}
use Rattle.pm_dump.specs.Spelled.{Spells}
use Rattle.pm_dump.specs.Sound.{IsCopyInRange}
use Rattle.pm_dump.proofs.Copies.{copy_again, copy_spelled, reached_again}
use Rattle.pm_dump.proofs.DumpLaws.{one_reading}
use Rattle.pm_restore.specs.Restored.{copy_in_dump}
use Rattle.pm_inspect.specs.Tell.Told.{Dumps, IsTold}
use Rattle.pm_law_dumps.proofs.Ranged.{store_ranged}

-- what is restored of the dump of a copy that was made of a heap
pub copied_restored : (heap : Heap) (roots : Roots) (next : ℕ) (dump : Dump) → IsCopyInRange (copied heap roots next) → Spells (dump_text_of (dump_of (copied heap roots next))) dump
    → copy_in_dump dump ≡ copied heap roots next
copied_restored heap roots next dump range spelled =
    let copy : Copy = copied heap roots next in
    let same : dump ≡ dump_of copy = one_reading (dump_text_of (dump_of copy)) dump (dump_of copy) spelled (copy_spelled copy range) in
    ap copy_in_dump same
    ∙ (λ i. copied (copy_of_dump (dump_of copy)).heap (copy_again copy i).roots next)
    ∙ reached_again heap roots next

-- and of that of a store
pub store_restored : (bytes : List ℕ) (number : ℕ) (copy : Copy) (dump : Dump) → AreBytes bytes → StandsForCopy bytes number copy → Spells (dump_text_of (dump_of copy)) dump
    → copy_in_dump dump ≡ copy
store_restored bytes number copy dump are stands spelled =
    let found = stands.found in
    let cars = images_of found.graph.cars in
    let heap = heap_of cars in
    let roots = roots_of cars (entries_of found.graph.catalog) in
    let next = found.current.header.next in
    let same : copy ≡ copied heap roots next = stands.is_copy in
    copied_restored heap roots next dump (subst IsCopyInRange same (store_ranged bytes number copy are stands)) (subst (λ (c : Copy). Spells (dump_text_of (dump_of c)) dump) same spelled)
    ∙ sym same

-- the same text is told again
pub told_again : (bytes image text again : List ℕ) (number : ℕ) (dump : Dump) → AreBytes bytes → IsTold Dumps bytes text → Spells text dump
    → StandsForCopy image number (copy_in_dump dump) → IsTold Dumps image again → again ≡ text
told_again bytes image text again number dump are told spelled stands later =
    let copy : Copy = copy_in told.view in
    let restored : copy_in_dump dump ≡ copy = store_restored bytes told.number copy dump are told.stands (subst (λ (t : List ℕ). Spells t dump) told.says spelled) in
    let one = one_copy image number later.number (copy_in_dump dump) (copy_in later.view) stands later.stands in
    later.says ∙ ap (λ (c : Copy). dump_text_of (dump_of c)) (sym one.1 ∙ restored) ∙ sym told.says
