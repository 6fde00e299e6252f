use Rattle.std.proofs.Common.{◌≡◌, ℕ, List, Some, sym, ap, ◌∙◌, subst}
use Rattle.sha2.specs.Sha256.{sha256}
use Rattle.pm_image.specs.declared.settled.KeptPage.{KeptPage}
use Rattle.pm_saving.specs.Paging.{PartPage, next_page, text_of, with_page}
use Rattle.pm_save.specs.declared.progress.place.InProgress.{InProgress}
use Rattle.pm_save.specs.declared.progress.next.Next.{Next}
use Rattle.pm_save.specs.declared.progress.next.Next.TheVariants.{Car, Part}
use Rattle.pm_save.specs.declared.progress.next.Ready.{Ready}
use Rattle.pm_save.specs.Progress.Seen.{progress_seen}
use Rattle.pm_save.specs.Progress.Next.{Spells, next_seen}
use Rattle.pm_save.specs.Progress.Noted.{HasPlaceFor}
use Rattle.pm_save.proofs.ProgressLemmas.NotedCar.{car_seen_then, car_kept}
use Rattle.pm_save.proofs.ProgressLemmas.NotedPart.{part_kept}
use Rattle.pm_save.proofs.progress.written.note_written.Goals as goal

-- the digest is that of what the page spells
digest_is : (settled : List KeptPage) (it : InProgress) (ready : Ready) (next : Next) (bytes digest : List ℕ) → Spells (progress_seen settled it) ready → ready.next ≡ next → digest ≡ sha256 bytes → bytes ≡ ready.bytes.items
    → digest ≡ sha256 (text_of (progress_seen settled it) (next_seen next))
digest_is settled it ready next bytes digest spells is hashed same =
    hashed ∙ ap sha256 (same ∙ spells.text ∙ ap (λ (next : Next). text_of (progress_seen settled it) (next_seen next)) is)

pub returns-in-Car-clause-seen : goal.returns-in-Car-clause-seen
returns-in-Car-clause-seen c settled cars kept found spells next =
    let it = c.args.it.now in
    let image = c.in-Car.image in
    let low = subst (HasPlaceFor it) c.in-Car.is c.requires.place in
    let digest = digest_is settled it c.args.ready (Car image) c.deref.result.now c.digest-digest.result spells c.in-Car.is c.digest-digest.ensures c.deref.ensures.value in
    car_seen_then settled it c.note_car.new.it image c.args.page c.digest-digest.result kept found low c.note_car.ensures.cars c.note_car.ensures.rest digest
    ∙ ap (λ (next : Next). with_page c.args.page (progress_seen settled it) (next_seen next)) (sym c.in-Car.is)

pub returns-in-Car-clause-kept : goal.returns-in-Car-clause-kept
returns-in-Car-clause-kept c settled cars kept found spells next some =
    let it = c.args.it.now in
    let low = subst (HasPlaceFor it) c.in-Car.is c.requires.place in
    car_kept settled it c.note_car.new.it c.in-Car.image c.args.page c.digest-digest.result kept found low c.note_car.ensures.cars c.note_car.ensures.rest

pub returns-clause-kept : goal.returns-clause-kept
returns-clause-kept c settled cars kept found spells next some =
    let it = c.args.it.now in
    let entries = c.in-Part._entries in
    let digest = digest_is settled it c.args.ready (Part entries) c.deref.result.now c.digest-digest.result spells c.in-Part.is c.digest-digest.ensures c.deref.ensures.value in
    let next_is : next_page cars (progress_seen settled it) ≡ Some (PartPage entries) = next ∙ ap (λ (next : Next). Some (next_seen next)) c.in-Part.is in
    part_kept settled cars it c.note_part.new.it entries c.args.page c.digest-digest.result kept found next_is digest some c.note_part.ensures.counts c.note_part.ensures.parts c.note_part.ensures.room c.note_part.ensures.rest
