use Rattle.std.proofs.Common.{◌≡◌, Option, refl, ap, ◌∙◌, length, ℕ, List, ◌-◌}
use Rattle.std.specs.Prelude.{unwrap_or}
use Rattle.std.specs.Option.{option_copied}
use Rattle.std.specs.List.{slice_get}
use Rattle.pm_save.specs.Progress.Seen.{progress_seen}
use Rattle.pm_save.proofs.ProgressLemmas.Placed.{all_placed}
use Rattle.pm_save.proofs.ProgressLemmas.Parts.{first_written}
use Rattle.pm_save.proofs.progress.next.first_part.Goals as goal

pub returns : goal.returns
returns c settled kept placed =
    let it = c.args.it.now in
    let last : option_copied c.last.result ≡ slice_get it.parts.items (length it.parts.items - 1) = c.last.ensures.value ∙ ap (λ (parts : List ℕ). slice_get parts (length parts - 1)) c.deref.ensures.value in
    c.unwrap_or.ensures ∙ ap (λ (last : Option ℕ). unwrap_or last 0) c.copied.ensures
    ∙ first_written (progress_seen settled it) it.parts.items (option_copied c.last.result) (all_placed settled it.cars.items kept.within placed) kept.last.few refl last
