use Rattle.std.proofs.Common.{◌≡◌, ◌<◌, ◌-◌, List, ℕ, [], ◌∷◌, false, get_or, ◌∙◌, ap, sym, refl, subst, arith}
use Rattle.std.specs.Prelude.{◌==◌}
use Rattle.pm_disk.specs.Writes.{written, Torn}
use Rattle.pm_disk.proofs.WriteLemmas.{written_inside}
use Rattle.pm_disk.proofs.RunLemmas.{started, weaker}
use Rattle.pm_image.specs.Opening.{gate_place, open_gate, is_open}
use Rattle.pm_shadow.specs.State.{State, other}
use Rattle.pm_shadow.specs.Images.{Holds}
use Rattle.pm_shadow.specs.Runs.{IsCut}
use Rattle.pm_shadow.specs.Pages.{state}
use Rattle.pm_shadow.proofs.RunLemmas.{told_before}
use Rattle.pm_shadow.proofs.HoldLemmas.{gate_cut}
use Rattle.pm_shadow.proofs.SoundLemmas.{written_torn, sound_after, sound_closed}
use Rattle.pm_shadow.proofs.pages.Pages.close_gate.Goals as goal

abbrev Cut : State → ℕ → Type 0
Cut s at = (bytes was image : List ℕ) → Holds s bytes was → Torn at 1 was image → Holds s bytes image

cut : (s : State) (at : ℕ) → s.slot < 2 → s.closed ≡ false → at ≡ gate_place (other s.slot) → Cut s at
cut s at lt not_closed place bytes was image held torn = gate_cut s bytes was image held lt not_closed (subst (λ (n : ℕ). Torn n 1 was image) place torn)

-- a gate that was closed reads closed
closed_now : (at slot : ℕ) (was bytes : List ℕ) → at ≡ gate_place slot → bytes ≡ written at (0 ∷ []) was → is_open bytes slot ≡ false
closed_now at slot was bytes place is =
    let byte : get_or bytes at 0 ≡ 0 = ap (λ (t : List ℕ). get_or t at 0) is ∙ written_inside at (0 ∷ []) was at (omega arith) (omega arith) ∙ ap (λ (n : ℕ). get_or (0 ∷ []) n 0) (let none : at - at ≡ 0 = omega arith in none) in
    ap (λ (b : ℕ). b == open_gate) (ap (λ (n : ℕ). get_or bytes n 0) (sym place) ∙ byte)

pub returns-then-self-clause-leaves : goal.returns-then-self-clause-leaves
returns-then-self-clause-leaves g c bytes told =
    let it = c.args.self.now in
    started g.D.Disk.moment g.D.Disk.since it.disk (Holds (state it) bytes) (λ image left. (it.sound c.requires bytes told).each image (g.met.D.Disk.only_now it.disk image left))

pub invariant_of-self : goal.invariant_of-self
invariant_of-self g c =
    let it = c.args.self.now in
    let now = c.write_and_sync.new.disk in
    record {
      is_slot = it.is_slot;
      few = it.few;
      spelled = it.spelled;
      within = it.within;
      begun = it.begun;
      unused = it.unused;
      sound = λ fine. sound_after (state it) c.gate_place.result 1 (g.D.Disk.contents it.disk) (g.D.Disk.contents now) (g.D.Disk.image it.disk) (g.D.Disk.image now) (it.sound fine)
          (cut (state it) c.gate_place.result it.is_slot c.if-self.false c.gate_place.ensures) c.write_and_sync.ensures.images c.in_err-write_and_sync.ensures.torn (g.met.D.Disk.contents_stay now);
    }

pub returns-in_err-write_and_sync-clause-leaves : goal.returns-in_err-write_and_sync-clause-leaves
returns-in_err-write_and_sync-clause-leaves g c bytes told =
    let it = c.args.self.now in
    let now = c.write_and_sync.new.disk in
    weaker g.D.Disk.moment g.D.Disk.since it.disk now (IsCut c.gate_place.result 1 (g.D.Disk.image it.disk)) (Holds (state it) bytes) c.write_and_sync.ensures.leaves
    (λ image from. cut (state it) c.gate_place.result it.is_slot c.if-self.false c.gate_place.ensures bytes from.0 image ((it.sound c.requires bytes told).each from.0 from.1) from.2)

pub invariant_of-self-2 : goal.invariant_of-self-2
invariant_of-self-2 g c =
    let it = c.args.self.now in
    let now = c.write_and_sync.new.disk in
    record {
      is_slot = it.is_slot;
      few = it.few;
      spelled = it.spelled;
      within = it.within;
      begun = it.begun;
      unused = it.unused;
      sound = λ fine bytes told.
          let sound = sound_after (state it) c.gate_place.result 1 (g.D.Disk.contents it.disk) (g.D.Disk.contents now) (g.D.Disk.image it.disk) (g.D.Disk.image now) (it.sound fine)
          (cut (state it) c.gate_place.result it.is_slot c.if-self.false c.gate_place.ensures) c.write_and_sync.ensures.images
          (written_torn c.gate_place.result 1 (0 ∷ []) (g.D.Disk.contents it.disk) (g.D.Disk.contents now) refl c.in_ok-write_and_sync.ensures.written) (g.met.D.Disk.contents_stay now) in
          let before = told_before (written c.gate_place.result (0 ∷ [])) (g.D.Disk.contents it.disk) bytes (sym c.in_ok-write_and_sync.ensures.written ∙ told) in
          sound_closed (state it) bytes (g.D.Disk.image now) (c.in_ok-write_and_sync.ensures.only bytes told) (closed_now c.gate_place.result (other it.slot) before.0 bytes c.gate_place.ensures before.2)
          (g.met.D.Disk.contents_stay now bytes told) (sound bytes told);
    }

pub returns-clause-leaves : goal.returns-clause-leaves
returns-clause-leaves g c bytes told =
    let it = c.args.self.now in
    let now = c.write_and_sync.new.disk in
    weaker g.D.Disk.moment g.D.Disk.since it.disk now (IsCut c.gate_place.result 1 (g.D.Disk.image it.disk)) (Holds (state it) bytes) c.write_and_sync.ensures.leaves
    (λ image from. cut (state it) c.gate_place.result it.is_slot c.if-self.false c.gate_place.ensures bytes from.0 image ((it.sound c.requires bytes told).each from.0 from.1) from.2)
