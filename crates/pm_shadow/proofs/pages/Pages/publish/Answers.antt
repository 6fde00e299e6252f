use Rattle.std.proofs.Common.{◌≡◌, ◌⊎◌, List, ℕ, [], ◌∷◌, Some, ◌∙◌, refl, sym, subst, arith}
use Rattle.std.specs.Prelude.{option_map}
use Rattle.pm_disk.specs.Writes.{written}
use Rattle.pm_disk.specs.Ordered.{IsInOrder}
use Rattle.pm_disk.proofs.RunLemmas.{weaker}
use Rattle.pm_image.specs.Opening.{open_gate}
use Rattle.pm_shadow.specs.State.{other, published_with}
use Rattle.pm_shadow.specs.Images.{Holds, Renews, IsSoundState, place_of, with_header, with_gate}
use Rattle.pm_shadow.specs.Uses.{use_of}
use Rattle.pm_shadow.specs.Pages.{state}
use Rattle.pm_shadow.proofs.RunLemmas.{told_before}
use Rattle.pm_shadow.proofs.HoldLemmas.{publishing, opened_renews, opened_outdoes}
use Rattle.pm_shadow.proofs.SoundLemmas.{sound_published}
use Rattle.pm_shadow.proofs.pages.Pages.publish.Goals as goal

pub returns-in_err-write_one_by_one-clause-leaves : goal.returns-in_err-write_one_by_one-clause-leaves
returns-in_err-write_one_by_one-clause-leaves g c bytes told =
    let it = c.args.self.now in
    let header = c.args.header.now in
    let now = c.write_one_by_one.new.disk in
    let sound = it.sound c.requires.sound bytes told in
    let held = sound.each bytes (g.met.D.Disk.contents_stay it.disk bytes told) in
    weaker g.D.Disk.moment g.D.Disk.since it.disk now (IsInOrder (g.D.Disk.image it.disk) bytes (place_of (other it.slot)) c.body_of.result c.gate_place.result 1) (λ image. Holds (state it) bytes image ⊎ Renews (state it) header bytes image)
    (c.write_one_by_one.ensures.in_order bytes told)
    (publishing (state it) header bytes held it.is_slot c.requires.closed c.requires.spelled c.body_of.ensures.range c.requires.later (g.D.Disk.image it.disk) sound.each c.body_of.result c.gate_place.result c.body_of.ensures.body c.gate_place.ensures)

pub invariant_of-self-2 : goal.invariant_of-self-2
invariant_of-self-2 g c =
    let it = c.args.self.now in
    let header = c.args.header.now in
    let now = c.write_one_by_one.new.disk in
    record {
      is_slot = omega arith;
      few = it.few;
      spelled = c.requires.spelled;
      within = omega arith;
      begun = λ unknown. refl;
      unused = λ unknown. absurd (cc);
      sound = λ fine bytes told.
          let o = other it.slot in
          let made : g.D.Disk.contents now ≡ option_map (λ was. with_gate o open_gate (with_header o header was)) (g.D.Disk.contents it.disk) =
          c.in_ok-write_one_by_one.ensures.written ∙ (λ i. option_map (λ was. written (c.gate_place.ensures i) (open_gate ∷ []) (written (place_of o) (c.body_of.ensures.body i) was)) (g.D.Disk.contents it.disk)) in
          let before = told_before (λ was. with_gate o open_gate (with_header o header was)) (g.D.Disk.contents it.disk) bytes (sym made ∙ told) in
          let sound = it.sound c.requires.sound before.0 before.1 in
          let held = sound.each before.0 (g.met.D.Disk.contents_stay it.disk before.0 before.1) in
          let P : List ℕ → Type 0 = λ after. IsSoundState (published_with (state it) header (use_of c.renew.new.self.uses.items)) after (g.D.Disk.image now) in
          let opened = with_gate o open_gate (with_header o header before.0) in
          subst P (sym before.2)
          (sound_published (state it) header (use_of c.renew.new.self.uses.items) before.0 opened (g.D.Disk.image now) (λ image left. c.in_ok-write_one_by_one.ensures.only bytes told image left ∙ before.2) sound.counted
          (opened_renews (state it) header before.0 held it.is_slot c.requires.closed c.requires.spelled c.body_of.ensures.range c.requires.later)
          (opened_outdoes (state it) header before.0 held it.is_slot c.requires.closed c.requires.spelled c.body_of.ensures.range c.requires.later));
    }

pub returns-clause-renews : goal.returns-clause-renews
returns-clause-renews g c bytes told after after_told =
    let it = c.args.self.now in
    let header = c.args.header.now in
    let now = c.write_one_by_one.new.disk in
    let o = other it.slot in
    let sound = it.sound c.requires.sound bytes told in
    let held = sound.each bytes (g.met.D.Disk.contents_stay it.disk bytes told) in
    let opened = with_gate o open_gate (with_header o header bytes) in
    let made : g.D.Disk.contents now ≡ Some opened =
    c.in_ok-write_one_by_one.ensures.written ∙ (λ i. option_map (λ was. written (c.gate_place.ensures i) (open_gate ∷ []) (written (place_of o) (c.body_of.ensures.body i) was)) (told i)) in
    let same : opened ≡ after = cc (made, after_told) in
    subst (λ (image : List ℕ). Renews (state it) header bytes image) same (opened_renews (state it) header bytes held it.is_slot c.requires.closed c.requires.spelled c.body_of.ensures.range c.requires.later)

pub returns-clause-leaves : goal.returns-clause-leaves
returns-clause-leaves g c bytes told =
    let it = c.args.self.now in
    let header = c.args.header.now in
    let now = c.write_one_by_one.new.disk in
    let sound = it.sound c.requires.sound bytes told in
    let held = sound.each bytes (g.met.D.Disk.contents_stay it.disk bytes told) in
    weaker g.D.Disk.moment g.D.Disk.since it.disk now (IsInOrder (g.D.Disk.image it.disk) bytes (place_of (other it.slot)) c.body_of.result c.gate_place.result 1) (λ image. Holds (state it) bytes image ⊎ Renews (state it) header bytes image)
    (c.write_one_by_one.ensures.in_order bytes told)
    (publishing (state it) header bytes held it.is_slot c.requires.closed c.requires.spelled c.body_of.ensures.range c.requires.later (g.D.Disk.image it.disk) sound.each c.body_of.result c.gate_place.result c.body_of.ensures.body c.gate_place.ensures)
