use Rattle.std.proofs.Common.{◌≡◌, ◌<◌, List, ℕ, length, ◌∙◌, sym, subst, arith, refl, ◌≤◌}
use Rattle.pm_types.specs.declared.limits.TheConstants.{PAGE_BYTES}
use Rattle.pm_disk.specs.Writes.{written, Torn}
use Rattle.pm_shadow.specs.State.{State}
use Rattle.pm_shadow.specs.declared.page_use.PageUse.TheVariants.{Claimed}
use Rattle.pm_shadow.specs.Images.{Holds, place_of}
use Rattle.pm_shadow.specs.Pages.{state}
use Rattle.pm_shadow.proofs.TableLemmas.{claimed_from_2, claimed_in_list, none_claimed}
use Rattle.pm_shadow.proofs.RunLemmas.{told_before}
use Rattle.pm_shadow.proofs.HoldLemmas.{page_cut}
use Rattle.pm_shadow.proofs.PageLemmas.{page_made}
use Rattle.pm_shadow.proofs.SoundLemmas.{written_torn, cut_holds, sound_after, sound_counted, page_written, one_call}
use Rattle.pm_shadow.proofs.pages.Pages.write_page.Goals as goal

abbrev Cut : State → ℕ → ℕ → Type 0
Cut s page n = (bytes was image : List ℕ) → Holds s bytes was → Torn (place_of page) n was image → Holds s bytes image

cut : (s : State) (page n : ℕ) → s.slot < 2 → 2 ≤ page → s.uses page ≡ Claimed → n ≡ PAGE_BYTES → Cut s page n
cut s page n lt low claimed len bytes was image held torn = page_cut s bytes was image page held lt low claimed (subst (λ (m : ℕ). Torn (place_of page) m was image) len torn)

pub invariant_of-self : goal.invariant_of-self
invariant_of-self g c =
    let it = c.args.self.now in
    let low = claimed_from_2 it.table.uses.items c.args.page c.requires.claimed in
    record {
      is_slot = it.is_slot;
      few = it.few;
      spelled = it.spelled;
      within = it.within;
      begun = it.begun;
      unused = it.unused;
      sound = λ fine. sound_after (state it) (place_of c.args.page) (length c.args.bytes.now) (g.D.Disk.contents it.disk) (g.D.Disk.contents c.write_at.new.self) (g.D.Disk.image it.disk) (g.D.Disk.image c.write_at.new.self) (it.sound fine)
          (cut (state it) c.args.page (length c.args.bytes.now) it.is_slot low c.requires.claimed c.requires.len)
          c.write_at.ensures.only_torn c.in_err-write_at.ensures.torn (g.met.D.Disk.contents_stay c.write_at.new.self);
    }

pub returns-in_err-write_at-clause-leaves : goal.returns-in_err-write_at-clause-leaves
returns-in_err-write_at-clause-leaves g c bytes told =
    let it = c.args.self.now in
    let low = claimed_from_2 it.table.uses.items c.args.page c.requires.claimed in
    let now = c.write_at.new.self in
    one_call g.D.Disk.moment g.D.Disk.since it.disk now (Holds (state it) bytes) (g.D.Disk.image it.disk) (g.D.Disk.image now) (g.met.D.Disk.only_now it.disk) (it.sound c.requires.sound bytes told).each c.write_at.ensures.time
    (cut_holds (state it) (place_of c.args.page) (length c.args.bytes.now) (g.D.Disk.contents it.disk) (g.D.Disk.contents now) (g.D.Disk.image it.disk) (g.D.Disk.image now) (it.sound c.requires.sound)
    (cut (state it) c.args.page (length c.args.bytes.now) it.is_slot low c.requires.claimed c.requires.len) c.write_at.ensures.only_torn bytes told)

pub invariant_of-self-2 : goal.invariant_of-self-2
invariant_of-self-2 g c =
    let it = c.args.self.now in
    let low = claimed_from_2 it.table.uses.items c.args.page c.requires.claimed in
    let high = claimed_in_list it.table.uses.items c.args.page c.requires.claimed in
    let now = c.write_at.new.self in
    record {
      is_slot = it.is_slot;
      few = let few = it.few in let list = it.table.few in omega (arith, c.max-self.ensures);
      spelled = it.spelled;
      within = let within = it.within in omega (arith, c.max-self.ensures, within);
      begun = λ unknown. absurd (none_claimed (state it).uses c.args.page (it.unused unknown) low c.requires.claimed);
      unused = it.unused;
      sound = λ fine bytes told.
          let sound = sound_after (state it) (place_of c.args.page) (length c.args.bytes.now) (g.D.Disk.contents it.disk) (g.D.Disk.contents now) (g.D.Disk.image it.disk) (g.D.Disk.image now) (it.sound fine)
          (cut (state it) c.args.page (length c.args.bytes.now) it.is_slot low c.requires.claimed c.requires.len)
          c.write_at.ensures.only_torn (written_torn (place_of c.args.page) (length c.args.bytes.now) c.args.bytes.now (g.D.Disk.contents it.disk) (g.D.Disk.contents now) refl c.in_ok-write_at.ensures.written) (g.met.D.Disk.contents_stay now) in
          let before = told_before (written (place_of c.args.page) c.args.bytes.now) (g.D.Disk.contents it.disk) bytes (sym c.in_ok-write_at.ensures.written ∙ told) in
          sound_counted (state it) c.max-self.result c.args.page bytes (g.D.Disk.image now) c.max-self.ensures (page_written c.args.page c.args.bytes.now before.0 bytes c.requires.len before.2) (sound bytes told);
    }

pub returns-clause-leaves : goal.returns-clause-leaves
returns-clause-leaves g c bytes told =
    let it = c.args.self.now in
    let low = claimed_from_2 it.table.uses.items c.args.page c.requires.claimed in
    let now = c.write_at.new.self in
    one_call g.D.Disk.moment g.D.Disk.since it.disk now (Holds (state it) bytes) (g.D.Disk.image it.disk) (g.D.Disk.image now) (g.met.D.Disk.only_now it.disk) (it.sound c.requires.sound bytes told).each c.write_at.ensures.time
    (cut_holds (state it) (place_of c.args.page) (length c.args.bytes.now) (g.D.Disk.contents it.disk) (g.D.Disk.contents now) (g.D.Disk.image it.disk) (g.D.Disk.image now) (it.sound c.requires.sound)
    (cut (state it) c.args.page (length c.args.bytes.now) it.is_slot low c.requires.claimed c.requires.len) c.write_at.ensures.only_torn bytes told)

pub returns-clause-pages : goal.returns-clause-pages
returns-clause-pages g c was now told then =
    page_made c.args.page c.args.bytes.now (g.D.Disk.contents c.args.self.now.disk) (g.D.Disk.contents c.write_at.new.self) was now c.requires.len c.in_ok-write_at.ensures.written told then
