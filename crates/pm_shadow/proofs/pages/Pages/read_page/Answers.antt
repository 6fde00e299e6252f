use Rattle.std.proofs.Common.{◌≡◌, ℕ, List, length, take, drop, subst, ◌∙◌, ◌+◌, ◌*◌, ◌<◌, ◌≤◌, arith}
use Rattle.std.specs.Prelude.{OnOk}
use Rattle.pm_disk.specs.Disk.{IfTold}
use Rattle.pm_types.specs.declared.limits.TheConstants.{PAGE_BYTES}
use Rattle.pm_disk.proofs.MadeLemmas.{within_counts}
use Rattle.pm_image.specs.Opening.{page_count}
use Rattle.pm_shadow.specs.Pages.{state}
use Rattle.pm_shadow.proofs.SoundLemmas.{sound_still}
use Rattle.pm_shadow.proofs.pages.Pages.read_page.Goals as goal

pub invariant_of-self : goal.invariant_of-self
invariant_of-self g c =
    let it = c.args.self.now in
    let e = c.read_at.ensures in
    record {
      is_slot = it.is_slot;
      few = it.few;
      spelled = it.spelled;
      within = it.within;
      begun = it.begun;
      unused = it.unused;
      sound = λ fine. sound_still (state it) (g.D.Disk.contents it.disk) (g.D.Disk.contents c.read_at.new.self) (g.D.Disk.image it.disk) (g.D.Disk.image c.read_at.new.self) (it.sound fine) e.contents e.images.no_more;
    }

pub returns-clause-read : goal.returns-clause-read
returns-clause-read g c =
    let at = PAGE_BYTES * c.args.page in
    subst (λ (n : ℕ). OnOk c.read_at.result (IfTold (g.D.Disk.contents c.args.self.now.disk) (λ bytes. c.read_at.new.into ≡ take n (drop at bytes)))) c.requires.len c.read_at.ensures.read

-- a page of those that the bytes have ends within them
page_there : (page count : ℕ) (bytes : List ℕ) (n : ℕ) → page < count → count ≤ page_count bytes → n ≡ PAGE_BYTES → PAGE_BYTES * page + n ≤ length bytes
page_there page count bytes n lt le is = omega arith

pub returns-clause-made : goal.returns-clause-made
returns-clause-made g c fine =
    let it = c.args.self.now in
    c.read_at.ensures.made ∙ within_counts _ _ _ _ (λ bytes told. page_there c.args.page _ bytes (length c.args.into.now) c.requires.page (it.sound fine bytes told).counted c.requires.len)
