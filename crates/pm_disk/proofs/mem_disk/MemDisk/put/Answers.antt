use Rattle.std.proofs.Common.{◌≡◌, ◌∷◌, length, IsTrue, ap, refl, ◌∙◌, arith, rules}
use Rattle.std.proofs.lemmas.Bool.Decides.{nat_tests}
use Rattle.pm_disk.specs.Images.{IsBytes}
use Rattle.pm_disk.specs.Made.{numbers, made_in}
use Rattle.pm_disk.specs.Sound.{is_placed, shown}
use Rattle.pm_disk.specs.declared.call.DiskCall.TheVariants.{Write}
use Rattle.pm_disk.proofs.Steps.{write_shows, written_grown, write_sound, grown_placed, grown_marked}
use Rattle.pm_disk.proofs.DiskSteps.{elapses}
use Rattle.pm_disk.proofs.mem_disk.MemDisk.put.Goals as goal

pub invariant_of-self : goal.invariant_of-self
invariant_of-self c =
    let disk = c.args.self.now in
    let start = disk.start.items in
    let fails = disk.fails.items in
    let calls = disk.calls.items in
    let calls' = c.note_write-outcome.new.calls.items in
    let old = shown start disk.changed in
    let new = shown start c.note_write-outcome.new.changed in
    let made = rw (c.deref-2.ensures.value, c.deref.ensures.value) at c.note_write-outcome.ensures.made in
    let grown = written_grown start fails calls c.args.at c.args.from.now calls' old new made in
    let new_bytes : IsBytes c.args.from.now = λ i lt. search rules in
    let is : IsTrue (is_placed (Write c.args.at c.args.from.now)) = grind (arith, nat_tests) in
    record {
      shows = write_shows start fails calls c.args.at c.args.from.now calls' old new made disk.shows;
      sound = write_sound start fails calls c.args.at c.args.from.now calls' new_bytes grown disk.sound;
      placed = grown_placed start fails calls (Write c.args.at c.args.from.now) calls' is grown disk.placed;
      marked = grown_marked start fails calls (Write c.args.at c.args.from.now) calls' (numbers disk.moments.marks) _ c.len.result (ap numbers c.after-self.ensures) (search rules) grown disk.marked;
    }

pub returns-clause-time : goal.returns-clause-time
returns-clause-time c =
    let disk = c.args.self.now in
    let start = disk.start.items in
    let fails = disk.fails.items in
    let calls = disk.calls.items in
    let calls' = c.note_write-outcome.new.calls.items in
    let made = rw (c.deref-2.ensures.value, c.deref.ensures.value) at c.note_write-outcome.ensures.made in
    let grown = written_grown start fails calls c.args.at c.args.from.now calls' (shown start disk.changed) (shown start c.note_write-outcome.new.changed) made in
    let mark : c.len.result ≡ length calls = search rules in
    elapses start fails calls (numbers disk.moments.marks) start fails calls' (numbers c.after-self.result.marks) (Write c.args.at c.args.from.now) refl refl
    (ap numbers c.after-self.ensures ∙ (λ i. mark i ∷ numbers disk.moments.marks)) grown disk.marked

pub returns-clause-made : goal.returns-clause-made
returns-clause-made c = ap made_in c.after-self.ensures
