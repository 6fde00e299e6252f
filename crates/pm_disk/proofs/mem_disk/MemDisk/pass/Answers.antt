use Rattle.std.proofs.Common.{◌≡◌, ◌∷◌, length, ap, refl, ◌∙◌, sym, rules}
use Rattle.pm_disk.specs.Made.{numbers, made_in}
use Rattle.pm_disk.proofs.Steps.{quiet_same, quiet_sound, quiet_placed, grown_placed, grown_marked}
use Rattle.pm_disk.proofs.DiskSteps.{elapses, look_images}
use Rattle.pm_disk.proofs.mem_disk.MemDisk.pass.Goals as goal

pub invariant_of-self : goal.invariant_of-self
invariant_of-self c =
    let disk = c.args.self.now in
    let grown = c.note-outcome.ensures.grown in
    record {
      shows = disk.shows ∙ sym (quiet_same disk.start.items disk.fails.items disk.calls.items c.args.call _ c.requires grown);
      sound = quiet_sound disk.start.items disk.fails.items disk.calls.items c.args.call _ c.requires grown disk.sound;
      placed = grown_placed disk.start.items disk.fails.items disk.calls.items c.args.call _ (quiet_placed c.args.call c.requires) grown disk.placed;
      marked = grown_marked disk.start.items disk.fails.items disk.calls.items c.args.call _ (numbers disk.moments.marks) _ c.len.result (ap numbers c.after-self.ensures) (search rules) grown disk.marked;
    }

pub returns-clause-contents : goal.returns-clause-contents
returns-clause-contents c =
    let disk = c.args.self.now in
    quiet_same disk.start.items disk.fails.items disk.calls.items c.args.call _ c.requires c.note-outcome.ensures.grown

pub returns-clause-looks : goal.returns-clause-looks
returns-clause-looks c look =
    let disk = c.args.self.now in
    look_images disk.start.items disk.fails.items disk.calls.items c.note-outcome.new.calls.items c.args.call c.note-outcome.ensures.grown look

pub returns-clause-time : goal.returns-clause-time
returns-clause-time c =
    let disk = c.args.self.now in
    let mark : c.len.result ≡ length disk.calls.items = search rules in
    elapses disk.start.items disk.fails.items disk.calls.items (numbers disk.moments.marks) disk.start.items disk.fails.items c.note-outcome.new.calls.items (numbers c.after-self.result.marks) c.args.call refl refl
    (ap numbers c.after-self.ensures ∙ (λ i. mark i ∷ numbers disk.moments.marks)) c.note-outcome.ensures.grown disk.marked

pub returns-clause-made : goal.returns-clause-made
returns-clause-made c = ap made_in c.after-self.ensures
