use Rattle.std.proofs.Common.{not, ap, ◌∙◌, string_bytes}
use Rattle.pm_file.proofs.Times.{itself, rests, opened, opened_left}
use Rattle.pm_file.proofs.file_disk.FileDisk.reach.Goals as goal
use Rattle.pm_file.proofs.file_disk.FileDisk.reach.Goals.{then-is_none+in-Ok+in-Some-1, then-is_none+in-Ok+in-None-1, else-is_none}

pub returns-in-Err-clause-since : goal.returns-in-Err-clause-since
returns-in-Err-clause-since g c = rests _ _ _ c.args.self.now.file (c.hold.ensures.leaves (string_bytes c.args.self.now.path))

pub returns-clause-images : goal.returns-clause-images
returns-clause-images g c =
    elim c.if-is_none.branch [
      | then-is_none+in-Ok+in-Some-1 w ↦ rw (w.self-is) (opened_left _ _ (λ _. Unit {0}) c.args.self.now.file w.in-Ok.held (c.is_none.ensures ∙ ap not w.if-is_none.true) (rw (w.as_str.ensures.value) at w.in-Ok.ensures.images))
      | then-is_none+in-Ok+in-None-1 w ↦ rw (w.self-is) (opened_left _ _ (λ _. Unit {0}) c.args.self.now.file w.in-Ok.held (c.is_none.ensures ∙ ap not w.if-is_none.true) (rw (w.as_str.ensures.value) at w.in-Ok.ensures.images))
      | else-is_none w ↦ rw (w.self-is) (itself _)
    ]

pub returns-clause-since : goal.returns-clause-since
returns-clause-since g c =
    elim c.if-is_none.branch [
      | then-is_none+in-Ok+in-Some-1 w ↦ rw (w.self-is) (opened _ _ (λ _. Unit {0}) c.args.self.now.file w.in-Ok.held (c.is_none.ensures ∙ ap not w.if-is_none.true) (rw (w.as_str.ensures.value) at w.in-Ok.ensures.since))
      | then-is_none+in-Ok+in-None-1 w ↦ rw (w.self-is) (opened _ _ (λ _. Unit {0}) c.args.self.now.file w.in-Ok.held (c.is_none.ensures ∙ ap not w.if-is_none.true) (rw (w.as_str.ensures.value) at w.in-Ok.ensures.since))
      | else-is_none w ↦ rw (w.self-is) (λ calls. itself _)
    ]
