use Rattle.pm_image.specs.Blank.{blank_store}
use Rattle.pm_shadow.proofs.NewLemmas.{blank_told}
use Rattle.pm_shadow.proofs.making.make.Goals as goal

pub returns-in-Ok-Ok-clause-blank : goal.returns-in-Ok-Ok-clause-blank
returns-in-Ok-Ok-clause-blank g c =
    let d = g.D.Disk in
    let blank = rw c.in-Ok-Ok.field-0-is at c.in-Ok-Ok.ensures.blank in
    let untold = rw c.in-Ok-Ok.field-0-is at c.in-Ok-Ok.ensures.untold in
    blank_told (d.contents c.args.disk.now) (d.contents c.write_store.new.disk) blank_store c.requires blank untold

pub returns-in-Ok-Ok-clause-order : goal.returns-in-Ok-Ok-clause-order
returns-in-Ok-Ok-clause-order g c bytes told = c.in-Ok-Ok.ensures.order bytes told (c.requires bytes told)

pub returns-in-Ok-Err-clause-order : goal.returns-in-Ok-Err-clause-order
returns-in-Ok-Err-clause-order g c bytes told = c.in-Ok-Err.ensures.order bytes told (c.requires bytes told)
