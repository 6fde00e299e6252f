use Rattle.pm_shadow.specs.Pages.{state, disk_of}
use Rattle.pm_ship.specs.Stores.{offered}
use Rattle.pm_ship.proofs.OfferedLemmas.{read_may, read_offered}
use Rattle.pm_ship.proofs.ShipLemmas.{first_most, first_shipped, first_sound, offered_either, uncalled_either, uncalled_most, uncalled_spared}
use Rattle.pm_ship.proofs.shipping.ship.Goals as goal

pub ship_read-requires-clause-may : goal.ship_read-requires-clause-may
ship_read-requires-clause-may g c =
    read_may (state c.args.from.now) (g.D.Disk.contents (disk_of c.args.from.now)) c.in-Ok.first c.in-Ok.ensures.read
    c.keep_their_header.ensures.spelled.some c.keep_their_header.ensures.spelled.last

pub returns-in-Ok-clause-shipped : goal.returns-in-Ok-clause-shipped
returns-in-Ok-clause-shipped g c =
    first_shipped c.args.from.now (offered c.in-Ok.first) (read_offered (state c.args.from.now) (g.D.Disk.contents (disk_of c.args.from.now)) c.in-Ok.first c.in-Ok.ensures.read)
    c.args.to.now c.ship_read.new.to c.ship_read.result c.ship_read.ensures.shipped

pub returns-in-Ok-clause-fault : goal.returns-in-Ok-clause-fault
returns-in-Ok-clause-fault g c =
    first_sound c.args.from.now (offered c.in-Ok.first) (read_offered (state c.args.from.now) (g.D.Disk.contents (disk_of c.args.from.now)) c.in-Ok.first c.in-Ok.ensures.read)
    c.args.to.now c.ship_read.new.to c.ship_read.result c.ship_read.ensures.fault

pub returns-in-Ok-clause-images : goal.returns-in-Ok-clause-images
returns-in-Ok-clause-images g c =
    offered_either c.args.from.now (offered c.in-Ok.first) c.args.to.now c.ship_read.new.to
    (read_offered (state c.args.from.now) (g.D.Disk.contents (disk_of c.args.from.now)) c.in-Ok.first c.in-Ok.ensures.read) c.ship_read.ensures.leaves.leaves

pub returns-in-Err-clause-images : goal.returns-in-Err-clause-images
returns-in-Err-clause-images g c =
    uncalled_either c.args.from.now c.args.to.now c.requires.ready.sound (λ left now. g.met.E.Disk.only_now (disk_of c.args.to.now) left now)

pub returns-in-Err-clause-spares : goal.returns-in-Err-clause-spares
returns-in-Err-clause-spares g c =
    uncalled_spared c.args.to.now c.of_first.result c.requires.ready.sound (λ left now. g.met.E.Disk.only_now (disk_of c.args.to.now) left now)

pub returns-in-Ok-clause-most : goal.returns-in-Ok-clause-most
returns-in-Ok-clause-most g c =
    first_most c.args.from.now (offered c.in-Ok.first) c.args.to.now c.ship_read.new.to
    (read_offered (state c.args.from.now) (g.D.Disk.contents (disk_of c.args.from.now)) c.in-Ok.first c.in-Ok.ensures.read) c.ship_read.ensures.leaves.most

pub returns-in-Err-clause-most : goal.returns-in-Err-clause-most
returns-in-Err-clause-most g c = uncalled_most c.args.from.now c.args.to.now (λ left now. g.met.E.Disk.only_now (disk_of c.args.to.now) left now)
