use Rattle.std.proofs.Common.{◌≡◌, ◌<◌, Err, sym, subst}
use Rattle.pm_layout.specs.declared.header.Header.{Header}
use Rattle.pm_shadow.specs.Pages.{state, disk_of}
use Rattle.pm_ship.specs.declared.fault.ShipFault.{ShipFault}
use Rattle.pm_ship.specs.declared.fault.ShipFault.TheVariants.{Ahead, Foreign}
use Rattle.pm_ship.specs.SameLists.{HaveSameCopy}
use Rattle.pm_ship.specs.Stores.{offered}
use Rattle.pm_ship.specs.Shipped.{IsStandbyFault, LeavesStandby}
use Rattle.pm_ship.proofs.OfferedLemmas.{standby_differs}
use Rattle.pm_ship.proofs.ShipLemmas.{ahead_leaves, foreign_leaves, got_each, had_it, refused_leaves, same_leaves, standby_ahead, standby_foreign, standby_refused, written_leaves}
use Rattle.pm_ship.proofs.shipping.ship_read.Goals as goal

pub returns-in-Err-clause-fault : goal.returns-in-Err-clause-fault
returns-in-Err-clause-fault g c =
    subst (λ (fault : ShipFault). IsStandbyFault (offered c.args.first) (state c.args.to.now) (g.E.Disk.contents (disk_of c.args.to.now)) fault) (sym c.of_standby.ensures)
    (standby_refused (offered c.args.first) (state c.args.to.now) (g.E.Disk.contents (disk_of c.args.to.now)) _ _ c.in-Err.fault c.in-Err.ensures.fault c.in-Err.ensures.cause)

pub returns-in-Err-clause-leaves : goal.returns-in-Err-clause-leaves
returns-in-Err-clause-leaves g c =
    subst (λ (fault : ShipFault). LeavesStandby (offered c.args.first) c.args.to.now c.read_standby.new.pages (Err fault)) (sym c.of_standby.ensures)
    (refused_leaves (offered c.args.first) c.args.to.now c.read_standby.new.pages c.in-Err.fault c.requires.ready c.read_standby.ensures.looks c.read_standby.ensures.made
    c.in-Err.ensures.state_err c.in-Err.ensures.cause)

pub write_copy-requires-clause-differ : goal.write_copy-requires-clause-differ
write_copy-requires-clause-differ g c =
    standby_differs (state c.args.to.now) (state c.read_standby.new.pages) (g.E.Disk.contents (disk_of c.args.to.now)) c.in-Ok.standby c.in-Ok.ensures.read
    c.keep_their_header.ensures.spelled.some c.keep_their_header.ensures.spelled.last

pub returns-in-Earlier-clause-shipped : goal.returns-in-Earlier-clause-shipped
returns-in-Earlier-clause-shipped g c =
    got_each c.args.first c.in-Ok.standby c.args.to.now c.read_standby.new.pages c.in-Ok.ensures.read c.read_standby.ensures.looks c.read_standby.ensures.made
    (subst (λ (h : Header). h.epoch < c.args.first.epoch) c.header.ensures c.in-Earlier.ensures) c.write_copy.new.to c.write_copy.result c.write_copy.ensures.laid

pub returns-in-Earlier-clause-leaves : goal.returns-in-Earlier-clause-leaves
returns-in-Earlier-clause-leaves g c =
    written_leaves (offered c.args.first) c.in-Ok.standby c.args.to.now c.read_standby.new.pages c.requires.ready c.in-Ok.ensures.read c.read_standby.ensures.looks c.read_standby.ensures.made
    c.in-Ok.ensures.count c.write_copy.new.to c.write_copy.result c.write_copy.ensures.leaves c.write_copy.ensures.fault c.write_copy.ensures.laid
    (subst (λ (h : Header). h.epoch < c.args.first.epoch) c.header.ensures c.in-Earlier.ensures) c.write_copy.ensures.most

pub returns-in-Same-clause-shipped : goal.returns-in-Same-clause-shipped
returns-in-Same-clause-shipped g c =
    had_it c.args.first c.in-Ok.standby c.args.to.now c.read_standby.new.pages c.in-Ok.ensures.read c.read_standby.ensures.looks c.read_standby.ensures.made
    (subst (λ (h : Header). h.epoch ≡ c.args.first.epoch) c.header.ensures c.in-Same.ensures.0)
    (subst (λ (h : Header). HaveSameCopy c.args.first c.in-Ok.standby h) c.header.ensures c.in-Same.ensures.1)

pub returns-in-Same-clause-leaves : goal.returns-in-Same-clause-leaves
returns-in-Same-clause-leaves g c =
    same_leaves (offered c.args.first) c.in-Ok.standby c.args.to.now c.read_standby.new.pages c.requires.ready c.in-Ok.ensures.read c.read_standby.ensures.looks c.read_standby.ensures.made
    c.in-Ok.ensures.count (record { epoch = c.args.first.epoch; written = 0 })

pub returns-in-Foreign-clause-fault : goal.returns-in-Foreign-clause-fault
returns-in-Foreign-clause-fault g c =
    subst (λ (h : Header). IsStandbyFault (offered c.args.first) (state c.args.to.now) (g.E.Disk.contents (disk_of c.args.to.now)) (Foreign h.epoch)) (sym c.header.ensures)
    (standby_foreign c.args.first c.in-Ok.standby (state c.args.to.now) (state c.read_standby.new.pages) (g.E.Disk.contents (disk_of c.args.to.now)) c.in-Ok.ensures.read c.requires.may.paired
    (subst (λ (h : Header). h.epoch ≡ c.args.first.epoch) c.header.ensures c.in-Foreign.ensures.0)
    (subst (λ (h : Header). HaveSameCopy c.args.first c.in-Ok.standby h → ⊥) c.header.ensures c.in-Foreign.ensures.1))

pub returns-in-Foreign-clause-leaves : goal.returns-in-Foreign-clause-leaves
returns-in-Foreign-clause-leaves g c =
    foreign_leaves (offered c.args.first) c.in-Ok.standby c.args.to.now c.read_standby.new.pages c.requires.ready c.in-Ok.ensures.read c.read_standby.ensures.looks c.read_standby.ensures.made
    c.in-Ok.ensures.count c.header.result.now.epoch

pub returns-in-Later-clause-fault : goal.returns-in-Later-clause-fault
returns-in-Later-clause-fault g c =
    subst (λ (h : Header). IsStandbyFault (offered c.args.first) (state c.args.to.now) (g.E.Disk.contents (disk_of c.args.to.now)) (Ahead h.epoch c.args.first.epoch)) (sym c.header.ensures)
    (standby_ahead c.args.first c.in-Ok.standby (state c.args.to.now) (state c.read_standby.new.pages) (g.E.Disk.contents (disk_of c.args.to.now)) c.in-Ok.ensures.read
    (subst (λ (h : Header). c.args.first.epoch < h.epoch) c.header.ensures c.in-Later.ensures))

pub returns-in-Later-clause-leaves : goal.returns-in-Later-clause-leaves
returns-in-Later-clause-leaves g c =
    ahead_leaves (offered c.args.first) c.in-Ok.standby c.args.to.now c.read_standby.new.pages c.requires.ready c.in-Ok.ensures.read c.read_standby.ensures.looks c.read_standby.ensures.made
    c.in-Ok.ensures.count c.header.result.now.epoch c.args.first.epoch
