use Rattle.std.proofs.Common.{inl, inr}
use Rattle.pm_ship.proofs.disks.tell_first.Goals as goal

pub returns : goal.returns
returns g c =
    let read = c.in_default-read_store.ensures.read in
    record {
      told = inl (c.of_standby.ensures, c.in_default-read_store.ensures.count, inr (λ bytes told. (record { catalog = read.catalog; cars = c.in_default-read_store.field-0.0.cars }, read.found bytes told)));
      looked = c.read_store.ensures.looked;
    }
