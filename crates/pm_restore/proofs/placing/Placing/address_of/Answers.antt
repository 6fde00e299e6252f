use Rattle.std.proofs.Common.{arith}
use Rattle.pm_restore.proofs.SearchLemmas.{place_within}
use Rattle.pm_restore.proofs.placing.Placing.address_of.Goals as goal

pub address-requires-clause-there : goal.address-requires-clause-there
address-requires-clause-there c = let inside = place_within c.args.dump.now.objects c.args.id c.requires.listed in omega (arith, inside, c.place_of_id.ensures)
