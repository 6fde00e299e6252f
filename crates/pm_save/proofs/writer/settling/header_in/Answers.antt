use Rattle.pm_types.specs.declared.limits.TheConstants.{VERSION}
use Rattle.pm_save.proofs.writer.settling.header_in.Goals as goal

pub returns : goal.returns
returns c settled kept placed = λ i. record {
  version = VERSION;
  epoch = c.args.it.now.number;
  next = c.args.it.now.next_id;
  first = c.first_part.ensures settled kept placed i;
  digest = kept.digest i;
}
