use Rattle.std.proofs.Common.{◌∙◌, ap, arith}
use Rattle.std.proofs.lemmas.List.{length_push}
use Rattle.pm_disk.specs.Writes.{written}
use Rattle.pm_disk.proofs.CrashLemmas.{image_more}
use Rattle.pm_disk.proofs.crash.Crashed.write.Goals as goal

pub returns-clause-follows : goal.returns-clause-follows
returns-clause-follows c held follows = record {
  contents = c.in_ok-overwrite.ensures.ok ∙ ap (written c.args.at c.args.bytes.now) follows.contents;
  image = c.in_ok-overwrite_if.ensures
      ∙ image_more c.args.pick c.args.self.now.writes c.args.at c.args.bytes.now held.changes held.synced c.args.self.now.image.items c.is_kept.result follows.writes follows.image c.is_kept.ensures;
  writes = omega (arith, follows.writes, length_push held.changes (c.args.at, c.args.bytes.now));
}
