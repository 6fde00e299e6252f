use Rattle.std.proofs.Common.{◌≡◌, Bool, true, false, not, refl}
use Rattle.std.specs.Str.{bytes_eq}
use Rattle.pm_graphs.specs.Reading.{store_of}
use Rattle.pm_graphs.proofs.ReadLaws.{other_digest}
use Rattle.pm_graphs.proofs.reading.read_kept.Goals as goal

not_true : (b r : Bool) → r ≡ true → r ≡ not b → b ≡ false
not_true true r h is = cc
not_true false r h is = refl

pub returns-then-ne-clause-gives : goal.returns-then-ne-clause-gives
returns-then-ne-clause-gives g c bytes told =
    other_digest (store_of c.args.pages.now.count bytes) c.args.page c.args.kept.now c.read_page.new.into c.digest-found.result (c.in_ok-read_page.ensures.read bytes told) c.digest-found.ensures
    (not_true (bytes_eq c.args.kept.now c.digest-found.result) c.ne.result c.if-ne.true c.ne.ensures)
