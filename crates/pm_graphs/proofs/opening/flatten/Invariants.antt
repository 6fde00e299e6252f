use Rattle.std.proofs.Common.{◌≡◌, ◌++◌}
use Rattle.std.specs.Vec.Iter.{into_iter_items}
use Rattle.pm_image.specs.Graphs.{entries_of}
use Rattle.pm_graphs.specs.Reading.{page_numbers}
use Rattle.pm_graphs.proofs.opening.flatten.Given as goal

abbrev pub invariant-loop-page : goal.invariant-loop-page
invariant-loop-page l = record {
  numbers_are : l.numbers.items ++ page_numbers (into_iter_items l.page-iterator) ≡ page_numbers l.fn.chain;
  entries_are : l.entries.items ++ entries_of (into_iter_items l.page-iterator) ≡ entries_of l.fn.chain;
}
