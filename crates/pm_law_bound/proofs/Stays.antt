-- A watch keeps its bound where an event or a command keeps rank and sunk sets.
use Rattle.std.proofs.Common.{◌≡◌, ◌⊎◌, inl, inr, ⊎_elim, ◌+◌, ◌-◌, ◌<◌, ◌≤◌, List, ◌++◌, take, sym, subst, arith}
use Rattle.std.proofs.lemmas.List.{length-append, take-append-le}
use Rattle.std.proofs.lemmas.Bool.{cases_lt}
use Rattle.pm_types.specs.declared.entry.Entry.{Entry}
use Rattle.pm_types.specs.declared.event.Watch.{Watch}
use Rattle.pm_model.specs.World.{World}
use Rattle.pm_model.specs.Journal.{after}
use Rattle.pm_view.specs.View.{SpaceView}
use Rattle.pm_view.specs.Represents.{Represents}
use Rattle.pm_view.specs.Ranking.{rank}
use Rattle.pm_view.specs.Sinking.{Sunk, IsLost}
use Rattle.pm_view.specs.Bounded.{KeepsRank, KeepsSunk, CountsOne, KeepsBound}

module _ (start : World) (journal more : List Entry) (old new : SpaceView) (watch : Watch) (is : KeepsBound start journal old watch) (ranks : KeepsRank old new) (sinks : KeepsSunk old new) (counts : CountsOne old new) where
  below : (old.completed - watch.completed + rank old watch.youngest watch.objects < watch.bound) → (old.completed < new.completed) ⊎ (new.completed ≤ old.completed)
      → (rank new watch.youngest watch.objects ≡ 0) ⊎ (new.completed - watch.completed + rank new watch.youngest watch.objects < watch.bound)
  below less (inr same) = inr (let no_more = ranks.no_more watch.youngest watch.objects is.fits in let since = is.since in let one = counts.0 in omega (arith, less, same, no_more, since, one))
  below less (inl rose) =
      ⊎_elim (λ zero. inl (let no_more = ranks.no_more watch.youngest watch.objects is.fits in omega (arith, zero, no_more)))
      (λ fell. inr (let since = is.since in let one = counts.1 in omega (arith, less, rose, fell, since, one)))
      (ranks.falls watch.youngest watch.objects is.fits rose)

  pub stays_bounded : KeepsBound start (journal ++ more) new watch
  stays_bounded = record {
    noted = let long = length-append journal more in let was = is.noted in omega (arith, long, was);
    since = let was = is.since in let up = counts.0 in omega (arith, was, up);
    set = record {
      view = is.set.view;
      lawful = is.set.lawful;
      stood = subst (λ entries. Represents is.set.view (after start entries)) (sym (take-append-le watch.position journal more is.noted)) is.set.stood;
      is = is.set.is;
    };
    fits = ranks.fits watch.youngest watch.objects is.fits;
    falls = ⊎_elim (λ zero. inl (let no_more = ranks.no_more watch.youngest watch.objects is.fits in omega (arith, zero, no_more))) (λ less. below less (cases_lt old.completed new.completed)) is.falls;
    sunk =
        subst (λ entries. Sunk new (IsLost (after start entries)) watch.youngest) (sym (take-append-le watch.position journal more is.noted))
        (sinks.lost (after start (take watch.position journal)) watch.youngest is.sunk);
  }
