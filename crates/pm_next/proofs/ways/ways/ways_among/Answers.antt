use Rattle.std.proofs.Common.{true, false, refl, sym, ap, ◌∙◌, ◌++◌, ◌∷◌, []}
use Rattle.std.specs.Ordering.{nat_cmp}
use Rattle.std.specs.BTreeSet as sorted
use Rattle.pm_trains.specs.Trains.{is_among, youngest}
use Rattle.pm_space.specs.Shown.{view}
use Rattle.pm_next.proofs.WaysLemmas.Choices.{naming_is, ways_are}
use Rattle.pm_next.proofs.WaysLemmas.Homes.{keys_are}
use Rattle.pm_next.proofs.ways.ways.ways_among.Goals as goal

pub naming-requires : goal.naming-requires
naming-requires g c = record { trains = c.requires.built.linked; sets = c.requires.built.sets }

pub returns-then-not-has_bare : goal.returns-then-not-has_bare
returns-then-not-has_bare g c = λ at given.
    let v = view c.args.parts.now in
    let naming = c.in_ok-ways.ensures.items ∙ keys_are v.trains.trains c.requires.built.trains.rising c.args.train c.args.sources.now c.in_ok-trains.trains c.in_ok-ways.ensures.ordered c.in_ok-trains.ensures
    ∙ naming_is v c.requires c.args.train at c.args.sources.now given (sorted.contains nat_cmp c.in_ok-trains.trains) c.in_ok-trains.ensures in
    ways_are v c.requires c.args.train at c.args.sources.now given c.in_ok-ways.ways.items false (is_among (youngest v.trains.trains) c.in_ok-ways.ways.items) naming (sym c.if-not-has_bare.true ∙ c.has_bare.ensures) refl

pub returns-then-is_listed : goal.returns-then-is_listed
returns-then-is_listed g c = λ at given.
    let v = view c.args.parts.now in
    let naming = c.in_ok-ways.ensures.items ∙ keys_are v.trains.trains c.requires.built.trains.rising c.args.train c.args.sources.now c.in_ok-trains.trains c.in_ok-ways.ensures.ordered c.in_ok-trains.ensures
    ∙ naming_is v c.requires c.args.train at c.args.sources.now given (sorted.contains nat_cmp c.in_ok-trains.trains) c.in_ok-trains.ensures in
    ways_are v c.requires c.args.train at c.args.sources.now given c.in_ok-ways.ways.items true true naming (sym c.if-not-has_bare.false ∙ c.has_bare.ensures)
    (sym c.if-is_listed.true ∙ c.is_listed.ensures ∙ ap (is_among c.youngest-open_train.result) c.deref.ensures.value ∙ ap (λ n. is_among n c.in_ok-ways.ways.items) c.youngest-open_train.ensures.train)

pub returns : goal.returns
returns g c = λ at given.
    let v = view c.args.parts.now in
    let naming = c.in_ok-ways.ensures.items ∙ keys_are v.trains.trains c.requires.built.trains.rising c.args.train c.args.sources.now c.in_ok-trains.trains c.in_ok-ways.ensures.ordered c.in_ok-trains.ensures
    ∙ naming_is v c.requires c.args.train at c.args.sources.now given (sorted.contains nat_cmp c.in_ok-trains.trains) c.in_ok-trains.ensures in
    c.in_ok-push.ensures.items ∙ ap (λ n. c.in_ok-ways.ways.items ++ n ∷ []) c.youngest-open_train.ensures.train
    ∙ ways_are v c.requires c.args.train at c.args.sources.now given c.in_ok-ways.ways.items true false naming (sym c.if-not-has_bare.false ∙ c.has_bare.ensures)
    (sym c.if-is_listed.false ∙ c.is_listed.ensures ∙ ap (is_among c.youngest-open_train.result) c.deref.ensures.value ∙ ap (λ n. is_among n c.in_ok-ways.ways.items) c.youngest-open_train.ensures.train)
