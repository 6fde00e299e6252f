use Rattle.std.proofs.Common.{Some, ap, sym, subst, ◌∙◌, ◌<◌}
use Rattle.std.proofs.lemmas.Option.{slice_get-get_or}
use Rattle.pm_young.proofs.Listed.{search_finds, search_misses}
use Rattle.pm_young.proofs.escape.place_of.Goals as goal

pub unreachable-requires : goal.unreachable-requires
unreachable-requires c = search_misses c.args.ids.now c.args.id c.in-Err.field-0 c.requires.ascending c.requires.among c.in-Err.ensures.position

pub returns : goal.returns
returns c =
    let found = search_finds c.args.ids.now c.args.id c.in-Ok.at c.requires.ascending c.in-Ok.ensures.position in (
      c.in-Ok.at,
      slice_get-get_or c.args.ids.now c.in-Ok.at 0 found.0 ∙ ap Some found.1,
      slice_get-get_or c.args.places.now c.in-Ok.at _ (subst (λ n. c.in-Ok.at < n) (sym c.requires.as_many) found.0),
    )
