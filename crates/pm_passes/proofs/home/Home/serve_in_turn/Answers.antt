use Rattle.std.proofs.Common.{sym, inl}
use Rattle.pm_passes.proofs.home.Home.serve_in_turn.Goals as goal

pub serve_held-requires-clause-drawn : goal.serve_held-requires-clause-drawn
serve_held-requires-clause-drawn g c = c.take_out-hold.ensures.sees.drawn c.args.number (inl (sym c.requires.number))
