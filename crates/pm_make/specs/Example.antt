-- The script of one turn from seed 1.
use Rattle.std.specs.Prelude.{ℕ, List, ◌++◌, codes}

abbrev pub one_turn : List ℕ
one_turn = codes "0 new 1 4 1c59\n0 store 1 3 25\n! gc 3\n" ++ codes "0 save\n0 settle\n0 watch\n0 close\n! gc 1000\n"
