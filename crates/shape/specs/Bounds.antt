-- The bounds that document 01 sets to the order n, the block length b and the number m of right-hand sides.
use Rattle.std.specs.Prelude.{ℕ}

abbrev pub max_order : ℕ
max_order = 4000

abbrev pub max_block : ℕ
max_block = 200

abbrev pub max_rhs : ℕ
max_rhs = 1000
