-- The rules on the values of a memory, by the kind of values.
use Rattle.std.specs.Prelude.{ℕ}
use Rattle.checks.specs.declared.rules.Values.{Values}
use Rattle.checks.specs.declared.rules.Values.TheVariants.{Matrix, Rhs}

abbrev pub finite_code : Values → ℕ
finite_code Matrix = 7
finite_code Rhs = 8
