-- How a pivot is judged: to its root, and whether that is exact, where it is greater than zero, else to its refused value.
use Rattle.std.specs.Prelude.{Bool, false, cond, Float}
use Rattle.binary64.specs.Kinds.{positive}
use Rattle.binary64.specs.Root.{root, exact}
use Rattle.binary64.specs.declared.Pivot.{Pivot}
use Rattle.binary64.specs.declared.Pivot.TheVariants.{Root, Refused}

unfoldable pub judged : Float → Pivot
judged x = cond (positive x) (Root (root x) (exact x)) (Refused x)

-- a refused pivot has no root, so none that is exact
abbrev pub exact_root : Pivot → Bool
exact_root (Root r e) = e
exact_root (Refused v) = false
