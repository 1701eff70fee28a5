-- `checks::quarters_finite` meets its contract. Assumes nothing.
use Prim.Native.Nat.{ℕ, ◌*◌, ◌≤◌}
use mathlib.Core.Path.{◌≡◌}
use mathlib.Core.Bool.{Bool, ◌&&◌}
use mathlib.Core.List.{List}
use lib.ListN.{take, drop}
use lib.Ieee.{Float}
use Rattle.binary64.specs.Kinds.{finite}
use Rattle.calls.specs.Sequences.{all}
use Rattle.checks.proofs.quarters_finite.Given as goal

abbrev pub side_by_side : List Float → ℕ → ℕ → Bool
side_by_side values quarter k =
    all finite (take k values)
    && (all finite (take k (drop quarter values)) && (all finite (take k (drop (2 * quarter) values)) && all finite (take k (drop (3 * quarter) values))))

abbrev pub invariant-loop-k : goal.invariant-loop-k
invariant-loop-k l = (l.k ≤ l.quarter) × (l.passed ≡ side_by_side l.values l.quarter l.k)
