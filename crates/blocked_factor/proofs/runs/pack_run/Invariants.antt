-- `blocked_factor::runs::pack_run` meets its contract. The invariant: the first k columns are packed. Assumes nothing.
use Prim.Native.Nat.{◌≤◌}
use mathlib.Core.Path.{◌≡◌}
use lib.ListN.{length}
use Rattle.shape.specs.Places.{block_of}
use Rattle.blocked_factor.specs.Runs.{RunPacked}
use Rattle.blocked_factor.proofs.runs.pack_run.Given as goal

abbrev pub invariant-loop-k : goal.invariant-loop-k
invariant-loop-k l =
    (l.k ≤ l.run.columns)
    × (block_of l.run.block l.k ≡ l.k)
    × (length l.panel ≡ length l.initial.panel)
    × RunPacked l.panel l.lanes l.m l.run.start l.run.order l.run.block l.i l.k l.g
