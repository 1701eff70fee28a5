-- `blocked_factor::factor_blocks` meets its contract. The invariant: the block columns before column c are finished. Assumes nothing.
use Prim.Native.Nat.{◌≤◌}
use mathlib.Core.Path.{◌≡◌}
use lib.ListN.{length}
use Rattle.shape.specs.Places.{block_of}
use Rattle.std.specs.Prelude.{Ok}
use Rattle.calls.specs.Outcomes.{judgement_of}
use Rattle.blocked_factor.proofs.BlockLoop.{Reached}
use Rattle.blocked_factor.proofs.factor_blocks.Given as goal

abbrev pub invariant-loop-c : goal.invariant-loop-c
invariant-loop-c l =
    (l.c ≤ l.shape.order)
    × (block_of l.shape.block l.c ≡ l.c)
    × (length l.work ≡ length l.initial.work)
    × Reached l.shape.order l.shape.block l.initial.m l.c (judgement_of (Ok l.exact)) l.m
