-- Runs of whole block columns, and the block columns from one on: they are blocked memory of their own. Assumes nothing.
use mathlib.Core.Path.{◌≡◌, sym, ap, ◌∙◌}
use Prim.Native.Nat.{ℕ, ◌+◌, ◌-◌, ◌*◌, ◌/◌, ◌≤◌, ◌<◌}
use native.Mathlib.Nat.{add_assoc, mul_assoc}
use native.Mathlib.Omega.{arith}
use Rattle.shape.specs.Places.{block_of, block_start, width, blocked_place}
use Rattle.shape.specs.Layouts.{Entry}
use Rattle.shape.proofs.Columns.{block_start_split}
use Rattle.shape.proofs.Blocks.{block_of_le, block_of_lt, block_of_first, block_of_block, block_of_inside, blocked_place_block}

-- ---- first columns

pub block_of_sum : (b c d : ℕ) → 0 < b → block_of b c ≡ c → block_of b d ≡ d → block_of b (c + d) ≡ c + d
unfolding block_of
block_of_sum b c d pos first second =
    let sum : b * (c / b + d / b) ≡ c + d = omega arith in
    rw sum at (block_of_first b (c / b + d / b) pos)

pub block_of_add : (b c s : ℕ) → 0 < b → block_of b c ≡ c → block_of b (c + s) ≡ c + block_of b s
block_of_add b c s pos first =
    let d : ℕ = block_of b s in
    let low : d ≤ s = block_of_le b s in
    let at : c + d + (s - d) ≡ c + s = omega arith in
    rw at at (block_of_inside b (c + d) (s - d) (block_of_sum b c d pos first (block_of_block b s pos)) (omega (arith, block_of_lt b s pos)))

-- a run of whole block columns begins with one of them
pub block_of_run : (b m c : ℕ) → 0 < b → block_of (block_of b m) c ≡ c → block_of b c ≡ c
unfolding block_of
block_of_run b m c pos first =
    let at : b * (m / b * (c / (b * (m / b)))) ≡ c = sym (mul_assoc b (m / b) (c / (b * (m / b)))) ∙ first in
    rw at at (block_of_first b (m / b * (c / (b * (m / b)))) pos)

-- ---- places

width_part : (n b c d : ℕ) → width n b (c + d) ≡ width (n - c) b d
unfolding width
width_part n b c d = omega arith

-- the block columns from column c on are those of a triangle of order n − c
pub blocked_place_from : (n b c r s : ℕ)
    → 0 < b
    → block_of b c ≡ c
    → Entry (n - c) r s
    → blocked_place n b (c + r) (c + s) ≡ block_start n c + blocked_place (n - c) b r s
blocked_place_from n b c r s pos first e =
    let d : ℕ = block_of b s in
    let low : d ≤ s = block_of_le b s in
    let row : c + r - (c + d) ≡ r - d = omega arith in
    let column : c + s - (c + d) ≡ s - d = omega arith in
    let inside : c + d ≤ n = omega (arith, e.lower, e.inside) in
    blocked_place_block n b (c + r) (c + s)
    ∙ rw (block_of_add b c s pos first, row, column, width_part n b c d, block_start_split n c d inside)
    (add_assoc (block_start n c) (block_start (n - c) d) _)
    ∙ ap (λ q. block_start n c + q) (sym (blocked_place_block (n - c) b r s))
