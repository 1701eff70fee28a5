-- A block column's turn in each substitution on blocked memory. Assumes nothing.
use Prim.Native.Nat.{ℕ, suc, ◌+◌, ◌-◌, ◌*◌, ◌≤◌, ◌<◌, min}
use native.Mathlib.Nat.{suc-mul, mul_comm, mul-le-mul_right}
use native.Mathlib.Omega.{arith}
use native.Mathlib.Decide.{dec_lt}
use mathlib.Core.Path.{◌≡◌, refl, sym, ap, ◌∙◌}
use mathlib.Core.Logic.{inl, inr}
use mathlib.Core.List.{List}
use lib.ListN.{length, drop}
use Rattle.std.proofs.lemmas.List.{take_rest}
use Rattle.std.specs.Int.{div_ceil}
use Rattle.std.proofs.lemmas.Grind.{div_ceil_times}
use lib.Ieee.{Float}
use Rattle.shape.specs.Places.{triangle, block_of, block_start, width, blocked_place}
use Rattle.shape.proofs.Bounds.{block_start_le}
use Rattle.shape.proofs.Columns.{block_start_split}
use Rattle.shape.proofs.Parts.{starts_mono}
use Rattle.shape.proofs.Rows.{row_length, block_start_rows}
use Rattle.shape.proofs.Blocks.{block_of_le, block_of_first, block_of_block, block_before, width_le, width_le_block, first_next}
use Rattle.calls.specs.Triangles.{Triangle, entry, load_from}
use Rattle.calls.specs.Arithmetic.{forward, backward}
use Rattle.calls.proofs.Trailing.{trailing_entry}
use Rattle.solve.specs.declared.block_column.BlockColumn.{BlockColumn}
use Rattle.solve.specs.declared.blocked.Blocked.{Blocked}
use Rattle.solve.specs.Parts.{block_entries, blocked_factor, EndsBlock, TrailingOf}
use Rattle.solve.specs.Substitution.{ForwardDone, BackwardDone}
use Rattle.solve.proofs.Factors.{block_agrees_from, blocked_trailing, trailing_again}
use Rattle.solve.proofs.Substitution.{ForwardTo, forward_start, forward_end, BackwardTo, backward_start, backward_end, lent, returned, forward_lent, backward_lent, forward_first, backward_first, forward_rest, backward_rest}

-- a block column's values end inside the triangle
block_room : (n c w : ℕ) → c + w ≤ n → block_start n c + block_start (n - c) w ≤ triangle n
block_room n c w fits = omega (arith, block_start_split n c w fits, block_start_le n (c + w) fits)

-- a block column that begins in them ends in them
pub block_fits : (n b rows c : ℕ) → rows ≤ n → EndsBlock n b rows → block_of b c ≡ c → c < rows → c + width n b c ≤ rows
block_fits n b rows c le (inl all) first h = omega (arith, width_le n b c)
block_fits n b rows c le (inr last) first h = omega (arith, width_le_block n b c, block_before b c rows first last h)

-- its values up to the last of these rows
pub block_rows_room : (n rows c w : ℕ) → rows ≤ n → c + w ≤ rows → block_start n c + block_start (rows - c) w ≤ triangle n
block_rows_room n rows c w le fits =
    omega (
      arith,
      block_room n c w (omega arith),
      block_start_rows (rows - c) w (omega arith),
      block_start_rows (n - c) w (omega arith),
      starts_mono (row_length w) (rows - c) (n - c) (omega arith),
    )

-- block column q begins at q · b, one of those that the rows have
pub column_first : (q b : ℕ) → 0 < b → block_of b (q * b) ≡ q * b
column_first q b pos = ap (block_of b) (mul_comm q b) ∙ block_of_first b q pos ∙ mul_comm b q

pub column_before : (q b rows : ℕ) → 0 < b → 0 < q → q ≤ div_ceil rows b → ((q - 1) * b < rows) × (q * b ≡ (q - 1) * b + b)
column_before q b rows pos some le =
    let back : suc (q - 1) ≡ q = omega arith in
    let next : q * b ≡ (q - 1) * b + b = ap (λ k. k * b) (sym back) ∙ suc-mul (q - 1) b in
    (omega (arith, next, mul-le-mul_right {m = q} {n = div_ceil rows b} b le, div_ceil_times rows b pos), next)

-- ---- the columns from column c on, the first of a block column or n

pub trailing_factor :
    (f part : Blocked) (c : ℕ) → c ≤ f.shape.order → EndsBlock f.shape.order f.shape.block c →
    (part.shape.order ≡ f.shape.order - c) × (part.shape.block ≡ f.shape.block) × (part.matrix.now ≡ drop (block_start f.shape.order c) f.matrix.now) →
    blocked_factor part ≡ load_from c (blocked_place f.shape.order f.shape.block) f.shape.order f.matrix.now
trailing_factor f part c le ends is =
    rw (is.0, is.1, is.2 ∙ sym (take_rest f.matrix.now (block_start f.shape.order c)))
    (blocked_trailing f.shape.order c (block_start f.shape.order c) f.matrix.now le f.values refl f.shape.block f.block ends)

-- ---- what is left, from column k on, of the block column that holds it, with the rows before `rows`

module _ (f : Blocked) (rows k : ℕ) (block : BlockColumn) (le : rows ≤ f.shape.order) (inside : k < rows) (held : TrailingOf f rows k block) where
  abbrev n : ℕ
  n = f.shape.order

  abbrev b : ℕ
  b = f.shape.block

  abbrev first : ℕ
  first = block_of b k

  -- it ends with the rows or before
  pub trailing_fits : k + block.w ≤ rows
  trailing_fits = omega (arith, block.fits, held.h)

  -- where a block column begins, or with the rows
  pub trailing_ends : rows ≡ n → EndsBlock n b (k + block.w)
  trailing_ends all =
      let end : k + block.w ≡ first + width n b first = omega (arith, held.skip, held.w) in
      elim (dec_lt (k + block.w) n) [
        | yes before ↦ inr (rw end (first_next n b first f.block (block_of_block b k f.block) (omega arith)))
        | no after ↦ inl (omega (arith, trailing_fits))
      ]

  room : block_start (n - first) (width n b first) ≤ length f.matrix.now - block_start n first
  room = omega (arith, f.values, block_room n first (width n b first) (omega (arith, width_le n b first, block_of_le b k)))

  agrees : (r s : ℕ) → s < block.w → s ≤ r → k + r < n → block_entries block r s ≡ entry (blocked_factor f) (k + r) (k + s)
  agrees =
      block_agrees_from n first f.matrix.now b k (length f.matrix.now - block_start n first) block (block_of_block b k f.block) held.skip held.w
      (held.part ∙ sym (take_rest f.matrix.now (block_start n first))) room

  -- a whole one
  module _ (whole : first ≡ k) where
    wide : block.w ≡ width n b k
    wide = omega (arith, held.skip, held.w ∙ ap (width n b) whole)

    pub whole_next : k + b < rows → (block.w ≡ b) × (block_of b (k + b) ≡ k + b)
    unfolding width
    whole_next less =
        let columns : block.w ≡ b = omega (arith, wide) in
        (columns, rw columns at (rw (sym wide) at (first_next n b k f.block whole)) (omega arith))

    pub whole_last : rows ≤ k + b → k + block.w ≡ rows
    unfolding width
    whole_last last = omega (arith, wide, trailing_fits)

    pub whole_end : k + block.w ≡ min (k + b) rows
    unfolding width
    whole_end = omega (arith, wide, trailing_fits)

  module _ (y work v' : List Float) where
    pub block_forward :
        ForwardTo rows (blocked_factor f) y k work → ForwardDone (block_entries block) block.h block.w (lent k work) v' →
        ForwardTo rows (blocked_factor f) y (k + block.w) (returned k work v')
    block_forward state done =
        forward_lent rows k block.w (blocked_factor f) y work v' (block_entries block) trailing_fits
        (λ r s inside low h. agrees r s inside low (omega arith)) state (rw held.h at done)

    pub block_backward :
        BackwardTo rows (blocked_factor f) y (k + block.w) work → BackwardDone (block_entries block) block.h block.w (lent k work) v' →
        BackwardTo rows (blocked_factor f) y k (returned k work v')
    block_backward state done =
        backward_lent rows k block.w (blocked_factor f) y work v' (block_entries block) trailing_fits
        (λ r s inside low h. agrees r s inside low (omega arith)) state (rw held.h at done)

  -- and then the trailing triangle after it
  module _ (all : rows ≡ n) where
    abbrev trailing : Triangle
    trailing = load_from k (blocked_place n b) n f.matrix.now

    abbrev after : Triangle
    after = load_from (k + block.w) (blocked_place n b) n f.matrix.now

    trailing_agrees : (r s : ℕ) → s < block.w → s ≤ r → r < n - k → block_entries block r s ≡ entry trailing r s
    trailing_agrees r s low le h =
        agrees r s low le (omega arith) ∙ sym (trailing_entry (blocked_place n b) n k f.matrix.now r s (record { lower = le; inside = h }))

    order_after : n - (k + block.w) ≡ n - k - block.w
    order_after = omega arith

    rows_all : block.h ≡ n - k
    rows_all = omega (arith, held.h)

    module _ (work v v' : List Float) (rest : length work ≡ n - k) where
      pub forward_joined :
          ForwardDone (block_entries block) block.h block.w work v →
          v' ≡ forward (n - (k + block.w)) after (lent block.w v) → returned block.w v v' ≡ forward (n - k) trailing work
      forward_joined done e =
          forward_end (n - k) trailing work (returned block.w v v')
          (forward_rest (n - k) block.w trailing after work v v' (omega (arith, trailing_fits))
          (trailing_again (blocked_place n b) n k block.w f.matrix.now)
          (forward_first (n - k) block.w trailing work work v (block_entries block) (omega (arith, trailing_fits)) trailing_agrees
          (forward_start (n - k) trailing work rest) (rw rows_all at done))
          (e ∙ ap (λ m. forward m after (lent block.w v)) order_after))

      pub backward_joined :
          v ≡ backward (n - (k + block.w)) after (lent block.w work) →
          BackwardDone (block_entries block) block.h block.w (returned block.w work v) v' → v' ≡ backward (n - k) trailing work
      backward_joined e done =
          backward_end (n - k) trailing work v'
          (backward_first (n - k) block.w trailing work (returned block.w work v) v' (block_entries block) (omega (arith, trailing_fits)) trailing_agrees
          (backward_rest (n - k) block.w trailing after work work v (omega (arith, trailing_fits))
          (trailing_again (blocked_place n b) n k block.w f.matrix.now) (backward_start (n - k) trailing work rest)
          (e ∙ ap (λ m. backward m after (lent block.w work)) order_after))
          (rw rows_all at done))
