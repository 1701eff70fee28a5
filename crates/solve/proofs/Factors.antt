-- A part of a factor's memory that begins at a block column: its entries are the factor's, in both layouts. Assumes nothing.
use Prim.Native.Nat.{ℕ, ◌+◌, ◌-◌, ◌≤◌, ◌<◌}
use native.Mathlib.Nat.{add-zero, add_assoc}
use native.Mathlib.Omega.{arith}
use mathlib.Core.Path.{◌≡◌, sym, ap, ap₂, ◌∙◌}
use mathlib.Core.Logic.{◌⊎◌, inl, inr}
use mathlib.Core.List.{List}
use lib.ListN.{length, get_or, take, drop}
use lib.Ieee.{Float, nan}
use Rattle.shape.specs.Places.{triangle, packed_place, block_of, block_start, width, place_in_block, blocked_place}
use Rattle.shape.specs.Layouts.{Entry}
use Rattle.shape.proofs.Columns.{triangle_columns, triangle_rest, packed_place_column, packed_place_at, packed_place_lt}
use Rattle.shape.proofs.Rows.{place_in_block_lt}
use Rattle.shape.proofs.Blocks.{width_le, width_le_block, blocked_place_at}
use Rattle.shape.proofs.Runs.{blocked_place_from}
use Rattle.shape.proofs.Bijections.{blocked_bijection}
use Rattle.calls.specs.Triangles.{entry, height, load, place_from, load_from}
use Rattle.calls.proofs.Triangles.{load_alike, entry_load, load_one}
use Rattle.calls.proofs.Trailing.{entry_from, trailing_entry}
use Rattle.kernels.proofs.Parts.{get_d_part}
use Rattle.solve.specs.declared.block_column.BlockColumn.{BlockColumn}
use Rattle.solve.specs.Parts.{block_entries}
use Rattle.solve.specs.Substitution.{entries_at}
use Rattle.solve.proofs.Substitution.{Agrees, lent}

-- an entry at place p of the part
part_entry :
    (place : ℕ → ℕ → ℕ) (n : ℕ) (matrix : List Float) (at m i j p : ℕ) → Entry n i j → p < m → at + p ≡ place i j →
    get_or (take m (drop at matrix)) p nan ≡ entry (load place (height n) n matrix) i j
part_entry place n matrix at m i j p e h g =
    get_d_part nan at m matrix p h ∙ ap (λ q. get_or matrix q nan) g ∙ sym (entry_load place n matrix i j e)

module _ (n c : ℕ) (matrix : List Float) where
  -- packed: one column, and the columns from c on
  pub column_agrees :
      (m : ℕ) → c < n → n - c ≤ m →
      Agrees n c 1 (load (packed_place n) (height n) n matrix) (entries_at (λ r s. r) (take m (drop (block_start n c) matrix)))
  column_agrees m inside enough r s low le h =
      let first : s ≡ 0 = omega arith in
      let up : c + r - c ≡ r = omega arith in
      rw (first, add-zero)
      (part_entry (packed_place n) n matrix (block_start n c) m (c + r) c r (record { lower = omega arith; inside = h }) (omega arith)
      (ap (λ q. block_start n c + q) (sym up) ∙ sym (packed_place_column n (c + r) c (omega arith) (omega arith))))

  pub packed_agrees :
      (m w : ℕ) → c + w ≤ n → triangle (n - c) ≤ m →
      Agrees n c w (load (packed_place n) (height n) n matrix) (entries_at (packed_place (n - c)) (take m (drop (block_start n c) matrix)))
  packed_agrees m w fits enough r s low le h =
      let here : Entry (n - c) r s = record { lower = le; inside = omega arith } in
      part_entry (packed_place n) n matrix (block_start n c) m (c + r) (c + s) (packed_place (n - c) r s)
      (record { lower = omega arith; inside = h })
      (omega (arith, packed_place_lt (n - c) (n - c) r s here (omega arith) (omega arith), triangle_columns (n - c)))
      (sym (packed_place_at n c r s here))

  -- blocked: one block column
  block_agrees :
      (b m : ℕ) → block_of b c ≡ c → block_start (n - c) (width n b c) ≤ m →
      Agrees n c (width n b c) (load (blocked_place n b) (height n) n matrix)
      (entries_at (place_in_block (width n b c)) (take m (drop (block_start n c) matrix)))
  block_agrees b m first enough r s low le h =
      let w : ℕ = width n b c in
      part_entry (blocked_place n b) n matrix (block_start n c) m (c + r) (c + s) (place_in_block w r s)
      (record { lower = omega arith; inside = h })
      (omega (arith, place_in_block_lt (n - c) w r s (width_le n b c) (omega arith) (omega arith)))
      (sym (blocked_place_at n b c r s first (omega (arith, width_le_block n b c))))

  -- what is left of it, from column k on
  pub block_agrees_from :
      (b k m : ℕ) (block : BlockColumn) → block_of b c ≡ c → c + block.skip ≡ k → block.skip + block.w ≡ width n b c →
      block.part.now ≡ take m (drop (block_start n c) matrix) → block_start (n - c) (width n b c) ≤ m →
      Agrees n k block.w (load (blocked_place n b) (height n) n matrix) (block_entries block)
  block_agrees_from b k m block first here wide part enough r s low le h =
      let row : k + r ≡ c + (block.skip + r) = omega arith in
      let column : k + s ≡ c + (block.skip + s) = omega arith in
      rw (part, row, column, wide) (block_agrees b m first enough (block.skip + r) (block.skip + s) (omega arith) (omega arith) (omega arith))

  -- blocked: the columns from c on, a block column's first
  pub run_agrees :
      (b m w : ℕ) → 0 < b → block_of b c ≡ c → c + w ≤ n → triangle (n - c) ≤ m →
      Agrees n c w (load (blocked_place n b) (height n) n matrix) (entries_at (blocked_place (n - c) b) (take m (drop (block_start n c) matrix)))
  run_agrees b m w pos first fits enough r s low le h =
      let here : Entry (n - c) r s = record { lower = le; inside = omega arith } in
      part_entry (blocked_place n b) n matrix (block_start n c) m (c + r) (c + s) (blocked_place (n - c) b r s)
      (record { lower = omega arith; inside = h })
      (omega (arith, (blocked_bijection (n - c) b pos).below r s here))
      (sym (blocked_place_from n b c r s pos first here))

-- blocked, with block columns of one column: packed
pub one_column :
    (n b : ℕ) (matrix : List Float) → b ≡ 1 → load (packed_place n) (height n) n matrix ≡ load (blocked_place n b) (height n) n matrix
one_column n b matrix one = rw one (sym (load_one n matrix))

-- ---- trailing triangles

-- a part with the factor's entries from column k on
trailing_part :
    (place place' : ℕ → ℕ → ℕ) (n k : ℕ) (matrix part : List Float) →
    Agrees n k (n - k) (load place (height n) n matrix) (entries_at place' part) →
    load place' (height (n - k)) (n - k) part ≡ load_from k place n matrix
trailing_part place place' n k matrix part agrees =
    load_alike place' (place_from k place) (n - k) part matrix
    (λ i j e.
    agrees i j (omega (arith, e.lower, e.inside)) e.lower (omega (arith, e.inside)) ∙ entry_load place n matrix (k + i) (k + j) (entry_from n k i j e))

module _ (n k at : ℕ) (matrix : List Float) (fits : k ≤ n) (size : length matrix ≡ triangle n) (place : at ≡ block_start n k) where
  pub packed_trailing : load (packed_place (n - k)) (height (n - k)) (n - k) (lent at matrix) ≡ load_from k (packed_place n) n matrix
  packed_trailing =
      rw place
      (trailing_part (packed_place n) (packed_place (n - k)) n k matrix (lent (block_start n k) matrix)
      (packed_agrees n k matrix (length matrix - block_start n k) (n - k) (omega arith) (omega (arith, triangle_rest n k fits))))

  -- from the first column of a block column on, or from the end
  pub blocked_trailing :
      (b : ℕ) → 0 < b → (k ≡ n) ⊎ (block_of b k ≡ k) →
      load (blocked_place (n - k) b) (height (n - k)) (n - k) (lent at matrix) ≡ load_from k (blocked_place n b) n matrix
  blocked_trailing b pos whole =
      rw place
      (trailing_part (blocked_place n b) (blocked_place (n - k) b) n k matrix (lent (block_start n k) matrix) (agrees whole))
    where
      agrees :
          (k ≡ n) ⊎ (block_of b k ≡ k) →
          Agrees n k (n - k) (load (blocked_place n b) (height n) n matrix) (entries_at (blocked_place (n - k) b) (lent (block_start n k) matrix))
      agrees (inl end) = λ r s low le h. absurd (omega arith)
      agrees (inr first) =
          run_agrees n k matrix b (length matrix - block_start n k) (n - k) pos first (omega arith) (omega (arith, triangle_rest n k fits))

-- the trailing triangle of a trailing triangle
pub trailing_again :
    (place : ℕ → ℕ → ℕ) (n k w : ℕ) (matrix : List Float) (i j : ℕ) → Entry (n - k - w) i j →
    entry (load_from (k + w) place n matrix) i j ≡ entry (load_from k place n matrix) (w + i) (w + j)
trailing_again place n k w matrix i j e =
    let here : Entry (n - (k + w)) i j = record { lower = e.lower; inside = omega (arith, e.inside) } in
    let there : Entry (n - k) (w + i) (w + j) = record { lower = omega (arith, e.lower); inside = omega (arith, e.inside) } in
    trailing_entry place n (k + w) matrix i j here
    ∙ ap₂ (entry (load place (height n) n matrix)) (add_assoc k w i) (add_assoc k w j)
    ∙ sym (trailing_entry place n k matrix (w + i) (w + j) there)
