-- The block columns before one: a run of them as the source of its products, and the products of one more run. Assumes nothing.
use Prim.Native.Nat.{ℕ, ◌+◌, ◌-◌, ◌≤◌, ◌<◌}
use native.Mathlib.Omega.{arith}
use mathlib.Core.Path.{◌≡◌, refl, sym, ap, ◌∙◌}
use mathlib.Core.List.{List}
use lib.ListN.{get_or}
use lib.Ieee.{Float, nan}
use Rattle.shape.specs.Places.{triangle, block_of, block_start, width, place_in_block, blocked_place}
use Rattle.shape.specs.Layouts.{Entry}
use Rattle.shape.proofs.Columns.{block_start_split, triangle_columns}
use Rattle.shape.proofs.Rows.{place_in_block_row}
use Rattle.shape.proofs.Blocks.{block_of_le, block_of_lt, block_of_block, block_before, block_end, width_le, width_full, blocked_place_block}
use Rattle.shape.proofs.Runs.{block_of_add, blocked_place_from}
use Rattle.shape.proofs.Bounds.{block_start_mono}
use Rattle.calls.specs.Arithmetic.{minus_products}
use Rattle.calls.proofs.Columns.{products_same, minus_add}
use Rattle.kernels.specs.Kernels.{run_at}
use Rattle.blocked_factor.specs.BlockColumns.{row_start, PanelUpdated}
use Rattle.blocked_factor.specs.BlockSteps.{BlockAt, row_of}
use Rattle.blocked_factor.specs.Runs.{RunBefore}
use Rattle.kernels.proofs.Runs.{row_under}
use Rattle.blocked_factor.proofs.BlockRows.{row_lt}

module _ {n b c len : ℕ} (here : BlockAt n b c len) where
  pub inside_le : c + width n b c ≤ n
  inside_le = omega (arith, width_le n b c, here.inside)

  pub block_room : block_start n c + row_start (width n b c) (n - c) ≤ len
  block_room =
      omega (
        arith,
        block_end n c (width n b c) inside_le,
        block_start_mono n (c + width n b c) n inside_le (omega arith),
        triangle_columns n,
        here.size,
      )

module _ {n b c len : ℕ} (here : BlockAt n b c len) where
  -- the block column at k is before that at c
  earlier_end : (k : ℕ) → block_of b k ≡ k → k < c → (k + b ≤ c) × (block_start n k + row_start b (n - k) ≤ block_start n c)
  earlier_end k first before =
      let next : k + b ≤ c = block_before b k c first here.first before in (
        next,
        omega (arith, block_end n k b (omega (arith, here.inside)), block_start_mono n (k + b) c next (omega (arith, here.inside))),
      )

  -- entries of earlier columns stand before the block column
  pub place_before : (i j : ℕ) → Entry n i j → j < c → blocked_place n b i j < block_start n c
  place_before i j e low =
      let k : ℕ = block_of b j in
      let le : k ≤ j = block_of_le b j in
      let up : j < k + b = block_of_lt b j (omega (arith, here.block)) in
      let first : block_of b k ≡ k = block_of_block b j (omega (arith, here.block)) in
      let end = earlier_end k first (omega arith) in
      let full : width n b k ≡ b = width_full n b k (omega (arith, end.0, here.inside)) in
      let place : blocked_place n b i j ≡ block_start n k + place_in_block b (i - k) (j - k) = rw full at (blocked_place_block n b i j) in
      omega (
        arith,
        place_in_block_row b (i - k) (j - k),
        place_in_block_row b (i - k) 0,
        row_lt b (i - k) (n - k) (j - k) (omega (arith, e.lower, e.inside)) (omega (arith, e.lower)),
        end.1,
      )

module _ {n b c len : ℕ} (here : BlockAt n b c len) (k : ℕ) (first : block_of b k ≡ k) where
  -- the matrix from column k on
  run_place : (r i : ℕ) → k + i < c → c + r < n → block_start n k + blocked_place (n - k) b (n - k - (n - c) + r) i ≡ blocked_place n b (c + r) (k + i)
  run_place r i few high =
      let row : k + (n - k - (n - c) + r) ≡ c + r = omega arith in
      let from : blocked_place n b (k + (n - k - (n - c) + r)) (k + i) ≡ block_start n k + blocked_place (n - k) b (n - k - (n - c) + r) i =
      blocked_place_from n b k (n - k - (n - c) + r) i (omega (arith, here.block)) first (record { lower = omega arith; inside = omega arith }) in
      sym (rw row at from)

  -- a run from column k on is before the block column at c
  pub run_before :
      (corner count : ℕ) → corner ≡ place_in_block b b 0 → 0 < count → k + count ≤ c → block_of b count ≡ count →
      RunBefore len (block_start n c) (width n b c) (n - c) (block_start n k) (n - k) b corner count
  run_before corner count e some high whole =
      record {
        order = omega (arith, here.order);
        block = omega (arith, here.block);
        block_high = here.block_high;
        diagonal = e ∙ diagonal;
        some = some;
        whole = whole;
        above = omega (arith, here.inside);
        size = size;
        tall = width_le n b c;
        room = block_room here;
        before = before;
      }
    where
      diagonal : place_in_block b b 0 ≡ triangle b
      diagonal =
          let none : b + 0 ≡ b = omega arith in
          let under : place_in_block b (b + 0) 0 ≡ triangle b = omega (arith, row_under b 0) in
          rw none at under

      size : block_start n k + triangle (n - k) ≤ len
      size =
          let rest : k + (n - k) ≡ n = omega (arith, here.inside) in
          omega (
            arith,
            here.size,
            triangle_columns n,
            triangle_columns (n - k),
            block_start_split n k (n - k) (omega (arith, here.inside)),
            ap (block_start n) rest,
          )

      before : (i q : ℕ) → count ≤ i → i < n - k → q < count → block_start n k + blocked_place (n - k) b i q < block_start n c
      before i q low inside few =
          let entry : Entry (n - k) i q = record { lower = omega arith; inside = inside } in
          omega (
            arith,
            blocked_place_from n b k i q (omega (arith, here.block)) first entry,
            place_before here (k + i) (k + q) (record { lower = omega arith; inside = omega arith }) (omega arith),
          )

  module _
      (count : ℕ) {m m₁ m₂ : List Float} (high : k + count ≤ c)
      (done : PanelUpdated (block_start n c) (width n b c) (n - c) 0 (width n b c) (row_of n b c m) k m m₁)
      (step :
      PanelUpdated (block_start n c) (width n b c) (n - c) 0 (width n b c) (λ r. run_at m₁ (block_start n k) (n - k) b (n - k - (n - c) + r)) count m₁
      m₂) where
    row_known : (r i : ℕ) → r < n - c → i < count → run_at m₁ (block_start n k) (n - k) b (n - k - (n - c) + r) i ≡ row_of n b c m r (k + i)
    row_known r i inside few =
        ap (λ p. get_or m₁ p nan) (run_place r i (omega arith) (omega arith))
        ∙ done.outside (blocked_place n b (c + r) (k + i))
        (λ r' s' e z. omega (arith, place_before here (c + r) (k + i) (record { lower = omega arith; inside = omega arith }) (omega arith)))

    pub earlier_next : PanelUpdated (block_start n c) (width n b c) (n - c) 0 (width n b c) (row_of n b c m) (k + count) m m₂
    earlier_next =
        record {
          kept = step.kept ∙ done.kept;
          inside = λ r s e.
              step.inside r s e
              ∙ products_same (run_at m₁ (block_start n k) (n - k) b (n - k - (n - c) + r)) (λ i. row_of n b c m r (k + i))
              (run_at m₁ (block_start n k) (n - k) b (n - k - (n - c) + s)) (λ i. row_of n b c m s (k + i)) count
              (get_or m₁ (block_start n c + row_start (width n b c) r + s) nan) (λ i few. row_known r i e.row few)
              (λ i few. row_known s i (omega (arith, e.lower, e.row)) few)
              ∙ ap (minus_products (λ i. row_of n b c m r (k + i)) (λ i. row_of n b c m s (k + i)) count) (done.inside r s e)
              ∙ sym
              (minus_add (row_of n b c m r) (row_of n b c m s) k count (get_or m (block_start n c + row_start (width n b c) r + s) nan));
          outside = λ p none. step.outside p none ∙ done.outside p none;
        }

-- what is left before c is whole block columns
pub rest_whole : (b k c : ℕ) → 0 < b → block_of b k ≡ k → block_of b c ≡ c → k ≤ c → block_of b (c - k) ≡ c - k
rest_whole b k c pos first whole low =
    let place : k + (c - k) ≡ c = omega arith in
    omega (arith, block_of_add b k (c - k) pos first, ap (block_of b) place)

pub earlier_none : (at w h g : ℕ) (x : ℕ → ℕ → Float) (m : List Float) → PanelUpdated at w h 0 g x 0 m m
unfolding minus_products
earlier_none at w h g x m = record { kept = refl; inside = λ r s e. refl; outside = λ p none. refl }
