-- Tiles and grids, row by row: what a loop over their rows has done, and that one more row takes it further. Assumes nothing.
use Prim.Native.Nat.{ℕ, ◌+◌, ◌-◌, ◌*◌, ◌≤◌, ◌<◌}
use native.Mathlib.Nat.{mul-le-mul_right, mul-le-mul_left}
use native.Mathlib.Omega.{arith}
use native.Mathlib.Decide.{dec_lt}
use mathlib.Core.Path.{◌≡◌, refl, ap, sym, ◌∙◌}
use mathlib.Core.Logic.{◌≢◌}
use mathlib.Core.List.{List, []}
use lib.ListN.{length, get_or, set, length-set}
use lib.Seq.{get_or-set_same, get_or-set_other}
use lib.Ieee.{Float, nan, binary64, sub, mul}
use Rattle.calls.specs.Arithmetic.{minus_products}
use Rattle.kernels.specs.Kernels.{Filled, GridFilled, TileIs, tile_at}
use Rattle.kernels.proofs.Products.{mul_comm, minus_next}

-- ---- rows of equal length, one after another

row_end : (rows lanes r : ℕ) → r < rows → r * lanes + lanes ≤ rows * lanes
row_end rows lanes r h =
    let next : r + 1 ≤ rows = omega arith in
    omega (arith, mul-le-mul_right lanes next)

row_before : (lanes q r s : ℕ) → q < r → s < lanes → q * lanes + s < r * lanes
row_before lanes q r s h p = omega (arith, row_end r lanes q h)

pub lane_end : (lanes k count : ℕ) → k < count → lanes * k + lanes ≤ lanes * count
lane_end lanes k count h =
    let next : k + 1 ≤ count = omega arith in
    omega (arith, mul-le-mul_left lanes next)

-- ---- the rows of a tile

-- the first r rows are f q s in their first `len` lanes, and the others as they were
pub record RowsSet (len : ℕ) (f : ℕ → ℕ → Float) (t₀ : List (List Float)) (r : ℕ) (t : List (List Float)) : Type 0 where
  pub size : length t ≡ length t₀
  pub done : TileIs r len f t
  pub rest : (q : ℕ) → r ≤ q → get_or t q [] ≡ get_or t₀ q []

module _ (len : ℕ) (f : ℕ → ℕ → Float) (t₀ : List (List Float)) where
  pub rows_none : RowsSet len f t₀ 0 t₀
  rows_none = record { size = refl; done = λ q s h p. absurd (omega arith); rest = λ q h. refl }

  pub rows_next :
      (r : ℕ) (row : List Float) (t : List (List Float)) → r < length t₀ → RowsSet len f t₀ r t → ((s : ℕ) → s < len → get_or row s nan ≡ f r s) →
      RowsSet len f t₀ (r + 1) (set t r row)
  rows_next r row t inside so same =
      record {
        size = length-set t r row ∙ so.size;
        done = λ q s h p.
            elim (dec_lt q r) [
              | yes before ↦ ap (λ v. get_or v s nan) (get_or-set_other t r q row [] (λ e. omega arith)) ∙ so.done q s before p
              | no after ↦
                  let here : q ≡ r = omega arith in
                  rw here (ap (λ v. get_or v s nan) (get_or-set_same t r row [] (omega (arith, so.size))) ∙ same s p)
            ];
        rest = λ q h. get_or-set_other t r q row [] (λ e. omega arith) ∙ so.rest q (omega arith);
      }

-- a row of a step: the same products, with their factors in the other order
pub step_row : (t a y : Float) → sub binary64 t (mul binary64 a y) ≡ sub binary64 t (mul binary64 y a)
step_row t a y = ap (sub binary64 t) (mul_comm binary64 a y)

-- one product more for every value
pub tile_next :
    (rows lanes k : ℕ) (x y : ℕ → ℕ → Float) (t₀ t t' : List (List Float)) →
    TileIs rows lanes (λ r s. minus_products (x r) (y s) k (tile_at t₀ r s)) t →
    TileIs rows lanes (λ r s. sub binary64 (tile_at t r s) (mul binary64 (x r k) (y s k))) t' →
    TileIs rows lanes (λ r s. minus_products (x r) (y s) (k + 1) (tile_at t₀ r s)) t'
tile_next rows lanes k x y t₀ t t' before step r s h p =
    step r s h p
    ∙ ap (λ v. sub binary64 v (mul binary64 (x r k) (y s k))) (before r s h p)
    ∙ sym (minus_next (x r) (y s) k (tile_at t₀ r s))

-- ---- the rows of a grid

pub grid_next :
    (y stride len r : ℕ) (f : ℕ → ℕ → Float) (m₀ m m' : List Float) → len ≤ stride → GridFilled y stride r len f m₀ m →
    Filled nan (y + r * stride) len (λ s. f r s) m m' → GridFilled y stride (r + 1) len f m₀ m'
grid_next y stride len r f m₀ m m' apart so filled =
    record {
      size = filled.size ∙ so.size;
      inside = λ q s h p.
          elim (dec_lt q r) [
            | yes before ↦
                filled.before (y + q * stride + s) (omega (arith, row_before stride q r s before (omega arith))) ∙ so.inside q s before p
            | no after ↦
                let here : q ≡ r = omega arith in
                rw here (filled.inside s p)
          ];
      outside = λ p none. row p none (dec_lt p (y + r * stride)) (dec_lt p (y + r * stride + len)) ∙ so.outside p (λ q s h e. none q s (omega arith) e);
    }
  where
    row :
        (p : ℕ) → ((q s : ℕ) → q < r + 1 → s < len → p ≢ y + q * stride + s) → Dec (p < y + r * stride) → Dec (p < y + r * stride + len) →
        get_or m' p nan ≡ get_or m p nan
    row p none (yes low) d = filled.before p low
    row p none (no low) (no high) = filled.after p (omega arith)
    row p none (no low) (yes inside) = absurd (none r (p - (y + r * stride)) (omega arith) (omega arith) (omega arith))
