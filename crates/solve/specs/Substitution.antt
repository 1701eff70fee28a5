-- What is promised of a part of a factor in a substitution: h is the number of its rows and w that of its columns, and its first w rows are its triangle.
-- `coefficient r s` is the factor's entry in row r and column s.
use Rattle.std.specs.Prelude.{ℕ, ◌+◌, ◌-◌, ◌*◌, ◌≤◌, ◌<◌, ◌≡◌, List, length, get_or, Float}
use Rattle.std.specs.Float.{nan, binary64}
use Rattle.std.specs.Float.Ieee.{sub, mul, div}
use Rattle.calls.specs.Arithmetic.{minus_products}
use Rattle.kernels.specs.Kernels.{Scattered}

-- the entries that a memory holds at the places of a layout
abbrev pub entries_at : (ℕ → ℕ → ℕ) → List Float → ℕ → ℕ → Float
entries_at place memory r s = get_or memory (place r s) nan

-- v' is v but for the rows from `from` on and before `to`, where it is `value r`
pub record RowsReplaced (value : ℕ → Float) (from to : ℕ) (v v' : List Float) : Type 0 where
  pub size : length v' ≡ length v
  pub inside : (r : ℕ) → from ≤ r → r < to → get_or v' r nan ≡ value r
  pub before : (r : ℕ) → r < from → get_or v' r nan ≡ get_or v r nan
  pub after : (r : ℕ) → to ≤ r → get_or v' r nan ≡ get_or v r nan

-- ---- forward

-- the rows of the triangle are finished
pub record TriangleForward (coefficient : ℕ → ℕ → Float) (w : ℕ) (v v' : List Float) : Type 0 where
  pub size : length v' ≡ length v
  pub inside :
      (r : ℕ) → r < w →
      get_or v' r nan ≡ div binary64 (minus_products (λ k. coefficient r k) (λ k. get_or v' k nan) r (get_or v r nan)) (coefficient r r)
  pub under : (r : ℕ) → w ≤ r → get_or v' r nan ≡ get_or v r nan

-- the triangle being finished, its products are subtracted from the rows from `from` on and before `to`
abbrev pub RowsSubtracted : (ℕ → ℕ → Float) → ℕ → ℕ → ℕ → List Float → List Float → Type 0
RowsSubtracted coefficient w from to v v' =
    RowsReplaced (λ r. minus_products (λ k. coefficient r k) (λ k. get_or v k nan) w (get_or v r nan)) from to v v'

-- they are subtracted from eight rows, w + t and those that follow it q rows apart
abbrev pub RowsApart : (ℕ → ℕ → Float) → ℕ → ℕ → ℕ → List Float → List Float → Type 0
RowsApart coefficient w q t v v' =
    Scattered 8 (λ s. w + t + s * q)
    (λ s. minus_products (λ k. coefficient (w + t + s * q) k) (λ k. get_or v k nan) w (get_or v (w + t + s * q) nan)) v v'

-- both
pub record ForwardDone (coefficient : ℕ → ℕ → Float) (h w : ℕ) (v v' : List Float) : Type 0 where
  pub size : length v' ≡ length v
  pub inside :
      (r : ℕ) → r < w →
      get_or v' r nan ≡ div binary64 (minus_products (λ k. coefficient r k) (λ k. get_or v' k nan) r (get_or v r nan)) (coefficient r r)
  pub under :
      (r : ℕ) → w ≤ r → r < h →
      get_or v' r nan ≡ minus_products (λ k. coefficient r k) (λ k. get_or v' k nan) w (get_or v r nan)

-- ---- backward

-- the products of row q with x are subtracted from the rows from `from` on and before `to`
abbrev pub RowTaken : (ℕ → ℕ → Float) → ℕ → Float → ℕ → ℕ → List Float → List Float → Type 0
RowTaken coefficient q x from to v v' =
    RowsReplaced (λ r. sub binary64 (get_or v r nan) (mul binary64 (coefficient q r) x)) from to v v'

-- the products of the last `count` rows are subtracted, from the last row up, from the rows from `from` on and before `to`
abbrev pub ColumnsSubtracted : (ℕ → ℕ → Float) → ℕ → ℕ → ℕ → ℕ → List Float → List Float → Type 0
ColumnsSubtracted coefficient h count from to v v' =
    RowsReplaced (λ r. minus_products (λ k. coefficient (h - 1 - k) r) (λ k. get_or v (h - 1 - k) nan) count (get_or v r nan)) from to v v'

-- the rows below the triangle being finished, their products are subtracted from its rows
abbrev pub ProductsSubtracted : (ℕ → ℕ → Float) → ℕ → ℕ → List Float → List Float → Type 0
ProductsSubtracted coefficient h w v v' = ColumnsSubtracted coefficient h (h - w) 0 w v v'

-- the rows of the triangle are finished too, from the last row up; for h ≡ w there are no rows below it
pub record BackwardDone (coefficient : ℕ → ℕ → Float) (h w : ℕ) (v v' : List Float) : Type 0 where
  pub size : length v' ≡ length v
  pub inside :
      (r : ℕ) → r < w →
      get_or v' r nan
      ≡ div binary64 (minus_products (λ k. coefficient (h - 1 - k) r) (λ k. get_or v' (h - 1 - k) nan) (h - 1 - r) (get_or v r nan)) (coefficient r r)
  pub under : (r : ℕ) → w ≤ r → get_or v' r nan ≡ get_or v r nan
