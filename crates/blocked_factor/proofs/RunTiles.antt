-- The shapes of tiles, the columns of a run, and a tile of the target's rows less the products of a run. Assumes nothing.
use Prim.Native.Nat.{ℕ, ◌+◌, ◌*◌, ◌/◌, ◌≤◌, ◌<◌, min}
use native.Mathlib.Nat.{mul-le-mul_left, mul-le-mul_right, mul-div-le}
use native.Mathlib.Omega.{arith}
use native.Mathlib.Decide.{dec_lt}
use mathlib.Core.Path.{◌≡◌, refl, ap, ◌∙◌}
use mathlib.Core.List.{List}
use borrow.Author.Tests.{le-ltb, lt-ltb}
use lib.ListN.{get_or}
use lib.Ieee.{Float, nan}
use Rattle.shape.specs.Places.{block_of}
use Rattle.shape.proofs.Blocks.{block_of_le, block_of_first, block_of_block, block_before}
use Rattle.calls.specs.Arithmetic.{minus_products}
use Rattle.kernels.specs.Kernels.{GridFilled, TileIs, tile_at}
use Rattle.blocked_factor.specs.Runs.{lanes_of, rows_of}

-- ---- shapes

-- a tile holds the g columns that it is for, in 16 values
pub record TileShape (g rows lanes : ℕ) : Type 0 where
  pub wide : g ≤ lanes
  pub two : 2 ≤ lanes
  pub fits : rows * lanes ≤ 16
  pub some : 0 < rows

pub tile_shape : (g : ℕ) → g ≤ 16 → TileShape g (rows_of g) (lanes_of g)
tile_shape g few = go (dec_lt 8 g) (dec_lt 6 g) (dec_lt 4 g) (dec_lt 2 g)
  where
    go : Dec (8 < g) → Dec (6 < g) → Dec (4 < g) → Dec (2 < g) → TileShape g (rows_of g) (lanes_of g)
    go (yes a) b c d = simp (lt-ltb 8 g a) (record { wide = few; two = omega arith; fits = omega arith; some = omega arith })
    go (no a) (yes b) c d =
        let four : 4 < g = omega arith in
        simp (le-ltb 8 g (omega arith), lt-ltb 6 g b, lt-ltb 4 g four)
        (record { wide = omega arith; two = omega arith; fits = omega arith; some = omega arith })
    go (no a) (no b) (yes c) d =
        simp (le-ltb 8 g (omega arith), le-ltb 6 g (omega arith), lt-ltb 4 g c)
        (record { wide = omega arith; two = omega arith; fits = omega arith; some = omega arith })
    go (no a) (no b) (no c) (yes d) =
        simp (le-ltb 8 g (omega arith), le-ltb 6 g (omega arith), le-ltb 4 g (omega arith), lt-ltb 2 g d)
        (record { wide = omega arith; two = omega arith; fits = omega arith; some = omega arith })
    go (no a) (no b) (no c) (no d) =
        simp (le-ltb 8 g (omega arith), le-ltb 6 g (omega arith), le-ltb 4 g (omega arith), le-ltb 2 g (omega arith))
        (record { wide = omega arith; two = omega arith; fits = omega arith; some = omega arith })

-- a number that is not the least one left
pub above : (k g : ℕ) → k ≤ g → (g ≡ k → ⊥) → k + 1 ≤ g
above k g low other = omega arith

-- more than eight columns have a row of 16 lanes
pub shape_wide : (g : ℕ) → 8 < g → (rows_of g ≡ 1) × (lanes_of g ≡ 16)
shape_wide g h = simp (lt-ltb 8 g h) (refl, refl)

-- the least number of lanes is taken
pub lanes_le :
    (g : ℕ) →
    (lanes_of g ≤ 16) × (g ≤ 8 → lanes_of g ≤ 8) × (g ≤ 6 → lanes_of g ≤ 6) × (g ≤ 4 → lanes_of g ≤ 4) × (g ≤ 2 → lanes_of g ≤ 2) × (2 ≤ lanes_of g)
lanes_le g = go (dec_lt 8 g) (dec_lt 6 g) (dec_lt 4 g) (dec_lt 2 g)
  where
    go :
        Dec (8 < g) → Dec (6 < g) → Dec (4 < g) → Dec (2 < g) →
        (lanes_of g ≤ 16) × (g ≤ 8 → lanes_of g ≤ 8) × (g ≤ 6 → lanes_of g ≤ 6) × (g ≤ 4 → lanes_of g ≤ 4) × (g ≤ 2 → lanes_of g ≤ 2) × (2 ≤ lanes_of g)
    go (yes a) b c d = simp (lt-ltb 8 g a) (omega arith)
    go (no a) (yes b) c d = simp (le-ltb 8 g (omega arith), lt-ltb 6 g b) (omega arith)
    go (no a) (no b) (yes c) d = simp (le-ltb 8 g (omega arith), le-ltb 6 g (omega arith), lt-ltb 4 g c) (omega arith)
    go (no a) (no b) (no c) (yes d) =
        simp (le-ltb 8 g (omega arith), le-ltb 6 g (omega arith), le-ltb 4 g (omega arith), lt-ltb 2 g d) (omega arith)
    go (no a) (no b) (no c) (no d) =
        simp (le-ltb 8 g (omega arith), le-ltb 6 g (omega arith), le-ltb 4 g (omega arith), le-ltb 2 g (omega arith)) (omega arith)

-- lanes that are none of the other numbers
pub lanes_rest : (g : ℕ) → (lanes_of g ≡ 2 → ⊥) → (lanes_of g ≡ 4 → ⊥) → (lanes_of g ≡ 6 → ⊥) → (lanes_of g ≡ 8 → ⊥) → lanes_of g ≡ 16
lanes_rest g two four six eight = go (dec_lt 8 g) (dec_lt 6 g) (dec_lt 4 g) (dec_lt 2 g)
  where
    go : Dec (8 < g) → Dec (6 < g) → Dec (4 < g) → Dec (2 < g) → lanes_of g ≡ 16
    go (yes a) b c d = simp (lt-ltb 8 g a)
    go (no a) (yes b) c d = absurd (eight (simp (le-ltb 8 g (omega arith), lt-ltb 6 g b)))
    go (no a) (no b) (yes c) d = absurd (six (simp (le-ltb 8 g (omega arith), le-ltb 6 g (omega arith), lt-ltb 4 g c)))
    go (no a) (no b) (no c) (yes d) =
        absurd (four (simp (le-ltb 8 g (omega arith), le-ltb 6 g (omega arith), le-ltb 4 g (omega arith), lt-ltb 2 g d)))
    go (no a) (no b) (no c) (no d) =
        absurd (two (simp (le-ltb 8 g (omega arith), le-ltb 6 g (omega arith), le-ltb 4 g (omega arith), le-ltb 2 g (omega arith))))

-- ---- the columns of a run

block_tall : (b rest : ℕ) → 0 < rest → block_of b rest ≡ rest → b ≤ rest
block_tall b rest some full =
    let none : block_of b 0 ≡ 0 = omega (arith, block_of_le b 0) in
    omega (arith, block_before b 0 rest none full some)

pub run_single :
    (b rest spare : ℕ) → 0 < b → 0 < rest → block_of b rest ≡ rest → 2 * b ≤ spare → (b ≤ b) × (b ≤ rest) × (2 * b ≤ spare) × (block_of b b ≡ b)
run_single b rest spare pos some full fit =
    let one : b * 1 ≡ b = omega arith in
    (omega arith, block_tall b rest some full, fit, rw one at (block_of_first b 1 pos))

run_fits : (spare lanes r : ℕ) → 2 ≤ lanes → r ≤ spare / lanes → 2 * r ≤ spare
run_fits spare lanes r two fit =
    let wide : 2 * r ≤ lanes * r = mul-le-mul_right r two in
    omega (arith, wide, mul-le-mul_left lanes fit, mul-div-le spare lanes)

pub run_length :
    (b rest spare lanes most whole r : ℕ) → 0 < b → 0 < rest → block_of b rest ≡ rest → 2 ≤ lanes → whole ≡ block_of b (min (spare / lanes) most) →
    (whole ≡ 0 → ⊥) → r ≡ min whole rest → (b ≤ r) × (r ≤ rest) × (2 * r ≤ spare) × (block_of b r ≡ r)
run_length b rest spare lanes most whole r pos some full two e none er =
    let first : block_of b whole ≡ whole = rw e (block_of_block b (min (spare / lanes) most) pos) in
    let long : b ≤ whole = block_tall b whole (omega arith) first in
    let tall : b ≤ rest = block_tall b rest some full in
    let fit : whole ≤ spare / lanes = omega (arith, block_of_le b (min (spare / lanes) most)) in (
      omega arith,
      omega arith,
      run_fits spare lanes r two (omega arith),
      elim (dec_lt whole rest) [
        | yes p ↦ let same : r ≡ whole = omega arith in rw same first
        | no p ↦ let same : r ≡ rest = omega arith in rw same full
      ],
    )

-- ---- a tile loaded, worked on and stored

grid_same :
    {y stride rows len : ℕ} (f f' : ℕ → ℕ → Float) {m m' : List Float} → ((r s : ℕ) → r < rows → s < len → f r s ≡ f' r s) →
    GridFilled y stride rows len f m m' → GridFilled y stride rows len f' m m'
grid_same f f' same so =
    record { size = so.size; inside = λ r s h p. so.inside r s h p ∙ same r s h p; outside = so.outside }

pub grid_reduced :
    {y stride rows lanes len : ℕ} (x y' : ℕ → ℕ → Float) (count : ℕ) (tile reduced : List (List Float)) (m : List Float) {m' : List Float} → len ≤ lanes →
    TileIs rows len (λ r s. get_or m (y + r * stride + s) nan) tile →
    TileIs rows lanes (λ r s. minus_products (x r) (y' s) count (tile_at tile r s)) reduced →
    GridFilled y stride rows len (λ r s. tile_at reduced r s) m m' →
    GridFilled y stride rows len (λ r s. minus_products (x r) (y' s) count (get_or m (y + r * stride + s) nan)) m m'
grid_reduced {lanes = lanes} x y' count tile reduced m narrow loaded worked stored =
    grid_same (λ r s. tile_at reduced r s) _
    (λ r s h p. worked r s h (omega arith) ∙ ap (minus_products (x r) (y' s) count) (loaded r s h p)) stored

-- one row has room where its places have
pub row_room : (y len size : ℕ) → y + len ≤ size → (r : ℕ) → r < 1 → y + r * len + len ≤ size
row_room y len size h r p =
    let first : r ≡ 0 = omega arith in
    rw first (omega arith)
