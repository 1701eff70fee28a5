-- What the steps of the plain factor promise of column j. Memory m holds a triangle of order n in packed order, its columns before j being those of
-- the factor and the others those of the matrix; w is the work memory before a step and w' after it. Row i of the column lies at i; the rows from
-- some row `top` on of the column after it may wait at the front, row top + r at r.
use Rattle.std.specs.Prelude.{ℕ, ◌+◌, ◌-◌, ◌%◌, ◌≤◌, ◌<◌, ◌≡◌, Bool, cond, List, length, get_or, drop, Float}
use Rattle.std.specs.Float.{nan, binary64}
use Rattle.std.specs.Float.Ieee.{div}
use Rattle.binary64.specs.Kinds.{finite}
use Rattle.shape.specs.Bounds.{max_order}
use Rattle.shape.specs.Places.{triangle, packed_place}
use Rattle.calls.specs.Sequences.{all}
use Rattle.calls.specs.Triangles.{Triangle, height, load, store_column, store}
use Rattle.calls.specs.Arithmetic.{minus_products, factor_column, cholesky}
use Rattle.calls.specs.Refusals.{accepted, column_verdict, column_exact}
use Rattle.calls.specs.declared.Judgement.{Judgement}
use Rattle.calls.specs.Judgements.{judgement}
use Rattle.calls.specs.Calls.{columns_judged}
use Rattle.kernels.specs.Kernels.{Filled}

-- packed memory m of order n
pub record Packed (n : ℕ) (m : List Float) : Type 0 where
  pub order : n ≤ max_order
  pub size : length m ≡ triangle n

-- the rows from `top` on of column j, whole tiles, have room at the front: no tile of column j − 1 or j reaches it
pub record Room (n j top : ℕ) : Type 0 where
  pub low : j ≤ top
  pub inside : top < n
  pub tiles : (n - top) % 16 ≡ 0
  pub room : n ≤ top + (j - 16)

-- the places from `from` to `to` − 1 are as they were
abbrev pub Same : ℕ → ℕ → List Float → List Float → Type 0
Same from to w w' = (p : ℕ) → from ≤ p → p < to → get_or w' p nan ≡ get_or w p nan

-- ---- rows less their products

-- x less the products of row i with row j in `count` columns from column k on
unfoldable pub less_products : ℕ → List Float → ℕ → ℕ → ℕ → ℕ → Float → Float
less_products n m j k count i x =
    minus_products (λ c. get_or m (packed_place n i (k + c)) nan) (λ c. get_or m (packed_place n j (k + c)) nan) count x

-- the rows of a tile of the given width, row i + r at r
abbrev pub TileReduced : ℕ → ℕ → List Float → ℕ → ℕ → ℕ → ℕ → List Float → List Float → Type 0
TileReduced width n m j k count i tile tile' = (r : ℕ) → r < width → get_or tile' r nan ≡ less_products n m j k count (i + r) (get_or tile r nan)

-- `rows` rows from row i on, row i + r at s + r, and nothing else
abbrev pub RowsReduced : ℕ → List Float → ℕ → ℕ → ℕ → ℕ → ℕ → ℕ → List Float → List Float → Type 0
RowsReduced n m j k count i s rows w w' = Filled nan s rows (λ r. less_products n m j k count (i + r) (get_or w (s + r) nan)) w w'

-- the rows of the column before `to`, and at most 15 above it
pub record GroupReduced (n : ℕ) (m : List Float) (j k count to : ℕ) (w w' : List Float) : Type 0 where
  pub rows : (i : ℕ) → j ≤ i → i < to → get_or w' i nan ≡ less_products n m j k count i (get_or w i nan)
  pub before : Same 0 (j - 15) w w'
  pub after : Same to n w w'

-- `rows` rows from row `top` on of column j and, at the front, of column j + 1
pub record PairReduced (n : ℕ) (m : List Float) (j k count top rows : ℕ) (w w' : List Float) : Type 0 where
  pub column : (i : ℕ) → top ≤ i → i < top + rows → get_or w' i nan ≡ less_products n m j k count i (get_or w i nan)
  pub front : (r : ℕ) → r < rows → get_or w' r nan ≡ less_products n m (j + 1) k count (top + r) (get_or w r nan)
  pub between : Same rows top w w'
  pub after : Same (top + rows) n w w'

-- ---- columns

-- entry (i, j) less the products of its row with row j in the first k columns
unfoldable pub reduced : ℕ → List Float → ℕ → ℕ → ℕ → Float
reduced n m j k i =
    minus_products (λ c. get_or m (packed_place n i c) nan) (λ c. get_or m (packed_place n j c) nan) k (get_or m (packed_place n i j) nan)

-- the rows of the column from `from` to `to` − 1 are reduced by the first k columns
abbrev pub Reduced : ℕ → List Float → ℕ → ℕ → ℕ → ℕ → List Float → Type 0
Reduced n m j k from to w = (i : ℕ) → from ≤ i → i < to → get_or w i nan ≡ reduced n m j k i

-- the rows from `top` on of column j wait at the front, reduced by the first k columns
abbrev pub Waiting : ℕ → List Float → ℕ → ℕ → ℕ → List Float → Type 0
Waiting n m j k top w = (r : ℕ) → top + r < n → get_or w r nan ≡ reduced n m j k (top + r)

-- they have room there, and are reduced by the columns before j − 1
pub record WaitingFrom (n : ℕ) (m : List Float) (j top : ℕ) (w : List Float) : Type 0 where
  pub room : Room n j top
  pub rows : Waiting n m j (j - 1) top w

-- the triangle that packed memory m holds
abbrev pub held : ℕ → List Float → Triangle
held n m = load (packed_place n) (height n) n m

-- the column in w finished with its diagonal value d: the rows below it divided by d, and whether they are all finite
pub record Divided (j : ℕ) (d : Float) (w w' : List Float) (finite_rows : Bool) : Type 0 where
  pub before : Same 0 j w w'
  pub diagonal : get_or w' j nan ≡ d
  pub rows : (i : ℕ) → j < i → i < length w → get_or w' i nan ≡ div binary64 (get_or w i nan) d
  pub finites : finite_rows ≡ all finite (drop (j + 1) w')

-- column j judged, and written where it is accepted
pub record Judged (n j : ℕ) (m : List Float) (r : Judgement) (m' : List Float) : Type 0 where
  pub result : r ≡ judgement (column_verdict (height n) (held n m) (held n m) j) (column_exact (held n m) (held n m) j)
  pub matrix : m' ≡ cond (accepted r.verdict) (store_column (packed_place n) j (factor_column (height n) (held n m) j (held n m)) m) m

-- all columns judged up to the first that is refused, and those before it written
pub record Factored (n : ℕ) (m : List Float) (r : Judgement) (m' : List Float) : Type 0 where
  pub result : r ≡ columns_judged n (held n m)
  pub matrix : m' ≡ store (packed_place n) (cholesky (height n) (held n m) (cond (accepted r.verdict) n r.verdict.place)) m
