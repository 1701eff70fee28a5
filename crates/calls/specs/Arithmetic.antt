-- Document 01, "The arithmetic". Every product, difference and quotient is rounded once, to nearest, ties to even; a product is rounded before
-- it is subtracted. Values are given for every triangle; which of them are refused is said in Refusals.antt.
use Rattle.std.specs.Prelude.{ℕ, zero, suc, ◌+◌, ◌-◌, List, ◌∷◌, reverse, get_or, Float}
use Rattle.std.specs.Float.{nan, binary64}
use Rattle.std.specs.Float.Ieee.{mul, sub, div}
use Rattle.binary64.specs.Root.{root}
use Rattle.calls.specs.Sequences.{grow, tabulate}
use Rattle.calls.specs.Triangles.{Triangle, entry}

-- t − x(k)·y(k) for k = 0 .. count − 1, in rising order
unfoldable pub minus_products : (ℕ → Float) → (ℕ → Float) → ℕ → Float → Float
minus_products x y zero t = t
minus_products x y (suc k) t = sub binary64 (minus_products x y k t) (mul binary64 (x k) (y k))

-- s starts as a(j,j); for k = 0 .. j−1 in rising order s becomes s − l(j,k)·l(j,k). This s is the pivot.
unfoldable pub pivot : Triangle → Triangle → ℕ → Float
pivot a l j = minus_products (λ k. entry l j k) (λ k. entry l j k) j (entry a j j)

-- t starts as a(i,j), becomes t − l(i,k)·l(j,k) for rising k below j, and l(i,j) = t / l(j,j).
unfoldable pub quotient : Triangle → Triangle → Float → ℕ → ℕ → Float
quotient a l diagonal j i = div binary64 (minus_products (λ k. entry l i k) (λ k. entry l j k) j (entry a i j)) diagonal

-- rows i = j+1 .. of column j, the columns of l before it being known
unfoldable pub below : (ℕ → ℕ) → Triangle → ℕ → Triangle → List Float
below height_of a j l = let diagonal = root (pivot a l j) in tabulate (height_of j - 1) (λ r. quotient a l diagonal j (j + 1 + r))

-- l(j,j) is the pivot's root.
unfoldable pub factor_column : (ℕ → ℕ) → Triangle → ℕ → Triangle → List Float
factor_column height_of a j l = root (pivot a l j) ∷ below height_of a j l

-- Column j, ascending.
unfoldable pub cholesky : (ℕ → ℕ) → Triangle → ℕ → Triangle
cholesky height_of a n = grow (factor_column height_of a) n

-- Forward: y(i) = (right-side value i − products l(i,k)·y(k), rising k below i) / l(i,i), subtracting one by one.
unfoldable pub forward : ℕ → Triangle → List Float → List Float
forward n l rhs = grow (λ i y. div binary64 (minus_products (λ k. entry l i k) (λ k. get_or y k nan) i (get_or rhs i nan)) (entry l i i)) n

-- Backward: x(i) = (y(i) − products l(k,i)·x(k), k falling from n−1 to i+1) / l(i,i). Found from the last row up: with i = n − 1 − d the list z
-- so far holds x(n − 1), .., x(i + 1), and the k-th product is that of row n − 1 − k.
unfoldable pub backward_rows : ℕ → Triangle → List Float → List Float
backward_rows n l y =
    grow
    (λ d z.
    let i = n - 1 - d in
    div binary64 (minus_products (λ k. entry l (n - 1 - k) i) (λ k. get_or z k nan) d (get_or y i nan)) (entry l i i))
    n

unfoldable pub backward : ℕ → Triangle → List Float → List Float
backward n l y = reverse (backward_rows n l y)
