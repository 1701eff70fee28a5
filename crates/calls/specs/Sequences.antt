-- Lists and steps in rising order.
use Rattle.std.specs.Prelude.{ℕ, zero, suc, ◌<◌, Bool, true, false, cond, ◌&&◌, ◌||◌, List, [], ◌∷◌, ◌++◌, eqb, length, get_or}

-- step 0, then step 1, .., then step (count − 1)
unfoldable pub iterate : {A : Type 0} → (ℕ → A → A) → ℕ → A → A
iterate step zero a = a
iterate step (suc k) a = step k (iterate step k a)

-- the list whose element k is worked out from the elements before it
unfoldable pub grow : {A : Type 0} → (ℕ → List A → A) → ℕ → List A
grow next zero = []
grow next (suc k) = let before = grow next k in before ++ (next k before ∷ [])

-- f 0, f 1, .., f (count − 1)
unfoldable pub tabulate : {A : Type 0} → ℕ → (ℕ → A) → List A
tabulate count f = grow (λ k before. f k) count

unfoldable pub all : {A : Type 0} → (A → Bool) → List A → Bool
all test [] = true
all test (x ∷ xs) = test x && all test xs

-- the test holds of 0 .. count − 1
unfoldable pub every : (ℕ → Bool) → ℕ → Bool
every test zero = true
every test (suc k) = every test k && test k

-- each number is below those after it
abbrev pub Rising : List ℕ → Type 0
Rising xs = (i i' : ℕ) → i < i' → i' < length xs → get_or xs i 0 < get_or xs i' 0

-- x stands in the list
unfoldable pub contains : List ℕ → ℕ → Bool
contains [] x = false
contains (y ∷ ys) x = eqb x y || contains ys x

-- the numbers below count of which the test holds, rising
unfoldable pub passing : (ℕ → Bool) → ℕ → List ℕ
passing test zero = []
passing test (suc k) = passing test k ++ cond (test k) (k ∷ []) []
