-- Document 02, (l): a rising list of unknowns is struck from a packed raw matrix. The remaining entries move to the front of the same memory in packed
-- order, the tail becomes +0, and the shape returns the smaller order.
use Rattle.std.specs.Prelude.{ℕ, ◌+◌, ◌-◌, ◌≤◌, ◌≡◌, cond, not, ◌&&◌, ◌||◌, List, [], ◌∷◌, ◌++◌, map, T, ltb, length, get_or, set, take, drop, replicate, Float}
use Rattle.std.specs.Float.{nan}
use Rattle.binary64.specs.Kinds.{zero64}
use Rattle.shape.specs.Places.{triangle, packed_place}
use Rattle.shape.specs.Layouts.{Entry}
use Rattle.shape.specs.declared.Shape.{Shape}
use Rattle.calls.specs.declared.Verdict.{Verdict}
use Rattle.calls.specs.declared.CallResult.{CallResult}
use Rattle.calls.specs.declared.Layout.TheVariants.{Packed}
use Rattle.calls.specs.declared.Call.TheVariants.{Strike}
use Rattle.calls.specs.Sequences.{iterate, tabulate, Rising, contains, passing}
use Rattle.calls.specs.Triangles.{Triangle, entry, height, load, store}
use Rattle.calls.specs.Refusals.{success, accepted, first_refusal, rule1, rule2, rule15, rule3, rule20}
use Rattle.calls.specs.Calls.{result_of, succeeded, factorize}
use Rattle.calls.specs.Pipelines.{packed_raw, plain_pipeline, blocked_pipeline}

-- the unknowns below n that the list does not name, rising
unfoldable pub kept : List ℕ → ℕ → List ℕ
kept list n = passing (λ u. not (contains list u)) n

-- Entry (i, j) of the new matrix is the old entry of unknowns i and j of those kept.
unfoldable pub principal : List ℕ → Triangle → Triangle
principal unknowns a =
    let p = length unknowns in
    tabulate p (λ j. tabulate (height p j) (λ r. entry a (get_or unknowns (j + r) 0) (get_or unknowns j 0)))

-- the packed matrix of the unknowns kept
unfoldable pub front : List ℕ → ℕ → List Float → List Float
front unknowns n matrix =
    let p = length unknowns in
    store (packed_place p) (principal unknowns (load (packed_place n) (height n) n matrix)) (replicate (triangle p) zero64)

-- and +0 behind it
unfoldable pub struck : List ℕ → ℕ → List Float → List Float
struck unknowns n matrix = front unknowns n matrix ++ replicate (length matrix - triangle (length unknowns)) zero64

unfoldable pub strike_checks : Shape → List ℕ → ℕ → Verdict
strike_checks shape list matrix_length =
    let n = shape.order in
    first_refusal (rule1 n ∷ rule2 Strike shape.block ∷ rule15 Strike shape.state ∷ rule3 n matrix_length ∷ rule20 n list ∷ [])

-- what the call returns and leaves; it alters no list
pub record Struck : Type 0 where
  pub result : CallResult
  pub matrix : List Float

pub record StruckAs (d : Struck) (r : CallResult) (matrix' : List Float) : Type 0 where
  pub result : r ≡ d.result
  pub matrix : matrix' ≡ d.matrix

-- the shape with another order
abbrev pub smaller : Shape → ℕ → Shape
smaller shape p = record { order = p; block = shape.block; state = shape.state }

unfoldable pub strike : Shape → List ℕ → List Float → Struck
strike shape list matrix =
    let n = shape.order in
    let unknowns = kept list n in
    let checks = strike_checks shape list (length matrix) in
    cond (accepted checks)
    (record { result = result_of Strike (smaller shape (length unknowns)) success; matrix = struck unknowns n matrix })
    (record { result = result_of Strike shape checks; matrix = matrix })

-- ---- what is proved of it

-- The unknowns kept are rising: those below n that the list does not name, and no others.
pub record Remaining (list : List ℕ) (n : ℕ) (unknowns : List ℕ) : Type 0 where
  pub rising : Rising unknowns
  pub members : (u : ℕ) → contains unknowns u ≡ (ltb u n && not (contains list u))

abbrev pub KeptRemain : Type 0
KeptRemain = (list : List ℕ) (n : ℕ) → Remaining list n (kept list n)

-- On success the order is less by the number of unknowns struck; a refusal returns the shape as it was handed in.
abbrev pub OrderFalls : Type 0
OrderFalls =
    (shape : Shape) (list : List ℕ) (matrix : List Float) →
    let r = (strike shape list matrix).result in
    r.shape ≡ cond (succeeded r) (smaller shape (shape.order - length list)) shape

-- An empty list changes nothing.
abbrev pub EmptyChangesNothing : Type 0
EmptyChangesNothing =
    (shape : Shape) (matrix : List Float) → ((strike shape [] matrix).matrix ≡ matrix) × ((strike shape [] matrix).result.shape ≡ shape)

-- A list of all unknowns leaves order 0, and +0 everywhere.
abbrev pub AllLeavesZeros : Type 0
AllLeavesZeros =
    (shape : Shape) (list : List ℕ) (matrix : List Float) →
    let s = strike shape list matrix in
    T (succeeded s.result) → length list ≡ shape.order → (s.matrix ≡ replicate (length matrix) zero64) × (s.result.shape.order ≡ 0)

-- A packed matrix typed in fresh: its entries are the old ones of the unknowns kept.
pub record Fresh (unknowns : List ℕ) (n : ℕ) (matrix fresh : List Float) : Type 0 where
  pub size : length fresh ≡ triangle (length unknowns)
  pub entries :
      (i j : ℕ) → Entry (length unknowns) i j →
      get_or fresh (packed_place (length unknowns) i j) nan ≡ get_or matrix (packed_place n (get_or unknowns i 0) (get_or unknowns j 0)) nan

-- The next calls take the front part alone. It is that matrix, so its factor is the factor of that one, and each pipeline makes the same of both.
pub record FrontIs (s : Struck) (p b : ℕ) (fresh : List Float) : Type 0 where
  pub shape : s.result.shape ≡ packed_raw p b
  pub matrix : take (triangle p) s.matrix ≡ fresh
  pub factor : (work : List Float) → factorize Packed s.result.shape (take (triangle p) s.matrix) work ≡ factorize Packed (packed_raw p b) fresh work
  pub plain :
      (m : ℕ) (rhs work : List Float) →
      plain_pipeline s.result.shape.order s.result.shape.block m (take (triangle p) s.matrix) rhs work ≡ plain_pipeline p b m fresh rhs work
  pub blocked :
      (m : ℕ) (rhs work : List Float) →
      blocked_pipeline s.result.shape.order s.result.shape.block m (take (triangle p) s.matrix) rhs work ≡ blocked_pipeline p b m fresh rhs work

abbrev pub StruckIsFresh : Type 0
StruckIsFresh =
    (shape : Shape) (list : List ℕ) (matrix fresh : List Float) →
    let unknowns = kept list shape.order in
    T (succeeded (strike shape list matrix).result) →
    Fresh unknowns shape.order matrix fresh →
    FrontIs (strike shape list matrix) (length unknowns) shape.block fresh

-- the union of a list and a second one, which numbers the unknowns that the first leaves: in the first numbering
unfoldable pub union : List ℕ → List ℕ → ℕ → List ℕ
union first second n = passing (λ u. contains first u || contains (map (λ k. get_or (kept first n) k 0) second) u) n

-- Striking one list and then another from the front part is striking their union.
abbrev pub StrikesUnion : Type 0
StrikesUnion =
    (shape : Shape) (first second : List ℕ) (matrix : List Float) →
    let s = strike shape first matrix in
    let size = triangle s.result.shape.order in
    let t = strike s.result.shape second (take size s.matrix) in
    T (succeeded s.result) →
    T (succeeded t.result) →
    strike shape (union first second shape.order) matrix ≡ record { result = t.result; matrix = t.matrix ++ drop size s.matrix }

-- A value moves only towards the front,
abbrev pub MovesForward : Type 0
MovesForward =
    (list : List ℕ) (n i j : ℕ) →
    let unknowns = kept list n in
    Entry (length unknowns) i j → packed_place (length unknowns) i j ≤ packed_place n (get_or unknowns i 0) (get_or unknowns j 0)

-- so one pass in rising place, each value read where it stood and written where it goes in the same memory, suffices.
unfoldable pub one_pass : List ℕ → ℕ → List Float → List Float
one_pass unknowns n matrix =
    let p = length unknowns in
    iterate
    (λ j m.
    iterate (λ r l. set l (packed_place p (j + r) j) (get_or l (packed_place n (get_or unknowns (j + r) 0) (get_or unknowns j 0)) nan)) (height p j) m)
    p matrix

abbrev pub OnePassSuffices : Type 0
OnePassSuffices =
    (list : List ℕ) (n : ℕ) (matrix : List Float) →
    length matrix ≡ triangle n → take (triangle (length (kept list n))) (one_pass (kept list n) n matrix) ≡ front (kept list n) n matrix
