-- Rule 7 of a variance call, judged part by part: what a part says of the whole, and which parts of a matrix the columns from k on are. Assumes nothing.
use Prim.Native.Nat.{ℕ, ◌+◌, ◌-◌, ◌≤◌, ◌<◌, min}
use native.Mathlib.Omega.{arith}
use native.Mathlib.Decide.{dec_lt}
use mathlib.Core.Path.{◌≡◌, refl, sym, ap, ◌∙◌, subst}
use mathlib.Core.Bool.{Bool, true, false, not}
use mathlib.Core.List.{List}
use lib.Dec.{T}
use lib.ListN.{length, get_or, take, drop, length-take, length-drop}
use lib.Seq.{get_or-take, get_or-drop}
use lib.Ieee.{Float, nan}
use Rattle.binary64.specs.Kinds.{finite, zero64}
use Rattle.shape.specs.Places.{triangle, block_of, block_start, width, place_in_block, blocked_place}
use Rattle.shape.specs.Layouts.{Entry, Bijection}
use Rattle.shape.proofs.Parts.{starts_mono}
use Rattle.shape.proofs.Rows.{row_length, place_in_block_row, place_in_block_next_row}
use Rattle.shape.proofs.Columns.{triangle_rest}
use Rattle.shape.proofs.Bounds.{block_start_le}
use Rattle.shape.proofs.Blocks.{block_of_le, block_of_block, block_end, width_le, width_le_block, column_in_width, blocked_place_at, first_next}
use Rattle.shape.proofs.Runs.{blocked_place_from}
use Rattle.shape.proofs.Bijections.{blocked_bijection}
use Rattle.calls.specs.declared.Verdict.{Verdict}
use Rattle.calls.specs.Refusals.{success, accepted, refusal, refuse_if, finite_rule}
use Rattle.calls.specs.Variances.{columns_from}
use Rattle.calls.proofs.Sequences.{all_of}
use Rattle.calls.proofs.Refusals.{not_not, is_not_not, refuse_not, not_refused, lowest_success, lowest_accepted, Lowest, lowest_refused, finite_rule_lem}
use Rattle.calls.proofs.Judging.{lowest_found, lowest_all}
use Rattle.calls.proofs.CheckLaws.{refuse_accepted, finite_at, refused_at}
use Rattle.calls.proofs.ColumnsFrom.{zero_finite, length_columns, columns_before, columns_after}
use Rattle.variance.specs.Parts.{finite_part}

-- ---- a part

finite_passes : (m : List Float) (p : ℕ) → T (finite (get_or m p nan)) → finite_at 7 m p ≡ success
finite_passes m p f = refuse_not (not (finite (get_or m p nan))) (refusal 7 p zero64) (is_not_not (finite (get_or m p nan)) f)

passes_finite : (m : List Float) (p : ℕ) → T (accepted (finite_at 7 m p)) → T (finite (get_or m p nan))
passes_finite m p h = not_not (finite (get_or m p nan)) (not_refused (not (finite (get_or m p nan))) 6 p zero64 h)

place_free : (b : Bool) (p q : ℕ) → accepted (refuse_if (not b) (refusal 7 p zero64)) ≡ accepted (refuse_if (not b) (refusal 7 q zero64))
place_free true p q = refl
place_free false p q = refl

-- all values before `at` are finite
abbrev pub Passed : List Float → ℕ → Type 0
Passed m at = (p : ℕ) → p < at → T (finite (get_or m p nan))

-- the values of a part, as it is lent, judged at their positions in the whole
module _ (m : List Float) (from to : ℕ) (fits : to ≤ length m) where
  abbrev part : List Float
  part = take (to - from) (drop from m)

  size : length part ≡ to - from
  size = omega (arith, length-take (to - from) (drop from m), length-drop from m)

  same : (c : ℕ) → c < to - from → get_or part c nan ≡ get_or m (from + c) nan
  same c h = get_or-take (to - from) (drop from m) c nan h ∙ get_or-drop from m c nan

  alike : (c : ℕ) → c < to - from → accepted (finite_at 7 part c) ≡ accepted (finite_at 7 m (from + c))
  alike c h =
      ap (λ x. accepted (refuse_if (not (finite x)) (refusal 7 c zero64))) (same c h) ∙ place_free (finite (get_or m (from + c) nan)) c (from + c)

  pub part_accepted : T (accepted (finite_rule 7 part)) → finite_part from to m ≡ success
  unfolding finite_rule finite_part
  part_accepted h =
      lowest_success (λ c. finite_at 7 m (from + c)) (to - from)
      (λ c p.
      finite_passes m (from + c)
      (subst (λ x. T (finite x)) (same c p) (passes_finite part c (lowest_accepted (finite_at 7 part) (length part) h c (omega (arith, size))))))

  pub refused_inside : accepted (finite_rule 7 part) ≡ false → (finite_rule 7 part).place < to - from
  unfolding finite_rule
  refused_inside e =
      let found : Lowest (finite_at 7 part) (length part) (finite_rule 7 part) = lowest_refused (finite_at 7 part) (length part) (rw e tt) in
      let here : (finite_rule 7 part).place ≡ found.at =
      ap (λ (v : Verdict). v.place) (found.there ∙ refused_at part found.at (ap accepted (sym found.there) ∙ e)) in
      omega (arith, found.inside, size)

  pub part_refused : accepted (finite_rule 7 part) ≡ false → refusal 7 (from + (finite_rule 7 part).place) zero64 ≡ finite_part from to m
  unfolding finite_rule finite_part
  part_refused e = go (lowest_refused (finite_at 7 part) (length part) (rw e tt))
    where
      go : Lowest (finite_at 7 part) (length part) (finite_rule 7 part) → refusal 7 (from + (finite_rule 7 part).place) zero64 ≡ finite_part from to m
      go found =
          let at : ℕ = found.at in
          let inside : at < to - from = omega (arith, found.inside, size) in
          let refused : accepted (finite_at 7 part at) ≡ false = ap accepted (sym found.there) ∙ e in
          let here : (finite_rule 7 part).place ≡ at = ap (λ (v : Verdict). v.place) (found.there ∙ refused_at part at refused) in
          let there : accepted (finite_at 7 m (from + at)) ≡ false = sym (alike at inside) ∙ refused in
          ap (λ p. refusal 7 (from + p) zero64) here ∙ sym (refused_at m (from + at) there)
          ∙ sym
          (lowest_found (λ c. finite_at 7 m (from + c)) at (to - from) inside
          (lowest_success (λ c. finite_at 7 m (from + c)) at
          (λ c p. finite_passes m (from + c) (subst (λ x. T (finite x)) (same c (omega arith)) (passes_finite part c (found.before c p)))))
          there)

-- ---- the whole, of which the values before `from` are finite and a part is that of the matrix

module _ (m matrix : List Float) (from to : ℕ) (before : Passed m from) (same : (p : ℕ) → from ≤ p → p < to → get_or m p nan ≡ get_or matrix p nan) where
  pub part_passed : accepted (finite_part from to matrix) ≡ true → Passed m to
  unfolding finite_part
  part_passed e p h =
      elim (dec_lt p from) [
        | yes low ↦ before p low
        | no high ↦
            let at : from + (p - from) ≡ p = omega arith in
            subst (λ x. T (finite x)) (sym (same p (omega arith) h))
            (rw at at
            (passes_finite matrix (from + (p - from))
            (lowest_accepted (λ c. finite_at 7 matrix (from + c)) (to - from) (rw e tt) (p - from) (omega arith))))
      ]

  pub part_decides : to ≤ length m → accepted (finite_part from to matrix) ≡ false → finite_part from to matrix ≡ finite_rule 7 m
  unfolding finite_part finite_rule
  part_decides fits e = go (lowest_refused (λ c. finite_at 7 matrix (from + c)) (to - from) (rw e tt))
    where
      go : Lowest (λ c. finite_at 7 matrix (from + c)) (to - from) (finite_part from to matrix) → finite_part from to matrix ≡ finite_rule 7 m
      go found =
          let at : ℕ = from + found.at in
          let inside : found.at < to - from = found.inside in
          let here : get_or m at nan ≡ get_or matrix at nan = same at (omega arith) (omega arith) in
          let refused : finite_at 7 m at ≡ finite_at 7 matrix at = ap (λ x. refuse_if (not (finite x)) (refusal 7 at zero64)) here in
          found.there ∙ sym refused
          ∙ sym
          (lowest_found (finite_at 7 m) at (length m) (omega arith)
          (lowest_success (finite_at 7 m) at (λ p h. finite_passes m p (earlier p h)))
          (ap accepted (refused ∙ sym found.there) ∙ e))
        where
          earlier : (p : ℕ) → p < from + found.at → T (finite (get_or m p nan))
          earlier p h =
              elim (dec_lt p from) [
                | yes low ↦ before p low
                | no high ↦
                    let back : from + (p - from) ≡ p = omega arith in
                    subst (λ x. T (finite x)) (sym (same p (omega arith) (omega (arith, found.inside))))
                    (rw back at (passes_finite matrix (from + (p - from)) (found.before (p - from) (omega arith))))
              ]

part_success : (from to : ℕ) (m : List Float) → accepted (finite_part from to m) ≡ true → finite_part from to m ≡ success
unfolding finite_part
part_success from to m e =
    lowest_all (λ c. finite_at 7 m (from + c)) (λ c. refuse_accepted (not (finite (get_or m (from + c) nan))) 6 (from + c)) (to - from) (rw e tt)

-- the last part
pub rest_decides :
    (m matrix : List Float) (from : ℕ) → Passed m from → ((p : ℕ) → from ≤ p → p < length m → get_or m p nan ≡ get_or matrix p nan) →
    finite_part from (length m) matrix ≡ finite_rule 7 m
rest_decides m matrix from before same = go (accepted (finite_part from (length m) matrix)) refl
  where
    go : (b : Bool) → accepted (finite_part from (length m) matrix) ≡ b → finite_part from (length m) matrix ≡ finite_rule 7 m
    go true e = part_success from (length m) matrix e ∙ sym (finite_rule_lem 7 m (all_of finite m nan (part_passed m matrix from (length m) before same e)))
    go false e = part_decides m matrix from (length m) before same (omega arith) e

-- ---- the columns from k on

module _ (place : ℕ → ℕ → ℕ) (n k : ℕ) (bij : Bijection place n) (matrix : List Float) (whole : length matrix ≡ triangle n) where
  abbrev judged : List Float
  judged = columns_from k place n matrix

  -- what stands before all of their places is +0
  pub before_columns : (at : ℕ) → at ≤ triangle n → ((i j : ℕ) → Entry n i j → k ≤ j → at ≤ place i j) → Passed judged at
  before_columns at fits first p h =
      let from : (i : ℕ) × (j : ℕ) × Entry n i j × (place i j ≡ p) = bij.onto p (omega arith) in
      elim (dec_lt from.1 k) [
        | yes low ↦
            subst (λ q. T (finite (get_or judged q nan))) from.3
            (subst (λ x. T (finite x)) (sym (columns_before place n k bij matrix whole from.0 from.1 from.2 low)) zero_finite)
        | no high ↦ absurd (omega (arith, from.3, first from.0 from.1 from.2 (omega arith)))
      ]

  -- from column d on they are all that follows, where these columns are a triangle of order n − d
  pub columns_rest :
      (place' : ℕ → ℕ → ℕ) (d : ℕ) → k ≤ d → d ≤ n → Bijection place' (n - d) →
      ((i j : ℕ) → Entry (n - d) i j → place (d + i) (d + j) ≡ block_start n d + place' i j) →
      (p : ℕ) → block_start n d ≤ p → p < triangle n → get_or judged p nan ≡ get_or matrix p nan
  columns_rest place' d low fits bij' parts p after inside =
      let size : triangle n ≡ block_start n d + triangle (n - d) = triangle_rest n d fits in
      let from : (i : ℕ) × (j : ℕ) × Entry (n - d) i j × (place' i j ≡ p - block_start n d) = bij'.onto (p - block_start n d) (omega arith) in
      let e : Entry n (d + from.0) (d + from.1) = record { lower = omega (arith, from.2.lower); inside = omega (arith, from.2.inside) } in
      let at : place (d + from.0) (d + from.1) ≡ p = omega (arith, parts from.0 from.1 from.2, from.3) in
      rw at at (columns_after place n k bij matrix whole (d + from.0) (d + from.1) e (omega arith))

-- where they are a triangle of order n − k: all values that follow
pub rest_judged :
    (place place' : ℕ → ℕ → ℕ) (n k : ℕ) → k ≤ n → Bijection place n → Bijection place' (n - k) →
    ((i j : ℕ) → Entry (n - k) i j → place (k + i) (k + j) ≡ block_start n k + place' i j) → (matrix : List Float) → length matrix ≡ triangle n →
    finite_part (block_start n k) (length matrix) matrix ≡ finite_rule 7 (columns_from k place n matrix)
rest_judged place place' n k fits bij bij' parts matrix whole =
    let size : length (columns_from k place n matrix) ≡ length matrix = length_columns place n k bij matrix whole ∙ sym whole in
    rw size at
    (rest_decides (columns_from k place n matrix) matrix (block_start n k)
    (before_columns place n k bij matrix whole (block_start n k) (block_start_le n k fits)
    (λ i j e low.
    let row : k + (i - k) ≡ i = omega (arith, e.lower) in
    let column : k + (j - k) ≡ j = omega arith in
    let at : place i j ≡ block_start n k + place' (i - k) (j - k) =
    rw (row, column) at (parts (i - k) (j - k) (record { lower = omega (arith, e.lower); inside = omega (arith, e.inside, e.lower) })) in
    omega (arith, at)))
    (λ p after inside.
    columns_rest place n k bij matrix whole place' k (omega arith) fits bij' parts p after (omega (arith, length_columns place n k bij matrix whole))))

-- blocked: row by row in the block column that holds k, and then all values. Of row i the entry in column k is at `from`, and all values before the
-- row are finite or not judged.
pub record RowsPassed (n b k : ℕ) (matrix : List Float) (i from : ℕ) : Type 0 where
  pub low : k ≤ i
  pub high : i ≤ n
  pub at : from ≡ block_start n (block_of b k) + place_in_block (width n b (block_of b k)) (i - block_of b k) 0 + (k - block_of b k)
  pub passed :
      Passed (columns_from k (blocked_place n b) n matrix)
      (block_start n (block_of b k) + place_in_block (width n b (block_of b k)) (i - block_of b k) 0)

-- a turn on row i: its part of the matrix, and what it says
pub record RowTurn (n b k : ℕ) (matrix : List Float) (i from to : ℕ) : Type 0 where
  pub columns : k ≤ min (i + 1) (block_of b k + width n b (block_of b k))
  pub rising : from ≤ to
  pub fits : to ≤ length matrix
  pub refused : accepted (finite_part from to matrix) ≡ false → finite_part from to matrix ≡ finite_rule 7 (columns_from k (blocked_place n b) n matrix)
  pub passed : accepted (finite_part from to matrix) ≡ true → RowsPassed n b k matrix (i + 1) (to + (k - block_of b k))

module _ (n b k : ℕ) (pos : 0 < b) (inside : k < n) (matrix : List Float) (whole : length matrix ≡ triangle n) where
  abbrev c : ℕ
  c = block_of b k

  abbrev w : ℕ
  w = width n b c

  -- where row r of the block column begins
  abbrev row_at : ℕ → ℕ
  row_at r = block_start n c + place_in_block w r 0

  abbrev blocks : List Float
  blocks = columns_from k (blocked_place n b) n matrix

  places : Bijection (blocked_place n b) n
  places = blocked_bijection n b pos

  first : block_of b c ≡ c
  first = block_of_block b k pos

  ends : c + w ≤ n
  ends = omega (arith, width_le n b c, block_of_le b k)

  last_row : block_start n (c + w) ≡ row_at (n - c)
  last_row = block_end n c w ends

  rows_rise : (r r' : ℕ) → r ≤ r' → row_at r ≤ row_at r'
  rows_rise r r' le = omega (arith, place_in_block_row w r 0, place_in_block_row w r' 0, starts_mono (row_length w) r r' le)

  row_fits : (r : ℕ) → r ≤ n - c → row_at r ≤ triangle n
  row_fits r le = omega (arith, rows_rise r (n - c) le, last_row, block_start_le n (c + w) ends)

  after_first : (i j : ℕ) → Entry n i j → k ≤ j → row_at (k - c) ≤ blocked_place n b i j
  after_first i j e low =
      elim (dec_lt j (c + w)) [
        | yes here ↦
            let row : c + (i - c) ≡ i = omega (arith, e.lower, block_of_le b k) in
            let column : c + (j - c) ≡ j = omega (arith, block_of_le b k) in
            let at : blocked_place n b i j ≡ block_start n c + place_in_block w (i - c) (j - c) =
            rw (row, column) at (blocked_place_at n b c (i - c) (j - c) first (omega (arith, width_le_block n b c, block_of_le b k))) in
            omega (
              arith,
              at,
              rows_rise (k - c) (i - c) (omega (arith, e.lower)),
              place_in_block_row w (i - c) (j - c),
              place_in_block_row w (i - c) 0,
            )
        | no later ↦
            let d : ℕ = c + w in
            let row : d + (i - d) ≡ i = omega (arith, e.lower) in
            let column : d + (j - d) ≡ j = omega arith in
            let next : block_of b d ≡ d = first_next n b c pos first (omega (arith, e.lower, e.inside)) in
            let at : blocked_place n b i j ≡ block_start n d + blocked_place (n - d) b (i - d) (j - d) =
            rw (row, column) at
            (blocked_place_from n b d (i - d) (j - d) pos next (record { lower = omega (arith, e.lower); inside = omega (arith, e.inside, e.lower) })) in
            omega (arith, at, last_row, rows_rise (k - c) (n - c) (omega arith))
      ]

  first_passed : Passed blocks (row_at (k - c))
  first_passed = before_columns (blocked_place n b) n k places matrix whole (row_at (k - c)) (row_fits (k - c) (omega arith)) after_first

  -- a row's entries in the block column
  module _ (r : ℕ) (row : c + r < n) where
    row_place_lem : (s : ℕ) → s < row_length w r → blocked_place n b (c + r) (c + s) ≡ row_at r + s
    row_place_lem s h =
        omega (
          arith,
          blocked_place_at n b c r s first (omega (arith, width_le_block n b c)),
          place_in_block_row w r s,
          place_in_block_row w r 0,
        )

    row_entry : (s : ℕ) → s < row_length w r → Entry n (c + r) (c + s)
    row_entry s h = record { lower = omega arith; inside = row }

    row_skipped : k - c ≤ row_length w r → Passed blocks (row_at r) → Passed blocks (row_at r + (k - c))
    row_skipped enough before p h =
        elim (dec_lt p (row_at r)) [
          | yes low ↦ before p low
          | no high ↦
              let s : ℕ = p - row_at r in
              let short : s < row_length w r = omega arith in
              let at : blocked_place n b (c + r) (c + s) ≡ p = row_place_lem s short ∙ back p high in
              subst (λ q. T (finite (get_or blocks q nan))) at
              (subst (λ x. T (finite x)) (sym (columns_before (blocked_place n b) n k places matrix whole (c + r) (c + s) (row_entry s short) (omega arith)))
              zero_finite)
        ]
      where
        back : (p : ℕ) → (p < row_at r → Prim.⊥) → row_at r + (p - row_at r) ≡ p
        back p high = omega arith

    row_same : (p : ℕ) → row_at r + (k - c) ≤ p → p < row_at r + row_length w r → get_or blocks p nan ≡ get_or matrix p nan
    row_same p low h =
        let s : ℕ = p - row_at r in
        let short : s < row_length w r = omega arith in
        let back : row_at r + s ≡ p = omega arith in
        let at : blocked_place n b (c + r) (c + s) ≡ p = row_place_lem s short ∙ back in
        rw at at (columns_after (blocked_place n b) n k places matrix whole (c + r) (c + s) (row_entry s short) (omega (arith, block_of_le b k)))

  pub rows_start : RowsPassed n b k matrix k (blocked_place n b k k)
  rows_start =
      let up : c + (k - c) ≡ k = omega (arith, block_of_le b k) in
      let at : blocked_place n b k k ≡ row_at (k - c) + (k - c) =
      rw up at (row_place_lem (k - c) (omega (arith, block_of_le b k)) (k - c) (omega (arith, column_in_width n b k pos inside))) in
      record { low = omega arith; high = omega arith; at = at; passed = first_passed }

  -- a turn: row i from column k on
  module _ (i from to : ℕ) (s : RowsPassed n b k matrix i from) (row : i < n) (end : to ≡ from + (min (i + 1) (c + w) - k)) where
    wide : k ≤ min (i + 1) (c + w)
    wide = omega (arith, s.low, column_in_width n b k pos inside)

    entries : row_length w (i - c) + c ≡ min (i + 1) (c + w)
    entries = omega (arith, s.low, block_of_le b k)

    row_end : to ≡ row_at (i - c) + row_length w (i - c)
    row_end = omega (arith, end, s.at, entries, wide, block_of_le b k)

    next_row : row_at (i + 1 - c) ≡ to
    next_row =
        let next : i - c + 1 ≡ i + 1 - c = omega (arith, s.low, block_of_le b k) in
        let there : row_at (i - c + 1) ≡ to = omega (arith, row_end, place_in_block_next_row w (i - c) 0) in
        rw next at there

    row_inside : to ≤ length matrix
    row_inside = omega (arith, next_row, row_fits (i + 1 - c) (omega (arith, block_of_le b k)), whole)

    skipped : Passed blocks from
    skipped =
        rw (sym s.at) at
        (row_skipped (i - c) (omega (arith, s.low, block_of_le b k)) (omega (arith, entries, wide)) s.passed)

    alike_row : (p : ℕ) → from ≤ p → p < to → get_or blocks p nan ≡ get_or matrix p nan
    alike_row p low less = row_same (i - c) (omega (arith, s.low, block_of_le b k)) p (omega (arith, s.at)) (omega (arith, row_end))

    row_refused : accepted (finite_part from to matrix) ≡ false → finite_part from to matrix ≡ finite_rule 7 blocks
    row_refused e =
        part_decides blocks matrix from to skipped alike_row (omega (arith, row_inside, length_columns (blocked_place n b) n k places matrix whole, whole)) e

    row_passed : accepted (finite_part from to matrix) ≡ true → RowsPassed n b k matrix (i + 1) (to + (k - c))
    row_passed e =
        record {
          low = omega (arith, s.low);
          high = omega arith;
          at = ap (λ p. p + (k - c)) (sym next_row);
          passed = rw next_row (part_passed blocks matrix from to skipped alike_row e);
        }

    pub row_turn : RowTurn n b k matrix i from to
    row_turn = record { columns = wide; rising = omega arith; fits = row_inside; refused = row_refused; passed = row_passed }

  pub rows_end : (from : ℕ) → RowsPassed n b k matrix n from → finite_part (block_start n (c + w)) (length matrix) matrix ≡ finite_rule 7 blocks
  rows_end from s =
      let d : ℕ = c + w in
      let size : length blocks ≡ length matrix = length_columns (blocked_place n b) n k places matrix whole ∙ sym whole in
      rw size at
      (rest_decides blocks matrix (block_start n d) (rw last_row s.passed)
      (λ p after within.
      columns_rest (blocked_place n b) n k places matrix whole (blocked_place (n - d) b) d (omega (arith, column_in_width n b k pos inside)) ends
      (blocked_bijection (n - d) b pos)
      (λ i j e. blocked_place_from n b d i j pos (first_next n b c pos first (omega (arith, e.inside))) e) p after
      (omega (arith, length_columns (blocked_place n b) n k places matrix whole))))
