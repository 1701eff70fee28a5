-- `variance::rules::check_columns_from` meets its contract, by cases on the layout and on where k is in its block column. Assumes nothing.
use Prim.Native.Nat.{ℕ, ◌-◌, ◌<◌}
use native.Mathlib.Omega.{arith}
use mathlib.Core.Path.{◌≡◌, refl, sym, ap, ◌∙◌}
use mathlib.Core.Bool.{true, false, false≢true}
use mathlib.Core.List.{List}
use lib.ListN.{length}
use lib.Ieee.{Float}
use denote.Enum.Bare.{sameb}
use Rattle.shape.specs.Places.{triangle, packed_place, block_of, block_start, blocked_place}
use Rattle.shape.proofs.Bounds.{block_start_le}
use Rattle.shape.proofs.Columns.{packed_place_at}
use Rattle.shape.proofs.Runs.{blocked_place_from}
use Rattle.shape.proofs.Bijections.{packed_bijection, blocked_bijection}
use Rattle.calls.specs.declared.Layout.{Layout}
use Rattle.calls.specs.declared.Layout.TheVariants.{Packed, Blocked}
use Rattle.calls.specs.contracts.Layout.{the_type}
use Rattle.calls.specs.Triangles.{place_of}
use Rattle.calls.specs.Refusals.{rule7}
use Rattle.calls.specs.Variances.{columns_from}
use Rattle.variance.specs.Parts.{finite_part}
use Rattle.variance.proofs.ColumnParts.{rest_judged}
use Rattle.variance.proofs.rules.check_columns_from.Goals as goal
use Rattle.variance.proofs.rules.check_columns_from.Goals.{else-eq-via-then-eq+else-block_of-k, else-eq-via-else-eq}

is_blocked : (layout : Layout) → true ≡ sameb the_type layout Blocked → layout ≡ Blocked
is_blocked Packed e = absurd (false≢true (sym e))
is_blocked Blocked e = refl

not_blocked : (layout : Layout) → false ≡ sameb the_type layout Blocked → layout ≡ Blocked → ⊥
not_blocked Packed e same = cc
not_blocked Blocked e same = false≢true e

-- columns that are all that follows
whole :
    (layout : Layout) (n b k : ℕ) (matrix : List Float) → k < n → length matrix ≡ triangle n → (layout ≡ Blocked → (0 < b) × (block_of b k ≡ k)) →
    finite_part (block_start n k) (length matrix) matrix ≡ rule7 (columns_from k (place_of layout n b) n matrix)
unfolding place_of
whole Packed n b k matrix inside size first =
    rest_judged (packed_place n) (packed_place (n - k)) n k (omega arith) (packed_bijection n) (packed_bijection (n - k)) (packed_place_at n k) matrix size
whole Blocked n b k matrix inside size first =
    let known = first refl in
    rest_judged (blocked_place n b) (blocked_place (n - k) b) n k (omega arith) (blocked_bijection n b known.0) (blocked_bijection (n - k) b known.0)
    (λ i j e. blocked_place_from n b k i j known.0 known.1 e) matrix size

pub check_part-requires : goal.check_part-requires
check_part-requires c =
    let a = c.args in
    (omega (arith, c.block_start.ensures, block_start_le a.shape.order a.k (omega arith)), omega arith)

pub returns-then-block_of-k : goal.returns-then-block_of-k
unfolding place_of
returns-then-block_of-k c = rw (is_blocked c.args.layout c.if-eq.ensures) c.check_blocks_from.ensures

pub returns : goal.returns
returns c =
    let a = c.args in
    c.check_part.ensures ∙ ap (λ q. finite_part q (length a.matrix.now) a.matrix.now) c.block_start.ensures
    ∙ whole a.layout a.shape.order a.shape.block a.k a.matrix.now (omega arith) c.requires.matrix_len
    (elim c.else-eq.branch [
      | else-eq-via-then-eq+else-block_of-k w ↦ λ same. (c.requires.block_nonzero (rw same tt), sym w.block_of.ensures ∙ w.if-block_of-k.false)
      | else-eq-via-else-eq w ↦ λ same. absurd (not_blocked a.layout w.if-eq.ensures same)
    ])
