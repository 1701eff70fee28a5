-- `checks::rules::check_diagonal` meets its contract. The loop's invariant: no column from k on and before j refuses. The measure is the number of columns left.
-- Each place read is below the triangle's length, as both layouts are bijections. Assumes nothing.
use Prim.Native.Nat.{ℕ, ◌+◌, ◌-◌, ◌≤◌, ◌<◌}
use native.Mathlib.Omega.{arith}
use mathlib.Core.Path.{◌≡◌, refl, sym, ap, ◌∙◌, subst}
use mathlib.Core.Bool.{true, false}
use mathlib.Core.List.{List}
use lib.Dec.{T}
use lib.ListN.{length, get_or}
use lib.Ieee.{Float, nan, of_bits}
use Rattle.binary64.specs.Kinds.{positive, zero64}
use Rattle.shape.specs.Places.{triangle}
use Rattle.shape.specs.Layouts.{Entry}
use Rattle.calls.specs.declared.Layout.{Layout}
use Rattle.calls.specs.declared.Call.TheVariants.{Solver}
use Rattle.calls.specs.Triangles.{place_of}
use Rattle.calls.specs.Refusals.{success, accepted, refusal, lowest_refusal, by_blocks, rule9}
use Rattle.calls.proofs.Judging.{lowest_next, lowest_found}
use Rattle.calls.proofs.Rearranging.{place_bijection}
use Rattle.checks.proofs.rules.check_diagonal.Invariants.{from}
use Rattle.checks.proofs.rules.check_diagonal.Goals as goal

on_diagonal : (n j : ℕ) → j < n → Entry n j j
on_diagonal n j h = record { lower = omega arith; inside = h }

-- ---- a turn

-- column k + c, judged after the c columns before it
module _ (place : ℕ → ℕ → ℕ) (matrix : List Float) (k j : ℕ) (low : k ≤ j) (before : lowest_refusal (from place matrix k) (j - k) ≡ success) where
  here : k + (j - k) ≡ j
  here = omega arith

  positive_next : positive (get_or matrix (place j j) nan) ≡ true → lowest_refusal (from place matrix k) (j + 1 - k) ≡ success
  positive_next f =
      let next : j - k + 1 ≡ j + 1 - k = omega arith in
      let judged : from place matrix k (j - k) ≡ success = rw (here, f) refl in
      rw next at (lowest_next (from place matrix k) (j - k) before ∙ judged)

  positive_found : (n : ℕ) → j < n → positive (get_or matrix (place j j) nan) ≡ false → rule9 place k n matrix ≡ refusal 9 j zero64
  unfolding rule9
  positive_found n h f =
      let judged : from place matrix k (j - k) ≡ refusal 9 j zero64 = rw (here, f) refl in
      lowest_found (from place matrix k) (j - k) (n - k) (omega arith) before (ap accepted judged) ∙ judged

-- ---- the loop

pub loop-j-init : goal.loop-j-init
unfolding lowest_refusal
loop-j-init c =
    let k = c.args.k in
    let none : k - k ≡ 0 = omega arith in
    (omega arith, omega arith, rw none refl)

pub place_of-p-requires : goal.place_of-p-requires
place_of-p-requires c =
    record { order_le_max_order = c.requires.order_le_max_order; block_nonzero = c.requires.block_nonzero; entry = on_diagonal c.args.shape.order c.loop-j.j c.loop-j-test.true }

inside :
    (layout : Layout) (n b j p size : ℕ) → (T (by_blocks (Solver layout)) → 0 < b) → j < n → p ≡ place_of layout n b j j → size ≡ triangle n → p < size
inside layout n b j p size blocks below here whole =
    let bijection = place_bijection layout n b (λ e. blocks (subst (λ l. T (by_blocks (Solver l))) (sym e) tt)) in
    omega (arith, bijection.below j j (on_diagonal n j below))

pub offset_bounds-matrix-p : goal.offset_bounds-matrix-p
offset_bounds-matrix-p c = omega (arith, inside c.args.layout c.args.shape.order c.args.shape.block c.loop-j.j c.place_of-p.result (length c.args.matrix.now) c.requires.block_nonzero c.loop-j-test.true c.place_of-p.ensures c.requires.matrix_len)

pub bounds-matrix-p : goal.bounds-matrix-p
bounds-matrix-p c = inside c.args.layout c.args.shape.order c.args.shape.block c.loop-j.j c.place_of-p.result (length c.args.matrix.now) c.requires.block_nonzero c.loop-j-test.true c.place_of-p.ensures c.requires.matrix_len

pub returns-then-not-matrix-p : goal.returns-then-not-matrix-p
unfolding positive of_bits
returns-then-not-matrix-p c =
    let n = c.args.shape.order in
    let place = place_of c.args.layout n c.args.shape.block in
    let matrix = c.args.matrix.now in
    let here : positive (get_or matrix (place c.loop-j.j c.loop-j.j) nan) ≡ false =
    sym (ap (λ (p : ℕ). positive (get_or matrix p nan)) c.place_of-p.ensures) ∙ c.if-not-matrix-p.true
    in
    sym (positive_found place matrix c.args.k c.loop-j.j c.loop-j.invariant.0 c.loop-j.invariant.2 n c.loop-j-test.true here)

pub loop-j-preserved : goal.loop-j-preserved
unfolding positive of_bits
loop-j-preserved c =
    let place = place_of c.args.layout c.args.shape.order c.args.shape.block in
    let matrix = c.args.matrix.now in
    let here : positive (get_or matrix (place c.loop-j.j c.loop-j.j) nan) ≡ true =
    sym (ap (λ (p : ℕ). positive (get_or matrix p nan)) c.place_of-p.ensures) ∙ c.if-not-matrix-p.false
    in
    (omega arith, omega arith, positive_next place matrix c.args.k c.loop-j.j c.loop-j.invariant.0 c.loop-j.invariant.2 here)

pub returns : goal.returns
unfolding rule9
returns c =
    let shape = c.args.shape in
    let end : c.loop-j.j ≡ shape.order = omega arith in
    sym (rw end at c.loop-j.invariant.2)
