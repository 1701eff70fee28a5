-- When the rules before any work pass: rules 1 to 6, 14 and 17 by numbers, rule 15 by the state, rule 7 on stored finite columns. Assumes nothing.
use Prim.Native.Nat.{ℕ, ◌*◌, ◌≤◌, ◌<◌}
use native.Mathlib.Omega.{arith}
use mathlib.Core.Path.{◌≡◌, refl, ap, ◌∙◌}
use mathlib.Core.Bool.{Bool, true, false, not, ◌&&◌, ◌||◌}
use mathlib.Core.List.{List, [], ◌∷◌, ◌++◌}
use borrow.Author.Tests.{lt-ltb, le-ltb, eq-eqb, ne_eqb}
use lib.Dec.{T}
use lib.ListN.{length, drop, replicate, length-append, length-replicate, length-drop}
use lib.Ieee.{Float}
use Rattle.binary64.specs.Kinds.{finite, zero64}
use Rattle.shape.specs.Bounds.{max_order, max_block, max_rhs}
use Rattle.shape.specs.Places.{triangle}
use Rattle.shape.specs.declared.Shape.{Shape}
use Rattle.calls.specs.declared.Verdict.{Verdict}
use Rattle.calls.specs.Sequences.{all}
use Rattle.calls.specs.declared.Layout.{Layout}
use Rattle.calls.specs.declared.Call.{Call}
use Rattle.calls.specs.declared.Call.TheVariants.{Rearranger, Factor}
use Rattle.calls.specs.States.{next, suits}
use Rattle.calls.specs.Refusals.{needed_work, by_blocks, success, refusal, refuse_if, first_refusal, rule1, rule2, rule17, rule15, rule3, rule4, rule14, rule5, rule6, rule7}
use Rattle.calls.specs.Calls.{clear, rearranger_checks, factor_checks}
use Rattle.calls.proofs.Refusals.{is_not_not, refuse_not, first_passes, finite_rule_lem}

pub rule1_passes : (n : ℕ) → n ≤ max_order → rule1 n ≡ success
unfolding rule1
rule1_passes n h = ap (λ c. refuse_if c (refusal 1 0 zero64)) (le-ltb max_order n h)

pub rule2_passes : (call : Call) (b : ℕ) → 1 ≤ b → b ≤ max_block → rule2 call b ≡ success
unfolding rule2
rule2_passes call b low high =
    rw (ne_eqb b 0 (λ e. omega arith), le-ltb max_block b high) (go (by_blocks call))
  where
    go : (c : Bool) → refuse_if (c && (false || false)) (refusal 2 0 zero64) ≡ success
    go true = refl
    go false = refl

pub rule17_passes : (form : ℕ) → form ≤ 1 → rule17 form ≡ success
unfolding rule17
rule17_passes form h = ap (λ c. refuse_if c (refusal 17 0 zero64)) (le-ltb 1 form h)

pub rule15_passes : (call : Call) (state : ℕ) → T (suits (next call state)) → rule15 call state ≡ success
unfolding rule15
rule15_passes call state h = refuse_not (not (suits (next call state))) (refusal 15 0 zero64) (is_not_not (suits (next call state)) h)

pub rule3_passes : (n l : ℕ) → l ≡ triangle n → rule3 n l ≡ success
unfolding rule3
rule3_passes n l e = ap (λ c. refuse_if (not c) (refusal 3 0 zero64)) (eq-eqb l (triangle n) e)

pub rule4_passes : (call : Call) (n b l : ℕ) → needed_work call n b ≤ l → rule4 call n b l ≡ success
unfolding rule4
rule4_passes call n b l h = ap (λ c. refuse_if c (refusal 4 0 zero64)) (le-ltb l (needed_work call n b) h)

pub rule14_passes : (n k : ℕ) → k < n → rule14 n k ≡ success
unfolding rule14
rule14_passes n k h = ap (λ c. refuse_if (not c) (refusal 14 0 zero64)) (lt-ltb k n h)

pub rule5_passes : (m : ℕ) → m ≤ max_rhs → rule5 m ≡ success
unfolding rule5
rule5_passes m h = ap (λ c. refuse_if c (refusal 5 0 zero64)) (le-ltb max_rhs m h)

pub rule6_passes : (n m l : ℕ) → l ≡ n * m → rule6 n m l ≡ success
unfolding rule6
rule6_passes n m l e = ap (λ c. refuse_if (not c) (refusal 6 0 zero64)) (eq-eqb l (n * m) e)

-- ---- rules 1 to 4 and 15 together

-- a shape within its bounds and in a state that suits the call, a matrix of its length and work enough for the call
pub record Sizes (call : Call) (shape : Shape) (matrix_length work_length : ℕ) : Type 0 where
  pub order : shape.order ≤ max_order
  pub block_low : 1 ≤ shape.block
  pub block_high : shape.block ≤ max_block
  pub state : T (suits (next call shape.state))
  pub matrix : matrix_length ≡ triangle shape.order
  pub work : needed_work call shape.order shape.block ≤ work_length

module _ (call : Call) (shape : Shape) (ml wl : ℕ) where
  abbrev pub size_rules : List Verdict
  size_rules =
      rule1 shape.order ∷ rule2 call shape.block ∷ rule15 call shape.state ∷ rule3 shape.order ml
      ∷ rule4 call shape.order shape.block wl ∷ []

  pub sizes_pass : (rest : List Verdict) → Sizes call shape ml wl → first_refusal (size_rules ++ rest) ≡ first_refusal rest
  sizes_pass rest s =
      first_passes _ _ (rule1_passes shape.order s.order)
      ∙ first_passes _ _ (rule2_passes call shape.block s.block_low s.block_high)
      ∙ first_passes _ _ (rule15_passes call shape.state s.state)
      ∙ first_passes _ _ (rule3_passes shape.order ml s.matrix)
      ∙ first_passes _ _ (rule4_passes call shape.order shape.block wl s.work)

pub rearranger_checks_lem :
    (from to : Layout) (shape : Shape) (ml wl : ℕ) → Sizes (Rearranger from to) shape ml wl → rearranger_checks from to shape ml wl ≡ success
unfolding rearranger_checks first_refusal
rearranger_checks_lem from to shape ml wl s = sizes_pass (Rearranger from to) shape ml wl [] s

pub factor_checks_lem :
    (layout : Layout) (shape : Shape) (matrix : List Float) (wl : ℕ) → Sizes (Factor layout) shape (length matrix) wl → T (all finite matrix) →
    factor_checks layout shape matrix wl ≡ success
unfolding factor_checks first_refusal
factor_checks_lem layout shape matrix wl s f =
    sizes_pass (Factor layout) shape (length matrix) wl (rule7 matrix ∷ []) s
    ∙ first_passes (rule7 matrix) [] (finite_rule_lem 7 matrix f)

-- ---- clearing keeps the length

pub length_clear : (needed : ℕ) (work : List Float) → needed ≤ length work → length (clear needed work) ≡ length work
unfolding clear
length_clear needed work h =
    length-append (replicate needed zero64) (drop needed work)
    ∙ rw (length-replicate needed zero64, length-drop needed work) (omega arith)
