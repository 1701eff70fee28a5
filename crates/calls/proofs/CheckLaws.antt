-- Laws of the checks before any work: what an accepted rule, and an accepted check, says of its arguments, and which codes the checks answer. Assumes nothing.
use Prim.Native.Nat.{ℕ, zero, suc, ◌+◌, ◌-◌, ◌*◌, ◌≤◌, ◌<◌}
use native.Mathlib.Nat.{zero-add, sub-zero}
use native.Mathlib.Omega.{arith}
use mathlib.Core.Path.{◌≡◌, refl, sym, ap, ◌∙◌, subst}
use mathlib.Core.Bool.{Bool, true, false, not, ◌&&◌, ◌||◌}
use mathlib.Core.List.{List, [], ◌∷◌, ◌++◌}
use borrow.Author.Tests.{le-ltb, ne_eqb}
use lib.Dec.{T, ltb, eqb, ltb→lt, nltb→le, eqb→eq}
use lib.ListN.{length, get_or}
use lib.Ieee.{Float, nan}
use Rattle.binary64.specs.Kinds.{finite, positive, zero64}
use Rattle.shape.specs.Bounds.{max_order, max_block, max_rhs}
use Rattle.shape.specs.Places.{triangle}
use Rattle.shape.specs.declared.Shape.{Shape}
use Rattle.calls.specs.declared.Verdict.{Verdict}
use Rattle.calls.specs.declared.Layout.{Layout}
use Rattle.calls.specs.declared.Call.{Call}
use Rattle.calls.specs.declared.Call.TheVariants.{Rearranger, Factor, Solver}
use Rattle.calls.specs.Sequences.{all}
use Rattle.calls.specs.Triangles.{Triangle, place_of}
use Rattle.calls.specs.Arithmetic.{forward}
use Rattle.calls.specs.States.{next, suits}
use Rattle.calls.specs.Refusals.{success, accepted, refusal, refuse_if, first_refusal, lowest_refusal, by_blocks, needed_work, rule1, rule2, rule17, rule15, rule3, rule4, rule14, rule5, rule6, rule7, rule8, finite_rule, rule9, rule12}
use Rattle.calls.specs.Calls.{DoneAs, spends, result_of, rearranger_checks, factor_checks, solver_checks, factorize, rhs_part, solution, rhs_verdict}
use Rattle.calls.proofs.Sequences.{all_of}
use Rattle.calls.proofs.Refusals.{not_not, is_not_not, refuse_not, not_refused, first_accepted, lowest_success, lowest_same, lowest_accepted, refuse_holds, none_holds, first_holds, lowest_holds}
use Rattle.calls.proofs.Checks.{size_rules}
use Rattle.calls.proofs.Judging.{first_success, first_alone, lowest_all}

-- ---- one rule

pub refuse_accepted : (c : Bool) (code place : ℕ) → T (accepted (refuse_if c (refusal (suc code) place zero64))) → refuse_if c (refusal (suc code) place zero64) ≡ success
refuse_accepted c code place h = refuse_not c (refusal (suc code) place zero64) (not_refused c code place zero64 h)

pub rule1_accepted : (n : ℕ) → T (accepted (rule1 n)) → n ≤ max_order
unfolding rule1
rule1_accepted n h = nltb→le max_order n (not_refused (ltb max_order n) 0 0 zero64 h)

pub rule2_accepted : (call : Call) (b : ℕ) → T (accepted (rule2 call b)) → T (by_blocks call) → (1 ≤ b) × (b ≤ max_block)
unfolding rule2
rule2_accepted call b h t =
    let both : T (not (eqb b 0)) × T (not (ltb max_block b)) = parts (by_blocks call) (eqb b 0) (ltb max_block b) (not_refused (by_blocks call && (eqb b 0 || ltb max_block b)) 1 0 zero64 h) t in
    (positive_of b both.0, nltb→le max_block b both.1)
  where
    parts : (c x y : Bool) → T (not (c && (x || y))) → T c → T (not x) × T (not y)
    parts true false false h t = (tt, tt)
    parts true false true h t = absurd h
    parts true true y h t = absurd h
    parts false x y h t = absurd t

    positive_of : (b : ℕ) → T (not (eqb b 0)) → 1 ≤ b
    positive_of zero h = absurd h
    positive_of (suc b) h = omega arith

pub rule17_accepted : (form : ℕ) → T (accepted (rule17 form)) → form ≤ 1
unfolding rule17
rule17_accepted form h = nltb→le 1 form (not_refused (ltb 1 form) 16 0 zero64 h)

pub rule15_accepted : (call : Call) (state : ℕ) → T (accepted (rule15 call state)) → T (suits (next call state))
unfolding rule15
rule15_accepted call state h = not_not (suits (next call state)) (not_refused (not (suits (next call state))) 14 0 zero64 h)

pub rule3_accepted : (n l : ℕ) → T (accepted (rule3 n l)) → l ≡ triangle n
unfolding rule3
rule3_accepted n l h = eqb→eq l (triangle n) (not_not (eqb l (triangle n)) (not_refused (not (eqb l (triangle n))) 2 0 zero64 h))

pub rule4_accepted : (call : Call) (n b l : ℕ) → T (accepted (rule4 call n b l)) → needed_work call n b ≤ l
unfolding rule4
rule4_accepted call n b l h = nltb→le l (needed_work call n b) (not_refused (ltb l (needed_work call n b)) 3 0 zero64 h)

pub rule14_accepted : (n k : ℕ) → T (accepted (rule14 n k)) → k < n
unfolding rule14
rule14_accepted n k h = ltb→lt k n (not_not (ltb k n) (not_refused (not (ltb k n)) 13 0 zero64 h))

pub rule14_refused : (n k : ℕ) → n ≤ k → rule14 n k ≡ refusal 14 0 zero64
unfolding rule14
rule14_refused n k h = ap (λ c. refuse_if (not c) (refusal 14 0 zero64)) (le-ltb k n h)

pub rule5_accepted : (m : ℕ) → T (accepted (rule5 m)) → m ≤ max_rhs
unfolding rule5
rule5_accepted m h = nltb→le max_rhs m (not_refused (ltb max_rhs m) 4 0 zero64 h)

pub rule6_accepted : (n m l : ℕ) → T (accepted (rule6 n m l)) → l ≡ n * m
unfolding rule6
rule6_accepted n m l h = eqb→eq l (n * m) (not_not (eqb l (n * m)) (not_refused (not (eqb l (n * m))) 5 0 zero64 h))

-- rules 7 and 8 at one position
abbrev pub finite_at : ℕ → List Float → ℕ → Verdict
finite_at code memory p = refuse_if (not (finite (get_or memory p nan))) (refusal code p zero64)

pub refused_at : (m : List Float) (p : ℕ) → accepted (finite_at 7 m p) ≡ false → finite_at 7 m p ≡ refusal 7 p zero64
refused_at m p = go (finite (get_or m p nan))
  where
    go : (b : Bool) → accepted (refuse_if (not b) (refusal 7 p zero64)) ≡ false → refuse_if (not b) (refusal 7 p zero64) ≡ refusal 7 p zero64
    go true e = absurd (subst (λ (b : Bool). T b) e tt)
    go false e = refl

pub finite_success : (code : ℕ) (memory : List Float) → T (accepted (finite_rule (suc code) memory)) → finite_rule (suc code) memory ≡ success
unfolding finite_rule
finite_success code memory = lowest_all (finite_at (suc code) memory) (λ p. refuse_accepted (not (finite (get_or memory p nan))) code p) (length memory)

pub finite_accepted : (code : ℕ) (memory : List Float) → T (accepted (finite_rule (suc code) memory)) → T (all finite memory)
unfolding finite_rule
finite_accepted code memory h =
    all_of finite memory nan
    (λ p q. not_not (finite (get_or memory p nan)) (not_refused (not (finite (get_or memory p nan))) code p zero64 (lowest_accepted (finite_at (suc code) memory) (length memory) h p q)))

pub finite_alone : (code : ℕ) (memory : List Float) → first_refusal (finite_rule (suc code) memory ∷ []) ≡ finite_rule (suc code) memory
finite_alone code memory = first_alone (finite_rule (suc code) memory) (finite_success code memory)

-- rule 9 at one column
abbrev pub positive_at : (ℕ → ℕ → ℕ) → List Float → ℕ → Verdict
positive_at place matrix j = refuse_if (not (positive (get_or matrix (place j j) nan))) (refusal 9 j zero64)

module _ (place : ℕ → ℕ → ℕ) (k n : ℕ) (matrix : List Float) where
  pub rule9_success : T (accepted (rule9 place k n matrix)) → rule9 place k n matrix ≡ success
  unfolding rule9
  rule9_success =
      lowest_all (λ c. positive_at place matrix (k + c)) (λ c. refuse_accepted (not (positive (get_or matrix (place (k + c) (k + c)) nan))) 8 (k + c)) (n - k)

  pub rule9_alone : first_refusal (rule9 place k n matrix ∷ []) ≡ rule9 place k n matrix
  rule9_alone = first_alone (rule9 place k n matrix) rule9_success

  pub rule9_accepted : T (accepted (rule9 place k n matrix)) → (j : ℕ) → k ≤ j → j < n → T (positive (get_or matrix (place j j) nan))
  unfolding rule9
  rule9_accepted h j low p =
      let back : k + (j - k) ≡ j = omega arith in
      not_not (positive (get_or matrix (place j j) nan))
      (not_refused (not (positive (get_or matrix (place j j) nan))) 8 j zero64
      (rw back at (lowest_accepted (λ c. positive_at place matrix (k + c)) (n - k) h (j - k) (omega arith))))

  -- it passes where each of these values is greater than zero
  pub rule9_passes : ((j : ℕ) → k ≤ j → j < n → T (positive (get_or matrix (place j j) nan))) → rule9 place k n matrix ≡ success
  unfolding rule9
  rule9_passes h =
      lowest_success (λ c. positive_at place matrix (k + c)) (n - k)
      (λ c p.
      refuse_not (not (positive (get_or matrix (place (k + c) (k + c)) nan))) (refusal 9 (k + c) zero64)
      (is_not_not (positive (get_or matrix (place (k + c) (k + c)) nan)) (h (k + c) (omega arith) (omega arith))))

-- from column 0 on
pub rule9_whole : (place : ℕ → ℕ → ℕ) (n : ℕ) (matrix : List Float) → rule9 place 0 n matrix ≡ lowest_refusal (positive_at place matrix) n
unfolding rule9
rule9_whole place n matrix =
    rw (sub-zero n) (lowest_same (λ c. positive_at place matrix (0 + c)) (positive_at place matrix) n (λ c h. ap (positive_at place matrix) (zero-add c)))

-- ---- what an accepted check says

-- of the sizes and the state; the block length is bounded only where the call works by blocks
pub record SizesAccepted (call : Call) (shape : Shape) (matrix_length work_length : ℕ) : Type 0 where
  pub order : shape.order ≤ max_order
  pub block_low : T (by_blocks call) → 1 ≤ shape.block
  pub block_high : T (by_blocks call) → shape.block ≤ max_block
  pub state : T (suits (next call shape.state))
  pub matrix : matrix_length ≡ triangle shape.order
  pub work : needed_work call shape.order shape.block ≤ work_length

abbrev pub RearrangerAccepted : Layout → Layout → Shape → ℕ → ℕ → Type 0
RearrangerAccepted from to shape matrix_length work_length = SizesAccepted (Rearranger from to) shape matrix_length work_length

pub record FactorAccepted (layout : Layout) (shape : Shape) (matrix : List Float) (work_length : ℕ) : Type 0 where
  pub sizes : SizesAccepted (Factor layout) shape (length matrix) work_length
  pub matrix_finite : T (all finite matrix)

pub record SolverAccepted (layout : Layout) (shape : Shape) (m : ℕ) (matrix rhs : List Float) (work_length : ℕ) : Type 0 where
  pub sizes : SizesAccepted (Solver layout) shape (length matrix) work_length
  pub rhs_count : m ≤ max_rhs
  pub rhs_length : length rhs ≡ shape.order * m
  pub matrix_finite : T (all finite matrix)
  pub rhs_finite : T (all finite rhs)
  pub diagonal : (j : ℕ) → j < shape.order → T (positive (get_or matrix (place_of layout shape.order shape.block j j) nan))

module _ (call : Call) (shape : Shape) (ml wl : ℕ) where
  pub sizes_accepted :
      (rest : List Verdict) → T (accepted (first_refusal (size_rules call shape ml wl ++ rest))) → SizesAccepted call shape ml wl × T (accepted (first_refusal rest))
  sizes_accepted rest h =
      let p1 = first_accepted _ _ h in
      let p2 = first_accepted _ _ p1.1 in
      let p15 = first_accepted _ _ p2.1 in
      let p3 = first_accepted _ _ p15.1 in
      let p4 = first_accepted _ rest p3.1 in (
        record {
          order = rule1_accepted shape.order p1.0;
          block_low = λ t. (rule2_accepted call shape.block p2.0 t).0;
          block_high = λ t. (rule2_accepted call shape.block p2.0 t).1;
          state = rule15_accepted call shape.state p15.0;
          matrix = rule3_accepted shape.order ml p3.0;
          work = rule4_accepted call shape.order shape.block wl p4.0;
        },
        p4.1,
      )

module _ (from to : Layout) (shape : Shape) (ml wl : ℕ) (h : T (accepted (rearranger_checks from to shape ml wl))) where
  pub rearranger_accepted : RearrangerAccepted from to shape ml wl
  unfolding rearranger_checks
  rearranger_accepted = (sizes_accepted (Rearranger from to) shape ml wl [] h).0

  pub rearranger_success : rearranger_checks from to shape ml wl ≡ success
  unfolding rearranger_checks
  rearranger_success = first_success _ h

module _ (layout : Layout) (shape : Shape) (matrix : List Float) (wl : ℕ) (h : T (accepted (factor_checks layout shape matrix wl))) where
  pub factor_accepted : FactorAccepted layout shape matrix wl
  unfolding factor_checks
  factor_accepted =
      let s = sizes_accepted (Factor layout) shape (length matrix) wl (rule7 matrix ∷ []) h in
      record { sizes = s.0; matrix_finite = finite_accepted 6 matrix (first_accepted (rule7 matrix) [] s.1).0 }

-- ---- what holds of success and of refusals with a code below 10 holds of rules 1 to 9

module _ (P : Verdict → Type 0) (none : P success) (low : (code place : ℕ) → code < 10 → P (refusal code place zero64)) where
  refused_low : (c : Bool) (code place : ℕ) → code < 10 → P (refuse_if c (refusal code place zero64))
  refused_low c code place h = refuse_holds P none c (refusal code place zero64) (low code place h)

  pub rule1_holds : (n : ℕ) → P (rule1 n)
  unfolding rule1
  rule1_holds n = refused_low (ltb max_order n) 1 0 (omega arith)

  pub rule2_holds : (call : Call) (b : ℕ) → P (rule2 call b)
  unfolding rule2
  rule2_holds call b = refused_low (by_blocks call && (eqb b 0 || ltb max_block b)) 2 0 (omega arith)

  pub rule3_holds : (n l : ℕ) → P (rule3 n l)
  unfolding rule3
  rule3_holds n l = refused_low (not (eqb l (triangle n))) 3 0 (omega arith)

  pub rule4_holds : (call : Call) (n b l : ℕ) → P (rule4 call n b l)
  unfolding rule4
  rule4_holds call n b l = refused_low (ltb l (needed_work call n b)) 4 0 (omega arith)

  pub rule5_holds : (m : ℕ) → P (rule5 m)
  unfolding rule5
  rule5_holds m = refused_low (ltb max_rhs m) 5 0 (omega arith)

  pub rule6_holds : (n m l : ℕ) → P (rule6 n m l)
  unfolding rule6
  rule6_holds n m l = refused_low (not (eqb l (n * m))) 6 0 (omega arith)

  pub finite_holds : (code : ℕ) → code < 10 → (memory : List Float) → P (finite_rule code memory)
  unfolding finite_rule
  finite_holds code h memory =
      lowest_holds P none (finite_at code memory) (λ p. refused_low (not (finite (get_or memory p nan))) code p h) (length memory)

  pub rule9_holds : (place : ℕ → ℕ → ℕ) (k n : ℕ) (matrix : List Float) → P (rule9 place k n matrix)
  unfolding rule9
  rule9_holds place k n matrix =
      lowest_holds P none (λ c. positive_at place matrix (k + c))
      (λ c. refused_low (not (positive (get_or matrix (place (k + c) (k + c)) nan))) 9 (k + c) (omega arith)) (n - k)

-- ---- no check answers a column's code, nor does a right-hand side

-- the matrix is not spent
abbrev pub Keeps : Verdict → Type 0
Keeps v = spends v ≡ false

pub low_keeps : (code place : ℕ) → code < 10 → Keeps (refusal code place zero64)
low_keeps code place h = rw (ne_eqb code 10 (λ e. omega arith), ne_eqb code 11 (λ e. omega arith), ne_eqb code 16 (λ e. omega arith)) refl

pub rule15_keeps : (call : Call) (state : ℕ) → Keeps (rule15 call state)
unfolding rule15
rule15_keeps call state = refuse_holds Keeps refl (not (suits (next call state))) (refusal 15 0 zero64) refl

pub rule17_keeps : (form : ℕ) → Keeps (rule17 form)
unfolding rule17
rule17_keeps form = refuse_holds Keeps refl (ltb 1 form) (refusal 17 0 zero64) refl

pub sizes_keep : (call : Call) (shape : Shape) (ml wl : ℕ) (rest : List Verdict) → Keeps (first_refusal rest) → Keeps (first_refusal (size_rules call shape ml wl ++ rest))
sizes_keep call shape ml wl rest h =
    first_holds Keeps refl _ _ (rule1_holds Keeps refl low_keeps shape.order)
    (first_holds Keeps refl _ _ (rule2_holds Keeps refl low_keeps call shape.block)
    (first_holds Keeps refl _ _ (rule15_keeps call shape.state)
    (first_holds Keeps refl _ _ (rule3_holds Keeps refl low_keeps shape.order ml)
    (first_holds Keeps refl _ _ (rule4_holds Keeps refl low_keeps call shape.order shape.block wl) h))))

pub rearranger_checks_keep : (from to : Layout) (shape : Shape) (ml wl : ℕ) → Keeps (rearranger_checks from to shape ml wl)
unfolding rearranger_checks
rearranger_checks_keep from to shape ml wl = sizes_keep (Rearranger from to) shape ml wl [] (none_holds Keeps refl)

pub factor_checks_keep : (layout : Layout) (shape : Shape) (matrix : List Float) (wl : ℕ) → Keeps (factor_checks layout shape matrix wl)
unfolding factor_checks
factor_checks_keep layout shape matrix wl =
    sizes_keep (Factor layout) shape (length matrix) wl (rule7 matrix ∷ [])
    (first_holds Keeps refl _ _ (finite_holds Keeps refl low_keeps 7 (omega arith) matrix) (none_holds Keeps refl))

pub solver_checks_keep : (layout : Layout) (shape : Shape) (m : ℕ) (matrix rhs : List Float) (wl : ℕ) → Keeps (solver_checks layout shape m matrix rhs wl)
unfolding solver_checks
solver_checks_keep layout shape m matrix rhs wl =
    let n = shape.order in
    let place = place_of layout n shape.block in
    sizes_keep (Solver layout) shape (length matrix) wl (rule5 m ∷ rule6 n m (length rhs) ∷ rule7 matrix ∷ rule8 rhs ∷ rule9 place 0 n matrix ∷ [])
    (first_holds Keeps refl _ _ (rule5_holds Keeps refl low_keeps m)
    (first_holds Keeps refl _ _ (rule6_holds Keeps refl low_keeps n m (length rhs))
    (first_holds Keeps refl _ _ (finite_holds Keeps refl low_keeps 7 (omega arith) matrix)
    (first_holds Keeps refl _ _ (finite_holds Keeps refl low_keeps 8 (omega arith) rhs)
    (first_holds Keeps refl _ _ (rule9_holds Keeps refl low_keeps place 0 n matrix) (none_holds Keeps refl))))))

-- what holds of success and of a refusal by 12 holds of the right-hand sides' verdict
pub rhs_holds : (P : Verdict → Type 0) → P success → ((q : ℕ) → P (refusal 12 q zero64)) → (n m : ℕ) (l : Triangle) (rhs : List Float) → P (rhs_verdict n m l rhs)
unfolding rhs_verdict rule12
rhs_holds P none each n m l rhs =
    lowest_holds P none (λ q. rule12 q (forward n l (rhs_part n q rhs)) (solution n l (rhs_part n q rhs)))
    (λ q. refuse_holds P none (not (all finite (forward n l (rhs_part n q rhs)) && all finite (solution n l (rhs_part n q rhs)))) (refusal 12 q zero64) (each q)) m

pub rhs_keeps : (n m : ℕ) (l : Triangle) (rhs : List Float) → Keeps (rhs_verdict n m l rhs)
rhs_keeps = rhs_holds Keeps refl (λ q. refl)

-- a factor after its checks
module _ (layout : Layout) (shape : Shape) (m w : List Float) (checks : Verdict) (e : checks ≡ factor_checks layout shape m (length w)) where
  pub factor_refused_lem : accepted checks ≡ false → DoneAs (factorize layout shape m w) (result_of (Factor layout) shape checks) m w
  unfolding factorize
  factor_refused_lem f = rw (ap accepted (sym e) ∙ f) (record { result = ap (result_of (Factor layout) shape) e; matrix = refl; work = refl })

  pub factor_passed : accepted checks ≡ true → FactorAccepted layout shape m (length w)
  factor_passed t = factor_accepted layout shape m (length w) (rw (ap accepted (sym e) ∙ t) tt)

module _ (layout : Layout) (shape : Shape) (m : ℕ) (matrix rhs : List Float) (wl : ℕ) (h : T (accepted (solver_checks layout shape m matrix rhs wl))) where
  pub solver_accepted : SolverAccepted layout shape m matrix rhs wl
  unfolding solver_checks
  solver_accepted =
      let n = shape.order in
      let place = place_of layout n shape.block in
      let s = sizes_accepted (Solver layout) shape (length matrix) wl (rule5 m ∷ rule6 n m (length rhs) ∷ rule7 matrix ∷ rule8 rhs ∷ rule9 place 0 n matrix ∷ []) h in
      let p5 = first_accepted (rule5 m) (rule6 n m (length rhs) ∷ rule7 matrix ∷ rule8 rhs ∷ rule9 place 0 n matrix ∷ []) s.1 in
      let p6 = first_accepted (rule6 n m (length rhs)) (rule7 matrix ∷ rule8 rhs ∷ rule9 place 0 n matrix ∷ []) p5.1 in
      let p7 = first_accepted (rule7 matrix) (rule8 rhs ∷ rule9 place 0 n matrix ∷ []) p6.1 in
      let p8 = first_accepted (rule8 rhs) (rule9 place 0 n matrix ∷ []) p7.1 in
      let p9 = first_accepted (rule9 place 0 n matrix) [] p8.1 in
      record {
        sizes = s.0;
        rhs_count = rule5_accepted m p5.0;
        rhs_length = rule6_accepted n m (length rhs) p6.0;
        matrix_finite = finite_accepted 6 matrix p7.0;
        rhs_finite = finite_accepted 7 rhs p8.0;
        diagonal = λ j. rule9_accepted place 0 n matrix p9.0 j (omega arith);
      }

  pub solver_success : solver_checks layout shape m matrix rhs wl ≡ success
  unfolding solver_checks
  solver_success = first_success _ h
