-- What rule 15 and the states changed. A call that 15 does not refuse returns, beside its shape, and leaves what it did before there were states; one that it
-- refuses leaves all memory and returns its shape. It refuses where the state does not suit and rules 1 and 2 pass, and nowhere else; so no call of a pipeline
-- that is due. The former calls stand here. Assumes nothing.
use Prim.Native.Nat.{ℕ, ◌<◌}
use native.Mathlib.Omega.{arith}
use mathlib.Core.Path.{◌≡◌, refl, sym, ap, ◌∙◌, subst}
use mathlib.Core.Logic.{◌⊎◌, inl, inr, ◌≢◌}
use mathlib.Core.Bool.{Bool, true, false, cond}
use mathlib.Core.List.{List, [], ◌∷◌}
use lib.Dec.{T}
use lib.ListN.{length}
use lib.Ieee.{Float}
use Rattle.binary64.specs.Kinds.{zero64}
use Rattle.shape.specs.declared.Shape.{Shape}
use Rattle.calls.specs.declared.Verdict.{Verdict}
use Rattle.calls.specs.declared.Judgement.{Judgement}
use Rattle.calls.specs.declared.CallResult.{CallResult}
use Rattle.calls.specs.declared.Layout.{Layout}
use Rattle.calls.specs.declared.Layout.TheVariants.{Packed, Blocked}
use Rattle.calls.specs.declared.Call.{Call}
use Rattle.calls.specs.declared.Call.TheVariants.{Rearranger, Factor, Solver}
use Rattle.calls.specs.Triangles.{Triangle, place_of, height, load, store}
use Rattle.calls.specs.Arithmetic.{cholesky}
use Rattle.calls.specs.declared.states.State.TheVariants.{Factored}
use Rattle.calls.specs.States.{state_number, look_up, next, suits}
use Rattle.calls.specs.Refusals.{success, accepted, refusal, first_refusal, needed_work, rule1, rule2, rule15, rule3, rule4, rule5, rule6, rule7, rule8, rule9}
use Rattle.calls.specs.Calls.{Done, Solved, state_after, result_of, judged_result, answer, succeeded, clear, rearranger_checks, moved, rearrange, packed_to_blocked, blocked_to_packed, factor_checks, columns_verdict, columns_judged, finished, factored, factorize, solver_checks, rhs_verdict, solutions, solved, solve}
use Rattle.calls.specs.Pipelines.{packed_raw, ended_by, plain_pipeline, blocked_pipeline}
use Rattle.calls.proofs.Refusals.{cond_both, none_holds, first_holds}
use Rattle.calls.proofs.Checks.{rule15_passes}
use Rattle.calls.proofs.CheckLaws.{Keeps, rule1_holds, rule2_holds, rule3_holds, rule4_holds, rule5_holds, rule6_holds, finite_holds, rule9_holds, solver_checks_keep, rhs_holds, rhs_keeps}
use Rattle.calls.proofs.StateLaws.{state_given, solver_keeps, columns_spend}

-- ---- the calls before there were states

-- what a call answered, and left of the memory that it writes and of its work memory
pub record Former : Type 0 where
  pub answer : Judgement
  pub memory : List Float
  pub work : List Float

abbrev no_root : Verdict → Judgement
no_root v = record { verdict = v; exact = false }

-- its checks, and then its work
abbrev pub formerly : Verdict → Former → List Float → List Float → Former
formerly checks passed memory work = cond (accepted checks) passed (record { answer = no_root checks; memory = memory; work = work })

abbrev pub former_rearrange : Layout → Layout → ℕ → ℕ → List Float → List Float → Former
former_rearrange from to n b matrix work =
    let call = Rearranger from to in
    formerly (first_refusal (rule1 n ∷ rule2 call b ∷ rule3 n (length matrix) ∷ rule4 call n b (length work) ∷ []))
    (record { answer = no_root success; memory = moved from to n b matrix; work = clear (needed_work call n b) work })
    matrix work

abbrev pub former_factorize : Layout → ℕ → ℕ → List Float → List Float → Former
former_factorize layout n b matrix work =
    let call = Factor layout in
    let a = load (place_of layout n b) (height n) n matrix in
    formerly (first_refusal (rule1 n ∷ rule2 call b ∷ rule3 n (length matrix) ∷ rule4 call n b (length work) ∷ rule7 matrix ∷ []))
    (record {
      answer = columns_judged n a;
      memory = store (place_of layout n b) (cholesky (height n) a (finished layout n b (columns_verdict n a))) matrix;
      work = clear (needed_work call n b) work;
    })
    matrix work

abbrev pub former_solve : Layout → ℕ → ℕ → ℕ → List Float → List Float → List Float → Former
former_solve layout n b m matrix rhs work =
    let call = Solver layout in
    let l = load (place_of layout n b) (height n) n matrix in
    let verdict = rhs_verdict n m l rhs in
    formerly
    (first_refusal
    (rule1 n ∷ rule2 call b ∷ rule3 n (length matrix) ∷ rule4 call n b (length work) ∷ rule5 m ∷ rule6 n m (length rhs) ∷ rule7 matrix ∷ rule8 rhs
    ∷ rule9 (place_of layout n b) 0 n matrix ∷ []))
    (record {
      answer = no_root verdict;
      memory = solutions n l (cond (accepted verdict) m verdict.place) rhs;
      work = clear (needed_work call n b) work;
    })
    rhs work

-- What a call of this shape and memory gave formerly, and what it returns and leaves now.
pub record StatesAdded (call : Call) (shape : Shape) (memory work : List Float) (before : Former) (r : CallResult) (memory' work' : List Float) : Type 0 where
  pub same : r.code ≢ 15 → (answer r ≡ before.answer) × (memory' ≡ before.memory) × (work' ≡ before.work)
  pub unsuited : r.code ≡ 15 → (answer r ≡ no_root (refusal 15 0 zero64)) × (r.shape ≡ shape) × (memory' ≡ memory) × (work' ≡ work)
  pub suited : T (suits (next call shape.state)) → r.code ≢ 15
  pub refused : suits (next call shape.state) ≡ false → rule1 shape.order ≡ success → rule2 call shape.block ≡ success → r.code ≡ 15

-- ---- no other rule answers 15

abbrev Other : Verdict → Type 0
Other v = v.code ≢ 15

-- a number below 10 is not 15
low_other : (code place : ℕ) → code < 10 → Other (refusal code place zero64)
low_other code place h e = omega arith

none_other : Other success
none_other e = let z : ◌≡◌ {A = ℕ} 0 15 = e in omega arith

columns_other : (n : ℕ) (a : Triangle) → Other (columns_verdict n a)
columns_other n a e = go (accepted (columns_verdict n a)) refl
  where
    go : (c : Bool) → accepted (columns_verdict n a) ≡ c → ⊥
    go true h = subst T (sym (rw e at h)) tt
    go false h = subst T (sym (rw e at (columns_spend n a h))) tt

rhs_other : (n m : ℕ) (l : Triangle) (rhs : List Float) → Other (rhs_verdict n m l rhs)
rhs_other = rhs_holds Other none_other (λ q e. let z : ◌≡◌ {A = ℕ} 12 15 = e in omega arith)

-- ---- a call whose checks after 15 are `rest`

rule15_refuses : (call : Call) (state : ℕ) → suits (next call state) ≡ false → rule15 call state ≡ refusal 15 0 zero64
unfolding rule15
rule15_refuses call state e = rw e refl

module _ (call : Call) (shape : Shape) (rest : List Verdict) where
  abbrev checks_now : Verdict
  checks_now = first_refusal (rule1 shape.order ∷ rule2 call shape.block ∷ rule15 call shape.state ∷ rest)

  abbrev checks_before : Verdict
  checks_before = first_refusal (rule1 shape.order ∷ rule2 call shape.block ∷ rest)

  -- it is refused by 15
  record Unsuited : Type 0 where
    by15 : checks_now ≡ refusal 15 0 zero64
    none : suits (next call shape.state) ≡ false

  -- or by what refused it before, if at all
  record AsBefore : Type 0 where
    same : checks_now ≡ checks_before
    first : suits (next call shape.state) ≡ false → rule1 shape.order ≡ success → rule2 call shape.block ≡ success → ⊥

  checks_added : AsBefore ⊎ Unsuited
  unfolding first_refusal
  checks_added = go (accepted (rule1 shape.order)) (accepted (rule2 call shape.block)) (suits (next call shape.state)) refl refl refl
    where
      go : (a b c : Bool) → accepted (rule1 shape.order) ≡ a → accepted (rule2 call shape.block) ≡ b → suits (next call shape.state) ≡ c → AsBefore ⊎ Unsuited
      go false b c e f g = inl (record { same = rw e refl; first = λ s p q. subst T (sym (ap accepted p) ∙ e) tt })
      go true false c e f g = inl (record { same = rw (e, f) refl; first = λ s p q. subst T (sym (ap accepted q) ∙ f) tt })
      go true true true e f g = inl (record { same = rw (e, f, rule15_passes call shape.state (rw g tt)) refl; first = λ s p q. subst T (sym g ∙ s) tt })
      go true true false e f g = inr (record { by15 = rw (e, f, rule15_refuses call shape.state g) refl; none = g })

-- a call that passes its checks gives x, and one that they refuse y
module _
    {D : Type 0} (result : D → CallResult) (memory_of work_of : D → List Float) (call : Call) (shape : Shape) (rest : List Verdict) (memory work : List Float)
    (before : Former) (x : D) (y : Verdict → D) (passed-result : result x ≡ judged_result call shape before.answer) (passed-memory : memory_of x ≡ before.memory)
    (passed-work : work_of x ≡ before.work) (refused-result : (v : Verdict) → result (y v) ≡ result_of call shape v)
    (refused-memory : (v : Verdict) → memory_of (y v) ≡ memory) (refused-work : (v : Verdict) → work_of (y v) ≡ work) (other : Other before.answer.verdict)
    (others : Other (checks_before call shape rest))
  where
    abbrev Added : Former → D → Type 0
    Added f d = StatesAdded call shape memory work f (result d) (memory_of d) (work_of d)

    abbrev Never : Type 0
    Never = suits (next call shape.state) ≡ false → rule1 shape.order ≡ success → rule2 call shape.block ≡ success → ⊥

    passed_added : Never → Added before x
    passed_added never =
        let not-15 : (result x).code ≢ 15 = λ e. other (ap (λ (r : CallResult). r.code) (sym passed-result) ∙ e) in
        record {
          same = λ h. (ap answer passed-result, passed-memory, passed-work);
          unsuited = λ e. absurd (not-15 e);
          suited = λ t. not-15;
          refused = λ s p q. absurd (never s p q);
        }

    refused_added : Never → (v : Verdict) → Other v → Added (record { answer = no_root v; memory = memory; work = work }) (y v)
    refused_added never v h =
        let not-15 : (result (y v)).code ≢ 15 = λ e. h (ap (λ (r : CallResult). r.code) (sym (refused-result v)) ∙ e) in
        record {
          same = λ h. (ap answer (refused-result v), refused-memory v, refused-work v);
          unsuited = λ e. absurd (not-15 e);
          suited = λ t. not-15;
          refused = λ s p q. absurd (never s p q);
        }

    unsuited_added : suits (next call shape.state) ≡ false → (f : Former) → Added f (y (refusal 15 0 zero64))
    unfolding state_after
    unsuited_added g f =
        let r = refused-result (refusal 15 0 zero64) in
        record {
          same = λ h. absurd (h (ap (λ (c : CallResult). c.code) r));
          unsuited = λ e. (
            ap answer r,
            ap (λ (c : CallResult). c.shape) r,
            refused-memory (refusal 15 0 zero64),
            refused-work (refusal 15 0 zero64),
          );
          suited = λ t. absurd (subst T g t);
          refused = λ s p q. ap (λ (c : CallResult). c.code) r;
        }

    call_added : let checks = checks_now call shape rest in Added (formerly (checks_before call shape rest) before memory work) (cond (accepted checks) x (y checks))
    call_added = elim (checks_added call shape rest) [
      | inl a ↦ rw a.same (go a.first (accepted (checks_before call shape rest)))
      | inr u ↦ rw u.by15 (unsuited_added u.none _)
    ]
      where
        go : Never → (c : Bool) →
            let checks = checks_before call shape rest in
            Added (cond c before (record { answer = no_root checks; memory = memory; work = work })) (cond c x (y checks))
        go never true = passed_added never
        go never false = refused_added never (checks_before call shape rest) others

-- ---- the calls, of every shape and memory

module _ (shape : Shape) where
  abbrev n : ℕ
  n = shape.order

  abbrev b : ℕ
  b = shape.block

  -- rules 1 and 2 before the others
  before_others : (call : Call) (rest : List Verdict) → Other (first_refusal rest) → Other (checks_before call shape rest)
  before_others call rest h =
      first_holds Other none_other _ _ (rule1_holds Other none_other low_other n)
      (first_holds Other none_other _ _ (rule2_holds Other none_other low_other call b) h)

  -- rules 3 and 4 before the others
  sizes_other : (call : Call) (ml wl : ℕ) (rest : List Verdict) → Other (first_refusal rest) → Other (first_refusal (rule3 n ml ∷ rule4 call n b wl ∷ rest))
  sizes_other call ml wl rest h =
      first_holds Other none_other _ _ (rule3_holds Other none_other low_other n ml)
      (first_holds Other none_other _ _ (rule4_holds Other none_other low_other call n b wl) h)

  pub rearranger_states :
      (from to : Layout) (matrix work : List Float) →
      let d = rearrange from to shape matrix work in
      StatesAdded (Rearranger from to) shape matrix work (former_rearrange from to n b matrix work) d.result d.matrix d.work
  unfolding rearrange rearranger_checks
  rearranger_states from to matrix work =
      let call = Rearranger from to in
      let rest : List Verdict = rule3 n (length matrix) ∷ rule4 call n b (length work) ∷ [] in
      call_added (λ (d : Done). d.result) (λ (d : Done). d.matrix) (λ (d : Done). d.work) call shape rest matrix work _ _
      (λ v. record { result = result_of call shape v; matrix = matrix; work = work }) refl refl refl (λ v. refl) (λ v. refl) (λ v. refl) none_other
      (before_others call rest (sizes_other call (length matrix) (length work) [] (none_holds Other none_other)))

  pub factor_states :
      (layout : Layout) (matrix work : List Float) →
      let d = factorize layout shape matrix work in
      StatesAdded (Factor layout) shape matrix work (former_factorize layout n b matrix work) d.result d.matrix d.work
  unfolding factorize factored factor_checks
  factor_states layout matrix work =
      let call = Factor layout in
      let rest : List Verdict = rule3 n (length matrix) ∷ rule4 call n b (length work) ∷ rule7 matrix ∷ [] in
      call_added (λ (d : Done). d.result) (λ (d : Done). d.matrix) (λ (d : Done). d.work) call shape rest matrix work _ _
      (λ v. record { result = result_of call shape v; matrix = matrix; work = work }) refl refl refl (λ v. refl) (λ v. refl) (λ v. refl)
      (columns_other n (load (place_of layout n b) (height n) n matrix))
      (before_others call rest
      (sizes_other call (length matrix) (length work) _
      (first_holds Other none_other _ _ (finite_holds Other none_other low_other 7 (omega arith) matrix) (none_holds Other none_other))))

  pub solver_states :
      (layout : Layout) (m : ℕ) (matrix rhs work : List Float) →
      let d = solve layout shape m matrix rhs work in
      StatesAdded (Solver layout) shape rhs work (former_solve layout n b m matrix rhs work) d.result d.rhs d.work
  unfolding solve solved solver_checks
  solver_states layout m matrix rhs work =
      let call = Solver layout in
      let place = place_of layout n b in
      let rest : List Verdict =
      rule3 n (length matrix) ∷ rule4 call n b (length work) ∷ rule5 m ∷ rule6 n m (length rhs) ∷ rule7 matrix ∷ rule8 rhs ∷ rule9 place 0 n matrix ∷ []
      in
      call_added (λ (d : Solved). d.result) (λ (d : Solved). d.rhs) (λ (d : Solved). d.work) call shape rest rhs work _ _
      (λ v. record { result = result_of call shape v; rhs = rhs; work = work }) refl refl refl (λ v. refl) (λ v. refl) (λ v. refl)
      (rhs_other n m (load place (height n) n matrix) rhs)
      (before_others call rest
      (sizes_other call (length matrix) (length work) _
      (first_holds Other none_other _ _ (rule5_holds Other none_other low_other m)
      (first_holds Other none_other _ _ (rule6_holds Other none_other low_other n m (length rhs))
      (first_holds Other none_other _ _ (finite_holds Other none_other low_other 7 (omega arith) matrix)
      (first_holds Other none_other _ _ (finite_holds Other none_other low_other 8 (omega arith) rhs)
      (first_holds Other none_other _ _ (rule9_holds Other none_other low_other place 0 n matrix) (none_holds Other none_other))))))))

-- ---- the pipelines

-- the state that a call returns is that of what it answers
module _ (shape : Shape) where
  rearranged_state :
      (from to : Layout) (matrix work : List Float) →
      let r = (rearrange from to shape matrix work).result in
      r.shape.state ≡ state_after (Rearranger from to) shape.state (answer r).verdict
  unfolding rearrange
  rearranged_state from to matrix work =
      cond_both (λ (d : Done). d.result.shape.state ≡ state_after (Rearranger from to) shape.state (answer d.result).verdict)
      (accepted (rearranger_checks from to shape (length matrix) (length work))) _ _ refl refl

  factored_state :
      (layout : Layout) (matrix work : List Float) →
      let r = (factorize layout shape matrix work).result in
      r.shape.state ≡ state_after (Factor layout) shape.state (answer r).verdict
  unfolding factorize factored
  factored_state layout matrix work =
      cond_both (λ (d : Done). d.result.shape.state ≡ state_after (Factor layout) shape.state (answer d.result).verdict)
      (accepted (factor_checks layout shape matrix (length work))) _ _ refl refl

  -- a solver never spends the factor
  solved_state :
      (layout : Layout) (m : ℕ) (matrix rhs work : List Float) → shape.state ≡ state_number (Factored layout) →
      (solve layout shape m matrix rhs work).result.shape.state ≡ state_number (Factored layout)
  unfolding solve solved
  solved_state layout m matrix rhs work e =
      cond_both (λ (d : Solved). d.result.shape.state ≡ state_number (Factored layout)) (accepted (solver_checks layout shape m matrix rhs (length work))) _ _
      (kept (rhs_verdict n m l rhs) (rhs_keeps n m l rhs)) (kept _ (solver_checks_keep layout shape m matrix rhs (length work)))
    where
      n : ℕ
      n = shape.order

      l : Triangle
      l = load (place_of layout n shape.block) (height n) n matrix

      kept : (v : Verdict) → Keeps v → state_after (Solver layout) shape.state v ≡ state_number (Factored layout)
      kept v h = ap (λ k. state_after (Solver layout) k v) e ∙ solver_keeps layout v h

module _ (n b m : ℕ) (matrix rhs work : List Float) where
  -- the plain solver is due where the factor succeeds
  pub plain_suited :
      let f = factorize Packed (packed_raw n b) matrix work in
      let s = solve Packed f.result.shape m f.matrix rhs f.work in
      (f.result.code ≢ 15) × (T (succeeded f.result) → s.result.code ≢ 15)
  unfolding look_up
  plain_suited =
      let f = factorize Packed (packed_raw n b) matrix work in (
        (factor_states (packed_raw n b) Packed matrix work).suited tt,
        λ t.
            let e : f.result.shape.state ≡ 2 = factored_state (packed_raw n b) Packed matrix work ∙ state_given (Factor Packed) 0 (answer f.result).verdict t in
            (solver_states f.result.shape Packed m f.matrix rhs f.work).suited (rw e tt),
      )

  -- the blocked factor is due where the rearranger succeeds, the blocked solver and the way back where both do
  pub blocked_suited :
      let p = packed_to_blocked (packed_raw n b) matrix work in
      let f = factorize Blocked p.result.shape p.matrix p.work in
      let s = solve Blocked f.result.shape m f.matrix rhs f.work in
      let q = blocked_to_packed s.result.shape f.matrix s.work in
      (p.result.code ≢ 15) × (T (succeeded p.result) → f.result.code ≢ 15)
      × (T (succeeded p.result) → T (succeeded f.result) → (s.result.code ≢ 15) × (q.result.code ≢ 15))
  unfolding look_up
  blocked_suited =
      let p = packed_to_blocked (packed_raw n b) matrix work in
      let f = factorize Blocked p.result.shape p.matrix p.work in
      let s = solve Blocked f.result.shape m f.matrix rhs f.work in (
        (rearranger_states (packed_raw n b) Packed Blocked matrix work).suited tt,
        λ t. (factor_states p.result.shape Blocked p.matrix p.work).suited (rw (moved_raw t) tt),
        λ t u. (
          (solver_states f.result.shape Blocked m f.matrix rhs f.work).suited (rw (made_factor t u) tt),
          (rearranger_states s.result.shape Blocked Packed f.matrix s.work).suited
              (rw (solved_state f.result.shape Blocked m f.matrix rhs f.work (made_factor t u)) tt),
        ),
      )
    where
      moved_raw : let p = packed_to_blocked (packed_raw n b) matrix work in T (succeeded p.result) → p.result.shape.state ≡ 1
      moved_raw t =
          let p = packed_to_blocked (packed_raw n b) matrix work in
          rearranged_state (packed_raw n b) Packed Blocked matrix work ∙ state_given (Rearranger Packed Blocked) 0 (answer p.result).verdict t

      made_factor :
          let p = packed_to_blocked (packed_raw n b) matrix work in
          let f = factorize Blocked p.result.shape p.matrix p.work in
          T (succeeded p.result) → T (succeeded f.result) → f.result.shape.state ≡ 3
      made_factor t u =
          let p = packed_to_blocked (packed_raw n b) matrix work in
          let f = factorize Blocked p.result.shape p.matrix p.work in
          factored_state p.result.shape Blocked p.matrix p.work
          ∙ ap (λ k. state_after (Factor Blocked) k (answer f.result).verdict) (moved_raw t)
          ∙ state_given (Factor Blocked) 1 (answer f.result).verdict u

  -- so neither pipeline answers 15
  pub plain_answers :
      let e = plain_pipeline n b m matrix rhs work in
      (e.factor_result.code ≢ 15) × (e.solver_result.code ≢ 15)
  unfolding plain_pipeline
  plain_answers = due (succeeded f.result) refl
    where
      f : Done
      f = factorize Packed (packed_raw n b) matrix work

      s : Solved
      s = solve Packed f.result.shape m f.matrix rhs f.work

      due : (c : Bool) → succeeded f.result ≡ c →
          let e = cond c (record { factor_result = f.result; solver_result = s.result; shape = s.result.shape; matrix = f.matrix; rhs = s.rhs; work = s.work }) (ended_by f.result f.matrix rhs f.work) in
          (e.factor_result.code ≢ 15) × (e.solver_result.code ≢ 15)
      due true h = (plain_suited.0, plain_suited.1 (rw h tt))
      due false h = (plain_suited.0, plain_suited.0)

  pub blocked_answers :
      let e = blocked_pipeline n b m matrix rhs work in
      (e.factor_result.code ≢ 15) × (e.solver_result.code ≢ 15)
  unfolding blocked_pipeline
  blocked_answers = due (succeeded p.result) (succeeded f.result) refl refl
    where
      p : Done
      p = packed_to_blocked (packed_raw n b) matrix work

      f : Done
      f = factorize Blocked p.result.shape p.matrix p.work

      s : Solved
      s = solve Blocked f.result.shape m f.matrix rhs f.work

      q : Done
      q = blocked_to_packed s.result.shape f.matrix s.work

      due : (c d : Bool) → succeeded p.result ≡ c → succeeded f.result ≡ d →
          let e =
          cond c
          (cond d
          (record { factor_result = f.result; solver_result = s.result; shape = q.result.shape; matrix = q.matrix; rhs = s.rhs; work = q.work })
          (ended_by f.result f.matrix rhs f.work))
          (ended_by p.result p.matrix rhs p.work)
          in
          (e.factor_result.code ≢ 15) × (e.solver_result.code ≢ 15)
      due true true h k = (blocked_suited.1 (rw h tt), (blocked_suited.2 (rw h tt) (rw k tt)).0)
      due true false h k = (blocked_suited.1 (rw h tt), blocked_suited.1 (rw h tt))
      due false d h k = (blocked_suited.0, blocked_suited.0)
