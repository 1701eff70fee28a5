-- What the call returns and leaves, from the result of its checks and from its moves. Assumes nothing.
use Prim.Native.Nat.{ℕ, ◌-◌, ◌≤◌}
use native.Mathlib.Omega.{arith}
use mathlib.Core.Path.{◌≡◌, refl, sym, ap, ap₂, ◌∙◌}
use mathlib.Core.Bool.{false}
use mathlib.Core.List.{List, [], ◌++◌, append-nil}
use lib.ListN.{length, take, drop, replicate, length-drop, drop_of_length-le}
use lib.Seq.{length-take-le}
use lib.Ieee.{Float}
use Rattle.binary64.specs.Kinds.{zero64}
use Rattle.shape.specs.Places.{triangle}
use Rattle.shape.specs.declared.Shape.{Shape}
use Rattle.calls.specs.declared.outcomes.Refusal.{Refusal}
use Rattle.calls.specs.declared.Call.TheVariants.{Strike}
use Rattle.calls.specs.Refusals.{success, accepted}
use Rattle.calls.specs.Outcomes.{verdict_of_refusal}
use Rattle.calls.proofs.OutcomeLaws.{not_accepted}
use Rattle.calls.specs.Calls.{result_of}
use Rattle.calls.specs.Strikes.{kept, struck, Fresh, strike_checks, StruckAs, smaller, strike}
use Rattle.strike.proofs.Strikes.{kept_remain, kept_below, length_kept, front_entries, StrikeAccepted, strike_accepted, strike_refused_lem, strike_passed}
use Rattle.strike.specs.Rows.{Unknowns}

pub kept_unknowns : (list : List ℕ) (n : ℕ) → Unknowns n (kept list n)
kept_unknowns list n = record { rising = (kept_remain list n).rising; below = kept_below list n }

-- the front of a memory, and zeros in place of its rest
pub struck_of :
    (list : List ℕ) (n size : ℕ) (matrix m zeros : List Float) → size ≡ triangle (length (kept list n)) → length m ≡ length matrix → size ≤ length m →
    Fresh (kept list n) n matrix (take (triangle (length (kept list n))) m) → zeros ≡ replicate (length (take (length m - size) (drop size m))) zero64 →
    take size m ++ (zeros ++ drop (length m - size) (drop size m)) ≡ struck (kept list n) n matrix
unfolding struck
struck_of list n size matrix m zeros e same fit fresh cleared =
    let rest : length (drop size m) ≡ length m - size = length-drop size m in
    let none : drop (length m - size) (drop size m) ≡ [] = drop_of_length-le (drop size m) {i = length m - size} (omega arith) in
    let behind : length (take (length m - size) (drop size m)) ≡ length matrix - triangle (length (kept list n)) =
    length-take-le (length m - size) (drop size m) (omega arith) ∙ ap₂ ◌-◌ same e in
    ap₂ ◌++◌ (ap (λ k. take k m) e ∙ front_entries list n matrix (take (triangle (length (kept list n))) m) fresh)
    (ap (λ t. zeros ++ t) none ∙ append-nil zeros ∙ cleared ∙ ap (λ k. replicate k zero64) behind)

module _ (shape : Shape) (list : List ℕ) (matrix : List Float) where
  pub refused_done : (r : Refusal) → verdict_of_refusal r ≡ strike_checks shape list (length matrix) → StruckAs (strike shape list matrix) (result_of Strike shape (verdict_of_refusal r)) matrix
  refused_done r checks =
      let g : accepted (strike_checks shape list (length matrix)) ≡ false = ap accepted (sym checks) ∙ not_accepted r in
      rw (strike_refused_lem shape list matrix g) (record { result = ap (result_of Strike shape) checks; matrix = refl })

  module _ (checks : success ≡ strike_checks shape list (length matrix)) where
    pub accepted_sizes : StrikeAccepted shape list (length matrix)
    accepted_sizes = strike_accepted shape list (length matrix) (rw (← checks) tt)

    pub accepted_done :
        {matrix' : List Float} → matrix' ≡ struck (kept list shape.order) shape.order matrix →
        StruckAs (strike shape list matrix) (result_of Strike (smaller shape (shape.order - length list)) success) matrix'
    accepted_done moved =
        let order : shape.order - length list ≡ length (kept list shape.order) = omega (arith, length_kept shape.order list accepted_sizes.listed) in
        rw (strike_passed shape list matrix accepted_sizes) (record { result = ap (λ p. result_of Strike (smaller shape p) success) order; matrix = moved })
