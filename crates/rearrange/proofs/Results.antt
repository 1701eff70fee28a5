-- What a rearranger returns and leaves, from the result of its checks. Assumes nothing.
use mathlib.Core.Path.{◌≡◌, refl, ap, ◌∙◌}
use mathlib.Core.Bool.{true, false}
use mathlib.Core.List.{List, ◌++◌}
use Prim.Native.Nat.{ℕ, ◌≤◌}
use lib.Dec.{T}
use lib.ListN.{length, take, drop, replicate}
use lib.Seq.{length-take-le}
use lib.Ieee.{Float}
use Rattle.binary64.specs.Kinds.{zero64}
use Rattle.shape.specs.Places.{block_work}
use Rattle.shape.specs.declared.Shape.{Shape}
use Rattle.calls.specs.declared.Layout.{Layout}
use Rattle.calls.specs.declared.Call.TheVariants.{Rearranger}
use Rattle.calls.specs.declared.outcomes.Refusal.{Refusal}
use Rattle.calls.specs.Refusals.{success, accepted}
use Rattle.calls.specs.Outcomes.{verdict_of_refusal}
use Rattle.calls.specs.Calls.{DoneAs, result_of, clear, rearranger_checks, moved, rearrange}
use Rattle.calls.proofs.CheckLaws.{RearrangerAccepted, rearranger_accepted}
use Rattle.calls.proofs.OutcomeLaws.{not_accepted}

-- the lent part is +0, the rest as it was
pub cleared : (needed l : ℕ) (work part : List Float)
    → l ≡ needed
    → l ≤ length work
    → part ≡ replicate (length (take l work)) zero64
    → part ++ drop l work ≡ clear needed work
unfolding clear
cleared needed l work part same fit zeros =
    ap (λ (p : List Float). p ++ drop l work) (zeros ∙ ap (λ (k : ℕ). replicate k zero64) (length-take-le l work fit))
    ∙ ap (λ (k : ℕ). replicate k zero64 ++ drop k work) same

module _ (from to : Layout) (shape : Shape) (m work : List Float) where
  -- past the checks
  module _ (passed : success ≡ rearranger_checks from to shape (length m) (length work)) where
    accepts : T (accepted (rearranger_checks from to shape (length m) (length work)))
    accepts = rw (← passed) tt

    pub accepted_sizes : RearrangerAccepted from to shape (length m) (length work)
    accepted_sizes = rearranger_accepted from to shape (length m) (length work) accepts

    pub accepted_done : {m' work' : List Float}
        → m' ≡ moved from to shape.order shape.block m
        → work' ≡ clear (block_work shape.order shape.block) work
        → DoneAs (rearrange from to shape m work) (result_of (Rearranger from to) shape success) m' work'
    unfolding rearrange
    accepted_done matrix cleared =
        let g : accepted (rearranger_checks from to shape (length m) (length work)) ≡ true = rw (← passed) refl in
        record { result = rw g refl; matrix = rw g matrix; work = rw g cleared }

  pub refused_done : (r : Refusal)
      → verdict_of_refusal r ≡ rearranger_checks from to shape (length m) (length work)
      → DoneAs (rearrange from to shape m work) (result_of (Rearranger from to) shape (verdict_of_refusal r)) m work
  unfolding rearrange
  refused_done r refused =
      let g : accepted (rearranger_checks from to shape (length m) (length work)) ≡ false = rw (← refused) (not_accepted r) in
      record { result = rw g (ap (result_of (Rearranger from to) shape) refused); matrix = rw g refl; work = rw g refl }
