-- What the columns of a factor are judged to: the verdict, and whether none is refused and every root is exact.
use Rattle.std.specs.Prelude.{ℕ, ◌+◌, ◌≡◌, Bool, ◌&&◌}
use Rattle.calls.specs.declared.Verdict.{Verdict}
use Rattle.calls.specs.declared.Judgement.{Judgement}
use Rattle.calls.specs.Sequences.{every}
use Rattle.calls.specs.Refusals.{accepted, lowest_refusal}

abbrev pub judgement : Verdict → Bool → Judgement
judgement verdict exact = record { verdict = verdict; exact = accepted verdict && exact }

-- the first count columns, each with its own verdict and whether its root is exact
abbrev pub judged_to : (ℕ → Verdict) → (ℕ → Bool) → ℕ → Judgement
judged_to judge exact count = judgement (lowest_refusal judge count) (every exact count)

-- the columns before one and that one itself, judged together
abbrev pub Joined : Judgement → Judgement → Judgement → Type 0
Joined before column r =
    (judge : ℕ → Verdict) (exact : ℕ → Bool) (k : ℕ) → before ≡ judged_to judge exact k → column ≡ judgement (judge k) (exact k) →
    r ≡ judged_to judge exact (k + 1)
