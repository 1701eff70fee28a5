-- The promises of the functions that count: the four counts together.
use Rattle.std.specs.Prelude.{ℕ, ◌+◌, cond, eqb}
use Rattle.acceptance.specs.declared.Run.{Run}
use Rattle.acceptance.specs.declared.Counts.{Counts}
use Rattle.acceptance.specs.Counts.{tally}

-- the counts of the first count matrices
abbrev pub counts_to : Run → ℕ → ℕ → Counts
counts_to run n count =
    record { accepted = tally run n count 0; nonpositive = tally run n count 10; overflowed = tally run n count 11; weak = tally run n count 16 }

-- one matrix more
abbrev pub counted : Counts → ℕ → Counts
counted c code =
    record {
      accepted = c.accepted + cond (eqb code 0) 1 0;
      nonpositive = c.nonpositive + cond (eqb code 10) 1 0;
      overflowed = c.overflowed + cond (eqb code 11) 1 0;
      weak = c.weak + cond (eqb code 16) 1 0;
    }
