-- `job_format::reader::Reader::read_values` meets its contract. The loop's invariant: the first k values are in out. A fault decides for all values. Assumes nothing.
use Prim.Native.Nat.{ℕ, ◌<◌}
use mathlib.Core.Path.{◌≡◌}
use mathlib.Core.Bool.{Bool}
use lib.ListN.{length}
use Rattle.job_format.proofs.Fields.{ReadTo}
use Rattle.job_format.proofs.reader.Reader.read_values.Given as goal

abbrev pub invariant-loop-k : goal.invariant-loop-k
invariant-loop-k g l =
    record {
      same_file : l.self.file ≡ l.fn.self.file;
      read :
          (p : ℕ → Bool) → ((k : ℕ) (r : Bool) → k < length l.initial.out → goal.F-post g l.present k r → r ≡ p k) →
          ReadTo l.zeros l.fn.self.file.now p l.fn.self.at (length l.initial.out) l.out l.self.at l.k;
    }
