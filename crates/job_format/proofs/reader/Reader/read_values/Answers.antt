-- `job_format::reader::Reader::read_values` meets its contract. The loop's invariant: the first k values are in out. A fault decides for all values. Assumes nothing.
use native.Mathlib.Omega.{arith}
use mathlib.Core.Path.{refl, ◌∙◌}
use lib.ListN.{length}
use Rattle.job_format.proofs.Fields.{handed_on_as, read_none, read_turn, read_fault}
use Rattle.job_format.proofs.reader.Reader.read_values.Goals as goal

pub loop-k-init : goal.loop-k-init
loop-k-init g c = record { same_file = refl; read = λ p same. read_none c.args.zeros c.args.self.now.file.now p c.args.self.now.at c.args.out.now }

pub returns-in_err-bits-clause-read : goal.returns-in_err-bits-clause-read
returns-in_err-bits-clause-read g c p same =
    let a = c.args in
    let bit = same c.loop-k.k c.present.result (omega arith) c.present.ensures in
    handed_on_as c.in_err-bits.field-0.0 c.read_value.new.self.at _
    (read_fault a.zeros a.self.now.file.now p a.self.now.at (length a.out.now) c.loop-k.self.at c.loop-k.k c.in_err-bits.field-0.0 c.loop-k.out (c.loop-k.invariant.read p same)
    (omega arith) (rw (c.loop-k.invariant.same_file, bit) at c.in_err-bits.ensures.read)) _ c.from_residual.result c.from_residual.ensures.1

pub loop-k-preserved : goal.loop-k-preserved
loop-k-preserved g c =
    let a = c.args in
    record {
      same_file = c.in_ok-bits.ensures.same_file ∙ c.loop-k.invariant.same_file;
      read =
          λ p same.
          let bit = same c.loop-k.k c.present.result (omega arith) c.present.ensures in
          read_turn a.zeros a.self.now.file.now p a.self.now.at (length a.out.now) c.loop-k.self.at c.loop-k.k c.read_value.new.self.at c.loop-k.out c.in_ok-bits.field-0
          (c.loop-k.invariant.read p same) (omega arith) (rw (c.loop-k.invariant.same_file, bit) at c.in_ok-bits.ensures.read);
    }
