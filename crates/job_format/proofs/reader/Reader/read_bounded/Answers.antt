-- `job_format::reader::Reader::read_bounded` meets its contract. Each way out is one case of `bounded`. Assumes nothing.
use Rattle.job_format.proofs.Fields.{handed_on, bounded_fault, bounded_low, bounded_high, bounded_in}
use Rattle.job_format.proofs.reader.Reader.read_bounded.Goals as goal
use Rattle.job_format.proofs.reader.Reader.read_bounded.Goals.{then-value-low-via-then-value-low, then-value-low-via-else-value-low+then-high-value}

pub returns-in_err-value-clause-read : goal.returns-in_err-value-clause-read
returns-in_err-value-clause-read c =
    let a = c.args in
    handed_on c.in_err-value.field-0.0 c.read_field.new.self.at _ (bounded_fault a.self.now.file.now a.self.now.at a.width a.low a.high _ c.in_err-value.ensures.read) c.from_residual.result
    c.from_residual.ensures.1

pub returns-then-value-low-clause-read : goal.returns-then-value-low-clause-read
returns-then-value-low-clause-read c =
    let a = c.args in
    elim c.then-value-low.branch [
      | then-value-low-via-then-value-low w ↦
          bounded_low a.self.now.file.now a.self.now.at a.width a.low a.high c.in_ok-value.value c.read_field.new.self.at c.in_ok-value.ensures.read w.if-value-low.true
      | then-value-low-via-else-value-low+then-high-value w ↦
          bounded_high a.self.now.file.now a.self.now.at a.width a.low a.high c.in_ok-value.value c.read_field.new.self.at c.in_ok-value.ensures.read w.if-value-low.false
          w.if-high-value.true
    ]

pub returns-clause-read : goal.returns-clause-read
returns-clause-read c =
    let a = c.args in
    bounded_in a.self.now.file.now a.self.now.at a.width a.low a.high c.in_ok-value.value c.read_field.new.self.at c.in_ok-value.ensures.read c.if-value-low.false
    c.if-high-value.false
