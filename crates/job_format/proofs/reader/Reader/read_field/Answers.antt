-- `job_format::reader::Reader::read_field` meets its contract. Assumes nothing.
use native.Mathlib.Omega.{arith}
use mathlib.Core.Path.{sym, ◌∙◌}
use Rattle.job_format.proofs.Fields.{handed_on, field_short, field_copied}
use Rattle.job_format.proofs.reader.Reader.read_field.Goals as goal

pub returns-in_err-take-clause-read : goal.returns-in_err-take-clause-read
returns-in_err-take-clause-read c =
    let a = c.args in
    let (is, short) = c.in_err-take.ensures.short in
    handed_on c.in_err-take.field-0.0 c.take.new.self.at _ (rw is (sym (field_short a.self.now.file.now a.self.now.at a.width short))) c.from_residual.result c.from_residual.ensures.1

pub returns-clause-read : goal.returns-clause-read
returns-clause-read c =
    let a = c.args in
    let (part, next, there) = c.in_ok-take.ensures.found in
    rw next
    (field_copied a.self.now.file.now a.self.now.at a.width c.copy_from_slice.new.self c.from_le_bytes.result c.requires (omega arith) (c.copy_from_slice.ensures.after ∙ part)
    c.from_le_bytes.ensures)
