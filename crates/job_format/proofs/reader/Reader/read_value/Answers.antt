-- `job_format::reader::Reader::read_value` meets its contract. Each way out is one case of `value`. Assumes nothing.
use mathlib.Core.Path.{sym, ◌∙◌}
use Rattle.job_format.proofs.Fields.{handed_on, value_absent, value_read, value_needless, value_fault}
use Rattle.job_format.proofs.reader.Reader.read_value.Goals as goal

pub returns-then-not-present-clause-read : goal.returns-then-not-present-clause-read
returns-then-not-present-clause-read c =
    let a = c.args in
    value_absent a.zeros a.self.now.file.now a.self.now.at a.present c.if-not-present.true

pub returns-in_err-bits-clause-read : goal.returns-in_err-bits-clause-read
returns-in_err-bits-clause-read c =
    let a = c.args in
    handed_on c.in_err-bits.field-0.0 c.read_field.new.self.at _
    (value_fault a.zeros a.self.now.file.now a.self.now.at a.present c.if-not-present.false _ c.in_err-bits.ensures.read) c.from_residual.result c.from_residual.ensures.1

pub returns-then-is_needless-clause-read : goal.returns-then-is_needless-clause-read
returns-then-is_needless-clause-read c =
    let a = c.args in
    value_needless a.zeros a.self.now.file.now a.self.now.at a.present c.if-not-present.false c.in_ok-bits.bits c.read_field.new.self.at c.in_ok-bits.ensures.read
    (sym c.is_needless.ensures ∙ c.if-is_needless.true)

pub returns-clause-read : goal.returns-clause-read
returns-clause-read c =
    let a = c.args in
    value_read a.zeros a.self.now.file.now a.self.now.at a.present c.if-not-present.false c.in_ok-bits.bits c.read_field.new.self.at c.in_ok-bits.ensures.read
    (sym c.is_needless.ensures ∙ c.if-is_needless.false)
