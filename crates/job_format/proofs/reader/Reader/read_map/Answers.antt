-- `job_format::reader::Reader::read_map` meets its contract. Each way out is one case of `read_map`. Assumes nothing.
use native.Mathlib.Omega.{arith}
use mathlib.Core.Path.{ap, ◌∙◌}
use Rattle.shape.specs.Places.{triangle}
use Rattle.job_format.proofs.Fields.{handed_on}
use Rattle.job_format.proofs.Formats.{map_short, map_whole, map_unpadded, map_padded}
use Rattle.job_format.proofs.reader.Reader.read_map.Goals as goal
use Rattle.job_format.proofs.reader.Reader.read_map.Goals.{else-used-ne0-via-then-used-ne0+else-self-used-ne0, else-used-ne0-via-else-used-ne0}

pub returns-in_err-take-clause-read : goal.returns-in_err-take-clause-read
returns-in_err-take-clause-read c =
    let a = c.args in
    let (is, short) = c.in_err-take.ensures.short in
    let entries = c.triangle-bits.ensures ∙ ap triangle c.new.ensures.0 in
    handed_on c.in_err-take.field-0.0 c.take.new.self.at _
    (rw is (map_short a.self.now.file.now a.order a.self.now.at c.triangle-bits.result c.div_ceil.result entries (omega arith) short)) c.from_residual.result
    c.from_residual.ensures.1

pub returns-then-self-used-ne0-clause-read : goal.returns-then-self-used-ne0-clause-read
returns-then-self-used-ne0-clause-read c =
    let a = c.args in
    let (part, next, there) = c.in_ok-take.ensures.found in
    rw next
    (map_unpadded a.self.now.file.now a.order a.self.now.at c.triangle-bits.result c.div_ceil.result (c.triangle-bits.ensures ∙ ap triangle c.new.ensures.0) (omega arith)
    (omega arith) c.if-used-ne0.true (rw (c.in_ok-take.ensures.same_file, next) at c.if-self-used-ne0.true))

pub returns-clause-read : goal.returns-clause-read
returns-clause-read c =
    let a = c.args in
    let entries = c.triangle-bits.ensures ∙ ap triangle c.new.ensures.0 in
    let (part, next, there) = c.in_ok-take.ensures.found in
    elim c.else-used-ne0.branch [
      | else-used-ne0-via-then-used-ne0+else-self-used-ne0 w ↦
          rw next
          (map_padded a.self.now.file.now a.order a.self.now.at c.triangle-bits.result c.div_ceil.result entries (omega arith) (omega arith) w.if-used-ne0.true
          (rw (c.in_ok-take.ensures.same_file, next) at w.if-self-used-ne0.false))
      | else-used-ne0-via-else-used-ne0 w ↦
          rw next (map_whole a.self.now.file.now a.order a.self.now.at c.triangle-bits.result c.div_ceil.result entries (omega arith) (omega arith) w.if-used-ne0.false)
    ]
