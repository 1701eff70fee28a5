-- `job_format::reader::read_sizes` meets its contract. Each way out is one case of `read_sizes`. Assumes nothing.
use mathlib.Core.Path.{sym, ◌∙◌}
use Rattle.job_format.proofs.Formats.{sizes_bounds, sizes_fault_order, sizes_fault_block, sizes_fault_count, sizes_found}
use Rattle.job_format.proofs.reader.read_sizes.Goals as goal

pub returns-in_err-order-clause-read : goal.returns-in_err-order-clause-read
returns-in_err-order-clause-read c = sizes_fault_order c.args.file.now _ c.from_residual.result c.from_residual.ensures.1 c.in_err-order.ensures.read

pub returns-in_err-block-clause-read : goal.returns-in_err-block-clause-read
returns-in_err-block-clause-read c =
    sizes_fault_block c.args.file.now c.in_ok-order.order c.read_bounded.new.self.at c.in_ok-order.ensures.read _ c.from_residual-in_err-block.result
    c.from_residual-in_err-block.ensures.1 (rw c.in_ok-order.ensures.same_file at c.in_err-block.ensures.read)

pub returns-in_err-count-clause-read : goal.returns-in_err-count-clause-read
returns-in_err-count-clause-read c =
    let same = c.in_ok-block.ensures.same_file ∙ c.in_ok-order.ensures.same_file in
    sizes_fault_count c.args.file.now c.in_ok-order.order c.read_bounded.new.self.at c.in_ok-order.ensures.read c.in_ok-block.block c.read_bounded-2.new.self.at
    (rw c.in_ok-order.ensures.same_file at c.in_ok-block.ensures.read) _ c.from_residual-in_err-count.result c.from_residual-in_err-count.ensures.1
    (rw same at c.in_err-count.ensures.read)

pub returns-clause-read : goal.returns-clause-read
returns-clause-read c =
    let same = c.in_ok-block.ensures.same_file ∙ c.in_ok-order.ensures.same_file in
    sizes_found c.args.file.now c.in_ok-order.order c.read_bounded.new.self.at c.in_ok-order.ensures.read c.in_ok-block.block c.read_bounded-2.new.self.at
    (rw c.in_ok-order.ensures.same_file at c.in_ok-block.ensures.read) c.in_ok-count.count c.read_bounded-3.new.self.at (rw same at c.in_ok-count.ensures.read)

pub returns-clause-in_bounds : goal.returns-clause-in_bounds
returns-clause-in_bounds c = sizes_bounds c.args.file.now _ _ (sym (returns-clause-read c))
