-- `job_format::writer::put_sizes` meets its contract. Three numbers one after another. Assumes nothing.
use native.Mathlib.Omega.{arith}
use mathlib.Core.Path.{◌∙◌}
use lib.ListN.{length-append}
use Rattle.job_format.specs.Rewriting.{bytes_of, sizes_bytes}
use Rattle.text.proofs.Texts.{puts_then, puts_as}
use Rattle.job_format.proofs.Digits.{length_bytes, two_bytes, one_byte}
use Rattle.job_format.proofs.writer.put_sizes.Goals as goal

pub returns : goal.returns
unfolding sizes_bytes
returns c =
    let n = c.args.sizes.order in
    let b = c.args.sizes.block in
    let order = puts_as (c.to_le_bytes.ensures ∙ two_bytes n) c.put_text.ensures in
    let block = puts_as (c.to_le_bytes-2.ensures ∙ two_bytes b) c.put_text-2.ensures in
    puts_then (omega (arith, length-append (bytes_of 2 n) (bytes_of 2 b), length_bytes 2 n, length_bytes 2 b)) (puts_then (omega (arith, length_bytes 2 n)) order block)
    (puts_as (one_byte c.args.sizes.count (omega arith)) c.put_byte.ensures)
