-- The numbers are the line's.
use native.Mathlib.Omega.{arith}
use Rattle.text.proofs.Texts.{puts_as}
use Rattle.acceptance.proofs.Systems.{total_small}
use Rattle.acceptance.proofs.Lines.{line_of}
use Rattle.acceptance.proofs.put_line.Goals as goal

pub count_systems-counts-requires : goal.count_systems-counts-requires
count_systems-counts-requires c =
    record { n_bound = c.requires.n_bound; count_bound = omega (arith, c.total-all.ensures, total_small c.args.n c.requires.n_bound) }

pub returns : goal.returns
returns c =
    let a = c.args in
    puts_as (line_of a.run a.n c.total-all.result c.count_systems-counts.result c.total-all.ensures c.count_systems-counts.ensures) c.put_numbers.ensures
