-- `job_format::writer::stands` meets its contract. Past the last entry a pattern counts as 0. Assumes nothing.
use mathlib.Core.Path.{refl}
use lib.ListN.{get_or-eq_default}
use Rattle.job_format.specs.Rewriting.{stands}
use Rattle.job_format.proofs.writer.stands.Goals as goal

pub returns-in-Some : goal.returns-in-Some
unfolding stands
returns-in-Some c = let e = c.in-Some.ensures.lookup.3.1 0 in rw (← e) refl

pub returns-in-None : goal.returns-in-None
unfolding stands
returns-in-None c = rw (get_or-eq_default c.args.matrix.now 0 c.in-None.ensures.lookup.3) refl
