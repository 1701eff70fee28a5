-- `acceptance::value` meets its contract, digit by digit. Assumes nothing.
use Rattle.acceptance.proofs.Systems.{digit_held, value_of}
use Rattle.acceptance.proofs.value.Goals as goal

pub int_to_float-result : goal.int_to_float-result
int_to_float-result c = digit_held c.args.digit c.requires

pub returns : goal.returns
returns c = value_of c.args.digit c.requires
