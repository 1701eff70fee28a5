-- `text::Writer::put_decimal` meets its contract. The number falls with each call. Assumes nothing.
use Rattle.text.proofs.Writer.+put_decimal.Given as goal

abbrev pub decreases-put_decimal : goal.decreases-put_decimal
decreases-put_decimal l = l.n
