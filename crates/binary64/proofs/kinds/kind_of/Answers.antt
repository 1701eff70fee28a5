-- `binary64::kinds::kind_of` meets its contract. Only a NaN differs from itself. Assumes nothing.
use mathlib.Core.Path.{◌≡◌, sym, ap, ◌∙◌, subst}
use mathlib.Core.Bool.{true, false, not, true≢false}
use lib.Dec.{T}
use lib.Ieee.{Float, nan, inf, fin, ne, is_nan}
use lib.Ieee.Compare.{differs_from_itself}
use Rattle.binary64.specs.declared.kinds.Kind.TheVariants.{NaN}
use Rattle.binary64.specs.Kinds.{kind}
use Rattle.binary64.proofs.KindLaws.{kind_nan_value}
use Rattle.binary64.proofs.kinds.kind_of.Goals as goal

differs : (x : Float) → ne x x ≡ true → NaN ≡ kind x
differs x h = sym (ap kind (differs_from_itself x (subst T (sym h) tt)) ∙ kind_nan_value)

equals : (x : Float) → ne x x ≡ false → T (not (is_nan x))
unfolding ne is_nan
equals nan h = absurd (true≢false h)
equals (inf s) h = tt
equals (fin s m e) h = tt

pub returns-then-x : goal.returns-then-x
returns-then-x c = differs c.args.x c.if-x.true

pub float_to_bits-x : goal.float_to_bits-x
float_to_bits-x c = equals c.args.x c.if-x.false

pub returns : goal.returns
unfolding kind
returns c = c.kind_of_bits.ensures
