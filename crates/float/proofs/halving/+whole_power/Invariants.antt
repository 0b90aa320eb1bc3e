-- The measure of `float::halving::whole_power` is the exponent.
use Rattle.float.proofs.halving.+whole_power.Given as goal

abbrev pub decreases-whole_power : goal.decreases-whole_power
decreases-whole_power l = l.n
