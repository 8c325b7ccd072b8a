-- One digit fewer is left to write at each call.
use Rattle.text.proofs.Writer.+digits.Given as goal

abbrev pub decreases-digits : goal.decreases-digits
decreases-digits l = l.digits
