-- The measure is how many typedefs may still be met.
use Rattle.typedefs.proofs.+follow.Given as goal

abbrev pub decreases-follow : goal.decreases-follow
decreases-follow l = l.left
