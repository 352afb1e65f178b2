-- The constant is the class of each byte, by computation.
use Rattle.std.proofs.Common.{refl}
use Rattle.format.specs.Bytes.{class_table}
use Rattle.format.proofs.bytes.Classes.new.Goals as goal

pub invariant_of-result : goal.invariant_of-result
unfolding class_table
invariant_of-result c = record { right = refl }
