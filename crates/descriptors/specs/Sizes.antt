-- What a size stands for.
use Rattle.std.specs.Prelude.{ℕ, Bool, leb, ltb, eqb}
use Rattle.std.proofs.Math.Option.{Option, none, some}
use Rattle.format.specs.Bytes.{Bytes}
use Rattle.format.specs.Records.{Field}
use Rattle.descriptors.specs.declared.sizes.SizeRule.{SizeRule}

-- the definitions' test of a record count for each case
abbrev pub size_answer : SizeRule → Option (ℕ → Bool)
size_answer SizeRule.None = none
size_answer (SizeRule.Exactly k) = some (λ m. eqb m k)
size_answer (SizeRule.Below k) = some (λ m. ltb m k)
size_answer (SizeRule.AtMost k) = some (λ m. leb m k)
size_answer (SizeRule.Above k) = some (λ m. ltb k m)
size_answer (SizeRule.AtLeast k) = some (λ m. leb k m)

abbrev pub field_of : Bytes → Bytes → ℕ → Field
field_of n v k = record { name = n; value = v; count = k }
