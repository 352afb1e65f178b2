-- `descriptors::sizes::value_met` meets its contract: the value is read in the scratch.
use mathlib.Core.Path.{ap, ◌∙◌}
use Prim.Native.Nat.{ℕ}
use mathlib.Core.Bool.{Bool}
use mathlib.Core.Option.{Option}
use Rattle.format.specs.Bytes.{Bytes}
use Rattle.format.specs.Numbers.{int_bounds}
use Rattle.format.specs.Rules.{size_rule, meets_size}
use Rattle.format.specs.Words.{words}
use Rattle.values.specs.Value.{value_from}
use Rattle.words.proofs.Decoded.{decoded-all, decoded-length, scratch-length}
use Rattle.descriptors.proofs.sizes.value_met.Goals as goal

pub slice_bounds-size_rule-end-2 : goal.slice_bounds-size_rule-end-2
slice_bounds-size_rule-end-2 c =
    decoded-length (value_from c.args.value.now) c.args.scratch.now c.copy_value-m.new.out c.copy_value-m.result c.copy_value-m.ensures.0 c.copy_value-m.ensures.1

pub returns : goal.returns
returns c =
    (c.size_holds.ensures ∙ ap (λ (z : Option (ℕ → Bool)). meets_size z c.args.n) (c.size_rule-r.ensures ∙ ap (λ (x : Bytes). size_rule int_bounds (words x)) (decoded-all (value_from c.args.value.now) c.args.scratch.now c.copy_value-m.new.out c.copy_value-m.result c.copy_value-m.ensures.0 c.copy_value-m.ensures.1)), scratch-length (value_from c.args.value.now) c.args.scratch.now c.copy_value-m.new.out c.copy_value-m.result c.copy_value-m.ensures.0 c.copy_value-m.ensures.1 c.requires)
