-- `numbering::bounds::bounds_of` meets its contract: the floors are raised by the fields and then by the types, which also lower the limits.
use Prim.Native.Nat.{ℕ, max, min}
use native.Mathlib.Omega.{arith}
use mathlib.Core.Path.{refl, ap, ◌∙◌}
use Rattle.format.specs.Bytes.{text}
use Rattle.format.specs.Numbering.{largest}
use Rattle.format.specs.Rules.{auto}
use Rattle.records.specs.Walk.{record_in}
use Rattle.records.specs.Named.{values_from}
use Rattle.numbering.specs.Bounds.{numbers, type_floor, field_floor, limit_of}
use Rattle.numbering.proofs.Numbers.{max-zero, lowest-least}
use Rattle.numbering.proofs.Completing.{repeated, all_hold}
use Rattle.numbering.proofs.bounds.bounds_of.Goals as goal

pub raise_all-requires : goal.raise_all-requires
raise_all-requires c =
    record { listed = c.requires.described.1; s_value = c.requires.s_value; list_words_in_bounds = omega arith }

pub narrow_all-requires : goal.narrow_all-requires
narrow_all-requires c =
    let ws = auto (record_in c.args.d.now) in
    record { described = (c.requires.described.0, c.requires.described.1, omega (arith, c.raise_all.auto.scratch, c.requires.described.2)); list_words_in_bounds = (omega (arith, c.raise_all.auto.floors), omega arith, λ n h. omega (arith, all_hold ws numbers (repeated 64 numbers) refl c.requires.described.1.few n h)) }

pub returns : goal.returns
returns c =
    let ws = auto (record_in c.args.d.now) in
    let vs = values_from c.args.d.now (text "%type") 0 in
    let few = c.requires.described.1.few in
    record {
      floors = λ n h. c.narrow_all.ensures.0 n h ∙ ap (λ (x : ℕ). max x (largest (type_floor c.args.d.now n) vs)) (c.raise_all.ensures n h ∙ ap (λ (x : ℕ). max x (largest (field_floor n) (record_in c.args.s.now))) (all_hold ws 0 (repeated 64 0) refl few n h) ∙ max-zero _);
      limits = λ n h. c.narrow_all.ensures.1 n h ∙ ap (λ (x : ℕ). min x (limit_of c.args.d.now n)) (all_hold ws numbers (repeated 64 numbers) refl few n h) ∙ lowest-least c.args.d.now n vs;
      floor-room = omega (arith, c.narrow_all.auto.floors, c.raise_all.auto.floors);
      limit-room = omega (arith, c.narrow_all.auto.limits);
    }
