-- `rules::judge_members` meets its contract: what is read of the descriptor is a book, and the records are asked by it.
use Prim.Native.Nat.{ℕ}
use mathlib.Core.Path.{◌≡◌, sym, ◌∙◌, subst}
use mathlib.Core.Bool.{true}
use Rattle.format.specs.Bytes.{all}
use Rattle.records.specs.Walk.{record_in}
use Rattle.rules.specs.Members.{fits_in}
use Rattle.rules.proofs.Granted.{key-there}
use Rattle.rules.proofs.judge_members.Goals as goal

pub has_field-limited-requires : goal.has_field-limited-requires
has_field-limited-requires c =
    c.requires.described.reads

pub has_field-keyed-requires : goal.has_field-keyed-requires
has_field-keyed-requires c =
    c.requires.described.reads

pub judge_records-requires : goal.judge_records-requires
judge_records-requires c =
    record { book = record { described = c.requires.described; kinds-are = c.read-kinds.ensures; limited-is = c.has_field-limited.ensures; keyed-is = key-there c.args.d.now c.requires.described c.has_field-keyed.result c.has_field-keyed.ensures }; part_value = (c.requires.part_value.0, c.requires.part_value.1, subst (λ (n : ℕ). all (fits_in n) (record_in c.args.part.now) ≡ true) (sym c.read-kinds.auto.scratch) c.requires.part_value.2); entries_end_in_bounds = c.requires.value_bytes_in_bounds.1 }

pub shape_of-scratch : goal.shape_of-scratch
shape_of-scratch c =
    c.judge_records.auto.scratch ∙ c.read-kinds.auto.scratch
