-- `columns::readings::shape_met` meets its contract, kind by kind.
use mathlib.Core.Path.{ap, ◌∙◌}
use Rattle.format.specs.Bytes.{is_some}
use Rattle.format.specs.Types.{is_in_range}
use Rattle.numbers.specs.Meaning.{int_in}
use Rattle.columns.proofs.Meeting.{met-shape, apart}
use borrow.Enum.Refused.{opened}
use Rattle.columns.proofs.readings.shape_met.Goals as goal

pub meets-requires : goal.meets-requires
meets-requires c =
    (apart c.args.kind (opened c.in_default.in_default-own.keys5)).sound

pub returns-in-Int : goal.returns-in-Int
returns-in-Int c =
    c.is_int.ensures ∙ ap is_some (c.requires) ∙ met-shape c.args.symbol c.args.v.now c.in-Int.is

pub returns-in-Range : goal.returns-in-Range
returns-in-Range c =
    c.is_between.ensures ∙ ap (is_in_range (int_in c.in-Range.low) (int_in c.in-Range.high)) (c.requires) ∙ met-shape c.args.symbol c.args.v.now c.in-Range.is

pub returns-in-Enum : goal.returns-in-Enum
returns-in-Enum c =
    met-shape c.args.symbol c.args.v.now c.in-Enum.is

pub returns-in-Alias : goal.returns-in-Alias
returns-in-Alias c =
    met-shape c.args.symbol c.args.v.now c.in-Alias.is

pub returns-in_default : goal.returns-in_default
returns-in_default c =
    c.meets.ensures ∙ (apart c.args.kind (opened c.in_default.in_default-own.keys5)).meets c.args.symbol c.args.v.now
