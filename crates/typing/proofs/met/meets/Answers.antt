-- `typing::met::meets` meets its contract.
use mathlib.Core.Path.{sym, ap, ◌∙◌}
use mathlib.Core.Bool.{false}
use Prim.Native.Nat.{ℕ}
use native.Mathlib.Omega.{arith}
use lib.Dec.{leb, eqb}
use lib.ListN.{length}
use Rattle.format.specs.Bytes.{Bytes, among, is_some}
use Rattle.format.specs.Lines.{is_name}
use Rattle.format.specs.Numbers.{int_bounds, int_of, is_real}
use Rattle.format.specs.Types.{is_in_range, truths, is_uuid, uncomment}
use Rattle.words.specs.Spans.{span}
use Rattle.numbers.specs.Meaning.{int_in}
use Rattle.typing.specs.Meaning.{symbols_in}
use Rattle.typing.proofs.Meeting.{meets-shape, sound-shape, one_line}
use Rattle.typing.proofs.met.meets.Goals as goal

pub slice_bounds-has_symbol-count : goal.slice_bounds-has_symbol-count
slice_bounds-has_symbol-count c =
    let t = sound-shape c.args.text.now c.in-Enum.is (c.requires) in
    omega (arith, t.0, t.1)

pub slice_bounds-has_symbol-start : goal.slice_bounds-has_symbol-start
slice_bounds-has_symbol-start c =
    let t = sound-shape c.args.text.now c.in-Enum.is (c.requires) in
    omega (arith, t.0, t.1)

pub slice_bounds-has_symbol-end : goal.slice_bounds-has_symbol-end
slice_bounds-has_symbol-end c =
    let t = sound-shape c.args.text.now c.in-Enum.is (c.requires) in
    omega (arith, t.0, t.1)

pub has_symbol-requires : goal.has_symbol-requires
has_symbol-requires c =
    let t = sound-shape c.args.text.now c.in-Enum.is (c.requires) in
    t.2

pub returns-in-Int : goal.returns-in-Int
returns-in-Int c =
    c.is_int.ensures ∙ (ap is_some (c.int_of.ensures ∙ ap (int_of int_bounds) c.trimmed-t.ensures.2) ∙ meets-shape c.args.text.now c.args.v.now c.in-Int.is)

pub returns-in-Range : goal.returns-in-Range
returns-in-Range c =
    c.is_between.ensures ∙ (ap (is_in_range (int_in c.in-Range.low) (int_in c.in-Range.high)) (c.int_of-in-Range.ensures ∙ ap (int_of int_bounds) c.trimmed-t.ensures.2) ∙ meets-shape c.args.text.now c.args.v.now c.in-Range.is)

pub returns-in-Real : goal.returns-in-Real
returns-in-Real c =
    c.is_real.ensures ∙ (ap (λ (w : Bytes). is_real w) c.trimmed-t.ensures.2 ∙ meets-shape c.args.text.now c.args.v.now c.in-Real.is)

pub returns-in-Line : goal.returns-in-Line
returns-in-Line c =
    ap (λ (n : ℕ). eqb n (length c.args.v.now)) c.line_len.ensures ∙ (sym (one_line c.args.v.now) ∙ meets-shape c.args.text.now c.args.v.now c.in-Line.is)

pub returns-in-Size : goal.returns-in-Size
returns-in-Size c =
    ap (λ (n : ℕ). leb n c.in-Size.n) c.size_count.ensures ∙ meets-shape c.args.text.now c.args.v.now c.in-Size.is

pub returns-in-Enum : goal.returns-in-Enum
returns-in-Enum c =
    c.has_symbol.ensures ∙ (ap (λ (w : Bytes). among w (symbols_in (uncomment false (span c.in-Enum.start c.in-Enum.end c.args.text.now)))) c.trimmed-t.ensures.2 ∙ meets-shape c.args.text.now c.args.v.now c.in-Enum.is)

pub returns-in-Bool : goal.returns-in-Bool
returns-in-Bool c =
    c.is_truth.ensures ∙ (ap (λ (w : Bytes). among w truths) c.trimmed-t.ensures.2 ∙ meets-shape c.args.text.now c.args.v.now c.in-Bool.is)

pub returns-in-Field : goal.returns-in-Field
returns-in-Field c =
    c.is_name.ensures ∙ (ap (λ (w : Bytes). is_name w) c.trimmed-t.ensures.2 ∙ meets-shape c.args.text.now c.args.v.now c.in-Field.is)

pub returns-in-Uuid : goal.returns-in-Uuid
returns-in-Uuid c =
    c.is_uuid.ensures ∙ (ap (λ (w : Bytes). is_uuid w) c.trimmed-t.ensures.2 ∙ meets-shape c.args.text.now c.args.v.now c.in-Uuid.is)

pub returns-in-Alias : goal.returns-in-Alias
returns-in-Alias c =
    meets-shape c.args.text.now c.args.v.now c.in-Alias.is
