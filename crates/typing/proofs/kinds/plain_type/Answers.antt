-- `typing::kinds::plain_type` meets its contract.
use mathlib.Core.Path.{sym, ap, ◌∙◌}
use native.Mathlib.Omega.{arith}
use Rattle.words.specs.Spans.{span}
use Rattle.words.proofs.Finding.{found, not_found}
use lib.ListN.{length}
use Rattle.format.specs.Numbers.{int_bounds}
use Rattle.format.specs.Words.{words}
use Rattle.format.specs.Types.{plain_kind}
use Rattle.typing.proofs.TypeHeads.{told-fault, told_same, told-bare, told-not-bare, told-by-head}
use Rattle.typing.proofs.kinds.plain_type.Goals as goal

pub returns-in_err-w : goal.returns-in_err-w
returns-in_err-w c =
    rw c.from_residual.ensures (told-fault c.args.s.now (ap (plain_kind int_bounds) (not_found c.args.s.now c.next_word.ensures c.in_err-w.was)))

pub slice_bounds-head_of-count : goal.slice_bounds-head_of-count
slice_bounds-head_of-count c =
    let f = found c.args.s.now c.next_word.ensures c.in_ok-w.was in
    omega (arith, f.0, f.1)

pub slice_bounds-head_of-start : goal.slice_bounds-head_of-start
slice_bounds-head_of-start c =
    let f = found c.args.s.now c.next_word.ensures c.in_ok-w.was in
    omega (arith, f.0, f.1)

pub slice_bounds-head_of-end : goal.slice_bounds-head_of-end
slice_bounds-head_of-end c =
    let f = found c.args.s.now c.next_word.ensures c.in_ok-w.was in
    omega (arith, f.0, f.1)

pub slice_bounds-next_word-count : goal.slice_bounds-next_word-count
slice_bounds-next_word-count c =
    let f = found c.args.s.now c.next_word.ensures c.in_ok-w.was in
    omega (arith, f.0)

pub slice_bounds-next_word-start : goal.slice_bounds-next_word-start
slice_bounds-next_word-start c =
    let f = found c.args.s.now c.next_word.ensures c.in_ok-w.was in
    omega (arith, f.0)

pub returns-in_default : goal.returns-in_default
returns-in_default c =
    let f = found c.args.s.now c.next_word.ensures c.in_ok-w.was in
    let k = found (span c.in_ok-w.w.end (length c.args.s.now) c.args.s.now) c.next_word-in-Bare.ensures c.in_default.is in
    told_same c.args.s.now (ap (plain_kind int_bounds) f.2) (told-not-bare c.args.s.now (span c.in_ok-w.w.start c.in_ok-w.w.end c.args.s.now) _ (words (span c.in_ok-w.w.end (length c.args.s.now) c.args.s.now)) _ (sym c.head_of.ensures ∙ c.in-Bare.is) k.2)

pub slice_bounds-range_of-count : goal.slice_bounds-range_of-count
slice_bounds-range_of-count c =
    let f = found c.args.s.now c.next_word.ensures c.in_ok-w.was in
    omega (arith, f.0)

pub slice_bounds-range_of-start : goal.slice_bounds-range_of-start
slice_bounds-range_of-start c =
    let f = found c.args.s.now c.next_word.ensures c.in_ok-w.was in
    omega (arith, f.0)

pub slice_bounds-size_of-count : goal.slice_bounds-size_of-count
slice_bounds-size_of-count c =
    let f = found c.args.s.now c.next_word.ensures c.in_ok-w.was in
    omega (arith, f.0)

pub slice_bounds-size_of-start : goal.slice_bounds-size_of-start
slice_bounds-size_of-start c =
    let f = found c.args.s.now c.next_word.ensures c.in_ok-w.was in
    omega (arith, f.0)

pub alias_of-requires : goal.alias_of-requires
alias_of-requires c =
    let f = found c.args.s.now c.next_word.ensures c.in_ok-w.was in
    (omega (arith, f.0), f.1)

pub returns-in-None : goal.returns-in-None
returns-in-None c =
    let f = found c.args.s.now c.next_word.ensures c.in_ok-w.was in
    let n = not_found (span c.in_ok-w.w.end (length c.args.s.now) c.args.s.now) c.next_word-in-Bare.ensures c.in-None.is in
    told_same c.args.s.now (ap (plain_kind int_bounds) f.2) (told-bare c.args.s.now (span c.in_ok-w.w.start c.in_ok-w.w.end c.args.s.now) (words (span c.in_ok-w.w.end (length c.args.s.now) c.args.s.now)) (sym c.head_of.ensures ∙ c.in-Bare.is) n)

pub returns-in-Range : goal.returns-in-Range
returns-in-Range c =
    let f = found c.args.s.now c.next_word.ensures c.in_ok-w.was in
    told_same c.args.s.now (ap (plain_kind int_bounds) f.2) (told-by-head c.args.s.now (span c.in_ok-w.w.start c.in_ok-w.w.end c.args.s.now) (words (span c.in_ok-w.w.end (length c.args.s.now) c.args.s.now)) (sym c.head_of.ensures ∙ c.in-Range.is) (c.range_of.ensures c.args.s.now))

pub returns-in-Size : goal.returns-in-Size
returns-in-Size c =
    let f = found c.args.s.now c.next_word.ensures c.in_ok-w.was in
    told_same c.args.s.now (ap (plain_kind int_bounds) f.2) (told-by-head c.args.s.now (span c.in_ok-w.w.start c.in_ok-w.w.end c.args.s.now) (words (span c.in_ok-w.w.end (length c.args.s.now) c.args.s.now)) (sym c.head_of.ensures ∙ c.in-Size.is) (c.size_of.ensures c.args.s.now))

pub returns-in-Name : goal.returns-in-Name
returns-in-Name c =
    let f = found c.args.s.now c.next_word.ensures c.in_ok-w.was in
    told_same c.args.s.now (ap (plain_kind int_bounds) f.2) (told-by-head c.args.s.now (span c.in_ok-w.w.start c.in_ok-w.w.end c.args.s.now) (words (span c.in_ok-w.w.end (length c.args.s.now) c.args.s.now)) (sym c.head_of.ensures ∙ c.in-Name.is) c.alias_of.ensures)
