-- `typing::kinds::range_of` meets its contract.
use Rattle.std.specs.Prelude.{Some}
use mathlib.Core.Path.{sym, ap, ◌∙◌}
use native.Mathlib.Omega.{arith}
use mathlib.Core.List.{List, ◌∷◌}
use lib.ListN.{length}
use Rattle.format.specs.Bytes.{Bytes}
use Rattle.words.specs.Spans.{span}
use Rattle.words.proofs.Finding.{found, not_found}
use mathlib.Core.Option.{some}
use Rattle.format.specs.Numbers.{int_bounds, plus}
use Rattle.format.specs.Types.{range_of, ranged}
use Rattle.numbers.specs.declared.Whole.{Whole}
use Rattle.typing.proofs.TypeHeads.{told-fault, told-range}
use Rattle.typing.proofs.kinds.range_of.Goals as goal

pub returns-in_err-first : goal.returns-in_err-first
returns-in_err-first c =
    rw c.from_residual.ensures (λ x. told-fault x (ap (range_of int_bounds) (not_found c.args.s.now c.next_word.ensures c.in_err-first.was)))

pub slice_bounds-end_of-count : goal.slice_bounds-end_of-count
slice_bounds-end_of-count c =
    let f = found c.args.s.now c.next_word.ensures c.in_ok-first.was in
    omega (arith, f.0, f.1)

pub slice_bounds-end_of-start : goal.slice_bounds-end_of-start
slice_bounds-end_of-start c =
    let f = found c.args.s.now c.next_word.ensures c.in_ok-first.was in
    omega (arith, f.0, f.1)

pub slice_bounds-end_of-end : goal.slice_bounds-end_of-end
slice_bounds-end_of-end c =
    let f = found c.args.s.now c.next_word.ensures c.in_ok-first.was in
    omega (arith, f.0, f.1)

pub slice_bounds-t-count : goal.slice_bounds-t-count
slice_bounds-t-count c =
    let f = found c.args.s.now c.next_word.ensures c.in_ok-first.was in
    omega (arith, f.0, f.1)

pub slice_bounds-t-start : goal.slice_bounds-t-start
slice_bounds-t-start c =
    let f = found c.args.s.now c.next_word.ensures c.in_ok-first.was in
    omega (arith, f.0, f.1)

pub returns-in_default : goal.returns-in_default
returns-in_default c =
    let f = found c.args.s.now c.next_word.ensures c.in_ok-first.was in
    let rest = span c.in_ok-first.first.end (length c.args.s.now) c.args.s.now in
    let n = not_found rest c.next_word-2.ensures c.in_default.is in
    λ x. told-range x (Some (Whole.Plus 0)) c.end_of-x.result c.ranged.ensures (ap (range_of int_bounds) (f.2 ∙ ap (λ (l : List Bytes). span c.in_ok-first.first.start c.in_ok-first.first.end c.args.s.now ∷ l) n) ∙ ap (ranged (some (plus 0))) (sym c.end_of-x.ensures))

pub slice_bounds-next_word-count : goal.slice_bounds-next_word-count
slice_bounds-next_word-count c =
    let g = found (span c.in_ok-first.first.end (length c.args.s.now) c.args.s.now) c.next_word-2.ensures c.in-Some.is in
    omega (arith, g.0, g.1)

pub slice_bounds-next_word-start : goal.slice_bounds-next_word-start
slice_bounds-next_word-start c =
    let g = found (span c.in_ok-first.first.end (length c.args.s.now) c.args.s.now) c.next_word-2.ensures c.in-Some.is in
    omega (arith, g.0, g.1)

pub slice_bounds-end_of-count-2 : goal.slice_bounds-end_of-count-2
slice_bounds-end_of-count-2 c =
    let g = found (span c.in_ok-first.first.end (length c.args.s.now) c.args.s.now) c.next_word-2.ensures c.in-Some.is in
    omega (arith, g.0, g.1)

pub slice_bounds-end_of-start-2 : goal.slice_bounds-end_of-start-2
slice_bounds-end_of-start-2 c =
    let g = found (span c.in_ok-first.first.end (length c.args.s.now) c.args.s.now) c.next_word-2.ensures c.in-Some.is in
    omega (arith, g.0, g.1)

pub slice_bounds-end_of-end-2 : goal.slice_bounds-end_of-end-2
slice_bounds-end_of-end-2 c =
    let g = found (span c.in_ok-first.first.end (length c.args.s.now) c.args.s.now) c.next_word-2.ensures c.in-Some.is in
    omega (arith, g.0, g.1)

pub returns-in_default-next_word : goal.returns-in_default-next_word
returns-in_default-next_word c =
    let f = found c.args.s.now c.next_word.ensures c.in_ok-first.was in
    let rest = span c.in_ok-first.first.end (length c.args.s.now) c.args.s.now in
    let g = found rest c.next_word-2.ensures c.in-Some.is in
    let k = found (span c.in-Some.field-0.end (length rest) rest) c.next_word-3.ensures c.in_default-next_word.is in
    λ x. told-fault x (ap (range_of int_bounds) (f.2 ∙ ap (λ (l : List Bytes). span c.in_ok-first.first.start c.in_ok-first.first.end c.args.s.now ∷ l) (g.2 ∙ ap (λ (l : List Bytes). span c.in-Some.field-0.start c.in-Some.field-0.end rest ∷ l) k.2)))

pub returns : goal.returns
returns c =
    let f = found c.args.s.now c.next_word.ensures c.in_ok-first.was in
    let rest = span c.in_ok-first.first.end (length c.args.s.now) c.args.s.now in
    let g = found rest c.next_word-2.ensures c.in-Some.is in
    let n = not_found (span c.in-Some.field-0.end (length rest) rest) c.next_word-3.ensures c.in-None.is in
    λ x. told-range x c.end_of-x.result c.end_of-y.result c.ranged-2.ensures (ap (range_of int_bounds) (f.2 ∙ ap (λ (l : List Bytes). span c.in_ok-first.first.start c.in_ok-first.first.end c.args.s.now ∷ l) (g.2 ∙ ap (λ (l : List Bytes). span c.in-Some.field-0.start c.in-Some.field-0.end rest ∷ l) n)) ∙ rw (← c.end_of-x.ensures, ← c.end_of-y.ensures))
