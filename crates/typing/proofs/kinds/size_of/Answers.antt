-- `typing::kinds::size_of` meets its contract.
use mathlib.Core.Path.{sym, ap, ◌∙◌}
use native.Mathlib.Omega.{arith}
use Prim.Native.Nat.{ℕ}
use mathlib.Core.Option.{map}
use mathlib.Core.List.{List, ◌∷◌}
use Rattle.format.specs.Bytes.{Bytes}
use lib.ListN.{length}
use Rattle.words.specs.Spans.{span}
use Rattle.words.proofs.Finding.{found, not_found}
use Rattle.format.specs.Numbers.{int_bounds}
use Rattle.format.specs.Types.{Kind, Typed, size_of}
use Rattle.numbers.specs.Meaning.{natural_answer}
use Rattle.typing.proofs.TypeHeads.{told-fault}
use Rattle.typing.proofs.kinds.size_of.Goals as goal

pub returns-in_err-w : goal.returns-in_err-w
returns-in_err-w c =
    rw c.from_residual.ensures (λ x. told-fault x (ap (size_of int_bounds) (not_found c.args.s.now c.next_word.ensures c.in_err-w.was)))

pub slice_bounds-next_word-count : goal.slice_bounds-next_word-count
slice_bounds-next_word-count c =
    let f = found c.args.s.now c.next_word.ensures c.in_ok-w.was in
    omega (arith, f.0, f.1)

pub slice_bounds-next_word-start : goal.slice_bounds-next_word-start
slice_bounds-next_word-start c =
    let f = found c.args.s.now c.next_word.ensures c.in_ok-w.was in
    omega (arith, f.0, f.1)

pub slice_bounds-number_of-count : goal.slice_bounds-number_of-count
slice_bounds-number_of-count c =
    let f = found c.args.s.now c.next_word.ensures c.in_ok-w.was in
    omega (arith, f.0, f.1)

pub slice_bounds-number_of-start : goal.slice_bounds-number_of-start
slice_bounds-number_of-start c =
    let f = found c.args.s.now c.next_word.ensures c.in_ok-w.was in
    omega (arith, f.0, f.1)

pub slice_bounds-number_of-end : goal.slice_bounds-number_of-end
slice_bounds-number_of-end c =
    let f = found c.args.s.now c.next_word.ensures c.in_ok-w.was in
    omega (arith, f.0, f.1)

pub returns-in_default : goal.returns-in_default
returns-in_default c =
    let f = found c.args.s.now c.next_word.ensures c.in_ok-w.was in
    let k = found (span c.in_ok-w.w.end (length c.args.s.now) c.args.s.now) c.next_word-2.ensures c.in_default.is in
    λ x. told-fault x (ap (size_of int_bounds) (f.2 ∙ ap (λ (l : List Bytes). span c.in_ok-w.w.start c.in_ok-w.w.end c.args.s.now ∷ l) k.2))

pub returns-in_err-n : goal.returns-in_err-n
returns-in_err-n c =
    let f = found c.args.s.now c.next_word.ensures c.in_ok-w.was in
    let n = not_found (span c.in_ok-w.w.end (length c.args.s.now) c.args.s.now) c.next_word-2.ensures c.in-None.is in
    rw c.from_residual-in_err-n.ensures (λ x. told-fault x (ap (size_of int_bounds) (f.2 ∙ ap (λ (l : List Bytes). span c.in_ok-w.w.start c.in_ok-w.w.end c.args.s.now ∷ l) n) ∙ ap (map (λ (n : ℕ). Typed.kind (Kind.size n))) (sym c.number_of.ensures ∙ ap natural_answer c.in_err-n.was)))

pub returns : goal.returns
returns c =
    let f = found c.args.s.now c.next_word.ensures c.in_ok-w.was in
    let n = not_found (span c.in_ok-w.w.end (length c.args.s.now) c.args.s.now) c.next_word-2.ensures c.in-None.is in
    λ x. record { answers = sym (ap (size_of int_bounds) (f.2 ∙ ap (λ (l : List Bytes). span c.in_ok-w.w.start c.in_ok-w.w.end c.args.s.now ∷ l) n) ∙ ap (map (λ (n : ℕ). Typed.kind (Kind.size n))) (sym c.number_of.ensures ∙ ap natural_answer c.in_ok-n.was)); sound = tt }
