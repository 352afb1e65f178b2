use mathlib.Core.Path.{refl, sym, ap, ◌∙◌}
use mathlib.Core.Bool.{not}
use borrow.Author.Tests.{not-true, not-false}
use native.Mathlib.Omega.{arith}
use Rattle.typing.specs.Symbols.{are_symbols}
use Rattle.typing.proofs.Comments.{told-by, are-more, are-stop}
use Rattle.typing.proofs.symbols.all_symbols.Goals as goal

pub loop-start-init : goal.loop-start-init
loop-start-init c = refl

pub slice_bounds-is_symbol-count : goal.slice_bounds-is_symbol-count
slice_bounds-is_symbol-count c =
    let t = told-by c.loop-start.rest.now c.next_symbol.ensures c.in-At.is in
    omega (arith, t.0, t.1)

pub slice_bounds-is_symbol-start : goal.slice_bounds-is_symbol-start
slice_bounds-is_symbol-start c =
    let t = told-by c.loop-start.rest.now c.next_symbol.ensures c.in-At.is in
    omega (arith, t.0, t.1)

pub slice_bounds-is_symbol-end : goal.slice_bounds-is_symbol-end
slice_bounds-is_symbol-end c =
    let t = told-by c.loop-start.rest.now c.next_symbol.ensures c.in-At.is in
    omega (arith, t.0, t.1)

pub slice_bounds-rest-count : goal.slice_bounds-rest-count
slice_bounds-rest-count c =
    let t = told-by c.loop-start.rest.now c.next_symbol.ensures c.in-At.is in
    omega (arith, t.1)

pub slice_bounds-rest-start : goal.slice_bounds-rest-start
slice_bounds-rest-start c =
    let t = told-by c.loop-start.rest.now c.next_symbol.ensures c.in-At.is in
    omega (arith, t.1)

pub loop-start-smaller : goal.loop-start-smaller
loop-start-smaller c =
    let t = told-by c.loop-start.rest.now c.next_symbol.ensures c.in-At.is in
    omega (arith, t.0, t.1)

pub loop-start-preserved : goal.loop-start-preserved
loop-start-preserved c =
    let t = told-by c.loop-start.rest.now c.next_symbol.ensures c.in-At.is in
    c.loop-start.invariant ∙ are-more c.loop-start.rest.now c.in-At.start c.in-At.end t (sym c.is_symbol.ensures ∙ not-false c.is_symbol.result (ap not c.if-not-is_symbol.false))

pub returns-then-not-is_symbol : goal.returns-then-not-is_symbol
returns-then-not-is_symbol c =
    let t = told-by c.loop-start.rest.now c.next_symbol.ensures c.in-At.is in
    sym (c.loop-start.invariant ∙ are-stop c.loop-start.rest.now c.in-At.start c.in-At.end t (sym c.is_symbol.ensures ∙ not-true c.is_symbol.result (ap not c.if-not-is_symbol.true)))

pub returns-in-End : goal.returns-in-End
returns-in-End c =
    sym (c.loop-start.invariant ∙ ap are_symbols (told-by c.loop-start.rest.now c.next_symbol.ensures c.in-End.is))

pub returns-in-Fault : goal.returns-in-Fault
returns-in-Fault c =
    sym (c.loop-start.invariant ∙ ap are_symbols (told-by c.loop-start.rest.now c.next_symbol.ensures c.in-Fault.is))
