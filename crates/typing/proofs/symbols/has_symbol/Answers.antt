use mathlib.Core.Path.{refl, sym, ◌∙◌}
use native.Mathlib.Omega.{arith}
use mathlib.Core.Bool.{false}
use Rattle.format.specs.Types.{uncomment}
use Rattle.typing.proofs.Comments.{told-by, among_in_lem, read-in, read-on, among-on, among-here, among-none}
use Rattle.typing.proofs.symbols.has_symbol.Goals as goal

pub loop-start-init : goal.loop-start-init
loop-start-init c =
    (refl, read-in (uncomment false c.args.s.now) ∙ c.requires)

pub slice_bounds-same_bytes-count : goal.slice_bounds-same_bytes-count
slice_bounds-same_bytes-count c =
    let t = told-by c.loop-start.rest.now c.next_symbol.ensures c.in-At.is in
    omega (arith, t.0, t.1)

pub slice_bounds-same_bytes-start : goal.slice_bounds-same_bytes-start
slice_bounds-same_bytes-start c =
    let t = told-by c.loop-start.rest.now c.next_symbol.ensures c.in-At.is in
    omega (arith, t.0, t.1)

pub slice_bounds-same_bytes-end : goal.slice_bounds-same_bytes-end
slice_bounds-same_bytes-end c =
    let t = told-by c.loop-start.rest.now c.next_symbol.ensures c.in-At.is in
    omega (arith, t.0, t.1)

pub returns-then-same_bytes : goal.returns-then-same_bytes
returns-then-same_bytes c =
    let t = told-by c.loop-start.rest.now c.next_symbol.ensures c.in-At.is in
    sym (among_in_lem c.args.v.now (uncomment false c.args.s.now) ∙ (c.loop-start.invariant.0 ∙ among-here c.loop-start.rest.now c.in-At.start c.in-At.end t c.args.v.now (sym c.same_bytes.ensures ∙ c.if-same_bytes.true) c.loop-start.invariant.1))

pub slice_bounds-rest-count : goal.slice_bounds-rest-count
slice_bounds-rest-count c =
    let t = told-by c.loop-start.rest.now c.next_symbol.ensures c.in-At.is in
    omega (arith, t.1)

pub slice_bounds-rest-start : goal.slice_bounds-rest-start
slice_bounds-rest-start c =
    let t = told-by c.loop-start.rest.now c.next_symbol.ensures c.in-At.is in
    omega (arith, t.1)

pub loop-start-smaller : goal.loop-start-smaller
loop-start-smaller c =
    let t = told-by c.loop-start.rest.now c.next_symbol.ensures c.in-At.is in
    omega (arith, t.0, t.1)

pub loop-start-preserved : goal.loop-start-preserved
loop-start-preserved c =
    let t = told-by c.loop-start.rest.now c.next_symbol.ensures c.in-At.is in
    (c.loop-start.invariant.0 ∙ among-on c.loop-start.rest.now c.in-At.start c.in-At.end t c.args.v.now (sym c.same_bytes.ensures ∙ c.if-same_bytes.false), read-on c.loop-start.rest.now c.in-At.start c.in-At.end t c.loop-start.invariant.1)

pub returns-in_default : goal.returns-in_default
returns-in_default c =
    sym (among_in_lem c.args.v.now (uncomment false c.args.s.now) ∙ (c.loop-start.invariant.0 ∙ among-none c.args.v.now c.loop-start.rest.now c.next_symbol.result c.next_symbol.ensures c.in_default.not-At))
