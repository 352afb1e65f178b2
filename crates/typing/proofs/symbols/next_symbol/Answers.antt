use Prim.Native.Nat.{◌+◌}
use mathlib.Core.Path.{sym, ◌∙◌}
use native.Mathlib.Omega.{arith}
use Rattle.words.proofs.Finding.{byte_inside}
use Rattle.format.specs.Words.{is_gap}
use Rattle.values.specs.Stretches.{not_paren}
use Rattle.typing.specs.Symbols.{is_plain}
use Rattle.typing.proofs.Comments.{end-at, end-le, gaps-reached, comment-reached, comment-wrong, close-wrong, word-reached, end-reached}
use Rattle.typing.proofs.symbols.next_symbol.Goals as goal

pub loop-at-init : goal.loop-at-init
loop-at-init c =
    gaps-reached c.args.s.now 0 c.gap_end-at.result (omega arith) (omega (arith, c.gap_end-at.ensures))

pub returns-then-s-at-eq41 : goal.returns-then-s-at-eq41
returns-then-s-at-eq41 c =
    close-wrong c.args.s.now c.loop-at.at c.loop-at.invariant c.loop-at-test.true c.if-s-at-eq41.true

pub overflow_add-end : goal.overflow_add-end
overflow_add-end c =
    omega (arith, end-at is_plain c.args.s.now c.loop-at.at c.plain_end.result c.plain_end.ensures, end-le is_plain c.args.s.now c.loop-at.at (omega (arith, c.loop-at-test.true)))

pub returns-then-s-at-ne40 : goal.returns-then-s-at-ne40
returns-then-s-at-ne40 c =
    word-reached c.args.s.now c.loop-at.at c.loop-at.invariant c.loop-at-test.true (c.loop-at.at + c.plain_end.result) c.if-s-at-eq41.false c.if-s-at-ne40.true (end-at is_plain c.args.s.now c.loop-at.at c.plain_end.result c.plain_end.ensures)

pub overflow_add-close : goal.overflow_add-close
overflow_add-close c =
    omega (arith, end-at not_paren c.args.s.now (c.loop-at.at + 1) c.paren_at.result c.paren_at.ensures, end-le not_paren c.args.s.now (c.loop-at.at + 1) (omega (arith, c.loop-at-test.true)))

pub returns-then-byte-ne41 : goal.returns-then-byte-ne41
returns-then-byte-ne41 c =
    comment-wrong c.args.s.now c.loop-at.at c.loop-at.invariant c.loop-at-test.true ((c.loop-at.at + 1) + c.paren_at.result) c.if-s-at-ne40.false (end-at not_paren c.args.s.now (c.loop-at.at + 1) c.paren_at.result c.paren_at.ensures) (λ e. c.if-byte-ne41.true (c.byte.ensures ∙ e))

pub overflow_add-behind : goal.overflow_add-behind
overflow_add-behind c =
    omega (arith, byte_inside c.args.s.now ((c.loop-at.at + 1) + c.paren_at.result) (omega (arith, c.byte.ensures, c.if-byte-ne41.false)))

pub slice_bounds-gap_end-count : goal.slice_bounds-gap_end-count
slice_bounds-gap_end-count c =
    omega (arith, byte_inside c.args.s.now ((c.loop-at.at + 1) + c.paren_at.result) (omega (arith, c.byte.ensures, c.if-byte-ne41.false)))

pub slice_bounds-gap_end-start : goal.slice_bounds-gap_end-start
slice_bounds-gap_end-start c =
    omega (arith, byte_inside c.args.s.now ((c.loop-at.at + 1) + c.paren_at.result) (omega (arith, c.byte.ensures, c.if-byte-ne41.false)))

pub overflow_add-at : goal.overflow_add-at
overflow_add-at c =
    let inside = byte_inside c.args.s.now ((c.loop-at.at + 1) + c.paren_at.result) (omega (arith, c.byte.ensures, c.if-byte-ne41.false)) in
    omega (arith, end-at is_gap c.args.s.now (((c.loop-at.at + 1) + c.paren_at.result) + 1) c.gap_end.result c.gap_end.ensures, end-le is_gap c.args.s.now (((c.loop-at.at + 1) + c.paren_at.result) + 1) (omega (arith, inside)))

pub loop-at-smaller : goal.loop-at-smaller
loop-at-smaller c =
    let inside = byte_inside c.args.s.now ((c.loop-at.at + 1) + c.paren_at.result) (omega (arith, c.byte.ensures, c.if-byte-ne41.false)) in
    omega (arith, inside)

pub loop-at-preserved : goal.loop-at-preserved
loop-at-preserved c =
    comment-reached c.args.s.now c.loop-at.at c.loop-at.invariant c.loop-at-test.true ((c.loop-at.at + 1) + c.paren_at.result) ((((c.loop-at.at + 1) + c.paren_at.result) + 1) + c.gap_end.result) c.if-s-at-ne40.false (end-at not_paren c.args.s.now (c.loop-at.at + 1) c.paren_at.result c.paren_at.ensures) (sym c.byte.ensures ∙ c.if-byte-ne41.false) (end-at is_gap c.args.s.now (((c.loop-at.at + 1) + c.paren_at.result) + 1) c.gap_end.result c.gap_end.ensures)

pub returns : goal.returns
returns c =
    end-reached c.args.s.now c.loop-at.at c.loop-at.invariant c.loop-at-test.false
