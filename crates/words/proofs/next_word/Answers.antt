-- `words::next_word` meets its contract.
use borrow.Author.Tests.{lt-ltb, le-ltb}
use native.Mathlib.Omega.{arith}
use lib.ListN.{length}
use Rattle.format.specs.Words.{not_gap}
use Rattle.lines.proofs.Cuts.{rest}
use Rattle.words.specs.Spans.{span, next_word}
use Rattle.words.proofs.Finding.{run-le}
use Rattle.words.proofs.next_word.Goals as goal

pub overflow_add-end : goal.overflow_add-end
overflow_add-end c =
    let s = span c.gap_end-start.result (length c.args.s.now) c.args.s.now in
    omega (arith, c.word_end.ensures, run-le not_gap s)

pub returns-then-start-s : goal.returns-then-start-s
unfolding next_word
returns-then-start-s c =
    rw (← c.gap_end-start.ensures, lt-ltb _ _ c.if-start-s.true, ← rest c.args.s.now c.gap_end-start.result, ← c.word_end.ensures)

pub returns-else-start-s : goal.returns-else-start-s
unfolding next_word
returns-else-start-s c =
    rw (← c.gap_end-start.ensures, le-ltb _ _ c.if-start-s.false)
