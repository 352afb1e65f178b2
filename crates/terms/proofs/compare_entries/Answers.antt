-- `terms::compare_entries` meets its contract: the fingerprints of entries are those of their words.
use Prim.Native.Nat.{◌/◌}
use native.Mathlib.Omega.{arith}
use mathlib.Core.Path.{sym, ◌∙◌}
use mathlib.Core.Bool.{true}
use Rattle.sorting.specs.Texts.{text_at}
use Rattle.sorting.specs.Order.{compared_of}
use Rattle.sorting.proofs.Order.{compared-on}
use Rattle.terms.proofs.Order.{ranked-cmp}
use Rattle.terms.specs.Entries.{print_of, word_at}
use Rattle.terms.proofs.compare_entries.Goals as goal

pub returns-then-p-q : goal.returns-then-p-q
returns-then-p-q c =
    let a = word_at c.args.s.now c.args.x in
    let b = word_at c.args.s.now c.args.y in
    c.cmp.ensures ∙ ranked-cmp a b (c.args.x / 4194304) (c.args.y / 4194304) (omega (arith, c.requires.0)) (omega (arith, c.requires.1)) c.if-p-q.true

pub returns : goal.returns
returns c =
    let a = word_at c.args.s.now c.args.x in
    let b = word_at c.args.s.now c.args.y in
    c.compare_words.ensures ∙ (λ i. compared_of (text_at true c.args.s.now (c.place.ensures i)) (text_at true c.args.s.now (c.place-2.ensures i)))
    ∙ sym (compared-on (print_of a) (print_of b) a b (omega (arith, c.requires.0, c.requires.1)) (omega (arith, c.requires.0, c.requires.1)))
