-- `terms::compare` meets its contract: the fingerprints of entries are those of their words.
use Prim.Native.Nat.{ℕ, ◌/◌}
use native.Mathlib.Omega.{arith}
use mathlib.Core.Path.{sym, ap, ◌∙◌}
use mathlib.Core.Bool.{true}
use Rattle.sorting.specs.Texts.{text_at}
use Rattle.sorting.specs.Order.{compared_of}
use Rattle.sorting.proofs.Order.{compared-on}
use Rattle.terms.proofs.Order.{ranked-cmp}
use Rattle.terms.specs.Entries.{print_of, word_at}
use Rattle.terms.proofs.compare.Goals as goal

pub returns-then-p-print : goal.returns-then-p-print
returns-then-p-print c =
    let a = word_at c.args.s.now c.args.x in
    let b = c.args.w.now in
    c.cmp.ensures ∙ ranked-cmp a b (c.args.x / 4194304) c.args.print (omega (arith, c.requires.0)) c.requires.1 c.if-p-print.true

pub returns : goal.returns
returns c =
    let a = word_at c.args.s.now c.args.x in
    let b = c.args.w.now in
    c.compare_word.ensures ∙ ap (λ (z : ℕ). compared_of (text_at true c.args.s.now z) b) c.place.ensures
    ∙ sym (compared-on (print_of a) (print_of b) a b (omega (arith, c.requires.0, c.requires.1)) (omega (arith, c.requires.0, c.requires.1)))
