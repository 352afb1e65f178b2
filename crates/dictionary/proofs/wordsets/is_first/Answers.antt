use Prim.Native.Nat.{ℕ, ◌<◌}
use native.Mathlib.Omega.{arith}
use mathlib.Core.Path.{◌≡◌, sym, ap, ◌∙◌}
use mathlib.Core.Bool.{false}
use borrow.Author.Count.{below_more}
use lib.ListN.{get_or, length-take}
use lib.Seq.{get_or-take}
use Rattle.format.specs.Bytes.{same}
use Rattle.terms.specs.Entries.{word_at}
use Rattle.dictionary.proofs.Firsts.{first-none, first-not}
use Rattle.dictionary.proofs.wordsets.is_first.Goals as goal

pub loop-before-init : goal.loop-before-init
loop-before-init c = λ i h. absurd (omega arith)

pub returns-then-same_word : goal.returns-then-same_word
returns-then-same_word c =
    let j = c.loop-before.before-index in
    let h : j < c.args.k = omega (arith, length-take c.args.k c.args.entries.now, c.loop-before-test.true) in
    first-not c.args.d.now c.args.entries.now c.args.k c.requires j h (ap (λ (x : ℕ). same (word_at c.args.d.now (get_or c.args.entries.now c.args.k 0)) (word_at c.args.d.now x)) (sym (get_or-take c.args.k c.args.entries.now j 0 h)) ∙ sym c.same_word.ensures ∙ c.if-same_word.true)

pub loop-before-preserved : goal.loop-before-preserved
loop-before-preserved c =
    let j = c.loop-before.before-index in
    let h : j < c.args.k = omega (arith, length-take c.args.k c.args.entries.now, c.loop-before-test.true) in
    below_more (λ (i : ℕ). same (word_at c.args.d.now (get_or c.args.entries.now c.args.k 0)) (word_at c.args.d.now (get_or c.args.entries.now i 0)) ≡ false) j c.loop-before.invariant
    (ap (λ (x : ℕ). same (word_at c.args.d.now (get_or c.args.entries.now c.args.k 0)) (word_at c.args.d.now x)) (sym (get_or-take c.args.k c.args.entries.now j 0 h)) ∙ sym c.same_word.ensures ∙ c.if-same_word.false)

pub returns : goal.returns
returns c =
    first-none c.args.d.now c.args.entries.now c.args.k c.requires (λ i h. c.loop-before.invariant i (omega (arith, h, length-take c.args.k c.args.entries.now, c.requires, c.loop-before-test.false)))
