use Prim.Native.Nat.{ℕ}
use native.Mathlib.Omega.{arith}
use mathlib.Core.Path.{ap, ◌∙◌}
use mathlib.Core.Bool.{◌&&◌}
use mathlib.Core.List.{map}
use lib.Dec.{ltb}
use Rattle.terms.specs.Entries.{word_at}
use Rattle.dictionary.specs.Numbered.{is_first}
use Rattle.dictionary.proofs.Firsts.{words_long, firsts-start, firsts-on}
use Rattle.dictionary.proofs.wordsets.first_entries.Goals as goal

pub loop-k-init : goal.loop-k-init
loop-k-init c =
    (firsts-start (λ (j : ℕ). is_first j (map (word_at c.args.d.now) c.args.entries.now)))

pub is_first-first-requires : goal.is_first-first-requires
is_first-first-requires c =
    c.loop-k-test.true

pub with_place-set-requires : goal.with_place-set-requires
with_place-set-requires c =
    omega (arith, c.loop-k-test.true, c.requires)

pub loop-k-preserved : goal.loop-k-preserved
loop-k-preserved c =
    (firsts-on (λ (j : ℕ). is_first j (map (word_at c.args.d.now) c.args.entries.now)) c.loop-k.k c.loop-k.set c.with_place-set.result c.is_first-first.result c.loop-k.invariant c.is_first-first.ensures c.with_place-set.ensures)

pub returns : goal.returns
returns c =
    λ j. c.loop-k.invariant j ∙ ap (λ (n : ℕ). ltb j n && is_first j (map (word_at c.args.d.now) c.args.entries.now)) (omega (arith, c.loop-k-test.false, words_long c.args.d.now c.args.entries.now))
