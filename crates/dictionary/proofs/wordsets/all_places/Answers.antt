-- `dictionary::wordsets::all_places` meets its contract: a power of 2 less 1.
use Prim.Native.Nat.{ℕ, ◌-◌, ◌^◌, ◌<◌}
use native.Mathlib.Omega.{arith}
use mathlib.Core.Path.{sym, ap}
use lib.Pow.{pow_pos}
use Rattle.terms.proofs.Sets.{one_bit}
use Rattle.dictionary.proofs.wordsets.all_places.Goals as goal

pub returns-then-count-eq-WORDS : goal.returns-then-count-eq-WORDS
returns-then-count-eq-WORDS c =
    sym (ap (λ (n : ℕ). 2 ^ n - 1) c.if-count-eq-WORDS.true)

pub overflow_sub-result : goal.overflow_sub-result
overflow_sub-result c =
    let k = c.args.count in
    let h : k < 64 = omega (arith, c.requires, c.if-count-eq-WORDS.false) in
    omega (arith, one_bit k h, pow_pos k)

pub returns : goal.returns
returns c =
    let k = c.args.count in
    let h : k < 64 = omega (arith, c.requires, c.if-count-eq-WORDS.false) in
    ap (λ (n : ℕ). n - 1) (one_bit k h)
