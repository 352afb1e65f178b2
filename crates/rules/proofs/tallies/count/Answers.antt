-- `rules::tallies::count` meets its contract: each part by what is asked of the sets.
use Prim.Native.Nat.{◌+◌, min}
use mathlib.Core.Path.{ap, ◌∙◌}
use mathlib.Core.Bool.{Bool, ◌||◌, not}
use lib.Bits.{bit_and, bit_or}
use Rattle.format.specs.Bytes.{pick}
use Rattle.rules.proofs.tallies.count.Goals as goal

pub returns : goal.returns
returns c =
    let t = c.args.t in
    let e = c.bump.ensures ∙ ap (λ (b : Bool). min 2 (t.keys + pick b 1 0)) c.has-key.ensures in
    (λ i. record { prohibited = t.prohibited || c.has-prohibited.ensures i; other = t.other || not (c.has-allowed.ensures i); present = bit_or t.present c.args.mandatory; once = bit_or t.once c.args.unique; twice = bit_or t.twice (bit_and t.once c.args.unique); keys = e i })
