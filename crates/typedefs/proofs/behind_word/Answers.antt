-- `typedefs::behind_word` meets its contract.
use mathlib.Core.Path.{sym, ◌∙◌}
use native.Mathlib.Omega.{arith}
use lib.Seq.{drop-length}
use Rattle.typedefs.proofs.Chains.{word-behind, no_word}
use Rattle.typedefs.proofs.behind_word.Goals as goal

pub returns-in-None : goal.returns-in-None
returns-in-None c =
    (omega arith, drop-length c.args.s.now ∙ sym (no_word c.args.s.now c.next_word.result c.next_word.ensures c.in-None.is))

pub returns-in-Some : goal.returns-in-Some
returns-in-Some c =
    word-behind c.args.s.now c.next_word.result c.next_word.ensures c.in-Some.w.start c.in-Some.w.end c.in-Some.is
