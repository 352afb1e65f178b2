-- `typing::symbols::plain_end` meets its contract.
use Rattle.std.proofs.Common.{rules, tests}
use mathlib.Core.Path.{◌∙◌}
use Prim.Native.Nat.{ℕ}
use mathlib.Core.Bool.{not}
use Rattle.std.proofs.lemmas.Iterator.{YieldsList-from_slice}
use Rattle.std.proofs.lemmas.Iterator.Search.{position_from_yields_List}
use Rattle.typing.specs.Symbols.{is_plain}
use Rattle.lines.proofs.Scans.{run_found, not-not}
use Rattle.typing.proofs.symbols.plain_end.Goals as goal

pub returns : goal.returns
returns c =
    c.unwrap_or.ensures ∙ run_found is_plain (λ (b : ℕ). not (is_plain b)) (λ b. not-not (is_plain b)) c.args.s.now c.position.result
    (position_from_yields_List (λ (b : ℕ). not (is_plain b)) _ _ _ c.position.ensures.ran (YieldsList-from_slice c.args.s.now c.iter.ensures.rest) (λ x b q k. search (rules, tests)))
