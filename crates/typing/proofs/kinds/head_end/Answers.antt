-- `typing::kinds::head_end` meets its contract.
use Rattle.std.proofs.Common.{rules, tests}
use mathlib.Core.Path.{refl, ◌≡◌, ◌∙◌}
use Prim.Native.Nat.{ℕ}
use mathlib.Core.Bool.{Bool, true, false, not, ◌||◌, ◌&&◌}
use lib.Dec.{eqb}
use Rattle.std.proofs.lemmas.Iterator.{YieldsList-from_slice}
use Rattle.std.proofs.lemmas.Iterator.Search.{position_from_yields_List}
use Rattle.format.specs.Words.{is_gap}
use Rattle.format.specs.Types.{before_comment}
use Rattle.lines.proofs.Scans.{run_found}
use Rattle.typing.proofs.kinds.head_end.Goals as goal

neither : (a b : Bool) → (not a && not b) ≡ not (a || b)
neither true b = refl
neither false b = refl

pub returns : goal.returns
returns c =
    c.unwrap_or.ensures ∙ run_found before_comment (λ (b : ℕ). is_gap b || eqb b 40) (λ b. neither (is_gap b) (eqb b 40)) c.args.s.now c.position.result
    (position_from_yields_List (λ (b : ℕ). is_gap b || eqb b 40) _ _ _ c.position.ensures.ran (YieldsList-from_slice c.args.s.now c.iter.ensures.rest) (λ x b q k. search (rules, tests)))
