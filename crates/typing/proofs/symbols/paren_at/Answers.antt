-- `typing::symbols::paren_at` meets its contract.
use Rattle.std.proofs.Common.{rules, tests}
use mathlib.Core.Path.{refl, ◌∙◌}
use Prim.Native.Nat.{ℕ}
use mathlib.Core.Bool.{◌||◌}
use lib.Dec.{eqb}
use Rattle.std.proofs.lemmas.Iterator.{YieldsList-from_slice}
use Rattle.std.proofs.lemmas.Iterator.Search.{position_from_yields_List}
use Rattle.values.specs.Stretches.{not_paren}
use Rattle.lines.proofs.Scans.{run_found}
use Rattle.typing.proofs.symbols.paren_at.Goals as goal

pub returns : goal.returns
returns c =
    c.unwrap_or.ensures ∙ run_found not_paren (λ (b : ℕ). eqb b 40 || eqb b 41) (λ b. refl) c.args.s.now c.position.result
    (position_from_yields_List (λ (b : ℕ). eqb b 40 || eqb b 41) _ _ _ c.position.ensures.ran (YieldsList-from_slice c.args.s.now c.iter.ensures.rest) (λ x b q k. search (rules, tests)))
