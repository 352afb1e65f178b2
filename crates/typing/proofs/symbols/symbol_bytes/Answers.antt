-- `typing::symbols::symbol_bytes` meets its contract.
use Rattle.std.proofs.Common.{rules, tests}
use mathlib.Core.Path.{◌∙◌}
use Rattle.std.proofs.lemmas.Iterator.{YieldsList-from_slice}
use Rattle.std.proofs.lemmas.Iterator.Search.{all_from_yields_List}
use lib.ListN.{drop}
use Rattle.format.specs.Types.{is_symbol_byte}
use Rattle.lines.proofs.Cuts.{rest}
use Rattle.lines.proofs.Scans.{all_pass}
use Rattle.typing.proofs.symbols.symbol_bytes.Goals as goal

pub returns : goal.returns
returns c =
    all_from_yields_List is_symbol_byte _ _ c.all.result c.all.ensures.ran (YieldsList-from_slice (drop c.args.from c.args.s.now) (c.iter.ensures.rest ∙ rest c.args.s.now c.args.from)) (λ x b q k. search (rules, tests)) ∙ all_pass is_symbol_byte (drop c.args.from c.args.s.now)
