-- `typing::symbols::is_enum` meets its contract.
use mathlib.Core.Path.{sym, ◌∙◌}
use Rattle.typing.proofs.Comments.{told-by, enum-word, no-enum}
use Rattle.typing.proofs.symbols.is_enum.Goals as goal

pub returns-in_default : goal.returns-in_default
returns-in_default c =
    sym (no-enum c.args.s.now c.next_symbol.result c.next_symbol.ensures c.in_default.not-At)

pub returns : goal.returns
returns c =
    c.all_symbols.ensures ∙ sym (enum-word c.args.s.now _ _ (told-by c.args.s.now c.next_symbol.ensures c.in-At.is))
