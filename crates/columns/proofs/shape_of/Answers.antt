-- `columns::shape_of` meets its contract.
use Rattle.std.specs.Prelude.{Option, Some, None}
use Rattle.std.specs.Option.{unwrap_or}
use Rattle.typing.specs.declared.Shape.{Shape}
use mathlib.Core.Path.{◌≡◌, sym, ap}
use mathlib.Core.Bool.{true, false≢true}
use mathlib.Core.List.{[]}
use mathlib.Core.Option.{some}
use Rattle.format.specs.Bytes.{Bytes, is_some}
use Rattle.typing.specs.Meaning.{type_answer, typed_in}
use Rattle.columns.proofs.shape_of.Goals as goal

-- a type that is one is the kind
kind-of : (t : Option Shape) (k : Shape) → is_some (type_answer [] t) ≡ true → k ≡ unwrap_or t Shape.Line → (s : Bytes) → type_answer s t ≡ some (typed_in s k)
kind-of (Some j) k h e s = ap (λ (x : Shape). some (typed_in s x)) (sym e)
kind-of None k h e s = absurd (false≢true h)

pub returns : goal.returns
returns c =
    kind-of c.args.t c.unwrap_or.result c.requires c.unwrap_or.ensures
