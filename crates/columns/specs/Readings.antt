-- Does a value meet a shape, where it is known whether it is one of its symbols.
use Rattle.std.specs.Prelude.{Bool, false, []}
use Rattle.format.specs.Bytes.{Bytes}
use Rattle.typing.specs.Meaning.{meets_in}
use Rattle.typing.specs.declared.Shape.{Shape}

abbrev pub met_by : Shape → Bool → Bytes → Bool
met_by Shape.Int symbol v = meets_in [] Shape.Int v
met_by (Shape.Range a b) symbol v = meets_in [] (Shape.Range a b) v
met_by Shape.Real symbol v = meets_in [] Shape.Real v
met_by Shape.Line symbol v = meets_in [] Shape.Line v
met_by (Shape.Size n) symbol v = meets_in [] (Shape.Size n) v
met_by (Shape.Enum a e) symbol v = symbol
met_by Shape.Bool symbol v = meets_in [] Shape.Bool v
met_by Shape.Field symbol v = meets_in [] Shape.Field v
met_by Shape.Uuid symbol v = meets_in [] Shape.Uuid v
met_by (Shape.Alias a e) symbol v = false
