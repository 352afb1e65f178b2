-- Without a `%singular` field there is no singular name.
use mathlib.Core.Path.{◌≡◌, sym, ap}
use mathlib.Core.Bool.{true}
use mathlib.Core.List.{List, [], map}
use Rattle.format.specs.Bytes.{Bytes, text, all}
use Rattle.format.specs.Lists.{flat}
use Rattle.format.specs.Rules.{singular, distinct}
use Rattle.format.specs.Sets.{values_of}
use Rattle.format.specs.Words.{words}
use Rattle.records.specs.Walk.{record_in}
use Rattle.records.specs.Named.{values_from}

pub none-singular : (d s : Bytes) → values_from d (text "%singular") 0 ≡ [] → true ≡ all (λ (n : Bytes). distinct (values_of n (record_in s))) (singular (record_in d))
none-singular d s e = sym (ap (λ (vs : List Bytes). all (λ (n : Bytes). distinct (values_of n (record_in s))) (flat (map words vs))) e)
