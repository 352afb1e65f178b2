-- The names of a descriptor's fields, and the place of a name among them.
use Rattle.std.specs.Prelude.{ℕ, suc, List, [], ◌∷◌, map}
use Rattle.format.specs.Bytes.{Bytes, pick, same}
use Rattle.format.specs.Numbers.{int_bounds}
use Rattle.format.specs.Rules.{Shape, shapes}
use Rattle.words.specs.declared.fieldnames.Rule.{Rule}

-- the place of a word in a list, from 0 on; how many there are where it is none of them
abbrev pub place_in : Bytes → List Bytes → ℕ
place_in w [] = 0
place_in w (v ∷ vs) = pick (same w v) 0 (suc (place_in w vs))

-- the names in the order of their shapes
abbrev pub rule_names : List Bytes
rule_names = map (λ (x : Shape). x.name) (shapes int_bounds)

-- the place of each of them, and of every other name
abbrev pub rule_no : Rule → ℕ
rule_no Rule.Rec = 0
rule_no Rule.Doc = 1
rule_no Rule.Mandatory = 2
rule_no Rule.Prohibit = 3
rule_no Rule.Allowed = 4
rule_no Rule.Unique = 5
rule_no Rule.Key = 6
rule_no Rule.Size = 7
rule_no Rule.Typedef = 8
rule_no Rule.Type = 9
rule_no Rule.Singular = 10
rule_no Rule.Auto = 11
rule_no Rule.Other = 12
