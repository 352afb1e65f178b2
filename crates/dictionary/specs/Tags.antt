-- The tags of lists. Those of `%type` fields are their numbers, which are less.
use Rattle.std.specs.Prelude.{ℕ}
use Rattle.format.specs.Bytes.{Bytes, text, pick, same}
use Rattle.terms.specs.Sets.{tags}

abbrev pub mandatory_tag : ℕ
mandatory_tag = 32

abbrev pub prohibited_tag : ℕ
prohibited_tag = 33

abbrev pub allowed_tag : ℕ
allowed_tag = 34

abbrev pub unique_tag : ℕ
unique_tag = 35

abbrev pub key_tag : ℕ
key_tag = 36

-- that of the words that a field of this name lists; no tag where it lists none

unfoldable pub list_tag : Bytes → ℕ
list_tag n =
    pick (same (text "%mandatory") n) mandatory_tag
    (pick (same (text "%prohibit") n) prohibited_tag
    (pick (same (text "%allowed") n) allowed_tag
    (pick (same (text "%unique") n) unique_tag
    (pick (same (text "%key") n) key_tag tags))))
