-- The mark of a field of a listed name: the place of its name in the list with a fingerprint of the value in one number, then the value.
use Rattle.std.specs.Prelude.{ℕ, ◌+◌, ◌*◌, ◌/◌, List, [], ◌∷◌}
use Rattle.format.specs.Bytes.{Bytes, pick, among}
use Rattle.format.specs.Records.{Field, Record}
use Rattle.sorting.specs.Texts.{mixed}
use Rattle.words.specs.RuleNames.{place_in}

-- a list has at most 64 places
unfoldable pub rank_of : ℕ → Bytes → ℕ
rank_of k v = k + 64 * (mixed 2166136261 v / 4194304)

abbrev pub mark_of : List Bytes → Field → Bytes
mark_of ws f = rank_of (place_in f.name ws) f.value ∷ f.value

-- those of the fields of names in a list
abbrev pub marks : List Bytes → Record → List Bytes
marks ws [] = []
marks ws (f ∷ fs) = pick (among f.name ws) (mark_of ws f ∷ marks ws fs) (marks ws fs)

-- the entry of a field: where its value begins, and above that the number in its mark
abbrev pub entry_of : ℕ → ℕ → Bytes → ℕ
entry_of at k v = at + 65536 * rank_of k v
