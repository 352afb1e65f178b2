-- The order of words, and that of values.
use Rattle.std.specs.Prelude.{[], ◌∷◌, Bool, ltb}
use Rattle.format.specs.Bytes.{Bytes, pick}
use Rattle.std.specs.declared.cmp.Ordering.{Ordering}
use Rattle.values.specs.declared.ends.Likeness.{Likeness}

-- the first against the second, by the first byte in which they differ; a proper front comes before
unfoldable pub compared_of : Bytes → Bytes → Ordering
compared_of [] [] = Ordering.Equal
compared_of [] (y ∷ t) = Ordering.Less
compared_of (x ∷ s) [] = Ordering.Greater
compared_of (x ∷ s) (y ∷ t) = pick (ltb x y) Ordering.Less (pick (ltb y x) Ordering.Greater (compared_of s t))

-- values by how they compare: the shorter comes before the longer; of two of one length, that with the lesser byte at the last place where they differ
abbrev pub first_of : Bool → Ordering
first_of before = pick before Ordering.Less Ordering.Greater

abbrev pub order_of : Likeness → Ordering
order_of Likeness.Equal = Ordering.Equal
order_of (Likeness.Unlike f) = first_of f
order_of (Likeness.Differ k f) = first_of f
