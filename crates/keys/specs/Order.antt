-- The order of what entries stand for: by their numbers, then as values.
use Rattle.std.specs.Prelude.{ℕ, ◌≡◌, Bool, true, false, ltb, get_or, drop}
use Rattle.format.specs.Bytes.{Bytes, pick}
use Rattle.values.specs.Likeness.{likeness_of}
use Rattle.sorting.specs.Order.{order_of}
use Rattle.std.specs.declared.cmp.Ordering.{Ordering}

abbrev pub number_in : Bytes → ℕ
number_in m = get_or m 0 0

abbrev pub value_in : Bytes → Bytes
value_in m = drop 1 m

-- those of one number are compared as values are, by their lengths and from their last bytes to the first
unfoldable pub ranked : Bytes → Bytes → Ordering
ranked a b = pick (ltb (number_in a) (number_in b)) Ordering.Less (pick (ltb (number_in b) (number_in a)) Ordering.Greater (order_of (likeness_of (value_in a) (value_in b))))

-- what a look at neighbours says of whether all are distinct: they are where each is before the next, and not where two are equal
abbrev pub Tells : Ordering → Bool → Type 0
Tells Ordering.Equal d = d ≡ false
Tells Ordering.Less d = d ≡ true
Tells Ordering.Greater d = Unit {0}
