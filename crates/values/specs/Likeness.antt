-- How two values compare: by their lengths, then by their bytes from the last to the first.
use Rattle.std.specs.Prelude.{ℕ, suc, ◌<◌, ◌≡◌, [], ◌∷◌, eqb, ltb, length, get_or, drop}
use Rattle.format.specs.Bytes.{Bytes, pick}
use Rattle.values.specs.Value.{value_from, Reaches}
use Rattle.values.specs.declared.ends.Likeness.{Likeness}

-- two bytes in front of texts of one length: they decide only where those are equal
abbrev pub ahead : ℕ → ℕ → Likeness → Likeness
ahead x y Likeness.Equal = pick (eqb x y) Likeness.Equal (Likeness.Differ 0 (ltb x y))
ahead x y (Likeness.Unlike f) = Likeness.Unlike f
ahead x y (Likeness.Differ k f) = Likeness.Differ (suc k) f

-- the last place where two texts of one length differ, and whether the first has the lesser byte there
unfoldable pub last_of : Bytes → Bytes → Likeness
last_of [] b = Likeness.Equal
last_of (x ∷ a) [] = Likeness.Equal
last_of (x ∷ a) (y ∷ b) = ahead x y (last_of a b)

-- the comparison: lengths that are unlike, and whether the first is the lesser; or the last place
unfoldable pub likeness_of : Bytes → Bytes → Likeness
likeness_of a b = pick (eqb (length a) (length b)) (last_of a b) (Likeness.Unlike (ltb (length a) (length b)))

-- what each answer means
abbrev pub Means : Bytes → Bytes → Likeness → Type 0
Means a b Likeness.Equal = a ≡ b
Means a b (Likeness.Unlike f) = (length a ≡ length b → ⊥) × (f ≡ ltb (length a) (length b))
Means a b (Likeness.Differ k f) =
    (length a ≡ length b) × (k < length a) × (get_or a k 0 ≡ get_or b k 0 → ⊥) × ((i : ℕ) → k < i → i < length a → get_or a i 0 ≡ get_or b i 0) × (f ≡ ltb (get_or a k 0) (get_or b k 0))

-- a value has a length, and decoding comes to its end at a place
pub record Measured (s : Bytes) (n i : ℕ) : Type 0 where
  pub size : length (value_from s) ≡ n
  pub reached : Reaches s 0 i
  pub rest : value_from (drop i s) ≡ []
