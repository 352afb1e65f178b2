-- The value of a field, from the byte it begins at.
use Rattle.values.specs.declared.Decoded.{Decoded}
use Rattle.std.specs.Prelude.{ℕ, zero, suc, ◌+◌, ◌-◌, ◌<◌, ◌≤◌, ◌≡◌, Bool, ◌&&◌, not, [], ◌∷◌, eqb, length, get_or, drop, Option, Some, None}
use Rattle.format.specs.Bytes.{Bytes, pick}

-- The value, with a number of bytes to be passed over first. A backslash and a newline vanish; a newline, a plus and one space stand for a newline;
-- any other newline ends the value.
unfoldable pub decode : ℕ → Bytes → Bytes
decode k [] = []
decode zero (c ∷ s) =
    pick (eqb c 92)
    (pick (eqb (get_or s 0 0) 10) (decode 1 s) (c ∷ decode 0 s))
    (pick (eqb c 10)
    (pick (eqb (get_or s 0 0) 43) (10 ∷ decode (pick (eqb (get_or s 1 0) 32) 2 1) s) [])
    (c ∷ decode 0 s))
decode (suc k) (c ∷ s) = decode k s

unfoldable pub value_from : Bytes → Bytes
value_from s = decode 0 s

-- what decoding takes at once: a joint (backslash and newline), a newline with the plus behind it and one space, or any other byte that does not end the value
pub data Step (s : Bytes) (i k : ℕ) : Type 0 where
  joint : k ≡ i + 2 → get_or s i 0 ≡ 92 → get_or s (i + 1) 0 ≡ 10 → Step s i k
  space : k ≡ i + 3 → get_or s i 0 ≡ 10 → get_or s (i + 1) 0 ≡ 43 → get_or s (i + 2) 0 ≡ 32 → Step s i k
  plus : k ≡ i + 2 → get_or s i 0 ≡ 10 → get_or s (i + 1) 0 ≡ 43 → (get_or s (i + 2) 0 ≡ 32 → ⊥) → Step s i k
  plain : k ≡ i + 1 → i < length s → (get_or s i 0 ≡ 10 → ⊥) → (get_or s i 0 ≡ 92 → get_or s (i + 1) 0 ≡ 10 → ⊥) → Step s i k

-- decoding that begins at i comes to a place
pub data Reaches (s : Bytes) (i : ℕ) : ℕ → Type 0 where
  here : Reaches s i i
  further : {j k : ℕ} → Reaches s i j → Step s j k → Reaches s i k

-- from i to k every byte stands for itself
pub record Plain (s : Bytes) (i k : ℕ) : Type 0 where
  pub on : i ≤ k
  pub reached : Reaches s i k
  pub counted : length (value_from (drop i s)) ≡ k - i + length (value_from (drop k s))

-- what reading one byte of the value at i says of the rest
abbrev pub Unfolds : Bytes → ℕ → Option Decoded → Type 0
Unfolds s i None = value_from (drop i s) ≡ []
Unfolds s i (Some d) = (value_from (drop i s) ≡ d.byte ∷ value_from (drop d.next s)) × (i < d.next) × (d.next ≤ length s) × Reaches s i d.next

-- and what reading the byte before k says, in the value that begins where s does
abbrev pub Precedes : Bytes → ℕ → Option Decoded → Type 0
Precedes s k None = value_from s ≡ value_from (drop k s)
Precedes s k (Some d) = (value_from (drop d.next s) ≡ d.byte ∷ value_from (drop k s)) × (d.next < k) × Reaches s 0 d.next

-- a plus that vanishes, since the newline before it is the value's: no backslash joins it; and a space that vanishes with such a plus
abbrev pub is_plus : Bytes → ℕ → Bool
is_plus s i = eqb (get_or s i 0) 43 && eqb (get_or s (i - 1) 0) 10 && not (eqb (get_or s (i - 2) 0) 92)

abbrev pub is_plus_space : Bytes → ℕ → Bool
is_plus_space s i = eqb (get_or s i 0) 32 && is_plus s (i - 1)
