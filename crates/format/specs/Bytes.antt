-- Bytes and their classes.
use Rattle.std.specs.Prelude.{ℕ, zero, suc, Bool, true, false, ◌&&◌, ◌||◌, List, [], ◌∷◌, map, leb, eqb}
use Prim.Native.Char.{code}
use Prim.Native.String.{String, [] as empty, ◌∷◌ as ◌:>◌}
use Rattle.std.proofs.Math.Option.{Option, none, some}

abbrev pub Bytes : Type 0
Bytes = List ℕ

-- the bytes of a literal
abbrev pub text : String → Bytes
text empty = []
text (◌:>◌ c s) = code c ∷ text s

-- one of two, by a test
abbrev pub pick : {A : Type 0} → Bool → A → A → A
pick true a b = a
pick false a b = b

abbrev pub within : ℕ → ℕ → ℕ → Bool
within low high c = leb low c && leb c high

abbrev pub is_letter : ℕ → Bool
is_letter c = within 65 90 c || within 97 122 c

abbrev pub is_digit : ℕ → Bool
is_digit c = within 48 57 c

-- "Blanks are space and tab."
abbrev pub is_blank : ℕ → Bool
is_blank c = eqb c 32 || eqb c 9

abbrev pub is_newline : ℕ → Bool
is_newline c = eqb c 10

-- "Allowed bytes: 9, 10, 32 to 126, 128 to 255."
abbrev pub is_allowed : ℕ → Bool
is_allowed c = eqb c 9 || eqb c 10 || within 32 126 c || within 128 255 c

-- "A table of 256 entries gives each byte its class": 1 letter, 2 digit, 3 blank, 4 newline, 5 underscore, 6 percent, 7 another allowed byte, 0 none (control).
unfoldable pub class_of : ℕ → ℕ
class_of c =
    pick (is_letter c) 1
    (pick (is_digit c) 2
    (pick (is_blank c) 3
    (pick (is_newline c) 4
    (pick (eqb c 95) 5
    (pick (eqb c 37) 6
    (pick (is_allowed c) 7 0))))))

-- the table's entries, from byte 0 on
abbrev pub up_from : ℕ → ℕ → List ℕ
up_from zero c = []
up_from (suc n) c = c ∷ up_from n (suc c)

unfoldable pub class_table : List ℕ
unfolding class_of
class_table = map class_of (up_from 256 0)

-- do all pass a test
abbrev pub all : {A : Type 0} → (A → Bool) → List A → Bool
all p [] = true
all p (c ∷ s) = p c && all p s

-- does some one pass it
abbrev pub any : {A : Type 0} → (A → Bool) → List A → Bool
any p [] = false
any p (c ∷ s) = p c || any p s

-- a byte of one kind, then bytes of another
abbrev pub is_spelt : (ℕ → Bool) → (ℕ → Bool) → Bytes → Bool
is_spelt first later [] = false
is_spelt first later (c ∷ s) = first c && all later s

-- are two byte strings the same
abbrev pub same : Bytes → Bytes → Bool
same [] [] = true
same [] (y ∷ t) = false
same (x ∷ s) [] = false
same (x ∷ s) (y ∷ t) = eqb x y && same s t

-- is one among several
abbrev pub among : Bytes → List Bytes → Bool
among x ys = any (same x) ys

-- is there one
abbrev pub is_some : {A : Type 0} → Option A → Bool
is_some none = false
is_some (some a) = true
