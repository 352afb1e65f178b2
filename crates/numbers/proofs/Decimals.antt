-- A real without its sign, by the bytes before its first dot and those behind it.
use Prim.Native.Nat.{ℕ, ◌+◌, ◌≤◌, ◌<◌}
use mathlib.Core.Path.{◌≡◌, refl, sym, ap, ◌∙◌}
use mathlib.Core.Bool.{Bool, true, false, ◌&&◌}
use mathlib.Core.List.{[], ◌∷◌}
use borrow.Author.Tests.{eq-eqb, ne_eqb}
use lib.ListN.{length, take, drop, get_or, drop_of_length-le}
use Rattle.format.specs.Bytes.{Bytes, is_some}
use Rattle.format.specs.Lists.{only_if, behind, front}
use Rattle.format.specs.Numbers.{are_digits, Decimal, not_dot, decimal_by, decimal_in, is_real}
use Rattle.lines.specs.Line.{run}
use Rattle.lines.proofs.Cuts.{at-cons}
use Rattle.words.proofs.Finding.{front-run, behind-run}

some-if : (t : Bool) (d : Decimal) → is_some (only_if t d) ≡ t
some-if true d = refl
some-if false d = refl

-- is there a decimal; its sign does not matter
abbrev decimal : Bool → Bytes → Bytes → Bool
decimal sign a d = is_some (decimal_by sign a d)

decimal-none : (sign : Bool) (a : Bytes) → decimal sign a [] ≡ are_digits 10 a
decimal-none sign a = some-if (are_digits 10 a) (record { negative = sign; whole = a; fraction = [] })

decimal-some : (sign : Bool) (a d : Bytes) (c : ℕ) → decimal sign a (c ∷ d) ≡ are_digits 10 a && are_digits 10 d
decimal-some sign a d c = some-if (are_digits 10 a && are_digits 10 d) (record { negative = sign; whole = a; fraction = d })

signed : (a d : Bytes) → decimal true a d ≡ decimal false a d
signed a [] = decimal-none true a ∙ sym (decimal-none false a)
signed a (c ∷ d) = decimal-some true a d c ∙ sym (decimal-some false a d c)

no-digits : (a d : Bytes) → are_digits 10 a ≡ false → decimal false a d ≡ false
no-digits a [] h = decimal-none false a ∙ h
no-digits a (c ∷ d) h = decimal-some false a d c ∙ ap (λ (t : Bool). t && are_digits 10 d) h

-- by where the first dot is
module _ (s : Bytes) where
  abbrev dot : ℕ
  dot = run not_dot s

  by-dot : is_some (decimal_in false s) ≡ decimal false (take dot s) (drop dot s)
  by-dot = (λ i. decimal false (front-run not_dot s i) (behind-run not_dot s i))

  pub decimal-dotted : dot < length s → is_some (decimal_in false s) ≡ are_digits 10 (take dot s) && are_digits 10 (drop (dot + 1) s)
  decimal-dotted h = by-dot ∙ ap (decimal false (take dot s)) (at-cons s dot h) ∙ decimal-some false (take dot s) (drop (dot + 1) s) (get_or s dot 0)

  pub decimal-plain : length s ≤ dot → is_some (decimal_in false s) ≡ are_digits 10 (take dot s)
  decimal-plain h = by-dot ∙ ap (decimal false (take dot s)) (drop_of_length-le s h) ∙ decimal-none false (take dot s)

  pub decimal-not : are_digits 10 (take dot s) ≡ false → is_some (decimal_in false s) ≡ false
  decimal-not h = by-dot ∙ no-digits (take dot s) (drop dot s) h

-- a real with its sign
pub real-minus : (s : Bytes) → get_or s 0 0 ≡ 45 → is_real s ≡ is_some (decimal_in false (drop 1 s))
real-minus s h = rw (eq-eqb _ _ h) (signed (front not_dot (drop 1 s)) (behind not_dot (drop 1 s)))

pub real-plain : (s : Bytes) → (get_or s 0 0 ≡ 45 → ⊥) → is_real s ≡ is_some (decimal_in false s)
real-plain s h = rw (ne_eqb _ _ h)
