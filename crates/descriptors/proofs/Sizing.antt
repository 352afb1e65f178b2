-- A size, by its sign and its number.
use Prim.Native.Nat.{ℕ}
use mathlib.Core.Path.{◌≡◌, refl, sym, ap, ◌∙◌}
use mathlib.Core.Bool.{Bool, true, false}
use mathlib.Core.Option.{Option, none, some}
use Rattle.format.specs.Bytes.{Bytes, text, same}
use Rattle.format.specs.Rules.{order_of, size_by}
use Rattle.format.proofs.Listing.{same_true}

module _ (w : Bytes) (n : ℕ) where
  pub sign-is : (m : Bytes) (t : Bool) → t ≡ same w m → t ≡ true → size_by (order_of w) (some n) ≡ size_by (order_of m) (some n)
  sign-is m t e h = ap (λ (x : Bytes). size_by (order_of x) (some n)) (same_true w m (sym e ∙ h))

  pub sign-none : same w (text "<") ≡ false → same w (text "<=") ≡ false → same w (text ">") ≡ false → same w (text ">=") ≡ false → size_by (order_of w) (some n) ≡ none
  sign-none a b c d = rw (a, b, c, d)

pub no_number : (o : Option (ℕ → ℕ → Bool)) → size_by o none ≡ none
no_number none = refl
no_number (some o) = refl
