-- A text is a name where the name that it begins with is all of it.
use Prim.Native.Nat.{ℕ, suc, ◌≤◌, ◌<◌}
use native.Mathlib.Nat.{not-suc-le-zero}
use native.Mathlib.Omega.{arith}
use mathlib.Core.Path.{◌≡◌, refl, sym, ap, ◌∙◌}
use mathlib.Core.Bool.{Bool, true, false, ◌&&◌, not, and-false}
use mathlib.Core.List.{[], ◌∷◌}
use lib.Dec.{eqb, leb, eqb-suc-suc, eqb-zero-suc}
use lib.ListN.{length}
use borrow.Author.Tests.{lt-leb, le-leb}
use Rattle.format.specs.Bytes.{Bytes, pick, all}
use Rattle.format.specs.Lines.{is_first, is_later, is_name, is_special}
use Rattle.format.specs.Limits.{name_bytes}
use Rattle.format.specs.Written.{is_legal_name}
use Rattle.lines.specs.Line.{run, name_len}

-- all bytes pass a test where the run that does is as long as the text
all-run : (p : ℕ → Bool) (s : Bytes) → all p s ≡ eqb (run p s) (length s)
unfolding run
all-run p [] = refl
all-run p (c ∷ s) = go (p c) (all-run p s)
  where
    go : (t : Bool) → all p s ≡ eqb (run p s) (length s) → t && all p s ≡ eqb (pick t (suc (run p s)) 0) (suc (length s))
    go true e = e ∙ sym (eqb-suc-suc (run p s) (length s))
    go false e = sym (eqb-zero-suc (length s))

name-none : (s : Bytes) → name_len s ≡ 0 → is_name s ≡ false
unfolding name_len
name-none [] h = refl
name-none (c ∷ s) h = go (is_first c) h
  where
    go : (t : Bool) → pick t (suc (run is_later s)) 0 ≡ 0 → t && all is_later s ≡ false
    go true e = absurd (omega arith)
    go false e = refl

name-whole : (s : Bytes) → 0 < name_len s → is_name s ≡ eqb (name_len s) (length s)
unfolding name_len
name-whole [] h = absurd (not-suc-le-zero h)
name-whole (c ∷ s) h = go (is_first c) h
  where
    go : (t : Bool) → 0 < pick t (suc (run is_later s)) 0 → t && all is_later s ≡ eqb (pick t (suc (run is_later s)) 0) (suc (length s))
    go true e = all-run is_later s ∙ sym (eqb-suc-suc (run is_later s) (length s))
    go false e = absurd (not-suc-le-zero e)

-- a legal name, by the three questions that are asked of it
module _ (s : Bytes) where
  legal-by : (a b d : Bool) → is_name s ≡ a → leb (length s) name_bytes ≡ b → is_special s ≡ d → is_legal_name s ≡ (a && b && not d)
  legal-by a b d p q r =
      ap (λ (t : Bool). t && leb (length s) name_bytes && not (is_special s)) p
      ∙ ap (λ (t : Bool). a && t && not (is_special s)) q
      ∙ ap (λ (t : Bool). a && b && not t) r

  pub name-long : name_bytes < length s → is_legal_name s ≡ false
  name-long h = legal-by (is_name s) false (is_special s) refl (lt-leb (length s) name_bytes h) refl ∙ ap (λ (t : Bool). t && not (is_special s)) (and-false (is_name s))

  pub name-special : is_special s ≡ true → is_legal_name s ≡ false
  name-special e = legal-by (is_name s) (leb (length s) name_bytes) true refl refl e ∙ and-false (is_name s && leb (length s) name_bytes)

  pub name-unnamed : name_len s ≡ 0 → is_legal_name s ≡ false
  name-unnamed e = legal-by false (leb (length s) name_bytes) (is_special s) (name-none s e) refl refl

  pub name-legal : length s ≤ name_bytes → is_special s ≡ false → 0 < name_len s → is_legal_name s ≡ eqb (name_len s) (length s)
  name-legal h e k = legal-by (eqb (name_len s) (length s)) true false (name-whole s k) (le-leb (length s) name_bytes h) e ∙ same (eqb (name_len s) (length s))
    where
      same : (a : Bool) → a && true && true ≡ a
      same true = refl
      same false = refl
