-- Values: what a shape asks is what its type asks, a value has no newline if its first line is all of it, and its size byte by byte.
use Prim.Native.Nat.{ℕ, suc, ◌+◌, ◌<◌, ◌≤◌}
use mathlib.Core.Path.{◌≡◌, refl, sym, ap, ◌∙◌, subst}
use mathlib.Core.Bool.{Bool, true, false, not, ◌||◌}
use mathlib.Core.List.{[], ◌∷◌}
use lib.Dec.{eqb, eqb-zero-suc, eqb-suc-suc}
use lib.ListN.{length, get_or, drop, drop_of_length-le}
use Rattle.format.specs.Bytes.{Bytes, pick, is_newline, any}
use Rattle.format.specs.Types.{is_continuation, size_count}
use Rattle.lines.specs.Line.{line_len}
use Rattle.lines.proofs.Cuts.{at-cons}
use Rattle.typing.specs.Meaning.{Sound, meets_in}
use Rattle.typing.specs.declared.Shape.{Shape}

pub meets-shape : (s v : Bytes) {k j : Shape} → k ≡ j → meets_in s j v ≡ meets_in s k v
meets-shape s v e = ap (λ (k : Shape). meets_in s k v) (sym e)

pub sound-shape : (s : Bytes) {k j : Shape} → k ≡ j → Sound s k → Sound s j
sound-shape s e h = subst (Sound s) e h

pub one_line : (v : Bytes) → not (any is_newline v) ≡ eqb (line_len v) (length v)
unfolding line_len
one_line [] = refl
one_line (c ∷ v) = go (is_newline c) (one_line v)
  where
    go : (t : Bool) → not (any is_newline v) ≡ eqb (line_len v) (length v) → not (t || any is_newline v) ≡ eqb (pick t 0 (suc (line_len v))) (suc (length v))
    go true e = sym (eqb-zero-suc (length v))
    go false e = e ∙ sym (eqb-suc-suc (line_len v) (length v))

-- the size, byte by byte
module _ (v : Bytes) (i : ℕ) where
  pub size-counted : i < length v → is_continuation (get_or v i 0) ≡ false → size_count (drop i v) ≡ suc (size_count (drop (i + 1) v))
  size-counted h e = rw (at-cons v i h, e)

  pub size-passed : i < length v → is_continuation (get_or v i 0) ≡ true → size_count (drop i v) ≡ size_count (drop (i + 1) v)
  size-passed h e = rw (at-cons v i h, e)

  pub size-end : length v ≤ i → size_count (drop i v) ≡ 0
  size-end h = rw (drop_of_length-le v)
