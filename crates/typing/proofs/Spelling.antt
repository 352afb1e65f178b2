-- A symbol, by the first byte and the later ones.
use Prim.Native.Nat.{◌<◌}
use native.Mathlib.Nat.{not-suc-le-zero}
use native.Mathlib.Omega.{arith}
use mathlib.Core.Path.{◌≡◌, refl}
use mathlib.Core.Bool.{false, ◌&&◌, ◌||◌}
use mathlib.Core.List.{[], ◌∷◌}
use lib.ListN.{length, drop, get_or}
use Rattle.format.specs.Bytes.{Bytes, is_letter, is_digit, all}
use Rattle.format.specs.Types.{is_symbol_byte, is_symbol}

pub symbol-by : (s : Bytes) → 0 < length s → is_symbol s ≡ (is_letter (get_or s 0 0) || is_digit (get_or s 0 0)) && all is_symbol_byte (drop 1 s)
symbol-by [] h = absurd (not-suc-le-zero h)
symbol-by (c ∷ s) h = refl

pub symbol-not-empty : (s : Bytes) → length s ≡ 0 → is_symbol s ≡ false
symbol-not-empty [] h = refl
symbol-not-empty (c ∷ s) h = absurd (omega arith)
