-- Type names, by the first byte and the later ones.
use Prim.Native.Nat.{ℕ, ◌<◌}
use mathlib.Core.Path.{◌≡◌, ap, ◌∙◌, subst}
use mathlib.Core.Bool.{Bool, ◌&&◌}
use mathlib.Core.List.{◌∷◌}
use lib.Dec.{eqb}
use lib.ListN.{get_or}
use Rattle.format.specs.Bytes.{Bytes, class_of, all}
use Rattle.format.specs.Lines.{is_later}
use Rattle.format.specs.Words.{is_type_name}
use Rattle.format.proofs.Table.{letter-class}

pub type-name-told : (s r : Bytes) (b : ℕ) → s ≡ b ∷ r → get_or s 0 0 < 256 → is_type_name s ≡ eqb (class_of b) 1 && all is_later r
type-name-told s r b e h =
    ap is_type_name e ∙ ap (λ (t : Bool). t && all is_later r) (letter-class b (subst (λ (z : Bytes). get_or z 0 0 < 256) e h))
