-- A value that can be written, byte by byte.
use Rattle.std.specs.Prelude.{Bool, ◌&&◌, not, [], ◌∷◌, eqb}
use Rattle.format.specs.Bytes.{Bytes, is_newline, is_allowed}

-- all bytes allowed, and no line that ends in a backslash; slash: the byte before is one
unfoldable pub is_plain_from : Bool → Bytes → Bool
is_plain_from slash [] = not slash
is_plain_from slash (c ∷ s) = is_allowed c && not (is_newline c && slash) && is_plain_from (eqb c 92) s
