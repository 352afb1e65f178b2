-- The names that are given, one after another, and the places of a list's words among them.
use Rattle.std.specs.Prelude.{List, [], ◌∷◌, ℕ}
use Rattle.format.specs.Bytes.{Bytes}
use Rattle.dictionary.specs.Numbered.{IsListed, Present}
use Rattle.dictionary.specs.declared.wordsets.Listed.{Listed}

-- names in front of others, the last one first
abbrev pub onto : List Bytes → List Bytes → List Bytes
onto ns [] = ns
onto ns (m ∷ ms) = onto (m ∷ ns) ms

-- x and y tell which words of a list are given, y with some names more
abbrev pub Gives : Bytes → Listed → List Bytes → ℕ → ℕ → Type 0
Gives d l ms x y = (ws ns : List Bytes) → IsListed d ws l → Present ws ns x → Present ws (onto ns ms) y
