-- The parts of a text between bytes d: the bytes before the first d, and the parts behind it.
use Prim.Native.Nat.{ℕ}
use mathlib.Core.Path.{◌≡◌, ◌∙◌}
use mathlib.Core.List.{List, ◌∷◌}
use lib.Dec.{eqb}
use lib.ListN.{take, drop}
use Rattle.format.specs.Bytes.{Bytes}
use Rattle.format.specs.Words.{split}
use Rattle.format.proofs.Parts.{parts_behind, split-cut}
use Rattle.lines.specs.Line.{run}
use Rattle.words.proofs.Finding.{front-run, behind-run}
use Rattle.words.specs.Spans.{not_byte}

-- the parts behind the first d, none where there is no d
abbrev pub split_behind : ℕ → Bytes → List Bytes
split_behind d s = parts_behind (λ (c : ℕ). eqb c d) s

pub split-run : (d : ℕ) (s : Bytes) → split d s ≡ take (run (not_byte d) s) s ∷ split_behind d (drop (run (not_byte d) s) s)
split-run d s = split-cut (λ (c : ℕ). eqb c d) s ∙ (λ i. front-run (not_byte d) s i ∷ split_behind d (behind-run (not_byte d) s i))
