-- The part of a text that the records of a set stand in.
use Rattle.totals.specs.declared.parts.Part.{Part}
use Rattle.std.specs.Prelude.{ℕ, ◌≡◌, Bool, false, ◌&&◌, ◌||◌, [], ◌∷◌, eqb, Option, Some, None}
use Rattle.std.proofs.Math.Option.{none}
use Rattle.format.specs.Bytes.{Bytes}
use Rattle.format.specs.Pieces.{read_of}
use Rattle.format.specs.Sets.{sets_of}
use Rattle.format.specs.Plain.{index_of}
use Rattle.records.proofs.SetOf.{SetOf}

-- does a line begin with a percent sign, in a text behind the byte b
abbrev pub special_line : ℕ → Bytes → Bool
special_line b [] = false
special_line b (c ∷ s) = (eqb b 10 && eqb c 37) || special_line c s

-- it is missing where there is no set of that name, and only then
abbrev pub PartTold : Bytes → Bytes → Option Part → Type 0
PartTold s n None = index_of n (sets_of (read_of s)) ≡ none
PartTold s n (Some p) = (start end count : ℕ) × SetOf s n (record { start = start; end = end; begin = p.begin; after = p.end; count = count })
