-- Where the descriptors of a file stand, one after another.
use Rattle.std.specs.Prelude.{ℕ, ◌≤◌, ◌<◌, ◌≡◌, true, List, [], ◌∷◌, ◌++◌, length, drop, get_or}
use Rattle.format.proofs.Records.{records}
use Rattle.format.specs.Bytes.{Bytes}
use Rattle.format.specs.Pieces.{read_of}
use Rattle.format.proofs.Walking.{is_head, heads}
use Rattle.words.specs.Spans.{span}
use Rattle.records.specs.Places.{is_readable}
use Rattle.records.specs.Walk.{record_in}

-- the next descriptor from byte p on: its fields stand from a to e, and n is the byte behind its block; no record between p and a is a descriptor
pub record HeadHere (s : Bytes) (p a e n : ℕ) : Type 0 where
  pub begins : p ≤ a
  pub filled : a < e
  pub within : e ≤ n
  pub inside : n ≤ length s
  pub own : is_readable (span a e s) ≡ true
  pub head : is_head (record_in (span a e s)) ≡ true
  pub before : is_readable (span p a s) ≡ true
  pub plain : heads (records (read_of (span p a s))) ≡ []
  pub behind : is_readable (drop n s) ≡ true
  pub cut : records (read_of (drop p s)) ≡ records (read_of (span p a s)) ++ (record_in (span a e s) ∷ records (read_of (drop n s)))

-- row k is looked for from the start, or from the byte behind the block of the row before it
abbrev pub row_from : List ℕ → ℕ → ℕ
row_from afters k = get_or (0 ∷ afters) k 0

-- n rows are all descriptors, in order
pub record HeadRows (s : Bytes) (starts ends afters : List ℕ) (n : ℕ) : Type 0 where
  pub begun : n ≤ length starts
  pub ended : n ≤ length ends
  pub passed : n ≤ length afters
  pub row : (k : ℕ) → k < n → HeadHere s (row_from afters k) (get_or starts k 0) (get_or ends k 0) (get_or afters k 0)
  pub last : heads (records (read_of (drop (row_from afters n) s))) ≡ []

-- the same by the places of the descriptors alone
abbrev pub HeadParts : Bytes → List ℕ → List ℕ → ℕ → Type 0
HeadParts s starts ends n = (afters : List ℕ) × HeadRows s starts ends afters n
