-- The names of descriptors, by where their `%rec` values stand.
use Rattle.std.specs.Prelude.{ℕ, ◌≤◌, ◌≡◌, Bool, true, false, ◌&&◌, not, List, [], ◌∷◌, length, Option, Some, None}
use Rattle.format.specs.Pieces.{read_of}
use Rattle.format.specs.Bytes.{Bytes, among}
use Rattle.format.specs.Numbers.{int_bounds}
use Rattle.format.specs.Records.{Record, fields_of}
use Rattle.format.specs.Limits.{value_bytes}
use Rattle.format.specs.Questions.{fits_record}
use Rattle.format.specs.Rules.{is_well_formed}
use Rattle.format.specs.Words.{first_word}
use Rattle.format.proofs.Walking.{head_name}
use Rattle.values.specs.Value.{value_from}
use Rattle.words.specs.Spans.{span}
use Rattle.words.specs.declared.Span.{Span}

-- the first word of the value that stands from a to e
abbrev pub name_at : Bytes → ℕ → ℕ → Bytes
name_at s a e = first_word (value_from (span a e s))

-- the same for each start and the end beside it
abbrev pub names_at : Bytes → List ℕ → List ℕ → List Bytes
names_at s [] es = []
names_at s (a ∷ bs) [] = []
names_at s (a ∷ bs) (e ∷ es) = name_at s a e ∷ names_at s bs es

-- there is an end beside each start, and all stand in s
abbrev pub Inside : Bytes → List ℕ → List ℕ → Type 0
Inside s [] [] = Unit {0}
Inside s [] (e ∷ es) = ⊥
Inside s (a ∷ bs) [] = ⊥
Inside s (a ∷ bs) (e ∷ es) = (a ≤ e) × (e ≤ length s) × Inside s bs es

-- where a descriptor's name stands in it; its value is short where the descriptor holds the limits
abbrev pub NamedBy : Bytes → Span → Type 0
NamedBy d r =
    (r.start ≤ r.end)
    × (r.end ≤ length d)
    × (name_at d r.start r.end ≡ head_name (fields_of (read_of d)))
    × (fits_record (fields_of (read_of d)) ≡ true → length (value_from (span r.start r.end d)) ≤ value_bytes)

-- a descriptor passes behind others: it is well formed, and none of them has its name
abbrev pub passes : Record → List Bytes → Bool
passes r seen = is_well_formed int_bounds r && not (among (head_name r) seen)

abbrev pub Told : Bytes → Record → List Bytes → Option Span → Type 0
Told s r seen None = passes r seen ≡ false
Told s r seen (Some p) = (passes r seen ≡ true) × (p.start ≤ p.end) × (p.end ≤ length s) × (name_at s p.start p.end ≡ head_name r)
