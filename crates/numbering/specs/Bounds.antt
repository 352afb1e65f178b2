-- What bounds the number of a name: it is not below its floor, and below its limit.
use Rattle.std.specs.Prelude.{ℕ, ◌≤◌, min, max, ◌≡◌, true, List, [], ◌∷◌, ltb, length, get_or, set}
use Rattle.std.proofs.Math.Option.{Option, none, some}
use Rattle.format.specs.Bytes.{Bytes, text, pick, same, among}
use Rattle.format.specs.Limits.{list_words}
use Rattle.format.specs.Numbers.{Int, int_bounds, int_of}
use Rattle.format.specs.Records.{Field, Record}
use Rattle.format.specs.Rules.{typed_names, Span, auto}
use Rattle.format.specs.Words.{trim}
use Rattle.format.specs.Numbering.{above, from, largest}
use Rattle.records.specs.Named.{values_from}
use Rattle.records.specs.Walk.{record_in}
use Rattle.words.specs.RuleNames.{place_in}
use Rattle.numbering.specs.declared.bounds.Bounds.{Bounds}
use Rattle.numbering.specs.Types.{type_span}

-- how many numbers there are: those above any int
abbrev pub numbers : ℕ
numbers = 9223372036854775808

-- the bounds by a type, and the floor by what a value is as an int
abbrev pub floor_in : Option Span → ℕ
floor_in none = 0
floor_in (some s) = from s.low

abbrev pub limit_in : Option Span → ℕ
limit_in none = numbers
limit_in (some s) = above s.high

abbrev pub above_in : Option Int → ℕ
above_in none = 0
above_in (some x) = above x

-- those of a name by a `%type` value, and by a field
abbrev pub type_floor : Bytes → Bytes → Bytes → ℕ
type_floor d n v = pick (among n (typed_names v)) (floor_in (type_span d v)) 0

abbrev pub type_limit : Bytes → Bytes → Bytes → ℕ
type_limit d n v = pick (among n (typed_names v)) (limit_in (type_span d v)) numbers

abbrev pub field_floor : Bytes → Field → ℕ
field_floor n f = pick (same n f.name) (above_in (int_of int_bounds (trim f.value))) 0

-- the least of the numbers of a list's elements, at most all
abbrev pub lowest : {A : Type 0} → (A → ℕ) → List A → ℕ
lowest f [] = numbers
lowest f (x ∷ xs) = min (f x) (lowest f xs)

-- a number at place k put together with another, if there are more places
abbrev pub joined_at : (ℕ → ℕ → ℕ) → ℕ → ℕ → ℕ → List ℕ → List ℕ
joined_at op count k x l = pick (ltb k count) (set l k (op (get_or l k 0) x)) l

-- the number of each name of a list, at its place, was put together with another
abbrev pub Joins : (ℕ → ℕ → ℕ) → List Bytes → (Bytes → ℕ) → List ℕ → List ℕ → Type 0
Joins op ws f l m = (n : Bytes) → among n ws ≡ true → get_or m (place_in n ws) 0 ≡ op (get_or l (place_in n ws) 0) (f n)

-- the number of each name is a limit
abbrev pub AreLimits : List Bytes → List ℕ → Type 0
AreLimits ws l = (n : Bytes) → among n ws ≡ true → get_or l (place_in n ws) 0 ≤ numbers

-- the floor and the limit of a name: by a descriptor d and the fields of a set's records
abbrev pub floor_of : Bytes → Record → Bytes → ℕ
floor_of d r n = max (largest (field_floor n) r) (largest (type_floor d n) (values_from d (text "%type") 0))

abbrev pub limit_of : Bytes → Bytes → ℕ
limit_of d n = lowest (type_limit d n) (values_from d (text "%type") 0)

-- the limits among bounds are limits, and there is a floor and a limit for each place
abbrev pub Limited : List Bytes → Bounds → Type 0
Limited ws b = (list_words ≤ length b.floors) × (list_words ≤ length b.limits) × AreLimits ws b.limits

-- each name of a list has a number at its place
abbrev pub Holds : List Bytes → (Bytes → ℕ) → List ℕ → Type 0
Holds ws f l = (n : Bytes) → among n ws ≡ true → get_or l (place_in n ws) 0 ≡ f n

-- the floors and the limits of the names of `%auto` lists
pub record AreBounds (d : Bytes) (r : Record) (b : Bounds) : Type 0 where
  pub floors : Holds (auto (record_in d)) (floor_of d r) b.floors
  pub limits : Holds (auto (record_in d)) (limit_of d) b.limits
  pub floor-room : list_words ≤ length b.floors
  pub limit-room : list_words ≤ length b.limits
