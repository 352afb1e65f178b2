-- The fields that are added, word by word of the lists, and their text.
use Rattle.std.specs.Prelude.{ℕ, suc, ◌+◌, ◌*◌, ◌≤◌, ◌≡◌, Bool, true, false, ◌||◌, List, [], ◌∷◌, ◌++◌, ltb, length, take, get_or, Option as Maybe, Some, None}
use Rattle.std.proofs.Math.Option.{Option, none, some, map}
use Rattle.format.specs.Bytes.{Bytes, pick, all, same, among}
use Rattle.format.specs.Lists.{only_if}
use Rattle.format.specs.Written.{Pair, written_all}
use Rattle.format.specs.Numbering.{decimal}
use Rattle.format.proofs.Overlong.{is_short}
use Rattle.words.specs.RuleNames.{place_in}
use Rattle.terms.specs.Sets.{in_set}
use Rattle.numbering.specs.declared.Added.{Added}
use Rattle.numbering.specs.declared.adding.Sum.{Sum}

-- room for 64 names of 64 bytes, each with a colon, a space, 19 digits and a newline
abbrev pub added_room : ℕ
added_room = 5504

-- and with names of 4,096 bytes
abbrev pub added_most : ℕ
added_most = 263552

-- the field of a name by the bounds at its place, where there is a number
abbrev pub pair_by : List Bytes → List ℕ → List ℕ → Bytes → Option Pair
pair_by ws floors limits n =
    let k : ℕ = get_or floors (place_in n ws) 0 in
    map (λ (x : ℕ). record { name = n; value = decimal x }) (only_if (ltb k (get_or limits (place_in n ws) 0)) k)

-- the words passed, the names that have a field, and the fields that were added, none where one has no number
pub record State : Type 0 where
  pub passed : ℕ
  pub seen : List Bytes
  pub pairs : Option (List Pair)

-- before the first word, some names have a field
abbrev pub unadded : List Bytes → State
unadded ns = record { passed = 0; seen = ns; pairs = some [] }

abbrev pub behind_all : Option (List Pair) → Option Pair → Option (List Pair)
behind_all none x = none
behind_all (some ps) none = none
behind_all (some ps) (some p) = some (ps ++ (p ∷ []))

-- one word more, and words
abbrev pub stepped : (Bytes → Option Pair) → State → Bytes → State
stepped f s n =
    record {
      passed = suc s.passed;
      seen = pick (among n s.seen) s.seen (n ∷ s.seen);
      pairs = pick (among n s.seen) s.pairs (behind_all s.pairs (f n));
    }

abbrev pub step_all : (Bytes → Option Pair) → State → List Bytes → State
step_all f s [] = s
step_all f s (n ∷ ns) = step_all f (stepped f s n) ns

-- x tells of each name of a list, at its place, whether it is one of some names
abbrev pub Seen : List Bytes → List Bytes → ℕ → Type 0
Seen ws ns x = (n : Bytes) → among n ws ≡ true → in_set (place_in n ws) x ≡ among n ns

-- and y the same with one name more
abbrev pub Marked : List Bytes → Bytes → ℕ → ℕ → Type 0
Marked ws m x y = (n : Bytes) → among n ws ≡ true → in_set (place_in n ws) y ≡ (same n m || in_set (place_in n ws) x)

-- sums over the fields that were added; their text is at the front of out where all names are short
pub record Sums (ws : List Bytes) (s : State) (out : Bytes) (r : Sum) : Type 0 where
  pub added : List Pair
  pub are : s.pairs ≡ some added
  pub few : length added ≤ s.passed
  pub marks : Seen ws s.seen r.seen
  pub len_is : r.len ≡ length (written_all added)
  pub len-most : r.len ≤ 4118 * length added
  pub short-is : r.short ≡ all is_short added
  pub text : r.short ≡ true → (take r.len out ≡ written_all added) × (r.len ≤ 86 * length added)

abbrev pub SummedAs : List Bytes → State → Bytes → Maybe Sum → Type 0
SummedAs ws s out (Some r) = Sums ws s out r
SummedAs ws s out None = s.pairs ≡ none

-- what is told of the added fields
pub record Written (ps : List Pair) (out : Bytes) (len : ℕ) : Type 0 where
  pub len_is : len ≡ length (written_all ps)
  pub inside : len ≤ length out
  pub text : take len out ≡ written_all ps
  pub short : all is_short ps ≡ true

pub record Unwritten (ps : List Pair) (len : ℕ) : Type 0 where
  pub len_is : len ≡ length (written_all ps)
  pub long : all is_short ps ≡ false

abbrev pub AddedAs : Option (List Pair) → Bytes → Added → Type 0
AddedAs x out (Added.Text len) = (ps : List Pair) × ((x ≡ some ps) × Written ps out len)
AddedAs x out Added.Numberless = x ≡ none
AddedAs x out (Added.Long len) = (ps : List Pair) × ((x ≡ some ps) × Unwritten ps len)
