-- The words of a list, each with its place there as tag; sets of such places.
use Rattle.std.specs.Prelude.{ℕ, suc, ◌≤◌, ◌≡◌, Bool, true, ◌&&◌, List, [], ◌∷◌, eqb, ltb, length, get_or, take}
use Rattle.format.specs.Bytes.{Bytes, all, same, among}
use Rattle.format.specs.Limits.{list_words}
use Rattle.format.specs.Lines.{is_name}
use Rattle.format.specs.Records.{Record}
use Rattle.format.specs.Rules.{listed}
use Rattle.words.specs.RuleNames.{place_in}
use Rattle.terms.specs.Sets.{Term, term_of, in_set, tagged}
use Rattle.terms.specs.Entries.{terms_of}
use Rattle.terms.specs.Joined.{IsJoined}
use Rattle.dictionary.specs.declared.wordsets.Words.{Words}
use Rattle.dictionary.specs.declared.wordsets.Listed.{Listed}

-- the words that the fields of a name list are few, and they are names
pub record Lists (name : Bytes) (rules : Record) : Type 0 where
  pub few : length (listed name rules) ≤ list_words
  pub names : all is_name (listed name rules) ≡ true

-- numbered from k on
abbrev pub numbered : ℕ → List Bytes → List Term
numbered k [] = []
numbered k (w ∷ ws) = term_of k w ∷ numbered (suc k) ws

-- a table of the words ws with their sets
pub record IsWords (d : Bytes) (ws : List Bytes) (l sets : List ℕ) (r : Words) : Type 0 where
  pub few : length ws ≤ list_words
  pub count : r.count ≡ length ws
  pub table : IsJoined d l sets r.table
  pub terms : (w : Bytes) (k : ℕ) → tagged w k (terms_of d (take r.table.count l)) ≡ tagged w k (numbered 0 ws)

-- in arrays of its own
abbrev pub IsListed : Bytes → List Bytes → Listed → Type 0
IsListed d ws l = IsWords d ws l.entries l.sets l.words

-- x is the set of the places at which w stands in ws
abbrev pub Places : List Bytes → Bytes → ℕ → Type 0
Places ws w x = (k : ℕ) → in_set k x ≡ (ltb k (length ws) && same w (get_or ws k []))

-- x is the set of the places of those words of ws that are among some names
abbrev pub Present : List Bytes → List Bytes → ℕ → Type 0
Present ws ns x = (k : ℕ) → in_set k x ≡ (ltb k (length ws) && among (get_or ws k []) ns)

-- does the word at place k stand there for the first time
abbrev pub is_first : ℕ → List Bytes → Bool
is_first k ws = eqb (place_in (get_or ws k []) ws) k

-- x is the set of such places
abbrev pub Firsts : List Bytes → ℕ → Type 0
Firsts ws x = (k : ℕ) → in_set k x ≡ (ltb k (length ws) && is_first k ws)
