-- An entry stands for a term: the place of its word in the file (16 bits), its tag (6) and a fingerprint of the word (10).
use Rattle.std.specs.Prelude.{ℕ, ◌+◌, ◌*◌, ◌/◌, ◌%◌, ◌<◌, ◌≡◌, true, List, map, get_or}
use Rattle.format.specs.Bytes.{Bytes}
use Rattle.sorting.specs.Texts.{text_at, mixed}
use Rattle.terms.specs.Sets.{tags, Term, term_of, tagged}

-- where the tag and the fingerprint begin in it
abbrev pub tag_unit : ℕ
tag_unit = 65536

abbrev pub print_unit : ℕ
print_unit = 4194304

unfoldable pub print_of : Bytes → ℕ
print_of v = mixed 2166136261 v / print_unit

-- an entry, and the term that it stands for
abbrev pub entry_of : ℕ → ℕ → Bytes → ℕ
entry_of at tag word = at + tag_unit * tag + print_unit * print_of word

abbrev pub tag_of : ℕ → ℕ
tag_of e = e / tag_unit % tags

abbrev pub word_at : Bytes → ℕ → Bytes
word_at s e = text_at true s (e % tag_unit)

abbrev pub term_at : Bytes → ℕ → Term
term_at s e = term_of (tag_of e) (word_at s e)

abbrev pub terms_of : Bytes → List ℕ → List Term
terms_of s l = map (term_at s) l

-- a number is an entry of a file: its fingerprint is that of its word
abbrev pub IsEntry : Bytes → ℕ → Type 0
IsEntry s e = e / print_unit ≡ print_of (word_at s e)

-- the first n numbers are
abbrev pub Entries : Bytes → ℕ → List ℕ → Type 0
Entries s n l = (i : ℕ) → i < n → IsEntry s (get_or l i 0)

-- the same words have the same tags
abbrev pub Kept : Bytes → List ℕ → List ℕ → Type 0
Kept s l m = (w : Bytes) (k : ℕ) → tagged w k (terms_of s m) ≡ tagged w k (terms_of s l)
