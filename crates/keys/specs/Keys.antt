-- A key is the value that begins at a place of the file; an entry stands for it: its place, and above it a fingerprint of the key.
use Rattle.std.specs.Prelude.{ℕ, ◌+◌, ◌*◌, ◌/◌, ◌%◌, ◌<◌, ◌≤◌, ◌≡◌, List, map, length, get_or, drop}
use Rattle.format.specs.Bytes.{Bytes}
use Rattle.values.specs.Value.{value_from}
use Rattle.sorting.specs.Texts.{mixed}

-- the fingerprint of a key, the upper half of its mixed bytes
unfoldable pub print_of : Bytes → ℕ
print_of v = mixed 2166136261 v / 65536

-- an entry, and the key that it stands for
abbrev pub entry_of : ℕ → Bytes → ℕ
entry_of at key = at + 65536 * print_of key

abbrev pub key_at : Bytes → ℕ → Bytes
key_at s e = value_from (drop (e % 65536) s)

abbrev pub keys_of : Bytes → List ℕ → List Bytes
keys_of s l = map (key_at s) l

-- a number is an entry of a file
pub record IsEntry (s : Bytes) (e : ℕ) : Type 0 where
  pub inside : e % 65536 ≤ length s
  pub print : e / 65536 ≡ print_of (key_at s e)

-- the first n numbers are
abbrev pub Entries : Bytes → ℕ → List ℕ → Type 0
Entries s n l = (i : ℕ) → i < n → IsEntry s (get_or l i 0)
