-- The values at the name of a key, and entries that stand for them.
use Rattle.std.specs.Prelude.{ℕ, ◌≤◌, ◌≡◌, List, length, take}
use Rattle.format.specs.Bytes.{Bytes}
use Rattle.format.specs.Sets.{values_of}
use Rattle.records.specs.Walk.{record_in}
use Rattle.keys.specs.Keys.{Entries, keys_of}

-- the first n entries stand for the values at a name in a part
pub record Gathered (w s : Bytes) (entries : List ℕ) (n : ℕ) : Type 0 where
  pub room : n ≤ length entries
  pub entered : Entries s n entries
  pub all : keys_of s (take n entries) ≡ values_of w (record_in s)
