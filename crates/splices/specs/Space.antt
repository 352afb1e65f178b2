-- A text with another part, and a buffer with room for it.
use Rattle.std.specs.Prelude.{ℕ, zero, suc, ◌+◌, ◌-◌, max, ◌≡◌, ◌∷◌, ◌++◌, length, take, drop, replicate}
use Rattle.format.specs.Bytes.{Bytes}
use Rattle.format.specs.Written.{written_all}
use Rattle.format.proofs.Splices.{spliced as replaced, gap_bytes}
use Rattle.requests.specs.Pairs.{pairs_at}

-- s with t in place of its `old` bytes at `at`
abbrev pub spliced : Bytes → ℕ → ℕ → Bytes → Bytes
spliced s at old t = replaced s at (at + old) t

-- The text of a record at the place where its set ends: behind a newline; at 0 in front, with a newline unless nothing follows.
unfoldable pub inserted : Bytes → ℕ → Bytes → Bytes
inserted s zero t = t ++ (gap_bytes s ++ s)
inserted s (suc k) t = spliced s (suc k) 0 (10 ∷ t)

-- a record whose first fields are written already: their text, then that of a request's pairs
abbrev pub record_text : Bytes → Bytes → ℕ → Bytes
record_text first req from = first ++ written_all (pairs_at req from)

-- what stands behind the room: the text's tail, 0 for bytes that the text gave up, and the buffer's bytes behind the text
abbrev pub behind : Bytes → ℕ → ℕ → ℕ → ℕ → Bytes
behind b used at old new = take (used - (at + old)) (drop (at + old) b) ++ (replicate (old - new) 0 ++ drop (max used ((used - old) + new)) b)

-- b as it is once `new` bytes have room at `at` in place of `old`, in a text of `used` bytes: nothing is said of the room's own bytes
pub record Opened (b : Bytes) (used at old new : ℕ) (opened : Bytes) : Type 0 where
  pub same : length opened ≡ length b
  pub before : take at opened ≡ take at b
  pub after : drop (at + new) opened ≡ behind b used at old new
