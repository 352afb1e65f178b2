-- Where a block begins, piece by piece, and the next set as an entry.
use Rattle.std.specs.Prelude.{◌≡◌, ℕ, ◌+◌, [], drop, Option, Some, None}
use mathlib.Core.Path.{sym, ap, ◌∙◌}
use Rattle.format.specs.Bytes.{Bytes}
use Rattle.format.specs.Lines.{Line}
use Rattle.format.specs.Pieces.{Piece, read_of}
use Rattle.records.proofs.Steps.{Passed, FieldAt}
use Rattle.format.specs.declared.Entry.{Entry}
use Rattle.records.specs.Places.{places_of}
use Rattle.records.specs.Sets.{first_set}
use Rattle.records.specs.declared.RecordSet.{RecordSet}
use Rattle.directory.specs.Blocks.{block_from, no_entry, entry_on, next_entry}

-- of the part from byte i on
abbrev pub block_at : Bytes → ℕ → ℕ → ℕ
block_at s start i = block_from start i (read_of (drop i s))

module _ (s : Bytes) (start i : ℕ) where
  pub block_none : read_of (drop i s) ≡ [] → block_at s start i ≡ start
  unfolding block_from
  block_none e = ap (block_from start i) e

  module _ (k : ℕ) where
    pub block-blank : (l : Line) → Passed s i (Piece.blank l) k → block_at s start i ≡ block_at s (i + k) (i + k)
    unfolding block_from
    block-blank l h = ap (block_from start i) h.reads ∙ ap (λ (n : ℕ). block_from (i + n) (i + n) (read_of (drop (i + k) s))) h.size

    pub block-comment : (l : Line) → Passed s i (Piece.comment l) k → block_at s start i ≡ block_at s start (i + k)
    unfolding block_from
    block-comment l h = ap (block_from start i) h.reads ∙ ap (λ (n : ℕ). block_from start (i + n) (read_of (drop (i + k) s))) h.size

    pub block-field : (n v : ℕ) → FieldAt s i n v k → block_at s start i ≡ start
    unfolding block_from
    block-field n v h = ap (block_from start i) h.passed.reads

-- the next set as an entry, once the form of the answer is known
module _ (s : Bytes) (x : Option RecordSet) (e : x ≡ first_set (places_of s)) where
  pub next-none : x ≡ None → no_entry ≡ next_entry s
  unfolding next_entry
  next-none h = ap (entry_on (block_from 0 0 (read_of s))) (sym h ∙ e)

  pub next-there : (q : RecordSet) (b : ℕ) → x ≡ Some q → b ≡ block_from 0 0 (read_of s) → ◌≡◌ {A = Entry} (record { place = b; count = q.count; end = q.after }) (next_entry s)
  unfolding next_entry
  next-there q b h r = λ i. entry_on (r i) ((sym h ∙ e) i)
