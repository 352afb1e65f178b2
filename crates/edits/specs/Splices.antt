-- A splice: what it makes of a text, and what must hold of the text and the request.
use Rattle.std.specs.Prelude.{ℕ, ◌+◌, ◌-◌, ◌≤◌, ◌≡◌, Bool, true, ◌&&◌, [], leb, eqb, length, take}
use Rattle.format.specs.Bytes.{Bytes, pick, is_some}
use Rattle.format.specs.Limits.{file_bytes}
use Rattle.format.specs.Written.{written}
use Rattle.words.specs.Spans.{span}
use Rattle.records.specs.Places.{is_readable}
use Rattle.records.proofs.Unfielding.{left_of}
use Rattle.requests.specs.Fields.{bytes_of, InSpan}
use Rattle.requests.specs.Pairs.{pairs_from}
use Rattle.splices.specs.Space.{spliced, inserted, record_text}
use Rattle.edits.specs.declared.Splice.{Splice}

-- the text that is made of s, with parts of the request and of the text that was added to it
abbrev pub made_by : Bytes → Bytes → Bytes → Splice → Bytes
made_by s req added (Splice.Record new own) = inserted s new.at (record_text (take own added) req new.from)
made_by s req added (Splice.Field at old n v) = spliced s at old (written (bytes_of req n) (bytes_of req v))
made_by s req added (Splice.Name at old n) = spliced s at old (bytes_of req n)
made_by s req added (Splice.Cut at old) = spliced s at old []
made_by s req added (Splice.Unfield start end) = spliced s start (end - start) (left_of (span start end s))

-- its places lie in s, its parts in a request that is no longer than a file, and it says the length of a record
abbrev pub Sound : Bytes → Bytes → Bytes → Splice → Type 0
Sound s req added (Splice.Record new own) = (new.at ≤ length s) × (own ≤ length added) × (is_some (pairs_from req new.from) ≡ true) × (new.len ≡ length (record_text (take own added) req new.from))
Sound s req added (Splice.Field at old n v) = (at + old ≤ length s) × (length req ≤ file_bytes) × InSpan req n × InSpan req v
Sound s req added (Splice.Name at old n) = (at + old ≤ length s) × InSpan req n
Sound s req added (Splice.Cut at old) = at + old ≤ length s
Sound s req added (Splice.Unfield start end) = (start ≤ end) × (end ≤ length s) × (is_readable (span start end s) ≡ true)

-- "Result at most the buffer and 65,536?"
abbrev pub is_within : ℕ → ℕ → Bool
is_within room n = leb n room && leb n file_bytes

-- how long a text of so many bytes is with a record put in
abbrev pub made_len : ℕ → ℕ → ℕ
made_len used len = pick (eqb used 0) len (used + len + 1)
