-- What an edit leaves, and a list of them.
use Rattle.std.specs.Prelude.{ℕ, ◌≡◌, List, take}
use Rattle.format.specs.Bytes.{Bytes}
use Rattle.format.specs.Calls.{number_in, value_or, edit_answer}
use Rattle.format.specs.Runs.{Told, Ran}
use Rattle.format.proofs.Elements.{Each}

-- the buffer, the length that is returned, the given one where the edit is refused, and the file
abbrev pub buffer_after : Bytes → ℕ → Bytes → Bytes
buffer_after buffer used request = (edit_answer buffer used request).out

abbrev pub length_after : Bytes → ℕ → Bytes → ℕ
length_after buffer used request = value_or used (edit_answer buffer used request).result

abbrev pub file_after : Bytes → ℕ → Bytes → Bytes
file_after buffer used request = take (length_after buffer used request) (buffer_after buffer used request)

-- accepted, and each edit of a list accepted
abbrev pub IsAccepted : Bytes → ℕ → Bytes → Type 0
IsAccepted buffer used request = number_in (edit_answer buffer used request).result ≡ 0

abbrev pub AllAccepted : List Told → Type 0
AllAccepted ts = Each (λ (t : Told). t.number ≡ 0) ts

-- two lists of edits leave the same file: its length and its bytes. "The space behind the file isn't compared."
abbrev pub SameFile : Ran → Ran → Type 0
SameFile r s = (r.length ≡ s.length) × (take r.length r.buffer ≡ take s.length s.buffer)
