-- A run of requests as the code reads and sends it.
use Rattle.std.specs.Prelude.{ℕ, ◌-◌, ◌≤◌, ◌≡◌, Bool, true, false, List, ◌∷◌, leb, length, take, drop, Option as Maybe, Some, None}
use Rattle.std.proofs.Math.Option.{Option, none, some}
use Rattle.format.specs.Bytes.{Bytes}
use Rattle.format.specs.Lists.{onward}
use Rattle.format.specs.Requests.{requests_in}
use Rattle.format.specs.Calls.{over}
use Rattle.format.specs.Runs.{Ran, singly, edits_of, numbers_told}

-- the request that a run begins with, and those that follow it
abbrev pub FirstIn : Bytes → Maybe ℕ → Type 0
FirstIn s (Some e) = (2 ≤ e) × (e ≤ length s) × (requests_in s ≡ onward (λ (qs : List Bytes). some (take (e - 2) (drop 2 s) ∷ qs)) (requests_in (drop e s)))
FirstIn s None = requests_in s ≡ none

-- a run of at most so many requests
abbrev pub is_run : ℕ → Option (List Bytes) → Bool
is_run n none = false
is_run n (some qs) = leb (length qs) n

abbrev pub is_taken : Option (List Bytes) → Bool
is_taken none = false
is_taken (some qs) = true

-- requests sent one after another: the length after the last, the buffer, and their numbers in front of a list
abbrev pub Sends : Bytes → ℕ → Option (List Bytes) → List ℕ → ℕ → Bytes → List ℕ → Type 0
Sends buffer used x old n after answers =
    let r : Ran = singly (edits_of x) buffer used in
    (n ≡ r.length) × (after ≡ r.buffer) × (answers ≡ over (numbers_told r.told) old)
