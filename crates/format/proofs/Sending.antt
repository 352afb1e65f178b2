-- Runs of requests: how a run is read from its first request on, and that it leaves and answers what its requests do, sent singly.
use Prim.Native.Nat.{ℕ, zero, suc, ◌+◌, ◌≤◌, ◌<◌}
use native.Mathlib.Omega.{arith}
use mathlib.Core.Path.{◌≡◌, refl, sym, ap, ◌∙◌}
use mathlib.Core.List.{List, [], ◌∷◌, ◌++◌, map, append_assoc}
use mathlib.Core.Option.{Option, none, some}
use lib.ListN.{length, take, drop, length-append}
use lib.Seq.{take-append_seam, drop-append_seam}
use Rattle.format.specs.Bytes.{Bytes}
use Rattle.format.specs.Lists.{onward}
use Rattle.format.specs.Requests.{short_at, requests_from, requests_in, short, run_bytes}
use Rattle.format.specs.Calls.{Answer, number_in, value_or, Filled, over}
use Rattle.format.specs.Runs.{Single, single_answer, Ran, singly, taken, edits_of, Numbered, numbers_told, numbered, run_answer, Call, stands_for, singles, run}
use Rattle.format.proofs.Encoding.{short_back}
use Rattle.format.proofs.Demand.{run-singly}

-- Reading

from-behind : (k : ℕ) (s : Bytes) → k ≤ length s → requests_from k s ≡ requests_from zero (drop k s)
from-behind zero s h = refl
from-behind (suc k) [] h = absurd (omega arith)
from-behind (suc k) (c ∷ s) h = from-behind k s (omega arith)

from_past : (k : ℕ) (s : Bytes) → length s < k → requests_from k s ≡ none
from_past zero s h = absurd (omega arith)
from_past (suc k) [] h = refl
from_past (suc k) (c ∷ s) h = from_past k s (omega arith)

-- a run of no bytes
pub requests-none : requests_in [] ≡ some []
unfolding requests_in
requests-none = refl

-- a request and what follows it
abbrev pub before : Bytes → Option (List Bytes) → Option (List Bytes)
before q x = onward (λ (qs : List Bytes). some (q ∷ qs)) x

pub requests-first : (s : Bytes) → 2 + short_at s ≤ length s → requests_in s ≡ before (take (short_at s) (drop 2 s)) (requests_in (drop (2 + short_at s) s))
unfolding requests_in
requests-first [] h = absurd (omega arith)
requests-first (c ∷ s) h =
    let n : ℕ = short_at (c ∷ s) in
    let q : Bytes = take n (drop 1 s) in
    let e : suc (suc n) ≡ 2 + n = omega arith in
    ap (before q) (from-behind (suc n) s (omega arith)) ∙ ap (λ (k : ℕ). before q (requests_from zero (drop k (c ∷ s)))) e

-- a length that is cut off, or that reaches past the end
pub requests-past : (c : ℕ) (s : Bytes) → length (c ∷ s) < 2 + short_at (c ∷ s) → requests_in (c ∷ s) ≡ none
unfolding requests_in
requests-past c s h = ap (before (take (short_at (c ∷ s)) (drop 1 s))) (from_past (suc (short_at (c ∷ s))) s (omega arith))

-- what is written as a run reads back as its requests
pub run-back : (qs : List Bytes) → requests_in (run_bytes qs) ≡ some qs
unfolding requests_in
run-back [] = refl
run-back (q ∷ qs) =
    let s : Bytes = q ++ run_bytes qs in
    let n : ℕ = short_at (short (length q)) in
    let e : n ≡ length q = short_back (length q) in
    let x : requests_from n s ≡ some qs = ap (λ (k : ℕ). requests_from k s) e ∙ from-behind (length q) s (simp length-append (omega arith)) ∙ ap (requests_from zero) (drop-append_seam q (run_bytes qs)) ∙ run-back qs in
    let w : take n s ≡ q = ap (λ (k : ℕ). take k s) e ∙ take-append_seam q (run_bytes qs) in
    rw (x, w)

-- What a run answers

-- "Buffer and answers are those of the same requests sent singly, in order, refused ones included"
pub run-taken : (buffer : Bytes) (used : ℕ) (s : Bytes) (old : List ℕ) (qs : List Bytes) → taken (length old) s ≡ some qs → let r : Ran = singly (map Single.edit qs) buffer used in
    run_answer buffer used s old ≡ record { result = Answer.value r.length; out = r.buffer; answers = over (numbers_told r.told) old }
unfolding run_answer
run-taken buffer used s old qs e = ap (λ (x : Option (List Bytes)). numbered x buffer used old) e

-- "Refused: 29, with the given length, .. nothing changed in buffer or answers"
pub run-refused : (buffer : Bytes) (used : ℕ) (s : Bytes) (old : List ℕ) → taken (length old) s ≡ none → run_answer buffer used s old ≡ record { result = Answer.refusal 29; out = buffer; answers = old }
unfolding run_answer singly
run-refused buffer used s old e = ap (λ (x : Option (List Bytes)). numbered x buffer used old) e

-- refused or not, the length after it and what it leaves are those of the call in a list, and its answers the numbers told there
pub run-leaves : (buffer : Bytes) (used : ℕ) (s : Bytes) (old : List ℕ) → let a : Numbered = run_answer buffer used s old in let r : Ran = singly (stands_for (Call.many (length old) s)) buffer used in
    ((value_or used a.result ≡ r.length) × (a.out ≡ r.buffer) × (a.answers ≡ over (numbers_told r.told) old))
unfolding run_answer singly
run-leaves buffer used s old = (length-of (taken (length old) s), refl, refl)
  where
    length-of : (x : Option (List Bytes)) → value_or used (numbered x buffer used old).result ≡ (singly (edits_of x) buffer used).length
    length-of none = refl
    length-of (some qs) = refl

-- "one number per request": the first is the first request's, and the others are those of the rest, sent to what it left
pub run-numbers : (e : Single) (es : List Single) (buffer : Bytes) (used : ℕ) → let a : Filled = single_answer e buffer used in
    numbers_told (singly (e ∷ es) buffer used).told ≡ number_in a.result ∷ numbers_told (singly es a.out (value_or used a.result)).told
unfolding singly
run-numbers e es buffer used = refl

-- wherever in a list a run comes, its requests may stand in its place, each a call of its own; none where it is refused
singles-append : (cs ds : List Call) → singles (cs ++ ds) ≡ singles cs ++ singles ds
singles-append [] ds = refl
singles-append (c ∷ cs) ds = ap (λ (es : List Single). stands_for c ++ es) (singles-append cs ds) ∙ sym (append_assoc (stands_for c) (singles cs) (singles ds))

singles-one : (es : List Single) → singles (map Call.one es) ≡ es
singles-one [] = refl
singles-one (e ∷ es) = ap {B = List Single} (λ fs. e ∷ fs) (singles-one es)

pub run-anywhere : (cs ds : List Call) (n : ℕ) (s : Bytes) (buffer : Bytes) (used : ℕ) → run (cs ++ (Call.many n s ∷ ds)) buffer used ≡ run (cs ++ (map Call.one (edits_of (taken n s)) ++ ds)) buffer used
run-anywhere cs ds n s buffer used =
    let es : List Single = edits_of (taken n s) in
    let one : singles (map Call.one es ++ ds) ≡ es ++ singles ds = singles-append (map Call.one es) ds ∙ ap (λ (fs : List Single). fs ++ singles ds) (singles-one es) in
    let e : singles (cs ++ (Call.many n s ∷ ds)) ≡ singles (cs ++ (map Call.one es ++ ds)) = singles-append cs (Call.many n s ∷ ds) ∙ ap (λ (fs : List Single). singles cs ++ fs) (sym one) ∙ sym (singles-append cs (map Call.one es ++ ds)) in
    run-singly (cs ++ (Call.many n s ∷ ds)) buffer used ∙ ap (λ (fs : List Single). singly fs buffer used) e ∙ sym (run-singly (cs ++ (map Call.one es ++ ds)) buffer used)
