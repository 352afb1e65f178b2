-- A list of calls with merges in it leaves what the edits leave that it stands for, sent singly, and so meets demand 3. A merge of a spare without records changes nothing.
use Prim.Native.Nat.{ℕ}
use mathlib.Core.Path.{◌≡◌, refl, sym, ap, ◌∙◌, subst}
use mathlib.Core.List.{List, [], ◌∷◌}
use lib.ListN.{length, take}
use Rattle.format.specs.Bytes.{Bytes}
use Rattle.format.specs.Pieces.{read_of}
use Rattle.format.specs.Questions.{verdict}
use Rattle.format.specs.Plain.{Plain, plain_of}
use Rattle.format.specs.Calls.{Answer, value_or, then_no, sets_in, Filled, leaves}
use Rattle.format.specs.Runs.{Single, Ran, singly, plain_run, then_ran}
use Rattle.format.specs.Demand.{Demand}
use Rattle.format.proofs.Demand.{edits-meet-demand, singly-append}
use Rattle.merging.specs.Merging.{records_of, records_answer, spare_no, unless_no, merge_answer, merge_inserts, MergeCall, edits_of, call_ran, calls_ran, edits_in}
use Rattle.merging.proofs.Singly.{merge-accepted, merge-refused}

-- A spare that passes, has no set that the main file lacks, and has no record.
pub merge-nothing : (buffer : Bytes) (used : ℕ) (spare : Bytes) (n : ℕ) → verdict buffer used ≡ 0 → spare_no (sets_in buffer used) spare n ≡ 0 → records_of (sets_in spare n) ≡ [] → merge_answer buffer used spare n ≡ record { result = Answer.value used; out = buffer }
unfolding merge_answer records_answer
merge-nothing buffer used spare n v s e =
    λ i. let a : Filled = records_answer (e i) buffer used in let r : Answer = unless_no (then_no (v i) (s i)) a.result in record { result = r; out = leaves r a.out buffer }

-- one call

refused-singly : (buffer : Bytes) (used : ℕ) (spare : Bytes) (n k : ℕ) → (merge_answer buffer used spare n).result ≡ Answer.refusal k
    → record { told = (singly [] buffer used).told; length = used; buffer = (merge_answer buffer used spare n).out } ≡ singly [] buffer used
unfolding singly
refused-singly buffer used spare n k e = λ i. record { told = []; length = used; buffer = merge-refused buffer used spare n k e i }

merge-singly : (buffer : Bytes) (used : ℕ) (spare : Bytes) (n : ℕ) → call_ran (MergeCall.merge spare n) buffer used ≡ singly (edits_of (MergeCall.merge spare n) buffer used) buffer used
merge-singly buffer used spare n = go (merge_answer buffer used spare n).result refl
  where
    accepted : (m : ℕ) → (merge_answer buffer used spare n).result ≡ Answer.value m
        → record { told = (singly (merge_inserts buffer used spare n) buffer used).told; length = m; buffer = (merge_answer buffer used spare n).out } ≡ singly (merge_inserts buffer used spare n) buffer used
    accepted m e = let g = merge-accepted buffer used spare n m e in λ i. record { told = (singly (merge_inserts buffer used spare n) buffer used).told; length = sym g.inserts.length i; buffer = sym g.inserts.buffer i }

    go : (a : Answer) → (merge_answer buffer used spare n).result ≡ a
        → let es : List Single = leaves a (merge_inserts buffer used spare n) [] in record { told = (singly es buffer used).told; length = value_or used a; buffer = (merge_answer buffer used spare n).out } ≡ singly es buffer used
    go (Answer.value m) e = accepted m e
    go (Answer.refusal k) e = refused-singly buffer used spare n k e

pub call-singly : (c : MergeCall) (buffer : Bytes) (used : ℕ) → call_ran c buffer used ≡ singly (edits_of c buffer used) buffer used
call-singly (MergeCall.call c) buffer used = refl
call-singly (MergeCall.merge spare n) buffer used = merge-singly buffer used spare n

-- a list of them
pub calls-singly : (cs : List MergeCall) (buffer : Bytes) (used : ℕ) → calls_ran cs buffer used ≡ singly (edits_in cs buffer used) buffer used
unfolding calls_ran edits_in singly
calls-singly [] buffer used = refl
calls-singly (c ∷ cs) buffer used =
    let r : Ran = call_ran c buffer used in
    let es : List Single = edits_in cs r.buffer r.length in
    ap (then_ran r) (calls-singly cs r.buffer r.length)
    ∙ ap (λ (q : Ran). then_ran q (singly es q.buffer q.length)) (call-singly c buffer used)
    ∙ sym (singly-append (edits_of c buffer used) es buffer used)

-- A file that passes, and any list of calls: edits, runs of requests, merges, accepted or refused.
pub merges-meet-demand : (buffer : Bytes) (used : ℕ) (cs : List MergeCall) → verdict buffer used ≡ 0
    → let first : Plain = plain_of (read_of (take used buffer)) in let edits : List Single = edits_in cs buffer used in Demand buffer used first edits (calls_ran cs buffer used) (plain_run (length buffer) edits first used)
merges-meet-demand buffer used cs v =
    let first : Plain = plain_of (read_of (take used buffer)) in
    let edits : List Single = edits_in cs buffer used in
    subst (λ (r : Ran). Demand buffer used first edits r (plain_run (length buffer) edits first used)) (sym (calls-singly cs buffer used)) (edits-meet-demand buffer used edits v)
