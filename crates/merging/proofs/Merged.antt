-- The answer of a merge by what is appended first: if the sets then pass, the merge is accepted or refused with what stopped the front; if not, it is refused with the number of the sets where passing turns.
use Prim.Native.Nat.{ℕ, suc, ◌+◌, ◌<◌}
use mathlib.Core.Path.{◌≡◌, refl, ap, ◌∙◌}
use mathlib.Core.Bool.{true}
use mathlib.Core.List.{List}
use lib.Dec.{eqb}
use lib.ListN.{length, take}
use lib.Seq.{take-length}
use native.Mathlib.Omega.{arith}
use borrow.Author.Tests.{eq-eqb, ne_eqb}
use Rattle.format.specs.Bytes.{Bytes}
use Rattle.format.specs.Pieces.{bytes_of, read_of}
use Rattle.format.specs.Questions.{verdict}
use Rattle.format.specs.Plain.{Plain, plain_of, length_of}
use Rattle.format.specs.Calls.{Answer, sets_in, over}
use Rattle.merging.specs.Merging.{SpareRecord, records_of, is_skipped, spare_no, merge_answer}
use Rattle.merging.specs.Appending.{with_inserts, sets_no, Front, front_of}
use Rattle.merging.proofs.Singly.{merge-refused}
use Rattle.merging.proofs.Falling.{passes_after}
use Rattle.merging.proofs.Appending.{merge-turn, merge-passes, merge-stops}
use Rattle.merging.proofs.Granting.{records-filled}
use Rattle.merging.proofs.Fronts.{IsFront, front-is}

module _ (buffer : Bytes) (used : ℕ) (spare : Bytes) (n : ℕ) (v : verdict buffer used ≡ 0) (s : spare_no (sets_in buffer used) spare n ≡ 0) (most : ℕ) where
  abbrev main : Plain
  main = plain_of (read_of (take used buffer))

  abbrev pub merge_front : Front
  merge_front = front_of (length buffer) most (records_of (sets_in spare n)) (plain_of (read_of (take used buffer)))

  is : IsFront (length buffer) most (records_of (sets_in spare n)) (plain_of (read_of (take used buffer))) merge_front
  is = front-is (length buffer) (records_of (sets_in spare n)) (records-filled (read_of (take n spare))) most main

  refused : (k : ℕ) → (merge_answer buffer used spare n).result ≡ Answer.refusal k → merge_answer buffer used spare n ≡ record { result = Answer.refusal k; out = buffer }
  refused k e = λ i. record { result = e i; out = merge-refused buffer used spare n k e i }

  -- the sets after all of the front pass
  module _ (passes : sets_no (with_inserts merge_front.taken main) ≡ 0) where
    at-end : passes_after merge_front.taken main (length merge_front.taken) ≡ true
    at-end = ap (λ (xs : List SpareRecord). eqb (sets_no (with_inserts xs main)) 0) (take-length merge_front.taken) ∙ eq-eqb (sets_no (with_inserts merge_front.taken main)) 0 passes

    pub front-accepted : merge_front.number ≡ 0 → length merge_front.taken < most
        → merge_answer buffer used spare n ≡ record { result = Answer.value (length_of (with_inserts merge_front.taken main)); out = over (bytes_of (with_inserts merge_front.taken main).pieces) buffer }
    front-accepted z l = merge-passes is_skipped (λ x ss h. refl) buffer used spare n v s merge_front.taken is.rest is.cut is.granted at-end (is.ends z l)

    pub front-stopped : (k : ℕ) → merge_front.number ≡ suc k → merge_answer buffer used spare n ≡ record { result = Answer.refusal (suc k); out = buffer }
    front-stopped k z =
        let y = is.stops k z in
        refused (suc k) (merge-stops is_skipped (λ x ss h. refl) buffer used spare n v s merge_front.taken is.rest is.cut is.granted at-end y.0 y.1.0 y.1.1.0 k y.1.1.1)

  -- they pass after k of it and not after one more
  pub front-turned : (k j : ℕ) → k < length merge_front.taken → sets_no (with_inserts (take k merge_front.taken) main) ≡ 0 → sets_no (with_inserts (take (suc k) merge_front.taken) main) ≡ suc j
      → merge_answer buffer used spare n ≡ record { result = Answer.refusal (100 + suc j); out = buffer }
  front-turned k j l p f =
      refused (100 + suc j)
      (merge-turn is_skipped (λ x ss h. refl) buffer used spare n v s merge_front.taken is.rest is.cut is.granted k l
      (record { passes = eq-eqb (sets_no (with_inserts (take k merge_front.taken) main)) 0 p; fails = ap (λ (m : ℕ). eqb m 0) f ∙ ne_eqb (suc j) 0 (λ z. omega arith) })
      ∙ ap (λ (m : ℕ). Answer.refusal (100 + m)) f)
