-- What a merge that appends first and judges once may answer. The records that are not skipped are granted by 20 to 26 up to one that is not; if the sets after the granted ones pass, the merge ends there; if not, halving finds the first refused insert, and the sets after it have its number.
use Prim.Native.Nat.{ℕ, zero, suc, ◌+◌, ◌-◌, ◌≤◌, ◌<◌, max}
use native.Mathlib.Omega.{arith}
use mathlib.Core.Path.{◌≡◌, refl, sym, ap, ◌∙◌, subst}
use mathlib.Core.Bool.{Bool, true, false, false≢true}
use mathlib.Core.List.{List, [], ◌∷◌, ◌++◌, map}
use lib.Dec.{eqb}
use lib.ListN.{length, take, drop, replicate}
use Rattle.format.specs.Bytes.{Bytes, pick}
use Rattle.format.specs.Lists.{is_filled}
use Rattle.format.specs.Pieces.{bytes_of, read_of}
use Rattle.format.specs.Sets.{RecSet}
use Rattle.format.specs.Numbers.{int_bounds}
use Rattle.format.specs.Questions.{Row, first_no, ask_of, limit_rows, rule_rows, verdict}
use Rattle.format.specs.Plain.{Plain, plain_of, length_of, Asked, raised, Step, step_by, step}
use Rattle.format.specs.Calls.{Answer, number_in, value_or, then_no, sets_in, Filled, leaves, over, edit_answer}
use Rattle.format.specs.Runs.{Single}
use Rattle.format.proofs.Elements.{Each}
use Rattle.format.proofs.Questions.{Yes, asked}
use Rattle.format.proofs.Results.{raised_no}
use Rattle.format.proofs.Passing.{SetsPass, verdict-read, Holds, holds-start, holds-sets}
use Rattle.format.proofs.Running.{Stands, stands-start, stands-length, single-stands, single-told}
use Rattle.spoiling.proofs.Passing.{AllPass, sets-passing}
use Rattle.merging.specs.Merging.{SpareRecord, records_of, insert_for, request_for, is_skipped, answer_unless, then_answer, records_answer, spare_no, unless_no, merge_answer}
use Rattle.merging.specs.Appending.{with_insert, with_inserts, inserted_unless, left_unless, left_by, sets_no, count_until, accepted_count, two_to, halving}
use Rattle.merging.proofs.Singly.{IsRaised, edit-raised}
use Rattle.merging.proofs.Falling.{grant_rows, Granted, AllGranted, questions_of, granted-step, passes_after, passing-falls-once, all_pass, refused-turn, halving-finds}
use Rattle.merging.proofs.Halving.{FallsOnce, Turns, one-turn, behind-turn}
use Rattle.merging.proofs.Again.{sets-held}
use Rattle.merging.proofs.Granting.{insert-length}

-- a granted insert has the number of the sets after it, raised by 100

behind-yes : {A : Type 0} (rs ts : List (Row A)) (a : A) → Each (Yes a) rs → first_no (rs ++ ts) a ≡ first_no ts a
behind-yes [] ts a h = refl
behind-yes (r ∷ rs) ts a h = ap (λ (t : Bool). pick t (first_no (rs ++ ts) a) r.number) h.0 ∙ behind-yes rs ts a h.1

raised_by : (t : Bool) (n k : ℕ) → 0 < k → pick t (raised_no n) (100 + k) ≡ raised_no (pick t n k)
raised_by true n k h = refl
raised_by false n zero h = absurd (omega arith)
raised_by false n (suc k) h = refl

raised-first : {A B : Type 0} (f : A → B) (a : A) (rs : List (Row B)) → Each (λ (r : Row B). 0 < r.number) rs → first_no (ask_of f (map raised rs)) a ≡ raised_no (first_no rs (f a))
raised-first f a [] h = refl
raised-first f a (r ∷ rs) h = ap (λ (n : ℕ). pick (r.asks (f a)) n (100 + r.number)) (raised-first f a rs h.1) ∙ raised_by (r.asks (f a)) (first_no rs (f a)) r.number h.0

numbered : Each (λ (r : Row (List RecSet)). 0 < r.number) (limit_rows ++ rule_rows int_bounds)
numbered = (omega arith, (omega arith, (omega arith, (omega arith, (omega arith, (omega arith, (omega arith, (omega arith, (omega arith, tt)))))))))

let-in-number : (room : ℕ) (x : SpareRecord) (p : Plain) → Granted room x p → questions_of room x p ≡ raised_no (sets_no (with_insert x p))
let-in-number room x p l =
    let results : Asked → List RecSet = λ (a : Asked). a.result.sets in
    let rows : List (Row (List RecSet)) = limit_rows ++ rule_rows int_bounds in
    let a : Asked = asked room p (insert_for x) in
    behind-yes grant_rows (ask_of results (map raised rows)) a l.yes ∙ raised-first results a rows numbered

granted-made : (room : ℕ) (x : SpareRecord) (p : Plain) → Granted room x p → step room p (request_for x) ≡ step_by (raised_no (sets_no (with_insert x p))) p (with_insert x p)
granted-made room x p l = granted-step room x p l ∙ ap (λ (n : ℕ). step_by n p (with_insert x p)) (let-in-number room x p l)

-- the first number of several
abbrev refusal_of : List SpareRecord → Plain → ℕ
refusal_of [] p = 0
refusal_of (x ∷ xs) p = then_no (raised_no (sets_no (with_insert x p))) (refusal_of xs (with_insert x p))

-- by the sets after the first refused one
record NumberTold (xs : List SpareRecord) (p : Plain) (k : ℕ) : Type 0 where
  some-no : k < length xs → refusal_of xs p ≡ raised_no (sets_no (with_inserts (take (suc k) xs) p))
  none-no : k ≡ length xs → refusal_of xs p ≡ 0

told-cons : (room : ℕ) (x : SpareRecord) (xs : List SpareRecord) (p : Plain) → NumberTold xs (with_insert x p) (accepted_count room xs (with_insert x p)) → (n : ℕ) → raised_no (sets_no (with_insert x p)) ≡ n → NumberTold (x ∷ xs) p (let s : Step = step_by n p (with_insert x p) in count_until s.number (accepted_count room xs s.file))
told-cons room x xs p ih zero e =
    let first : refusal_of (x ∷ xs) p ≡ refusal_of xs (with_insert x p) = ap (λ (n : ℕ). then_no n (refusal_of xs (with_insert x p))) e in
    record { some-no = λ l. first ∙ ih.some-no (omega arith); none-no = λ l. first ∙ ih.none-no (omega arith) }
told-cons room x xs p ih (suc k) e = record { some-no = λ l. ap (λ (n : ℕ). then_no n (refusal_of xs (with_insert x p))) e ∙ sym e; none-no = λ l. absurd (omega arith) }

told : (room : ℕ) (xs : List SpareRecord) (p : Plain) → AllGranted room xs p → NumberTold xs p (accepted_count room xs p)
unfolding accepted_count
told room [] p l = record { some-no = λ h. absurd (omega arith); none-no = λ h. refl }
told room (x ∷ xs) p l =
    subst (λ (s : Step). NumberTold (x ∷ xs) p (count_until s.number (accepted_count room xs s.file))) (sym (granted-made room x p l.0))
    (told-cons room x xs p (told room xs (with_insert x p) l.1) (raised_no (sets_no (with_insert x p))) refl)

-- the records of a spare end on a buffer as those that are left end on its plain file

answer-value : (a : Answer) (used : ℕ) → IsRaised a → number_in a ≡ 0 → a ≡ Answer.value (value_or used a)
answer-value (Answer.value n) used h e = refl
answer-value (Answer.refusal k) used h e = absurd (omega arith)

answer-refusal : (a : Answer) (k : ℕ) → number_in a ≡ suc k → a ≡ Answer.refusal (suc k)
answer-refusal (Answer.value n) k e = absurd (omega arith)
answer-refusal (Answer.refusal j) k e = ap (λ (n : ℕ). Answer.refusal n) e

-- the first of a list, and the others
abbrev head_or : SpareRecord → List SpareRecord → SpareRecord
head_or d [] = d
head_or d (x ∷ xs) = x

abbrev tail_of : List SpareRecord → List SpareRecord
tail_of [] = []
tail_of (x ∷ xs) = xs

raised-some : (n : ℕ) → eqb n 0 ≡ false → raised_no n ≡ 100 + n
raised-some zero e = absurd (false≢true (sym e))
raised-some (suc n) e = refl

-- a place where a test passes that falls once is below one where it fails
turn-less : (fs : List SpareRecord) (test : ℕ → Bool) (k : ℕ) → test k ≡ true → test (length fs) ≡ false → FallsOnce test → k < length fs
turn-less fs test k p f falls = let no : length fs ≤ k → ⊥ = λ l. false≢true (sym f ∙ falls (length fs) k l p) in omega (arith, no)

-- For any test that tells of sets that pass what is skipped: `is_skipped`, and `is_skipped_by_key`.
module _ (skips : SpareRecord → List RecSet → Bool) (agrees : (x : SpareRecord) (ss : List RecSet) → SetsPass ss → is_skipped x ss ≡ skips x ss) where
  skipped : (start : Bytes) (most : ℕ) (buffer : Bytes) (used : ℕ) (p : Plain) → Stands start most buffer used p → (x : SpareRecord) → skips x p.sets ≡ is_skipped x (sets_in buffer used)
  skipped start most buffer used p st x = sym (agrees x p.sets (holds-sets buffer used p st.holds)) ∙ ap (is_skipped x) (sym (sets-held buffer used p st.holds))

  -- where the granted ones are accepted, other records follow, of which the remaining ones are left
  record Remaining (start : Bytes) (a : Filled) (rest : List SpareRecord) (q : Plain) : Type 0 where
    others : List SpareRecord
    buffer : Bytes
    used : ℕ
    stands : Stands start used buffer used q
    goes : a ≡ records_answer others buffer used
    leaves-rest : left_by skips others q ≡ rest

  record Reaches (start : Bytes) (k : ℕ) (a : Filled) (rest : List SpareRecord) (q : Plain) : Type 0 where
    reaches : k ≡ 0 → Remaining start a rest q
    refused : (j : ℕ) → k ≡ suc j → a.result ≡ Answer.refusal (suc j)

  abbrev AllReach : Bytes → List SpareRecord → Type 0
  AllReach start xs =
      (fs rest : List SpareRecord) (buffer : Bytes) (used : ℕ) (p : Plain) → Stands start used buffer used p → left_by skips xs p ≡ fs ++ rest → AllGranted (length start) fs p
      → Reaches start (refusal_of fs p) (records_answer xs buffer used) rest (with_inserts fs p)

  -- a record that is not skipped
  module _ (start : Bytes) (x : SpareRecord) (buffer : Bytes) (used : ℕ) (p : Plain) (st : Stands start used buffer used p) where
    abbrev edit : Filled
    edit = edit_answer buffer used (request_for x)

    abbrev next : Plain
    next = with_insert x p

    edit-refused : (k : ℕ) → (step (length start) p (request_for x)).number ≡ suc k → (edit_answer buffer used (request_for x)).result ≡ Answer.refusal (suc k)
    edit-refused k e = answer-refusal edit.result k (single-told start used buffer used p st (Single.edit (request_for x)) ∙ e)

    module _ (xs fs rest : List SpareRecord) (ih : AllReach start xs) (l : Granted (length start) x p) (e : left_by skips xs (with_insert x p) ≡ fs ++ rest) (h : AllGranted (length start) fs (with_insert x p)) where
      made : (k : ℕ) → raised_no (sets_no (with_insert x p)) ≡ k → step (length start) p (request_for x) ≡ step_by k p (with_insert x p)
      made k z = granted-made (length start) x p l ∙ ap (λ (n : ℕ). step_by n p (with_insert x p)) z

      edit-reached : (k : ℕ) → raised_no (sets_no (with_insert x p)) ≡ k
          → Reaches start (then_no k (refusal_of fs (with_insert x p))) (then_answer (edit_answer buffer used (request_for x)).result (edit_answer buffer used (request_for x)).out (records_answer xs)) rest (with_inserts fs (with_insert x p))
      edit-reached zero z =
          let m : ℕ = value_or used edit.result in
          let s : Step = step (length start) p (request_for x) in
          let v : edit.result ≡ Answer.value m = answer-value edit.result used (edit-raised buffer used (request_for x)) (single-told start used buffer used p st (Single.edit (request_for x)) ∙ ap (λ (y : Step). y.number) (made 0 z)) in
          let on : Stands start (max used (length_of next)) edit.out m next = subst (λ (q : Plain). Stands start (max used (length_of q)) edit.out m q) (ap (λ (y : Step). y.file) (made 0 z)) (single-stands start used buffer used p st (Single.edit (request_for x))) in
          let grows : max used (length_of next) ≡ m = omega (arith, stands-length start (max used (length_of next)) edit.out m next on, stands-length start used buffer used p st, insert-length x p) in
          subst (λ (a : Answer). Reaches start (refusal_of fs next) (then_answer a edit.out (records_answer xs)) rest (with_inserts fs next)) (sym v) (ih fs rest edit.out m next (subst (λ (k : ℕ). Stands start k edit.out m next) grows on) e h)
      edit-reached (suc k) z =
          let r : edit.result ≡ Answer.refusal (suc k) = edit-refused k (ap (λ (y : Step). y.number) (made (suc k) z)) in
          record {
            reaches = λ w. absurd (omega arith);
            refused = λ j w. ap (λ (a : Answer). (then_answer a edit.out (records_answer xs)).result) r ∙ ap (λ (n : ℕ). Answer.refusal n) w;
          }

  records-reach : (start : Bytes) (xs fs rest : List SpareRecord) (buffer : Bytes) (used : ℕ) (p : Plain) → Stands start used buffer used p → left_by skips xs p ≡ fs ++ rest → AllGranted (length start) fs p
      → Reaches start (refusal_of fs p) (records_answer xs buffer used) rest (with_inserts fs p)
  unfolding records_answer
  records-reach start [] [] rest buffer used p st e l = record { reaches = λ z. record { others = []; buffer = buffer; used = used; stands = st; goes = refl; leaves-rest = e }; refused = λ j z. absurd (omega arith) }
  records-reach start (x ∷ xs) [] rest buffer used p st e l = record { reaches = λ z. record { others = x ∷ xs; buffer = buffer; used = used; stands = st; goes = refl; leaves-rest = e }; refused = λ j z. absurd (omega arith) }
  records-reach start [] (f ∷ fs) rest buffer used p st e l = absurd (false≢true (ap is_filled e))
  records-reach start (x ∷ xs) (f ∷ fs) rest buffer used p st e l =
      subst (λ (t : Bool). Reaches start (refusal_of (f ∷ fs) p) (then_answer (answer_unless t x buffer used).result (answer_unless t x buffer used).out (records_answer xs)) rest (with_inserts (f ∷ fs) p))
      (skipped start used buffer used p st x) (go (skips x p.sets) (records-reach start xs) e)
    where
      go : (t : Bool) → AllReach start xs → left_unless t x (left_by skips xs (inserted_unless t x p)) ≡ f ∷ (fs ++ rest)
          → Reaches start (refusal_of (f ∷ fs) p) (then_answer (answer_unless t x buffer used).result (answer_unless t x buffer used).out (records_answer xs)) rest (with_inserts (f ∷ fs) p)
      go true ih k = ih (f ∷ fs) rest buffer used p st k l
      go false ih k =
          let same_head : x ≡ f = ap (head_or x) k in
          let h : AllGranted (length start) (x ∷ fs) p = subst (λ (y : SpareRecord). AllGranted (length start) (y ∷ fs) p) (sym same_head) l in
          subst (λ (y : SpareRecord). Reaches start (refusal_of (y ∷ fs) p) (then_answer (answer_unless false x buffer used).result (answer_unless false x buffer used).out (records_answer xs)) rest (with_inserts (y ∷ fs) p)) same_head
          (edit-reached start x buffer used p st xs fs rest ih h.0 (ap tail_of k) h.1 (raised_no (sets_no (with_insert x p))) refl)

  -- the records that follow are all skipped, or the first that is not has the number of its step
  abbrev RemainingEnds : Bytes → Filled → List SpareRecord → Bytes → ℕ → Plain → Type 0
  RemainingEnds start a [] buffer used q = a ≡ record { result = Answer.value used; out = buffer }
  RemainingEnds start a (y ∷ ys) buffer used q = (c : ℕ) → (step (length start) q (request_for y)).number ≡ suc c → a.result ≡ Answer.refusal (suc c)

  remaining-end : (start : Bytes) (xs : List SpareRecord) (buffer : Bytes) (used : ℕ) (q : Plain) → Stands start used buffer used q → RemainingEnds start (records_answer xs buffer used) (left_by skips xs q) buffer used q
  unfolding records_answer
  remaining-end start [] buffer used q st = refl
  remaining-end start (x ∷ xs) buffer used q st =
      subst (λ (t : Bool). RemainingEnds start (then_answer (answer_unless t x buffer used).result (answer_unless t x buffer used).out (records_answer xs)) (left_by skips (x ∷ xs) q) buffer used q)
      (skipped start used buffer used q st x) (go (skips x q.sets) (remaining-end start xs buffer used q st))
    where
      go : (t : Bool) → RemainingEnds start (records_answer xs buffer used) (left_by skips xs q) buffer used q
          → RemainingEnds start (then_answer (answer_unless t x buffer used).result (answer_unless t x buffer used).out (records_answer xs)) (left_unless t x (left_by skips xs (inserted_unless t x q))) buffer used q
      go true ih = ih
      go false ih = λ c e. ap (λ (a : Answer). (then_answer a (edit_answer buffer used (request_for x)).out (records_answer xs)).result) (edit-refused start x buffer used q st c e)

  -- A main file that passes, a spare that passes and has no other sets, and a granted front of the records that are not skipped.
  module _ (buffer : Bytes) (used : ℕ) (spare : Bytes) (n : ℕ) (v : verdict buffer used ≡ 0) (s : spare_no (sets_in buffer used) spare n ≡ 0) where
    -- the main file as it reads; the records that are not skipped
    abbrev pub main : Plain
    main = plain_of (read_of (take used buffer))

    abbrev pub left : List SpareRecord
    left = left_by skips (records_of (sets_in spare n)) main

    holds : Holds buffer used (plain_of (read_of (take used buffer)))
    holds = holds-start buffer used (read_of (take used buffer)) v (verdict-read buffer used v)

    passing : AllPass int_bounds (plain_of (read_of (take used buffer))).sets
    passing = sets-passing main.sets (holds-sets buffer used main holds)

    merge-result : (merge_answer buffer used spare n).result ≡ (records_answer (records_of (sets_in spare n)) buffer used).result
    unfolding merge_answer
    merge-result = (λ i. unless_no (then_no (v i) (s i)) (records_answer (records_of (sets_in spare n)) buffer used).result)

    merge-out : (m : ℕ) → (merge_answer buffer used spare n).result ≡ Answer.value m → (merge_answer buffer used spare n).out ≡ (records_answer (records_of (sets_in spare n)) buffer used).out
    unfolding merge_answer
    merge-out m e = ap (λ (r : Answer). leaves r (records_answer (records_of (sets_in spare n)) buffer used).out buffer) e

    module _ (fs rest : List SpareRecord) (cut : left ≡ fs ++ rest) (l : AllGranted (length buffer) fs main) where
      reached : Reaches buffer (refusal_of fs main) (records_answer (records_of (sets_in spare n)) buffer used) rest (with_inserts fs main)
      reached = records-reach buffer (records_of (sets_in spare n)) fs rest buffer used main (stands-start buffer used main holds) cut l

      -- If the sets do not pass after one record more than k, and do after k, the number is that of the sets after that one, raised by 100.
      pub merge-turn : (k : ℕ) → k < length fs → Turns (passes_after fs main) k → (merge_answer buffer used spare n).result ≡ Answer.refusal (100 + sets_no (with_inserts (take (suc k) fs) main))
      merge-turn k less f =
          let room : ℕ = length buffer in
          let falls = passing-falls-once room fs main passing l in
          let fails : passes_after fs main (length fs) ≡ false = behind-turn (passes_after fs main) falls k f (length fs) less in
          let at-k : accepted_count room fs main ≡ k = one-turn (passes_after fs main) falls (accepted_count room fs main) k (refused-turn room fs main passing l fails) f in
          let no : ℕ = sets_no (with_inserts (take (suc k) fs) main) in
          let number : refusal_of fs main ≡ 100 + no =
          (told room fs main l).some-no (omega (arith, at-k)) ∙ ap (λ (m : ℕ). raised_no (sets_no (with_inserts (take (suc m) fs) main))) at-k ∙ raised-some no f.fails in
          merge-result ∙ reached.refused (99 + no) (omega (arith, number)) ∙ ap (λ (m : ℕ). Answer.refusal m) (omega arith)

      -- So it is where halving finds.
      pub merge-halves : (turns : ℕ) → length fs ≤ two_to turns → passes_after fs main (length fs) ≡ false
          → (merge_answer buffer used spare n).result ≡ Answer.refusal (100 + sets_no (with_inserts (take (suc (halving turns (passes_after fs main) 0 (length fs))) fs) main))
      merge-halves turns w e =
          let k : ℕ = halving turns (passes_after fs main) 0 (length fs) in
          let f : Turns (passes_after fs main) k = subst (Turns (passes_after fs main)) (sym (halving-finds (length buffer) fs main passing l turns w e)) (refused-turn (length buffer) fs main passing l e) in
          merge-turn k (turn-less fs (passes_after fs main) k f.passes e (passing-falls-once (length buffer) fs main passing l)) f

      module _ (e : passes_after fs main (length fs) ≡ true) where
        comes : Remaining buffer (records_answer (records_of (sets_in spare n)) buffer used) rest (with_inserts fs main)
        comes = reached.reaches ((told (length buffer) fs main l).none-no (all_pass (length buffer) fs main passing l e))

        ends : RemainingEnds buffer (records_answer (records_of (sets_in spare n)) buffer used) rest comes.buffer comes.used (with_inserts fs main)
        ends =
            let c = comes in
            let q : Plain = with_inserts fs main in
            subst (λ (a : Filled). RemainingEnds buffer a rest c.buffer c.used q) (sym c.goes)
            (subst (λ (ys : List SpareRecord). RemainingEnds buffer (records_answer c.others c.buffer c.used) ys c.buffer c.used q) c.leaves-rest (remaining-end buffer c.others c.buffer c.used q c.stands))

        -- If they pass and none remains, the merge is accepted, and the file is what all of them make of the main file.
        pub merge-passes : rest ≡ [] → merge_answer buffer used spare n ≡ record { result = Answer.value (length_of (with_inserts fs main)); out = over (bytes_of (with_inserts fs main).pieces) buffer }
        merge-passes none_left =
            let c = comes in
            let q : Plain = with_inserts fs main in
            let a = subst (λ (ys : List SpareRecord). RemainingEnds buffer (records_answer (records_of (sets_in spare n)) buffer used) ys c.buffer c.used q) none_left ends in
            let sized : c.used ≡ length_of q = stands-length buffer c.used c.buffer c.used q c.stands in
            let r : (merge_answer buffer used spare n).result ≡ Answer.value (length_of q) = merge-result ∙ ap (λ (x : Filled). x.result) a ∙ ap (λ (m : ℕ). Answer.value m) sized in
            let o : (merge_answer buffer used spare n).out ≡ c.buffer = merge-out (length_of q) r ∙ ap (λ (x : Filled). x.out) a in
            let t : Bytes = bytes_of q.pieces in
            let z : c.used - length t ≡ 0 = omega (arith, c.stands.uses) in
            let b : c.buffer ≡ over t buffer = c.stands.bytes ∙ (λ i. t ++ (replicate (z i) 0 ++ drop (c.stands.uses i) buffer)) in
            (λ i. record { result = r i; out = (o ∙ b) i })

        -- If they pass and the next one is refused, its number is the merge's.
        pub merge-stops : (y : SpareRecord) (ys : List SpareRecord) → rest ≡ y ∷ ys → (k : ℕ) → (step (length buffer) (with_inserts fs main) (request_for y)).number ≡ suc k → (merge_answer buffer used spare n).result ≡ Answer.refusal (suc k)
        merge-stops y ys next-is k z =
            let c = comes in
            merge-result ∙ subst (λ (zs : List SpareRecord). RemainingEnds buffer (records_answer (records_of (sets_in spare n)) buffer used) zs c.buffer c.used (with_inserts fs main)) next-is ends k z
