-- Entries written one by one are the directory over the front of the list; so what the parts of a call do is what the call answers.
use Rattle.std.specs.Prelude.{◌≡◌, ℕ, zero, suc, ◌*◌, ◌^◌, ◌<◌, ◌≤◌, Bool, true, false, leb, List, [], ◌∷◌, ◌++◌, map, length, get_or, take, drop, set}
use mathlib.Core.Path.{refl, sym, ap, ◌∙◌, subst}
use Prim.Native.Nat.{zero-le}
use native.Mathlib.Nat.{not-suc-le-zero, le_of_suc-le-suc, le_of_lt}
use native.Mathlib.Omega.{arith}
use lib.ListN.{length-set}
use lib.Seq.{take_all}
use borrow.Author.Tests.{leb-true, lt-ltb, le-ltb}
use Rattle.format.specs.Bytes.{Bytes, pick}
use Rattle.format.specs.Questions.{verdict}
use Rattle.format.specs.Calls.{Answer, value, answer, answered, value_or, then_no, leaves, over, Filled}
use Rattle.format.specs.Directory.{fill_answer, Kept, kept_answer, count_at_answer}
use Rattle.std.specs.Prelude.{Result, Ok, Err}
use Rattle.std.specs.Result.{result_unwrap_or}
use Rattle.format.specs.declared.refusals.Refusal.{Refusal}
use Rattle.format.proofs.Refused.{value-told}
use Rattle.format.specs.declared.Entry.{Entry}
use Rattle.directory.specs.declared.inner.Done.{Done}
use Rattle.directory.specs.Blocks.{no_entry}
use Rattle.directory.specs.Rows.{list_of, entry_of, filled, Fillable, counted_in, Does}

-- ---- the list
-- the byte offset of an entry of a list fits
pub scaled : (n i : ℕ) → n * 24 < 2 ^ 63 → i < n → i * 24 < 2 ^ 64
scaled n i h l = omega arith

pub length-filled : (b : Bytes) (u : ℕ) (old : List Entry) (n : ℕ) → length (filled b u old n) ≡ length old
length-filled b u old zero = refl
length-filled b u old (suc n) = length-set (filled b u old n) n (entry_of b u n) ∙ length-filled b u old n

module _ {X : Type 0} (d : X) where
  one_more : (n : ℕ) (new old : List X) → n < length new → n < length old → set (take n new ++ drop n old) n (get_or new n d) ≡ take (suc n) new ++ drop (suc n) old
  one_more n [] old l k = absurd (not-suc-le-zero l)
  one_more n (x ∷ new) [] l k = absurd (not-suc-le-zero k)
  one_more zero (x ∷ new) (y ∷ old) l k = refl
  one_more (suc n) (x ∷ new) (y ∷ old) l k = ap (λ (ys : List X). x ∷ ys) (one_more n new old (le_of_suc-le-suc l) (le_of_suc-le-suc k))

  get_d_map : (f : X → ℕ) (xs : List X) (i : ℕ) → get_or (map f xs) i (f d) ≡ f (get_or xs i d)
  get_d_map f [] i = refl
  get_d_map f (x ∷ xs) zero = refl
  get_d_map f (x ∷ xs) (suc i) = get_d_map f xs i

filled-front : (b : Bytes) (u : ℕ) (old : List Entry) (n : ℕ) → n ≤ length (list_of b u) → n ≤ length old → filled b u old n ≡ take n (list_of b u) ++ drop n old
filled-front b u old zero l k = refl
filled-front b u old (suc n) l k = ap (λ (ys : List Entry). set ys n (entry_of b u n)) (filled-front b u old n (le_of_lt l) (le_of_lt k)) ∙ one_more no_entry n (list_of b u) old l k

filled-over : (b : Bytes) (u : ℕ) (old : List Entry) → length (list_of b u) ≤ length old → filled b u old (length (list_of b u)) ≡ over (list_of b u) old
filled-over b u old k = filled-front b u old (length (list_of b u)) (omega arith) k ∙ ap (λ (s : List Entry). s ++ drop (length (list_of b u)) old) (take_all (length (list_of b u)) (list_of b u) (omega arith))

-- ---- how many entries are written
module _ (b : Bytes) (u m : ℕ) where
  abbrev sets : ℕ
  sets = length (list_of b u)

  counted-fillable : (v : ℕ) → verdict b u ≡ v → (t : Bool) → leb sets m ≡ t → Fillable b u (value_or 0 (answer (then_no v (pick t 0 28)) sets)) m
  counted-fillable zero v true t = (leb-true sets m t, λ k l. (v, l))
  counted-fillable zero v false t = (zero-le, λ k l. absurd (not-suc-le-zero l))
  counted-fillable (suc n) v t e = (zero-le, λ k l. absurd (not-suc-le-zero l))

  pub fillable : (n : ℕ) → n ≡ value_or 0 (counted_in b u m) → Fillable b u n m
  fillable n e = subst (λ (k : ℕ). Fillable b u k m) (sym e) (counted-fillable (verdict b u) refl (leb sets m) refl)

module _ (b : Bytes) (u : ℕ) (old : List Entry) where
  counted-leaves : (v : ℕ) (t : Bool) → leb (length (list_of b u)) (length old) ≡ t
      → filled b u old (value_or 0 (answer (then_no v (pick t 0 28)) (length (list_of b u)))) ≡ leaves (answer (then_no v (pick t 0 28)) (length (list_of b u))) (over (list_of b u) old) old
  counted-leaves zero true t = filled-over b u old (leb-true (length (list_of b u)) (length old) t)
  counted-leaves zero false t = refl
  counted-leaves (suc n) t e = refl

  filled-answer : filled b u old (value_or 0 (counted_in b u (length old))) ≡ (fill_answer b u old).entries
  unfolding fill_answer
  filled-answer = counted-leaves (verdict b u) (leb (length (list_of b u)) (length old)) refl

  -- ---- what the calls answer
  pub fill_done : (r : Result ℕ Refusal) (n : ℕ) (new : List Entry) → answered r ≡ counted_in b u (length old) → n ≡ result_unwrap_or r 0 → new ≡ filled b u old n → record { result = answered r; entries = new } ≡ fill_answer b u old
  unfolding fill_answer
  fill_done r n new e k f = λ i. record { result = e i; entries = (f ∙ ap (filled b u old) (k ∙ value-told 0 r ∙ ap (value_or 0) e) ∙ filled-answer) i }

abbrev kept : Answer → Bytes → List Entry → Kept
kept a out es = record { result = a; out = out; entries = es }

pub edit-done : (b : Bytes) (u : ℕ) (q b' : Bytes) (old : List Entry) (d : Done) (new : List Entry) → Does b u q (length old) b' d → new ≡ filled b' d.used old d.sets
    → record { result = answered d.answer; out = b'; entries = new } ≡ kept_answer b u q old
unfolding kept_answer
edit-done b u q b' old d new does f =
    let es : new ≡ (fill_answer b' (value_or u (answered d.answer)) old).entries = f ∙ ap (filled b' d.used old) does.2 ∙ filled-answer b' d.used old ∙ ap (λ (k : ℕ). (fill_answer b' k old).entries) does.1 in
    ap (λ (l : List Entry). kept (answered d.answer) b' l) es ∙ ap (λ (g : Filled). kept g.result g.out (fill_answer g.out (value_or u g.result) old).entries) does.0

-- ---- the count at a position
module _ (es : List Entry) (i : ℕ) where
  pub count-there : i < length es → answered (Ok (get_or es i no_entry).count) ≡ count_at_answer es i
  unfolding count_at_answer
  count-there l = ap value (sym (get_d_map no_entry (λ (e : Entry). e.count) es i)) ∙ sym (ap (λ (t : Bool). answer (pick t 0 21) (get_or (map (λ (e : Entry). e.count) es) i 0)) (lt-ltb i (length es) l))

  pub count_past : length es ≤ i → answered (Err Refusal.Set) ≡ count_at_answer es i
  unfolding count_at_answer
  count_past l = sym (ap (λ (t : Bool). answer (pick t 0 21) (get_or (map (λ (e : Entry). e.count) es) i 0)) (le-ltb i (length es) l))
