-- The verdict of a text from its stages.
use Prim.Native.Nat.{ℕ, ◌+◌, ◌≤◌, ◌<◌}
use native.Mathlib.Omega.{arith}
use mathlib.Core.Path.{◌≡◌, refl, sym, ap, ◌∙◌}
use mathlib.Core.Bool.{Bool, true, false, ◌&&◌, ◌||◌, not, beq, and_assoc, and-true, and-eq-true_iff, true≢false}
use mathlib.Core.List.{List, [], ◌∷◌}
use mathlib.Core.Option.{Option, none, some}
use lib.Dec.{leb, eqb}
use lib.ListN.{length, take, drop, get_or, drop_of_length-le}
use borrow.Author.Tests.{leb-true}
use Rattle.format.proofs.Records.{records}
use Rattle.format.specs.Bytes.{Bytes, pick, is_allowed, all, is_some}
use Rattle.format.specs.Lines.{is_ended}
use Rattle.format.specs.Pieces.{Piece, pieces, read_of}
use Rattle.format.specs.Numbers.{int_bounds}
use Rattle.format.specs.Records.{Record}
use Rattle.format.specs.Limits.{file_bytes, descriptors}
use Rattle.format.specs.Questions.{fits_record, fits_rules}
use Rattle.format.specs.Calls.{check_answer}
use Rattle.format.specs.Refusals.{question_no}
use Rattle.format.specs.declared.refusals.Question.{Question}
use Rattle.format.proofs.Table.{each-byte}
use Rattle.format.proofs.Judging.{read_no, text_no, verdict-text}
use Rattle.format.proofs.Walking.{is_head, heads, walk_fits, walk_once, walk_well, walk_types, walk_no, records_no, text-walk}
use Rattle.lines.proofs.Cuts.{at-cons}
use Rattle.records.specs.Places.{is_readable}
use Rattle.limits.specs.Bounds.{bounds_no}
use Rattle.rules.proofs.Leasts.{some-no}
use Rattle.records.proofs.Readings.{readable-pieces}

-- a byte is allowed where the tests of the code say so
alike : (a b : Bool) → beq a b ≡ true → a ≡ b
alike true true e = refl
alike true false e = sym e
alike false true e = e
alike false false e = refl

abbrev passes : ℕ → Bool
passes c = ((leb 32 c && not (eqb c 127)) || eqb c 9) || eqb c 10

pub allowed-by : (c : ℕ) → c < 256 → passes c ≡ is_allowed c
allowed-by c h = alike (passes c) (is_allowed c) (each-byte (λ (x : ℕ). beq (passes x) (is_allowed x)) refl c h)

-- a walk over bytes: ok says whether those before i are allowed
module _ (s : Bytes) (i : ℕ) (ok : Bool) (g : all is_allowed s ≡ (ok && all is_allowed (drop i s))) where
  pub allowed-end : length s ≤ i → ok ≡ all is_allowed s
  allowed-end h = sym (g ∙ ap (λ (t : Bytes). ok && all is_allowed t) (drop_of_length-le s h) ∙ and-true ok)

  pub allowed-on : i < length s → (good : Bool) → good ≡ is_allowed (get_or s i 0) → all is_allowed s ≡ ((ok && good) && all is_allowed (drop (i + 1) s))
  allowed-on h good e =
      g
      ∙ ap (λ (t : Bytes). ok && all is_allowed t) (at-cons s i h)
      ∙ sym (and_assoc ok (is_allowed (get_or s i 0)) (all is_allowed (drop (i + 1) s)))
      ∙ ap (λ (b : Bool). (ok && b) && all is_allowed (drop (i + 1) s)) (sym e)

-- the last byte
pub none-ended : (s : Bytes) → length s ≡ 0 → true ≡ is_ended s
none-ended [] e = refl
none-ended (c ∷ s) e = absurd (omega arith)

-- questions 2 and 3, and the number of a readable text's records
none_read : (x : Option (List Piece)) → is_some x ≡ false → read_no x ≡ 3
none_read none e = refl
none_read (some ps) e = absurd (true≢false e)

module _ (s : Bytes) where
  pub text-no : (all is_allowed s && is_ended s) ≡ false → 2 ≡ text_no s
  unfolding text_no
  text-no h = sym (ap (λ (b : Bool). pick b (read_no (pieces s)) 2) h)

  module _ (t : (all is_allowed s && is_ended s) ≡ true) where
    pub text-ended : is_ended s ≡ true
    text-ended = ((and-eq-true_iff (all is_allowed s) (is_ended s)).0 t).1

    pub lines-no : is_readable s ≡ false → 3 ≡ text_no s
    unfolding text_no is_readable
    lines-no h =
        sym (
        ap (λ (b : Bool). pick b (read_no (pieces s)) 2) t
        ∙ none_read (pieces s) (ap (λ (b : Bool). b && is_some (pieces s)) (sym text-ended) ∙ h))

    pub text-records : is_readable s ≡ true → text_no s ≡ records_no int_bounds (records (read_of s))
    text-records h = text-walk s (read_of s) ((and-eq-true_iff (all is_allowed s) (is_ended s)).0 t).0 text-ended (readable-pieces s h)

-- questions 4 to 7, and the rest
module _ (rs : List Record) where
  pub limits-no : walk_fits rs ≡ false → 4 ≡ records_no int_bounds rs
  unfolding records_no
  limits-no h = sym (ap (λ (b : Bool). pick b (pick (walk_once rs) (pick (walk_well int_bounds rs) (pick (walk_types int_bounds rs) (walk_no int_bounds rs) 7) 6) 5) 4) h)

  module _ (a : walk_fits rs ≡ true) where
    pub once-no : walk_once rs ≡ false → 5 ≡ records_no int_bounds rs
    unfolding records_no
    once-no h = sym (λ i. pick (a i) (pick (h i) (pick (walk_well int_bounds rs) (pick (walk_types int_bounds rs) (walk_no int_bounds rs) 7) 6) 5) 4)

    module _ (b : walk_once rs ≡ true) where
      pub well-no : walk_well int_bounds rs ≡ false → 6 ≡ records_no int_bounds rs
      unfolding records_no
      well-no h = sym (λ i. pick (a i) (pick (b i) (pick (h i) (pick (walk_types int_bounds rs) (walk_no int_bounds rs) 7) 6) 5) 4)

      module _ (c : walk_well int_bounds rs ≡ true) where
        pub types-no : walk_types int_bounds rs ≡ false → 7 ≡ records_no int_bounds rs
        unfolding records_no
        types-no h = sym (λ i. pick (a i) (pick (b i) (pick (c i) (pick (h i) (walk_no int_bounds rs) 7) 6) 5) 4)

        pub sets-no : walk_types int_bounds rs ≡ true → walk_no int_bounds rs ≡ records_no int_bounds rs
        unfolding records_no
        sets-no h = sym (λ i. pick (a i) (pick (b i) (pick (c i) (pick (h i) (walk_no int_bounds rs) 7) 6) 5) 4)

-- questions 3, 4 and 5 together
module _ (s : Bytes) (t : (all is_allowed s && is_ended s) ≡ true) where
  bounds-by : (a b c : Bool) → is_readable s ≡ a → walk_fits (records (read_of s)) ≡ b → walk_once (records (read_of s)) ≡ c → (n : ℕ) → 0 < n → n ≡ pick a (pick b (pick c 0 5) 4) 3 → n ≡ text_no s
  bounds-by false b c e f g n h q = q ∙ lines-no s t e
  bounds-by true false c e f g n h q = q ∙ limits-no (records (read_of s)) f ∙ sym (text-records s t e)
  bounds-by true true false e f g n h q = q ∙ once-no (records (read_of s)) f g ∙ sym (text-records s t e)
  bounds-by true true true e f g n h q = absurd (omega arith)

  pub bounds-told : (q : Question) → question_no q ≡ bounds_no s → question_no q ≡ text_no s
  unfolding bounds_no
  bounds-told q e = bounds-by (is_readable s) (walk_fits (records (read_of s))) (walk_once (records (read_of s))) refl refl refl (question_no q) (some-no q) e

-- so many descriptors, within their limit
pub few-heads : (rs : List Record) → walk_fits rs ≡ true → (n : ℕ) → n ≡ length (heads rs) → n ≤ descriptors
few-heads rs e n h =
    let fit : Bool = all (λ (r : Record). fits_record r && (not (is_head r) || fits_rules r)) rs in
    omega (arith, h, leb-true (length (heads rs)) descriptors ((and-eq-true_iff fit (leb (length (heads rs)) descriptors)).0 e).1)

-- question 1, and the used text
module _ (buffer : Bytes) (used : ℕ) where
  abbrev is_inside : Bool
  is_inside = leb used (length buffer) && leb used file_bytes

  pub used-no : is_inside ≡ false → 1 ≡ check_answer buffer used
  unfolding check_answer
  used-no h = sym (verdict-text buffer used ∙ ap (λ (b : Bool). pick b (text_no (take used buffer)) 1) h)

  pub used-text : is_inside ≡ true → text_no (take used buffer) ≡ check_answer buffer used
  unfolding check_answer
  used-text h = sym (verdict-text buffer used ∙ ap (λ (b : Bool). pick b (text_no (take used buffer)) 1) h)

  pub used-inside : is_inside ≡ true → (used ≤ length buffer) × (used ≤ file_bytes)
  used-inside h =
      let k = (and-eq-true_iff (leb used (length buffer)) (leb used file_bytes)).0 h in
      (leb-true used (length buffer) k.0, leb-true used file_bytes k.1)
