-- Each of the code's tokens is the front of the text.
use Rattle.numbers.specs.declared.Whole.{Whole}
use Rattle.std.specs.Prelude.{Option as Maybe}
use Prim.Native.Nat.{ℕ, zero, suc, ◌+◌, ◌-◌, ◌≤◌, ◌<◌}
use native.Mathlib.Omega.{arith}
use mathlib.Core.Path.{◌≡◌, refl, sym, ap, ◌∙◌}
use mathlib.Core.Bool.{Bool, true, false, ◌||◌}
use mathlib.Core.List.{[], ◌∷◌}
use mathlib.Core.Option.{Option, none}
use lib.Dec.{eqb}
use lib.ListN.{length, take, drop, get_or, length-drop}
use borrow.Author.Tests.{ne_eqb}
use Rattle.format.specs.Bytes.{Bytes, pick, is_blank}
use Rattle.format.specs.Lists.{onward, front}
use Rattle.format.specs.Lines.{is_first, is_later}
use Rattle.format.specs.Numbers.{Int, int_bounds, int_of}
use Rattle.lines.specs.Line.{run}
use Rattle.lines.proofs.Cuts.{rest, at-cons}
use Rattle.words.specs.Spans.{not_byte}
use Rattle.words.proofs.Finding.{run-le}
use Rattle.numbers.specs.Meaning.{int_answer}
use Rattle.selection.specs.Expressions.{string, Sign, field_name, operand, is_in_string}
use Rattle.selection.specs.Reading.{all_signs, sign_among, Front, one_blank, one_part, sign_front, int_front, is_int_first, front_of, size_behind, with_front, parts_behind}
use Rattle.selection.proofs.Ints.{pick-either, pick_true, pick-false}
use Rattle.selection.proofs.Marks.{sign-of-two}

front_length : (p : ℕ → Bool) (s : Bytes) → length (front p s) ≡ run p s
unfolding run
front_length p [] = refl
front_length p (c ∷ s) = go (p c) (front_length p s)
  where
    go : (t : Bool) → length (front p s) ≡ run p s → length (pick t (c ∷ front p s) []) ≡ pick t (suc (run p s)) 0
    go true e = ap suc e
    go false e = refl

take-front : (p : ℕ → Bool) (s : Bytes) → take (length (front p s)) s ≡ front p s
take-front p [] = refl
take-front p (c ∷ s) = pick-either (λ (x : Bytes). take (length x) (c ∷ s) ≡ x) (p c) (c ∷ front p s) [] (λ e. ap (λ (x : Bytes). c ∷ x) (take-front p s)) (λ e. refl)

-- a run of bytes, and the one before it
run-bytes : (n : ℕ) (r : Bytes) → n ≡ run is_later r → n + 1 ≡ suc (length (front is_later r))
run-bytes n r e = let l = front_length is_later r in omega arith

pub name-found : (s : Bytes) (n : ℕ) → 0 < length s → is_first (get_or s 0 0) ≡ true → n ≡ run is_later (drop 1 s) → one_part (field_name (take (n + 1) s)) (n + 1) ≡ front_of (get_or s 0 0) (drop 1 s)
name-found [] n h f e = absurd (omega arith)
name-found (c ∷ r) n h f e =
    let w : Bytes = front is_later r in
    ap (λ (k : ℕ). one_part (field_name (take k (c ∷ r))) k) (run-bytes n r e) ∙ ap (λ (x : Bytes). one_part (field_name (c ∷ x)) (suc (length w))) (take-front is_later r) ∙ sym (pick_true (is_first c) _ _ f)

pub int-found : (s : Bytes) (n : ℕ) (x : Option Int) → 0 < length s → is_first (get_or s 0 0) ≡ false → is_int_first (get_or s 0 0) ≡ true → n ≡ run is_later (drop 1 s) → x ≡ int_of int_bounds (take (n + 1) s) → int_front (n + 1) x ≡ front_of (get_or s 0 0) (drop 1 s)
int-found [] n x h f b e k = absurd (omega arith)
int-found (c ∷ r) n x h f b e k =
    let w : Bytes = front is_later r in
    ap (int_front (n + 1)) k ∙ ap (λ (j : ℕ). int_front j (int_of int_bounds (take j (c ∷ r)))) (run-bytes n r e) ∙ ap (λ (y : Bytes). int_front (suc (length w)) (int_of int_bounds (c ∷ y))) (take-front is_later r)
    ∙ sym (pick-false (is_first c) _ _ f ∙ pick_true (is_int_first c) _ _ b)

pub gap-found : (s : Bytes) → get_or s 0 0 ≡ 32 → one_blank ≡ front_of (get_or s 0 0) (drop 1 s)
gap-found s e = ap (λ (c : ℕ). front_of c (drop 1 s)) (sym e)

pub tab-found : (s : Bytes) → get_or s 0 0 ≡ 9 → one_blank ≡ front_of (get_or s 0 0) (drop 1 s)
tab-found s e = ap (λ (c : ℕ). front_of c (drop 1 s)) (sym e)

pub text-found : (s : Bytes) (n : ℕ) → get_or s 0 0 ≡ 39 → n ≡ run (not_byte 39) (drop 1 s) → one_part (operand (string (take (n + 2 - 2) (drop 1 s)))) (n + 2) ≡ front_of (get_or s 0 0) (drop 1 s)
text-found s n e k =
    let r : Bytes = drop 1 s in
    let w : Bytes = front is_in_string r in
    let l : n + 2 - 2 ≡ length w = omega (arith, k, front_length is_in_string r) in
    let m : n + 2 ≡ suc (suc (length w)) = omega (arith, k, front_length is_in_string r) in
    (λ i. one_part (operand (string (take (l i) r))) (m i)) ∙ ap (λ (x : Bytes). one_part (operand (string x)) (suc (suc (length w)))) (take-front is_in_string r) ∙ ap (λ (c : ℕ). front_of c r) (sym e)

pub sign-found : (s : Bytes) (x : Option Sign) → 0 < length s → is_first (get_or s 0 0) ≡ false → is_int_first (get_or s 0 0) ≡ false → (get_or s 0 0 ≡ 32 → ⊥) → (get_or s 0 0 ≡ 9 → ⊥) → (get_or s 0 0 ≡ 39 → ⊥) → x ≡ sign_among all_signs (get_or s 0 0 ∷ get_or s 1 0 ∷ []) →
    sign_front x ≡ front_of (get_or s 0 0) (drop 1 s)
sign-found [] x h f b k l m e = absurd (omega arith)
sign-found (c ∷ r) x h f b k l m e =
    ap sign_front (e ∙ sym (sign-of-two c r))
    ∙ sym (pick-false (is_first c) _ _ f ∙ pick-false (is_int_first c) _ _ b ∙ pick-false (is_blank c) _ _ (ap (λ (t : Bool). t || eqb c 9) (ne_eqb c 32 k) ∙ ne_eqb c 9 l) ∙ pick-false (eqb c 39) _ _ (ne_eqb c 39 m))

-- the same of the parts that the code lends to its callees
pub run-behind : (p : ℕ → Bool) (s : Bytes) (n : ℕ) → n ≡ run p (take (length s - 1) (drop 1 s)) → n ≡ run p (drop 1 s)
run-behind p s n e = e ∙ ap (run p) (rest s 1)

pub run_short : (p : ℕ → Bool) (s : Bytes) (n : ℕ) → 0 < length s → n ≡ run p (take (length s - 1) (drop 1 s)) → n + 1 ≤ length s
run_short p s n h e = let l = run-le p (drop 1 s) in let k = run-behind p s n e in let d = length-drop 1 s in omega arith

pub int-told-by : (s : Bytes) (n : ℕ) (x y : Maybe Whole) → 0 < length s → is_first (get_or s 0 0) ≡ false → is_int_first (get_or s 0 0) ≡ true → n ≡ run is_later (take (length s - 1) (drop 1 s)) → int_answer x ≡ int_of int_bounds (take (n + 1 - 0) (drop 0 s)) → x ≡ y → int_front (n + 1) (int_answer y) ≡ front_of (get_or s 0 0) (drop 1 s)
int-told-by s n x y h f b e k q =
    let z : n + 1 - 0 ≡ n + 1 = omega arith in
    int-found s n (int_answer y) h f b (run-behind is_later s n e) (ap int_answer (sym q) ∙ k ∙ ap (λ (j : ℕ). int_of int_bounds (take j s)) z)

-- The parts from a place on, by the front there: it is followed by those behind its bytes, and where there are not so many there are none.
pub parts_at : (s : Bytes) (i : ℕ) → i < length s → let x : Front = front_of (get_or s i 0) (drop (i + 1) s) in parts_behind zero (drop i s) ≡ onward (with_front x) (parts_behind (size_behind x) (drop (i + 1) s))
parts_at s i h = ap (parts_behind zero) (at-cons s i h)

pub parts-skip : (k : ℕ) (s : Bytes) → k ≤ length s → parts_behind k s ≡ parts_behind zero (drop k s)
parts-skip zero s h = refl
parts-skip (suc k) [] h = absurd (omega arith)
parts-skip (suc k) (c ∷ s) h = parts-skip k s (omega arith)

pub parts-past : (k : ℕ) (s : Bytes) → length s < k → parts_behind k s ≡ none
parts-past zero s h = absurd (omega arith)
parts-past (suc k) [] h = refl
parts-past (suc k) (c ∷ s) h = parts-past k s (omega arith)
