-- The name that a text begins with, and the form of the line that begins so.
use Prim.Native.Nat.{ℕ, zero, suc, ◌+◌, ◌-◌, ◌≤◌, ◌<◌}
use native.Mathlib.Nat.{not-suc-le-zero}
use native.Mathlib.Numerals.{add-one, one-add}
use native.Mathlib.Omega.{arith}
use mathlib.Core.Path.{◌≡◌, refl, sym, ap, ◌∙◌, subst}
use mathlib.Core.Bool.{Bool, true, false, false≢true}
use mathlib.Core.List.{[], ◌∷◌}
use borrow.Author.Tests.{eqb-true, eq-eqb, ne_eqb}
use lib.Dec.{eqb}
use lib.ListN.{length, take, drop, get_or, drop_of_length-le}
use lib.Seq.{drop-cons}
use Rattle.format.specs.Lists.{front, behind}
use Rattle.format.specs.Bytes.{Bytes, pick, class_of, is_newline, is_blank}
use Rattle.format.specs.Lines.{is_ended, is_first, is_later, Form, after_colon, form, after_name}
use Rattle.format.proofs.Table.{newline-class, blank-class}
use Rattle.lines.specs.Line.{line_len, first_line, GoesOn, run, name_len}
use Rattle.lines.proofs.Cuts.{ended-tail}

-- the bytes at the front that pass a test, from an index on
module _ (p : ℕ → Bool) (s : Bytes) (i : ℕ) where
  pub run_more : i < length s → p (get_or s i 0) ≡ true → run p (drop i s) ≡ suc (run p (drop (i + 1) s))
  unfolding run
  run_more h e = rw (add-one, drop-cons s i 0, e)

  pub run-stop : i < length s → p (get_or s i 0) ≡ false → run p (drop i s) ≡ 0
  unfolding run
  run-stop h e = rw (drop-cons s i 0, e)

  pub run_end : length s ≤ i → run p (drop i s) ≡ 0
  unfolding run
  run_end h = rw (drop_of_length-le s)

-- a name: its first byte, then later ones
pub name-first : (s : Bytes) → 0 < length s → is_first (get_or s 0 0) ≡ true → name_len s ≡ 1 + run is_later (drop 1 s)
unfolding name_len run
name-first [] h e = absurd (not-suc-le-zero h)
name-first (c ∷ s) h e = rw (e, one-add)

pub name-some : (s : Bytes) → 0 < name_len s → name_len s ≡ 1 + run is_later (drop 1 s)
unfolding name_len run
name-some [] h = absurd (not-suc-le-zero h)
name-some (c ∷ s) h = go (is_first c) h
  where
    go : (t : Bool) → 0 < pick t (suc (run is_later s)) 0 → pick t (suc (run is_later s)) 0 ≡ 1 + run is_later s
    go true k = rw one-add
    go false k = absurd (not-suc-le-zero k)

pub name-none : (s : Bytes) → is_first (get_or s 0 0) ≡ false → name_len s ≡ 0
unfolding name_len
name-none [] e = refl
name-none (c ∷ s) e = rw e

pub name-empty : (s : Bytes) → length s ≡ 0 → name_len s ≡ 0
unfolding name_len
name-empty [] e = refl
name-empty (c ∷ s) e = omega arith

-- a name is within its text
run-le : (p : ℕ → Bool) (s : Bytes) → run p s ≤ length s
unfolding run
run-le p [] = omega arith
run-le p (c ∷ s) = go (p c) (run-le p s)
  where
    go : (t : Bool) → run p s ≤ length s → pick t (suc (run p s)) 0 ≤ suc (length s)
    go true h = omega arith
    go false h = omega arith

pub name-le : (s : Bytes) → name_len s ≤ length s
unfolding name_len
name-le [] = omega arith
name-le (c ∷ s) = go (is_first c) (run-le is_later s)
  where
    go : (t : Bool) → run is_later s ≤ length s → pick t (suc (run is_later s)) 0 ≤ suc (length s)
    go true h = omega arith
    go false h = omega arith

-- and before its newline
run_inside : (s : Bytes) → is_ended s ≡ true → 0 < length s → run is_later s < length s
unfolding run
run_inside [] e h = h
run_inside (c ∷ []) e h = rw (eqb-true c 10 e) h
run_inside (c ∷ d ∷ s) e h = go (is_later c) (run_inside (d ∷ s) e (omega arith))
  where
    go : (t : Bool) → run is_later (d ∷ s) < length (d ∷ s) → pick t (suc (run is_later (d ∷ s))) 0 < length (c ∷ d ∷ s)
    go true k = omega arith
    go false k = omega arith

pub name-inside : (s : Bytes) → is_ended s ≡ true → 0 < name_len s → name_len s < length s
unfolding name_len
name-inside [] e h = absurd (not-suc-le-zero h)
name-inside (c ∷ []) e h = absurd (not-suc-le-zero (subst (λ (x : ℕ). 0 < pick (is_first x) (suc (run is_later [])) 0) (eqb-true c 10 e) h))
name-inside (c ∷ d ∷ s) e h = go (is_first c) (run_inside (d ∷ s) e (omega arith))
  where
    go : (t : Bool) → run is_later (d ∷ s) < length (d ∷ s) → pick t (suc (run is_later (d ∷ s))) 0 < length (c ∷ d ∷ s)
    go true k = omega arith
    go false k = omega arith

-- a colon is not the last byte of an ended text
pub colon-inside : (s : Bytes) (n : ℕ) → is_ended s ≡ true → get_or s n 0 ≡ 58 → suc n < length s
colon-inside [] n e h = absurd (omega arith)
colon-inside (c ∷ []) zero e h = absurd (omega (arith, eqb-true c 10 e))
colon-inside (c ∷ []) (suc n) e h = absurd (omega arith)
colon-inside (c ∷ d ∷ s) zero e h = omega arith
colon-inside (c ∷ d ∷ s) (suc n) e h = omega (arith, colon-inside (d ∷ s) n e h)

-- where a colon follows the name, it is the first one
module _ (s : Bytes) (i : ℕ) (h : i < length s) (colon : get_or s (name_len s) 0 ≡ 58) (so : name_len s ≡ i + run is_later (drop i s)) where
  pub colon-more : (get_or s i 0 ≡ 58 → ⊥) → name_len s ≡ (i + 1) + run is_later (drop (i + 1) s)
  colon-more n = go (is_later (get_or s i 0)) refl
    where
      go : (t : Bool) → is_later (get_or s i 0) ≡ t → name_len s ≡ (i + 1) + run is_later (drop (i + 1) s)
      go true e = omega (arith, so, run_more is_later s i h e)
      go false e = absurd (n (ap (λ (j : ℕ). get_or s j 0) (let z : i ≡ name_len s = omega (arith, so, run-stop is_later s i h e) in z) ∙ colon))

  pub colon-stop : get_or s i 0 ≡ 58 → name_len s ≡ i
  colon-stop e = omega (arith, so, run-stop is_later s i h (ap is_later e))

-- The form of a line that begins with a name of n bytes: by whether a colon follows, and by whether the byte behind that is a newline or a blank.
abbrev pub Told : Bool → Bool → Bool → ℕ → ℕ → Bytes → Form → Type 0
Told false e k n len name F = F ≡ Form.fault
Told true true k n len name F = (F ≡ Form.field name []) × (len ≡ suc n)
Told true false true n len name F = (v : Bytes) × (F ≡ Form.field name v) × (suc n < len)
Told true false false n len name F = F ≡ Form.fault

told_more : (a e k : Bool) (n len : ℕ) (name : Bytes) (F : Form) → Told a e k n len name F → Told a e k (suc n) (suc len) name F
told_more false e k n len name F h = h
told_more true true k n len name F h = (h.0, ap suc h.1)
told_more true false true n len name F h = (h.0, h.1, omega (arith, h.2))
told_more true false false n len name F h = h

blank-told : (name : Bytes) (d : ℕ) (s : Bytes) (k : Bool) → Told true false k 0 (suc (suc (line_len s))) name (pick k (Form.field name (first_line s)) Form.fault)
blank-told name d s true = (first_line s, refl, omega arith)
blank-told name d s false = refl

colon-told : (name : Bytes) (b : Bool) (s : Bytes) → (b ≡ true → 0 < length s) → Told b (is_newline (get_or s 0 0)) (is_blank (get_or s 0 0)) 0 (suc (line_len s)) name (pick b (after_colon name (first_line s)) Form.fault)
unfolding line_len
colon-told name false s h = refl
colon-told name true [] h = absurd (not-suc-le-zero (h refl))
colon-told name true (d ∷ s) h = go (is_newline d)
  where
    go : (t : Bool) → Told true t (is_blank d) 0 (suc (pick t 0 (suc (line_len s)))) name (after_colon name (take (pick t 0 (suc (line_len s))) (d ∷ s)))
    go true = (refl, refl)
    go false = blank-told name d s (is_blank d)

-- the same of a name that a text goes on with, n bytes of it
abbrev Behind : ℕ → ℕ → Bytes → Bytes → Form → Type 0
Behind n len s name F = Told (eqb (get_or s n 0) 58) (is_newline (get_or s (suc n) 0)) (is_blank (get_or s (suc n) 0)) n len name F

abbrev pub At : ℕ → ℕ → Bytes → Form → Type 0
At n len s F = Behind n len s (take n s) F

behind_more : (c n len : ℕ) (s name : Bytes) (F : Form) → Behind n len s name F → Behind (suc n) (suc len) (c ∷ s) name F
behind_more c n len s name F h = told_more (eqb (get_or s n 0) 58) (is_newline (get_or s (suc n) 0)) (is_blank (get_or s (suc n) 0)) n len name F h

more-behind : (c : ℕ) (s : Bytes) → is_ended (c ∷ s) ≡ true → is_newline c ≡ false → 0 < length s
more-behind c [] e q = absurd (false≢true (sym q ∙ e))
more-behind c (d ∷ s) e q = omega arith

rest-told : (name s : Bytes) → is_ended s ≡ true → Behind (run is_later s) (line_len s) s name (after_name name (behind is_later (first_line s)))
unfolding run line_len
rest-told name [] e = refl
rest-told name (c ∷ s) e = go (is_newline c) (is_later c) refl refl (rest-told name s (ended-tail c s e))
  where
    go : (t u : Bool) → is_newline c ≡ t → is_later c ≡ u → Behind (run is_later s) (line_len s) s name (after_name name (behind is_later (first_line s)))
        → Behind (pick u (suc (run is_later s)) 0) (pick t 0 (suc (line_len s))) (c ∷ s) name (after_name name (behind is_later (take (pick t 0 (suc (line_len s))) (c ∷ s))))
    go true true p q h = absurd (false≢true (ap is_later (sym (eqb-true c 10 p)) ∙ q))
    go true false p q h = rw (eqb-true c 10 p)
    go false true p q h = rw q (behind_more c (run is_later s) (line_len s) s name (after_name name (behind is_later (first_line s))) h)
    go false false p q h = rw q (colon-told name (eqb c 58) s (λ x. more-behind c s e p))

-- the later bytes of a name stand on the first line
later-front : (s : Bytes) → front is_later (first_line s) ≡ take (run is_later s) s
unfolding run line_len
later-front [] = refl
later-front (c ∷ s) = go (is_newline c) (is_later c) refl refl (later-front s)
  where
    go : (t u : Bool) → is_newline c ≡ t → is_later c ≡ u → front is_later (first_line s) ≡ take (run is_later s) s
        → front is_later (take (pick t 0 (suc (line_len s))) (c ∷ s)) ≡ take (pick u (suc (run is_later s)) 0) (c ∷ s)
    go true true p q h = absurd (false≢true (ap is_later (sym (eqb-true c 10 p)) ∙ q))
    go true false p q h = refl
    go false true p q h = rw q (ap (λ (x : Bytes). c ∷ x) h)
    go false false p q h = rw q

pub name-told : (s : Bytes) → is_ended s ≡ true → 0 < name_len s → At (name_len s) (line_len s) s (form (first_line s))
unfolding name_len run line_len
name-told [] e h = absurd (not-suc-le-zero h)
name-told (c ∷ s) e h = go (is_newline c) (is_first c) refl refl h
  where
    told_line : (n : Bytes) → front is_later (first_line s) ≡ n → Behind (suc (run is_later s)) (suc (line_len s)) (c ∷ s) (c ∷ n) (after_name (c ∷ front is_later (first_line s)) (behind is_later (first_line s)))
    told_line n q =
        subst (λ (x : Bytes). Behind (suc (run is_later s)) (suc (line_len s)) (c ∷ s) (c ∷ n) (after_name (c ∷ x) (behind is_later (first_line s)))) (sym q)
        (behind_more c (run is_later s) (line_len s) s (c ∷ n) (after_name (c ∷ n) (behind is_later (first_line s))) (rest-told (c ∷ n) s (ended-tail c s e)))

    go : (t u : Bool) → is_newline c ≡ t → is_first c ≡ u → 0 < pick u (suc (run is_later s)) 0
        → At (pick u (suc (run is_later s)) 0) (pick t 0 (suc (line_len s))) (c ∷ s) (form (take (pick t 0 (suc (line_len s))) (c ∷ s)))
    go t false p q h = absurd (not-suc-le-zero h)
    go true true p q h = absurd (false≢true (ap is_first (sym (eqb-true c 10 p)) ∙ q))
    go false true p q h = rw q (told_line (take (run is_later s) s) (later-front s))

-- So the line goes on behind the colon before a newline, and behind the colon and a blank.
told-newline : (a e k : Bool) (n len : ℕ) (name : Bytes) (F : Form) → Told a e k n len name F → a ≡ true → e ≡ true → len ≡ suc n
told-newline false e k n len name F h p q = absurd (false≢true p)
told-newline true true k n len name F h p q = h.1
told-newline true false k n len name F h p q = absurd (false≢true q)

told-blank : (a e k : Bool) (n len : ℕ) (name : Bytes) (F : Form) → Told a e k n len name F → a ≡ true → e ≡ false → k ≡ true → suc n < len
told-blank false e k n len name F h p q r = absurd (false≢true p)
told-blank true true k n len name F h p q r = absurd (false≢true (sym q))
told-blank true false true n len name F h p q r = h.2
told-blank true false false n len name F h p q r = absurd (false≢true r)

module _ (s : Bytes) (n : ℕ) (ended : is_ended s ≡ true) (some : 0 < name_len s) (name : n ≡ name_len s) (colon : get_or s n 0 ≡ 58) where
  told : At n (line_len s) s (form (first_line s))
  told = subst (λ (j : ℕ). At j (line_len s) s (form (first_line s))) (sym name) (name-told s ended some)

  pub goes-empty : is_newline (get_or s (n + 1) 0) ≡ true → GoesOn s (n + 1)
  goes-empty e =
      let l = told-newline _ _ _ n (line_len s) _ _ told (eq-eqb _ _ colon) (rw (← add-one n) e) in
      (omega arith, omega arith, λ q. absurd (omega (arith, sym (ap (λ (j : ℕ). get_or s j 0) (let z : (n + 1) - 1 ≡ n = omega arith in z)) ∙ q)))

  pub goes-value : is_newline (get_or s (n + 1) 0) ≡ false → is_blank (get_or s (n + 1) 0) ≡ true → GoesOn s (n + 2)
  goes-value e b =
      let l = told-blank _ _ _ n (line_len s) _ _ told (eq-eqb _ _ colon) (rw (← add-one n) e) (rw (← add-one n) b) in
      (omega arith, omega arith, λ q. false≢true (ap is_blank (sym q) ∙ ap (λ (j : ℕ). is_blank (get_or s j 0)) (let z : (n + 2) - 1 ≡ n + 1 = omega arith in z) ∙ b))

  -- the same by the class of the byte behind the colon
  module _ (k : ℕ) (small : get_or s (n + 1) 0 < 256) (class : k ≡ class_of (get_or s (n + 1) 0)) where
    newline-by : is_newline (get_or s (n + 1) 0) ≡ eqb k 4
    newline-by = rw (newline-class (get_or s (n + 1) 0) small, class)

    blank-by : is_blank (get_or s (n + 1) 0) ≡ eqb k 3
    blank-by = rw (blank-class (get_or s (n + 1) 0) small, class)

    pub goes-newline : k ≡ 4 → GoesOn s (n + 1)
    goes-newline e = goes-empty (newline-by ∙ eq-eqb _ _ e)

    pub goes_blank : k ≡ 3 → GoesOn s (n + 2)
    goes_blank e = goes-value (newline-by ∙ ne_eqb k 4 (λ q. omega (arith, e, q))) (blank-by ∙ eq-eqb _ _ e)
