-- What a text goes on with, by its first bytes.
use Rattle.std.specs.Prelude.{Option}
use Prim.Native.Nat.{ℕ, suc, ◌+◌, ◌<◌}
use native.Mathlib.Nat.{not-suc-le-zero}
use native.Mathlib.Numerals.{add-one}
use native.Mathlib.Omega.{arith}
use mathlib.Core.Path.{◌≡◌, refl, sym, ap, ◌∙◌}
use mathlib.Core.Bool.{Bool, true, false, false≢true}
use mathlib.Core.List.{List, [], ◌∷◌}
use borrow.Author.Tests.{eqb-true, eq-eqb, ne_eqb}
use lib.Dec.{eqb}
use lib.ListN.{length, take, drop, get_or}
use lib.Seq.{length-take-le}
use Rattle.format.specs.Bytes.{Bytes, pick, class_of, is_newline, is_blank, all}
use Rattle.format.specs.Lines.{Line, lines, is_ended, is_first, Form, form, after_plus}
use Rattle.format.proofs.Table.{newline-class, blank-class}
use Rattle.lines.specs.Line.{line_len, first_line, name_len}
use Rattle.lines.specs.Piece.{extent_of, line_size, value_at, field_next, next_by, next_of}
use Rattle.lines.specs.declared.Next.{Next}
use Rattle.lines.proofs.Cuts.{lines_cut, first-length, line-stop}
use Rattle.lines.proofs.Heads.{Told, name-le, name-told}

-- its first line decides
pub next-first : (s : Bytes) → 0 < length s → next_of s ≡ next_by (form (first_line s)) (first_line s) (lines (drop (suc (line_len s)) s))
unfolding next_of
next-first s h = rw (lines_cut s h)

pub next-end : (s : Bytes) → length s ≡ 0 → next_of s ≡ Next.End
unfolding next_of
next-end [] e = refl
next-end (c ∷ s) e = absurd (omega arith)

-- a text that begins with a name of n bytes: by whether a colon follows, and by whether the byte behind that is a newline or a blank
abbrev pub next_named : Bool → Bool → Bool → ℕ → Option ℕ → Next
next_named false e k n x = Next.Fault
next_named true true k n x = field_next n (n + 1) x
next_named true false true n x = field_next n (n + 2) x
next_named true false false n x = Next.Fault

field-by : (F : Form) (name v : Bytes) (n at : ℕ) (l : Line) (ls : List Line) → F ≡ Form.field name v → length name ≡ n → value_at n l ≡ at → next_by F l ls ≡ field_next n at (extent_of true 0 (l ∷ ls))
field-by F name v n at l ls e p q = rw (e, p, q)

told-next : (a e k : Bool) (n len : ℕ) (l : Line) (ls : List Line) (name : Bytes) (F : Form) → length name ≡ n → length l ≡ len → Told a e k n len name F → next_by F l ls ≡ next_named a e k n (extent_of true 0 (l ∷ ls))
told-next false e k n len l ls name F p q h = rw h
told-next true true k n len l ls name F p q h = field-by F name [] n (n + 1) l ls h.0 p (rw (eq-eqb (length l) (n + 1) (omega arith)))
told-next true false true n len l ls name F p q h = field-by F name h.0 n (n + 2) l ls h.1 p (rw (ne_eqb (length l) (n + 1) (λ x. omega (arith, h.2))))
told-next true false false n len l ls name F p q h = rw h

pub next-named : (s : Bytes) → is_ended s ≡ true → 0 < name_len s
    → next_of s ≡ next_named (eqb (get_or s (name_len s) 0) 58) (is_newline (get_or s (name_len s + 1) 0)) (is_blank (get_or s (name_len s + 1) 0)) (name_len s) (extent_of true 0 (lines s))
next-named s e h =
    let n = name_len s in
    let some : 0 < length s = omega (arith, name-le s) in
    let told = name-told s e h in
    next-first s some ∙ rw (lines_cut s some, add-one n) (told-next (eqb (get_or s n 0) 58) (is_newline (get_or s (suc n) 0)) (is_blank (get_or s (suc n) 0)) n (line_len s) (first_line s) (lines (drop (suc (line_len s)) s)) (take n s) (form (first_line s)) (length-take-le n s (name-le s)) (first-length s) told)

-- the same by the class of the byte behind the colon
pub next-class : (s : Bytes) (n k : ℕ) → is_ended s ≡ true → 0 < name_len s → n ≡ name_len s → get_or s (n + 1) 0 < 256 → k ≡ class_of (get_or s (n + 1) 0)
    → next_of s ≡ next_named (eqb (get_or s n 0) 58) (eqb k 4) (eqb k 3) n (extent_of true 0 (lines s))
next-class s n k e h p small r = rw (next-named s e h, ← p, newline-class (get_or s (n + 1) 0) small, blank-class (get_or s (n + 1) 0) small, ← r)

-- a text that begins with no name
unnamed-by : (h p b : Bool) (v : Bytes) (l : Line) (ls : List Line) → (p ≡ true → b ≡ false) → next_by (pick h Form.comment (pick p (Form.more v) (pick b Form.blank Form.fault))) l ls ≡ pick h (Next.Comment (line_size l)) (pick b (Next.Blank (line_size l)) Next.Fault)
unnamed-by true p b v l ls k = refl
unnamed-by false true true v l ls k = absurd (false≢true (sym (k refl)))
unnamed-by false true false v l ls k = refl
unnamed-by false false true v l ls k = refl
unnamed-by false false false v l ls k = refl

plus-not-blank : (c : ℕ) (s : Bytes) → eqb c 43 ≡ true → all is_blank (c ∷ s) ≡ false
plus-not-blank c s e = ap (λ (x : ℕ). all is_blank (x ∷ s)) (eqb-true c 43 e)

unnamed-first : (s : Bytes) (ls : List Line) → 0 < length s → is_first (get_or s 0 0) ≡ false → next_by (form (first_line s)) (first_line s) ls ≡ pick (eqb (get_or s 0 0) 35) (Next.Comment (line_size (first_line s))) (pick (all is_blank (first_line s)) (Next.Blank (line_size (first_line s))) Next.Fault)
unfolding line_len
unnamed-first [] ls h q = absurd (not-suc-le-zero h)
unnamed-first (c ∷ s) ls h q = go (is_newline c) refl
  where
    l : Bool → Line
    l t = take (pick t 0 (suc (line_len s))) (c ∷ s)

    go : (t : Bool) → is_newline c ≡ t → next_by (form (l t)) (l t) ls ≡ pick (eqb c 35) (Next.Comment (line_size (l t))) (pick (all is_blank (l t)) (Next.Blank (line_size (l t))) Next.Fault)
    go true p = rw (eqb-true c 10 p)
    go false p = rw q (unnamed-by (eqb c 35) (eqb c 43) (all is_blank (c ∷ first_line s)) (10 ∷ after_plus (first_line s)) (l false) ls (plus-not-blank c (first_line s)))

pub next-unnamed : (s : Bytes) → 0 < length s → is_first (get_or s 0 0) ≡ false
    → next_of s ≡ pick (eqb (get_or s 0 0) 35) (Next.Comment (line_len s + 1)) (pick (all is_blank (first_line s)) (Next.Blank (line_len s + 1)) Next.Fault)
next-unnamed s h q = next-first s h ∙ unnamed-first s (lines (drop (suc (line_len s)) s)) h q ∙ rw (first-length s, add-one (line_len s))

-- a text that begins with a newline
pub next-newline : (s : Bytes) → 0 < length s → get_or s 0 0 ≡ 10 → next_of s ≡ Next.Blank 1
next-newline s h e =
    let z : line_len s ≡ 0 = line-stop s 0 h e in
    next-unnamed s h (ap is_first e) ∙ rw (e, z)
