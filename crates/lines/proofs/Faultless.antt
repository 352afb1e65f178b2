-- What a text goes on with where it is no fault: its first byte tells the form, and a colon follows a name.
use Rattle.std.specs.Prelude.{Option}
use Prim.Native.Nat.{ℕ, suc, ◌+◌, ◌≤◌, ◌<◌}
use native.Mathlib.Nat.{not-suc-le-zero}
use native.Mathlib.Omega.{arith}
use mathlib.Core.Path.{◌≡◌, refl, sym, ap, ◌∙◌}
use mathlib.Core.Bool.{Bool, true, false, false≢true}
use mathlib.Core.List.{[], ◌∷◌}
use borrow.Author.Tests.{eqb-true, ne_eqb, lt-leb}
use lib.Dec.{eqb}
use lib.ListN.{length, get_or}
use Rattle.format.specs.Bytes.{Bytes, pick, is_newline, is_blank, all}
use Rattle.format.specs.Lines.{lines, is_ended, is_first}
use Rattle.lines.specs.Line.{line_len, first_line, GoesOn, name_len}
use Rattle.lines.specs.Piece.{extent_of, field_next, next_of, is_fault}
use Rattle.lines.specs.declared.Next.{Next}
use Rattle.lines.proofs.Heads.{name-first, colon-inside, goes-empty, goes-value}
use Rattle.lines.proofs.Nexts.{next_named, next-named, next-unnamed}

-- no name begins with a byte up to 35, the number sign, and no other line that is no fault with one above it
low-unnamed : (c : ℕ) → c ≤ 35 → is_first c ≡ false
low-unnamed c h = rw (lt-leb 65 c (omega arith), lt-leb 97 c (omega arith), ne_eqb c 37 (λ e. omega (arith, e)))

low_by : (h b : Bool) (k : ℕ) (x : Next) → x ≡ pick h (Next.Comment k) (pick b (Next.Blank k) Next.Fault) → is_fault x ≡ false → x ≡ pick h (Next.Comment k) (Next.Blank k)
low_by true b k x e f = e
low_by false true k x e f = e
low_by false false k x e f = absurd (false≢true (sym f ∙ ap is_fault e))

pub next_low : (s : Bytes) → 0 < length s → get_or s 0 0 ≤ 35 → is_fault (next_of s) ≡ false → next_of s ≡ pick (eqb (get_or s 0 0) 35) (Next.Comment (line_len s + 1)) (Next.Blank (line_len s + 1))
next_low s h l f = low_by (eqb (get_or s 0 0) 35) (all is_blank (first_line s)) (line_len s + 1) (next_of s) (next-unnamed s h (low-unnamed (get_or s 0 0) l)) f

high-filled : (s : Bytes) → 0 < length s → 35 < get_or s 0 0 → all is_blank (first_line s) ≡ false
unfolding line_len
high-filled [] h l = absurd (not-suc-le-zero h)
high-filled (c ∷ s) h l = rw (ne_eqb c 10 (λ e. omega (arith, e)), ne_eqb c 32 (λ e. omega (arith, e)), ne_eqb c 9 (λ e. omega (arith, e)))

high-first : (s : Bytes) → 0 < length s → 35 < get_or s 0 0 → is_fault (next_of s) ≡ false → is_first (get_or s 0 0) ≡ true
high-first s h l f = go (is_first (get_or s 0 0)) refl
  where
    go : (t : Bool) → is_first (get_or s 0 0) ≡ t → t ≡ true
    go true e = refl
    go false e =
        let x : next_of s ≡ Next.Fault = next-unnamed s h e ∙ rw (ne_eqb (get_or s 0 0) 35 (λ q. omega (arith, q)), high-filled s h l) in
        absurd (false≢true (sym f ∙ ap is_fault x))

pub high-named : (s : Bytes) → 0 < length s → 35 < get_or s 0 0 → is_fault (next_of s) ≡ false → 0 < name_len s
high-named s h l f = omega (arith, name-first s h (high-first s h l f))

-- a line that begins with a name, and is no fault: a colon follows the name, and a newline or a blank follows that
abbrev Formed : Bool → Bool → Bool → ℕ → Option ℕ → Next → Type 0
Formed a e k n x y = (a ≡ true) × (e ≡ false → k ≡ true) × (y ≡ field_next n (pick e (n + 1) (n + 2)) x)

formed-by : (a e k : Bool) (n : ℕ) (x : Option ℕ) (y : Next) → y ≡ next_named a e k n x → is_fault y ≡ false → Formed a e k n x y
formed-by false e k n x y q f = absurd (false≢true (sym f ∙ ap is_fault q))
formed-by true true k n x y q f = (refl, λ z. absurd (false≢true (sym z)), q)
formed-by true false true n x y q f = (refl, λ z. refl, q)
formed-by true false false n x y q f = absurd (false≢true (sym f ∙ ap is_fault q))

module _ (s : Bytes) (ended : is_ended s ≡ true) (some : 0 < name_len s) (no : is_fault (next_of s) ≡ false) where
  formed : Formed (eqb (get_or s (name_len s) 0) 58) (is_newline (get_or s (name_len s + 1) 0)) (is_blank (get_or s (name_len s + 1) 0)) (name_len s) (extent_of true 0 (lines s)) (next_of s)
  formed = formed-by (eqb (get_or s (name_len s) 0) 58) (is_newline (get_or s (name_len s + 1) 0)) (is_blank (get_or s (name_len s + 1) 0)) (name_len s) (extent_of true 0 (lines s)) (next_of s) (next-named s ended some) no

  pub colon-behind : get_or s (name_len s) 0 ≡ 58
  colon-behind = eqb-true (get_or s (name_len s) 0) 58 formed.0

  module _ (n : ℕ) (name : n ≡ name_len s) where
    colon : get_or s n 0 ≡ 58
    colon = ap (λ (j : ℕ). get_or s j 0) name ∙ colon-behind

    -- its value begins behind the colon, at the newline or behind the blank
    pub next-formed : next_of s ≡ field_next n (pick (is_newline (get_or s (n + 1) 0)) (n + 1) (n + 2)) (extent_of true 0 (lines s))
    next-formed = rw name formed.2

    pub room-behind : suc n < length s
    room-behind = colon-inside s n ended colon

    pub goes-behind : GoesOn s (pick (is_newline (get_or s (n + 1) 0)) (n + 1) (n + 2))
    goes-behind = go (is_newline (get_or s (n + 1) 0)) refl
      where
        go : (t : Bool) → is_newline (get_or s (n + 1) 0) ≡ t → GoesOn s (pick t (n + 1) (n + 2))
        go true e = goes-empty s n ended some name colon e
        go false e = goes-value s n ended some name colon e (ap (λ (j : ℕ). is_blank (get_or s (j + 1) 0)) name ∙ formed.1 (sym (ap (λ (j : ℕ). is_newline (get_or s (j + 1) 0)) name) ∙ e))
