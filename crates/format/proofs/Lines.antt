-- Bytes and physical lines.
use Prim.Native.Nat.{ℕ}
use native.Mathlib.Omega.{arith}
use mathlib.Core.Path.{◌≡◌, refl, sym, ap, ◌∙◌}
use mathlib.Core.Bool.{Bool, true, false, ◌&&◌, and_assoc}
use mathlib.Core.List.{List, [], ◌∷◌, ◌++◌, append_assoc}
use borrow.Author.Tests.{eqb-true}
use Rattle.format.specs.Bytes.{Bytes, pick, is_newline, is_allowed, all}
use Rattle.format.specs.Lists.{onto}
use Rattle.format.specs.Lines.{Line, lines, bytes, is_ended, joins, cut}
use Rattle.format.proofs.Elements.{Each}

-- a line holds no newline
abbrev pub Clean : Line → Type 0
Clean [] = Unit {0}
Clean (c ∷ l) = (is_newline c ≡ false) × Clean l

pub clean-append : (a b : Line) → Clean a → Clean b → Clean (a ++ b)
clean-append [] b x y = y
clean-append (c ∷ a) b x y = (x.0, clean-append a b x.1 y)

-- a byte in front of lines, by whether it is a newline
abbrev pub put : Bool → ℕ → List Line → List Line
put b c ls = pick b ([] ∷ ls) (onto c ls)

-- the lines of the bytes of clean lines are those lines
lines-line : (l : Line) (s : Bytes) (ls : List Line) → Clean l → lines s ≡ ls → lines (l ++ (10 ∷ s)) ≡ l ∷ ls
lines-line [] s ls x e = ap {B = List Line} (λ y. [] ∷ y) e
lines-line (c ∷ l) s ls x e = ap (put (is_newline c) c) (lines-line l s ls x.1 e) ∙ ap (λ (b : Bool). put b c (l ∷ ls)) x.0

pub lines-bytes : (ls : List Line) → Each Clean ls → lines (bytes ls) ≡ ls
lines-bytes [] x = refl
lines-bytes (l ∷ ls) x = lines-line l (bytes ls) ls x.0 (lines-bytes ls x.1)

-- the bytes of an ended text's lines are the text
bytes-put : (b : Bool) (c d : ℕ) (s : Bytes) (ls : List Line) → is_newline c ≡ b → bytes ls ≡ d ∷ s → bytes (put b c ls) ≡ c ∷ d ∷ s
bytes-put true c d s ls q e = ap {B = Bytes} (λ x. 10 ∷ x) e ∙ ap {B = Bytes} (λ x. x ∷ d ∷ s) (sym (eqb-true c 10 q))
bytes-put false c d s [] q e = let z : ◌≡◌ {A = ℕ} 0 1 = cc in absurd (omega arith)
bytes-put false c d s (l ∷ ls) q e = ap {B = Bytes} (λ x. c ∷ x) e

pub bytes-lines : (s : Bytes) → is_ended s ≡ true → bytes (lines s) ≡ s
bytes-lines [] e = refl
bytes-lines (c ∷ []) e = ap (λ (b : Bool). bytes (put b c [])) e ∙ ap {B = Bytes} (λ x. x ∷ []) (sym (eqb-true c 10 e))
bytes-lines (c ∷ d ∷ s) e = bytes-put (is_newline c) c d s (lines (d ∷ s)) refl (bytes-lines (d ∷ s) e)

-- lines are clean
put-clean : (b : Bool) (c : ℕ) (ls : List Line) → is_newline c ≡ b → Each Clean ls → Each Clean (put b c ls)
put-clean true c ls q x = (tt, x)
put-clean false c [] q x = ((q, tt), tt)
put-clean false c (l ∷ ls) q x = ((q, x.0), x.1)

pub lines-clean : (s : Bytes) → Each Clean (lines s)
lines-clean [] = tt
lines-clean (c ∷ s) = put-clean (is_newline c) c (lines s) refl (lines-clean s)

-- bytes of lines, one after another, and their end
pub bytes-append : (a b : List Line) → bytes (a ++ b) ≡ bytes a ++ bytes b
bytes-append [] b = refl
bytes-append (l ∷ a) b = ap {B = Bytes} (λ x. l ++ (10 ∷ x)) (bytes-append a b) ∙ sym (append_assoc l (10 ∷ bytes a) (bytes b))

ended-cons : (c : ℕ) (s : Bytes) → is_newline c ≡ true → is_ended s ≡ true → is_ended (c ∷ s) ≡ true
ended-cons c [] q e = q
ended-cons c (d ∷ s) q e = e

ended-line : (l : Line) (s : Bytes) → is_ended s ≡ true → is_ended (l ++ (10 ∷ s)) ≡ true
ended-line [] s e = ended-cons 10 s refl e
ended-line (c ∷ []) s e = ended-cons 10 s refl e
ended-line (c ∷ d ∷ l) s e = ended-line (d ∷ l) s e

pub ended-bytes : (ls : List Line) → is_ended (bytes ls) ≡ true
ended-bytes [] = refl
ended-bytes (l ∷ ls) = ended-line l (bytes ls) (ended-bytes ls)

-- a test of all of a list, and of the bytes of lines
pub all_append : {A : Type 0} (p : A → Bool) (a b : List A) → all p (a ++ b) ≡ (all p a && all p b)
all_append p [] b = refl
all_append p (x ∷ a) b = ap (λ (t : Bool). p x && t) (all_append p a b) ∙ sym (and_assoc (p x) (all p a) (all p b))

pub allowed-bytes : (ls : List Line) → all is_allowed (bytes ls) ≡ all (all is_allowed) ls
allowed-bytes [] = refl
allowed-bytes (l ∷ ls) = all_append is_allowed l (10 ∷ bytes ls) ∙ ap (λ (t : Bool). all is_allowed l && t) (allowed-bytes ls)

-- a newline in front of a line
pub newline-joins : (l : Line) → joins (10 ∷ l) ≡ joins l
newline-joins [] = refl
newline-joins (c ∷ l) = refl

pub newline-cut : (l : Line) → cut (10 ∷ l) ≡ 10 ∷ cut l
newline-cut [] = refl
newline-cut (c ∷ l) = refl
