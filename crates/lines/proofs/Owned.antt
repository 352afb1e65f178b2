-- The lines that a field takes on: as many as extent_of counts, and reading goes on behind them with no field open.
use Rattle.std.specs.Prelude.{Option as Maybe, Some, None}
use Prim.Native.Nat.{ℕ, ◌+◌}
use native.Mathlib.Omega.{arith}
use mathlib.Core.Path.{◌≡◌, refl, sym, ap, ◌∙◌}
use mathlib.Core.Bool.{Bool, true, false, false≢true}
use mathlib.Core.List.{List, [], ◌∷◌, ◌++◌}
use mathlib.Core.Option.{Option, none, some}
use borrow.Author.Tests.{eqb-true}
use lib.Dec.{eqb}
use lib.ListN.{length, length-append}
use Rattle.format.specs.Lists.{onward, front, behind}
use Rattle.format.specs.Bytes.{Bytes, pick, is_blank, all}
use Rattle.format.specs.Lines.{Line, bytes, is_first, Form, form, after_plus, joins, cut, is_later, after_colon, after_name}
use Rattle.format.specs.Pieces.{Mode, after, unopened, seen, Reading, goes_on, take_line, read_from}
use Rattle.lines.specs.Piece.{line_size, is_plus, extent_of}

-- a plus line, and whether it takes the next one on
space-joins : (b : Bool) (c : ℕ) (s : Bytes) → eqb c 32 ≡ b → joins (10 ∷ pick b s (c ∷ s)) ≡ joins (c ∷ s)
space-joins true c [] q = sym (ap (λ (x : ℕ). eqb x 92) (eqb-true c 32 q))
space-joins true c (d ∷ s) q = refl
space-joins false c s q = refl

plus-joins : (s : Bytes) → joins (10 ∷ after_plus s) ≡ joins (43 ∷ s)
plus-joins [] = refl
plus-joins (c ∷ s) = space-joins (eqb c 32) c s refl

plus-form : (l : Line) → is_plus l ≡ true → (v : Bytes) × (form l ≡ Form.more v) × (joins v ≡ joins l)
plus-form [] e = absurd (false≢true e)
plus-form (c ∷ s) e =
    let q = eqb-true c 43 e in
    (10 ∷ after_plus s, ap (λ (x : ℕ). form (x ∷ s)) q, plus-joins s ∙ ap (λ (x : ℕ). joins (x ∷ s)) (sym q))

-- any other line has the form that it has where no field is open
colon-stands : (n y : Bytes) → unopened (after_colon n y) ≡ after_colon n y
colon-stands n [] = refl
colon-stands n (c ∷ y) = go (is_blank c)
  where
    go : (b : Bool) → unopened (pick b (Form.field n y) Form.fault) ≡ pick b (Form.field n y) Form.fault
    go true = refl
    go false = refl

pub name-stands : (n y : Bytes) → unopened (after_name n y) ≡ after_name n y
name-stands n [] = refl
name-stands n (c ∷ y) = go (eqb c 58)
  where
    go : (b : Bool) → unopened (pick b (after_colon n y) Form.fault) ≡ pick b (after_colon n y) Form.fault
    go true = colon-stands n y
    go false = refl

by-stands : (f h b : Bool) (F : Form) → unopened F ≡ F → unopened (pick f F (pick h Form.comment (pick b Form.blank Form.fault))) ≡ pick f F (pick h Form.comment (pick b Form.blank Form.fault))
by-stands true h b F e = e
by-stands false true b F e = refl
by-stands false false true F e = refl
by-stands false false false F e = refl

other-stands : (l : Line) → is_plus l ≡ false → unopened (form l) ≡ form l
other-stands [] e = refl
other-stands (c ∷ s) e = rw e (by-stands (is_first c) (eqb c 35) (all is_blank (c ∷ s)) (after_name (c ∷ front is_later s) (behind is_later s)) (name-stands (c ∷ front is_later s) (behind is_later s)))

-- what a field's lines add to it, in front of lines that read with no field open
abbrev pub opening : Bytes → List Line → Option Reading → Option Reading
opening v own none = none
opening v own (some r) = some (record { value = v; own = own; pieces = r.pieces })

take-stands : (F : Form) (l : Line) (x : Option Reading) → unopened F ≡ F → onward (take_line F l) x ≡ opening [] [] (onward (take_line F l) x)
take-stands F l none e = refl
take-stands Form.blank l (some r) e = refl
take-stands Form.comment l (some r) e = refl
take-stands (Form.field n v) l (some r) e = refl
take-stands (Form.more v) l (some r) e = let z : ◌≡◌ {A = ℕ} 0 1 = cc in absurd (omega arith)
take-stands Form.fault l (some r) e = refl

other-reads : (l : Line) (ls : List Line) → unopened (form l) ≡ form l → read_from Mode.opened (l ∷ ls) ≡ opening [] [] (read_from Mode.closed (l ∷ ls))
other-reads l ls e = take-stands (form l) l (read_from (after (form l)) ls) e ∙ ap (λ (F : Form). opening [] [] (onward (take_line F l) (read_from (after F) ls))) (sym e)

-- The lines that the open field takes on, k bytes with the n before them.
pub record Owned (taken : Bool) (n : ℕ) (ls : List Line) (k : ℕ) : Type 0 where
  pub own : List Line
  pub rest : List Line
  pub value : Bytes
  pub parts : ls ≡ own ++ rest
  pub size : k ≡ n + length (bytes own)
  pub reads : read_from (pick taken Mode.joined Mode.opened) ls ≡ opening value own (read_from Mode.closed rest)
  pub whole : read_from (pick taken Mode.joined Mode.opened) own ≡ opening value own (read_from Mode.closed [])

abbrev pub Owns : Bool → ℕ → List Line → Maybe ℕ → Type 0
Owns taken n ls None = read_from (pick taken Mode.joined Mode.opened) ls ≡ none
Owns taken n ls (Some k) = Owned taken n ls k

-- one more line of the field
module _ (taken : Bool) (l : Line) (F : Form) (w : Bytes) (is : seen (pick taken Mode.joined Mode.opened) l ≡ F) (next : after F ≡ pick (joins l) Mode.joined Mode.opened) (adds : (r : Reading) → take_line F l r ≡ some (goes_on w l r)) where
  line_reads : (ls : List Line) → read_from (pick taken Mode.joined Mode.opened) (l ∷ ls) ≡ onward (take_line F l) (read_from (pick (joins l) Mode.joined Mode.opened) ls)
  line_reads ls = ap (λ (G : Form). onward (take_line G l) (read_from (after G) ls)) is ∙ ap (λ (m : Mode). onward (take_line F l) (read_from m ls)) next

  line-opens : (v : Bytes) (own : List Line) (x : Option Reading) → onward (take_line F l) (opening v own x) ≡ opening (w ++ v) (l ∷ own) x
  line-opens v own none = refl
  line-opens v own (some r) = adds (record { value = v; own = own; pieces = r.pieces })

  line-owned : (n : ℕ) (ls : List Line) (e : Maybe ℕ) → Owns (joins l) (n + line_size l) ls e → Owns taken n (l ∷ ls) e
  line-owned n ls None h = line_reads ls ∙ ap (onward (take_line F l)) h
  line-owned n ls (Some k) h =
      record {
        own = l ∷ h.own;
        rest = h.rest;
        value = w ++ h.value;
        parts = ap {B = List Line} (λ x. l ∷ x) h.parts;
        size = omega (arith, h.size, length-append l (10 ∷ bytes h.own));
        reads = line_reads ls ∙ ap (onward (take_line F l)) h.reads ∙ line-opens h.value h.own (read_from Mode.closed h.rest);
        whole = line_reads h.own ∙ ap (onward (take_line F l)) h.whole ∙ line-opens h.value h.own (read_from Mode.closed []);
      }

plus-owned : (l : Line) (n : ℕ) (ls : List Line) (e : Maybe ℕ) → is_plus l ≡ true → Owns (joins l) (n + line_size l) ls e → Owns false n (l ∷ ls) e
plus-owned l n ls e q h =
    let p = plus-form l q in
    line-owned false l (Form.more p.0) (cut p.0) p.1 (ap (λ (b : Bool). pick b Mode.joined Mode.opened) p.2) (λ r. refl) n ls e h

pub owns : (ls : List Line) (taken : Bool) (n : ℕ) → Owns taken n ls (extent_of taken n ls)
unfolding extent_of
owns [] true n = refl
owns [] false n = record { own = []; rest = []; value = []; parts = refl; size = omega arith; reads = refl; whole = refl }
owns (l ∷ ls) true n = line-owned true l (Form.more l) (cut l) refl refl (λ r. refl) n ls (extent_of (joins l) (n + line_size l) ls) (owns ls (joins l) (n + line_size l))
owns (l ∷ ls) false n = go (is_plus l) refl (owns ls (joins l) (n + line_size l))
  where
    go : (b : Bool) → is_plus l ≡ b → Owns (joins l) (n + line_size l) ls (extent_of (joins l) (n + line_size l) ls) → Owns false n (l ∷ ls) (pick b (extent_of (joins l) (n + line_size l) ls) (Some n))
    go true q h = plus-owned l n ls (extent_of (joins l) (n + line_size l) ls) q h
    go false q h = record { own = []; rest = l ∷ ls; value = []; parts = refl; size = omega arith; reads = other-reads l ls (other-stands l q); whole = refl }
