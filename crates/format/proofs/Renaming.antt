-- A field's first line is its name, a colon and the rest; under another name its lines are that field of the other name.
use Prim.Native.Nat.{ℕ, zero, suc, ◌+◌, ◌-◌}
use native.Mathlib.Omega.{arith}
use mathlib.Core.Path.{◌≡◌, refl, sym, ap, ◌∙◌, subst}
use mathlib.Core.Bool.{Bool, true, false, and-eq-true_iff}
use mathlib.Core.List.{List, [], ◌∷◌, ◌++◌}
use mathlib.Core.Option.{Option, none, some, none-ne-some, some-injective}
use lib.Dec.{eqb}
use lib.ListN.{length, drop, length-append, length-drop}
use lib.Seq.{drop-append_seam}
use borrow.Author.Tests.{eqb-true}
use Rattle.format.specs.Lists.{onward, front, behind}
use Rattle.format.specs.Bytes.{Bytes, is_blank, is_allowed, all, pick}
use Rattle.format.specs.Lines.{Line, bytes, is_first, is_later, is_name, Form, after_colon, form, cut, after_name, after_plus}
use Rattle.format.specs.Pieces.{Piece, after, unopened, Reading, begins, read_from, take_line}
use Rattle.format.specs.Records.{count_of}
use Rattle.format.specs.Edits.{renamed_lines}
use Rattle.format.proofs.Parts.{front-behind, front-passes}
use Rattle.format.proofs.Lines.{Clean, clean-append, all_append, allowed-bytes}
use Rattle.format.proofs.Whole.{alone, Whole, Sound, read_as}
use Rattle.format.proofs.Names.{name-clean, name-form, colon-any}

-- a line of a field's form is a name, a colon, and what may follow it
abbrev pub Starts : Form → Bytes → Type 0
Starts Form.blank x = Unit {0}
Starts Form.comment x = Unit {0}
Starts (Form.field n v) x = (y : Bytes) × (is_name n ≡ true) × (x ≡ n ++ (58 ∷ y)) × (after_colon n y ≡ Form.field n v)
Starts (Form.more v) x = Unit {0}
Starts Form.fault x = Unit {0}

starts-colon : (n y x : Bytes) → is_name n ≡ true → x ≡ n ++ (58 ∷ y) → Starts (after_colon n y) x
starts-colon n [] x h e = ([], h, e, refl)
starts-colon n (d ∷ y) x h e = go (is_blank d) refl
  where
    go : (b : Bool) → is_blank d ≡ b → Starts (pick b (Form.field n y) Form.fault) x
    go true q = (d ∷ y, h, e, ap (λ (b : Bool). pick b (Form.field n y) Form.fault) q)
    go false q = tt

starts-name : (n y x : Bytes) → is_name n ≡ true → x ≡ n ++ y → Starts (after_name n y) x
starts-name n [] x h e = tt
starts-name n (d ∷ y) x h e = go (eqb d 58) refl
  where
    go : (b : Bool) → eqb d 58 ≡ b → Starts (pick b (after_colon n y) Form.fault) x
    go true q = starts-colon n y x h (e ∙ ap (λ (k : ℕ). n ++ (k ∷ y)) (eqb-true d 58 q))
    go false q = tt

pub starts : (l : Line) → Starts (form l) l
starts [] = tt
starts (c ∷ x) = go (is_first c) (eqb c 35) (eqb c 43) (all is_blank (c ∷ x)) refl
  where
    n : Bytes
    n = c ∷ front is_later x

    go : (f h p b : Bool) → is_first c ≡ f → Starts (pick f (after_name n (behind is_later x)) (pick h Form.comment (pick p (Form.more (10 ∷ after_plus x)) (pick b Form.blank Form.fault)))) (c ∷ x)
    go true h p b e =
        starts-name n (behind is_later x) (c ∷ x) ((and-eq-true_iff (is_first c) (all is_later (front is_later x))).1 (e, front-passes is_later x))
        (ap (λ (y : Bytes). c ∷ y) (sym (front-behind is_later x)))
    go false true p b e = tt
    go false false true b e = tt
    go false false false true e = tt
    go false false false false e = tt

-- A whole field has a first line, of a field's form and its name; another line of that form, of any name, may take its place.
no_lines : (n v : Bytes) → Whole (Piece.field n v []) → ⊥
no_lines n v e =
    let p = ap (λ (r : Reading). r.pieces) (some-injective (alone []) (alone (Piece.field n v [] ∷ [])) e) in
    let z : ◌≡◌ {A = ℕ} 0 1 = cc in omega arith

module _ (n v : Bytes) (l : Line) (ls : List Line) where
  abbrev FieldLine : Form → Option Reading → Type 0
  FieldLine F x = (w : Bytes) × (F ≡ Form.field n w) × ((m : Bytes) (k : Line) → onward (take_line (Form.field m w) k) x ≡ some (alone (Piece.field m v (k ∷ ls) ∷ [])))

  field-line : (p w : Bytes) (r : Reading) → Piece.field p (cut w ++ r.value) (l ∷ r.own) ∷ r.pieces ≡ Piece.field n v (l ∷ ls) ∷ [] → FieldLine (Form.field p w) (some r)
  field-line p w r e =
      let a : p ≡ n = cc in
      let b : cut w ++ r.value ≡ v = cc in
      let c : r.own ≡ ls = cc in
      let d : r.pieces ≡ [] = cc in
      (w, ap {B = Form} (λ y. Form.field y w) a, λ m k i. some (record { value = []; own = []; pieces = Piece.field m (b i) (k ∷ c i) ∷ d i }))

  piece_of : (p : Piece) (r : Reading) → some (begins p r) ≡ some (alone (Piece.field n v (l ∷ ls) ∷ [])) → p ∷ r.pieces ≡ Piece.field n v (l ∷ ls) ∷ []
  piece_of p r e = ap (λ (y : Reading). y.pieces) (some-injective (begins p r) (alone (Piece.field n v (l ∷ ls) ∷ [])) e)

  line_of : (F : Form) (x : Option Reading) → onward (take_line (unopened F) l) x ≡ some (alone (Piece.field n v (l ∷ ls) ∷ [])) → FieldLine F x
  line_of F none e = absurd (none-ne-some (alone (Piece.field n v (l ∷ ls) ∷ [])) e)
  line_of Form.blank (some r) e = let p = piece_of (Piece.blank l) r e in let z : ◌≡◌ {A = ℕ} 0 1 = cc in absurd (omega arith)
  line_of Form.comment (some r) e = let p = piece_of (Piece.comment l) r e in let z : ◌≡◌ {A = ℕ} 0 1 = cc in absurd (omega arith)
  line_of (Form.field p w) (some r) e = field-line p w r (piece_of (Piece.field p (cut w ++ r.value) (l ∷ r.own)) r e)
  line_of (Form.more w) (some r) e = absurd (none-ne-some (alone (Piece.field n v (l ∷ ls) ∷ [])) e)
  line_of Form.fault (some r) e = absurd (none-ne-some (alone (Piece.field n v (l ∷ ls) ∷ [])) e)

  module _ (whole : Whole (Piece.field n v (l ∷ ls))) where
    first-line : FieldLine (form l) (read_from (after (unopened (form l))) ls)
    first-line = line_of (form l) (read_from (after (unopened (form l))) ls) whole

    first-starts : Starts (Form.field n first-line.0) l
    first-starts = subst (λ (F : Form). Starts F l) first-line.1 (starts l)

    whole-rename : (m : Bytes) → is_name m ≡ true → Whole (Piece.field m v (renamed_lines n m (l ∷ ls)))
    whole-rename m e =
        let w : Bytes = first-line.0 in
        let t : Bytes = first-starts.0 in
        let k : Line = m ++ drop (length n) l in
        let d : k ≡ m ++ (58 ∷ t) = ap (λ (y : Line). m ++ drop (length n) y) first-starts.2 ∙ ap (λ (y : Line). m ++ y) (drop-append_seam n (58 ∷ t)) in
        let g : form k ≡ Form.field m w = ap form d ∙ name-form m t e ∙ colon-any n m t w first-starts.3 in
        let q : read_from (after (unopened (form l))) ls ≡ read_from (after (Form.field n w)) ls = ap (λ (F : Form). read_from (after (unopened F)) ls) first-line.1 in
        ap (λ (F : Form). read_as (unopened F) k ls) g ∙ ap (onward (take_line (Form.field m w) k)) (sym q) ∙ first-line.2 m k

-- the name of a field is a name, and its first line begins with it and a colon
pub sound-name : (n v : Bytes) (ls : List Line) → Sound (Piece.field n v ls) → is_name n ≡ true
sound-name n v [] s = absurd (no_lines n v s.1)
sound-name n v (l ∷ ls) s = (first-starts n v l ls s.1).1

pub sound-starts : (n v : Bytes) (ls : List Line) → Sound (Piece.field n v ls) → (l : Line) × (rest : List Line) × (t : Bytes) × (ls ≡ l ∷ rest) × (l ≡ n ++ (58 ∷ t))
sound-starts n v [] s = absurd (no_lines n v s.1)
sound-starts n v (l ∷ ls) s = let h = first-starts n v l ls s.1 in (l, ls, h.0, refl, h.2)

-- and its value is what follows the dropped blank, without a backslash at its end, and what the other lines add
pub sound-reads : (n v : Bytes) (l : Line) (ls : List Line) → Sound (Piece.field n v (l ∷ ls)) → (t w : Bytes) × (l ≡ n ++ (58 ∷ t)) × (after_colon n t ≡ Form.field n w) × (onward (take_line (Form.field n w) l) (read_from (after (Form.field n w)) ls) ≡ some (alone (Piece.field n v (l ∷ ls) ∷ [])))
sound-reads n v l ls s =
    let f = first-line n v l ls s.1 in
    let h = first-starts n v l ls s.1 in
    let q : read_from (after (unopened (form l))) ls ≡ read_from (after (Form.field n f.0)) ls = ap (λ (F : Form). read_from (after (unopened F)) ls) f.1 in
    (h.0, f.0, h.2, h.3, ap (onward (take_line (Form.field n f.0) l)) (sym q) ∙ f.2 n l)

-- a renamed field is sound
drop-clean : (k : ℕ) (l : Line) → Clean l → Clean (drop k l)
drop-clean zero l x = x
drop-clean (suc k) [] x = tt
drop-clean (suc k) (c ∷ l) x = drop-clean k l x.1

pub sound-rename : (n v : Bytes) (ls : List Line) (m : Bytes) → is_name m ≡ true → Sound (Piece.field n v ls) → Sound (Piece.field m v (renamed_lines n m ls))
sound-rename n v [] m e s = absurd (no_lines n v s.1)
sound-rename n v (l ∷ ls) m e s = ((clean-append m (drop (length n) l) (name-clean m e) (drop-clean (length n) l s.0.0), s.0.1), whole-rename n v l ls s.1 m e)

-- its byte count differs by the names' lengths
pub count-rename : (n v : Bytes) (ls : List Line) (m : Bytes) → Sound (Piece.field n v ls) → count_of (renamed_lines n m ls) ≡ (count_of ls + length m) - length n
count-rename n v [] m s = absurd (no_lines n v s.1)
count-rename n v (l ∷ ls) m s =
    let h = first-starts n v l ls s.1 in
    let d : List ℕ = drop (length n) l in
    let b : Bytes = 10 ∷ bytes ls in
    omega (arith, length-append (m ++ d) b, length-append m d, length-drop (length n) l, length-append l b, ap length h.2, length-append n (58 ∷ h.0))

-- its bytes are allowed if the old ones and the new name's are
drop-allowed : (k : ℕ) (s : Bytes) → all is_allowed s ≡ true → all is_allowed (drop k s) ≡ true
drop-allowed zero s e = e
drop-allowed (suc k) [] e = refl
drop-allowed (suc k) (c ∷ s) e = drop-allowed k s ((and-eq-true_iff (is_allowed c) (all is_allowed s)).0 e).1

pub allowed-rename : (n m : Bytes) (ls : List Line) → all is_allowed m ≡ true → all is_allowed (bytes ls) ≡ true → all is_allowed (bytes (renamed_lines n m ls)) ≡ true
allowed-rename n m [] a e = refl
allowed-rename n m (l ∷ ls) a e =
    let d : Bytes = drop (length n) l in
    let h = (and-eq-true_iff (all is_allowed l) (all (all is_allowed) ls)).0 (sym (allowed-bytes (l ∷ ls)) ∙ e) in
    let g : all is_allowed (m ++ d) ≡ true = all_append is_allowed m d ∙ (and-eq-true_iff (all is_allowed m) (all is_allowed d)).1 (a, drop-allowed (length n) l h.0) in
    allowed-bytes ((m ++ d) ∷ ls) ∙ (and-eq-true_iff (all is_allowed (m ++ d)) (all (all is_allowed) ls)).1 (g, h.1)
