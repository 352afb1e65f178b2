-- Decoding the bytes of lines gives what the definitions read in them; so decoding a field's bytes from where its value begins gives its value,
-- whatever follows the field and does not begin with a plus.
use Prim.Native.Nat.{ℕ, ◌+◌}
use native.Mathlib.Omega.{arith}
use mathlib.Core.Path.{◌≡◌, refl, sym, ap, ◌∙◌, subst}
use mathlib.Core.Bool.{Bool, true, false, false≢true}
use mathlib.Core.List.{List, [], ◌∷◌, ◌++◌, append_assoc, append-nil}
use mathlib.Core.Option.{Option, none, some, none-ne-some, some-injective}
use lib.Dec.{eqb}
use lib.ListN.{length, get_or, drop, length-append}
use lib.Seq.{drop-append-add}
use borrow.Author.Tests.{eqb-true, eqb-false, eq-eqb, ne_eqb}
use Rattle.format.specs.Lists.{onward, front, behind}
use Rattle.format.specs.Bytes.{Bytes, is_blank, is_newline, all, pick}
use Rattle.format.specs.Lines.{Line, bytes, is_first, is_later, is_name, Form, after_plus, form, joins, cut, after_name}
use Rattle.format.specs.Pieces.{Piece, all_lines, bytes_of, Mode, after, unopened, Reading, read_from, take_line}
use Rattle.format.proofs.Elements.{Each}
use Rattle.format.proofs.Lines.{Clean, bytes-append, newline-joins, newline-cut}
use Rattle.format.proofs.Whole.{alone, Whole, Sound, read_as}
use Rattle.format.proofs.Names.{name-form}
use Rattle.format.proofs.Renaming.{sound-name, sound-starts}
use Rattle.values.specs.Value.{value_from}
use Rattle.lines.specs.Piece.{value_at}
use Rattle.lines.proofs.Owned.{name-stands}
use Rattle.values.proofs.Decoding.{value-joined, value-plain, value-end, value-space, value-plus}

-- A line's bytes, up to a backslash at its end; then the next line's, at once where that one is taken on.
abbrev after_line : Bool → Bytes → Bytes
after_line true s = s
after_line false s = 10 ∷ s

last-value : (b : Bool) (c : ℕ) (s : Bytes) → eqb c 92 ≡ b → is_newline c ≡ false → value_from (c ∷ 10 ∷ s) ≡ pick b [] (c ∷ []) ++ value_from (after_line b s)
last-value true c s e x = ap (λ (d : ℕ). value_from (d ∷ 10 ∷ s)) (eqb-true c 92 e) ∙ value-joined s
last-value false c s e x = value-plain c (10 ∷ s) (eqb-false c 10 x) (λ q p. eqb-false c 92 e q)

line-value : (v s : Bytes) → Clean v → value_from (v ++ (10 ∷ s)) ≡ cut v ++ value_from (after_line (joins v) s)
line-value [] s x = refl
line-value (c ∷ []) s x = last-value (eqb c 92) c s refl x.0
line-value (c ∷ d ∷ v) s x =
    value-plain c (d ∷ (v ++ (10 ∷ s))) (eqb-false c 10 x.0) (λ q. eqb-false d 10 x.1.0) ∙ ap {B = Bytes} (λ y. c ∷ y) (line-value (d ∷ v) s x.1)

-- What is read as value is what decoding makes of the bytes s of the lines: behind a newline where the line before is ended, at once where it
-- takes the next one on. Nothing is said where no field is open.
abbrev Decodes : Mode → Bytes → Option Reading → Type 0
Decodes m s none = Unit {0}
Decodes Mode.closed s (some r) = Unit {0}
Decodes Mode.opened s (some r) = r.value ≡ value_from (10 ∷ s)
Decodes Mode.joined s (some r) = r.value ≡ value_from s

decodes-closed : (s : Bytes) (x : Option Reading) → Decodes Mode.closed s x
decodes-closed s none = tt
decodes-closed s (some r) = tt

decodes-behind : (b : Bool) (s : Bytes) (r : Reading) → Decodes (pick b Mode.joined Mode.opened) s (some r) → r.value ≡ value_from (after_line b s)
decodes-behind true s r e = e
decodes-behind false s r e = e

-- the end of a field line, a plus line or a line taken on, and what follows it
text-value : (v s : Bytes) (r : Reading) → Clean v → Decodes (pick (joins v) Mode.joined Mode.opened) s (some r) → cut v ++ r.value ≡ value_from (v ++ (10 ∷ s))
text-value v s r x e = ap (λ (y : Bytes). cut v ++ y) (decodes-behind (joins v) s r e) ∙ sym (line-value v s x)

part-value : (l : Line) (s : Bytes) (x : Option Reading) → Clean l → Decodes (pick (joins l) Mode.joined Mode.opened) s x → Decodes Mode.joined (l ++ (10 ∷ s)) (onward (take_line (Form.more l) l) x)
part-value l s none h e = tt
part-value l s (some r) h e = text-value l s r h e

-- a plus line
plus-clean : (s : Bytes) → Clean s → Clean (after_plus s)
plus-clean [] x = tt
plus-clean (c ∷ s) x = go (eqb c 32)
  where
    go : (b : Bool) → Clean (pick b s (c ∷ s))
    go true = x.1
    go false = x

plus-text : (s y : Bytes) → value_from (10 ∷ 43 ∷ (s ++ (10 ∷ y))) ≡ 10 ∷ value_from (after_plus s ++ (10 ∷ y))
plus-text [] y = value-plus (10 ∷ y) (λ q. omega arith)
plus-text (c ∷ s) y = go (eqb c 32) refl
  where
    go : (b : Bool) → eqb c 32 ≡ b → value_from (10 ∷ 43 ∷ c ∷ (s ++ (10 ∷ y))) ≡ 10 ∷ value_from (pick b s (c ∷ s) ++ (10 ∷ y))
    go true e = ap (λ (d : ℕ). value_from (10 ∷ 43 ∷ d ∷ (s ++ (10 ∷ y)))) (eqb-true c 32 e) ∙ value-space (s ++ (10 ∷ y))
    go false e = value-plus (c ∷ (s ++ (10 ∷ y))) (eqb-false c 32 e)

plus-value : (c : ℕ) (s y : Bytes) (x : Option Reading) → c ≡ 43 → Clean s → Decodes (after (Form.more (10 ∷ after_plus s))) y x → Decodes Mode.opened (c ∷ (s ++ (10 ∷ y))) (onward (take_line (Form.more (10 ∷ after_plus s)) (c ∷ s)) x)
plus-value c s y none q h e = tt
plus-value c s y (some r) q h e =
    let d : Decodes (pick (joins (after_plus s)) Mode.joined Mode.opened) y (some r) = subst (λ (b : Bool). Decodes (pick b Mode.joined Mode.opened) y (some r)) (newline-joins (after_plus s)) e in
    ap (λ (z : Bytes). z ++ r.value) (newline-cut (after_plus s))
    ∙ ap {B = Bytes} (λ z. 10 ∷ z) (text-value (after_plus s) y r (plus-clean s h) d) ∙ sym (plus-text s y) ∙ ap (λ (k : ℕ). value_from (10 ∷ k ∷ (s ++ (10 ∷ y)))) (sym q)

-- a line that adds nothing to an open field has the form that it has where none is open
apart-value : (F : Form) (l : Line) (s : Bytes) (x : Option Reading) → unopened F ≡ F → (get_or s 0 0 ≡ 43 → ⊥) → Decodes Mode.opened s (onward (take_line F l) x)
apart-value F l s none a h = tt
apart-value Form.blank l s (some r) a h = sym (value-end s h)
apart-value Form.comment l s (some r) a h = sym (value-end s h)
apart-value (Form.field n v) l s (some r) a h = sym (value-end s h)
apart-value (Form.more v) l s (some r) a h = let z : ◌≡◌ {A = ℕ} 0 1 = cc in absurd (omega arith)
apart-value Form.fault l s (some r) a h = tt

module _ (c : ℕ) (s y : Bytes) (x : Option Reading) where
  abbrev form_by : Bool → Bool → Bool → Bool → Form
  form_by f h p b = pick f (after_name (c ∷ front is_later s) (behind is_later s)) (pick h Form.comment (pick p (Form.more (10 ∷ after_plus s)) (pick b Form.blank Form.fault)))

  form-value : (f h p b : Bool) → is_first c ≡ f → eqb c 35 ≡ h → eqb c 43 ≡ p → Clean s → Decodes (after (form_by f h p b)) y x → Decodes Mode.opened (c ∷ (s ++ (10 ∷ y))) (onward (take_line (form_by f h p b) (c ∷ s)) x)
  form-value true h p b i j k n e = apart-value (form_by true h p b) (c ∷ s) (c ∷ (s ++ (10 ∷ y))) x (name-stands (c ∷ front is_later s) (behind is_later s)) (λ q. false≢true (sym (ap is_first q) ∙ i))
  form-value false true p b i j k n e = apart-value Form.comment (c ∷ s) (c ∷ (s ++ (10 ∷ y))) x refl (λ q. omega (arith, eqb-true c 35 j))
  form-value false false true b i j k n e = plus-value c s y x (eqb-true c 43 k) n e
  form-value false false false true i j k n e = apart-value Form.blank (c ∷ s) (c ∷ (s ++ (10 ∷ y))) x refl (eqb-false c 43 k)
  form-value false false false false i j k n e = apart-value Form.fault (c ∷ s) (c ∷ (s ++ (10 ∷ y))) x refl (eqb-false c 43 k)

opened-value : (l : Line) (y : Bytes) (x : Option Reading) → Clean l → Decodes (after (form l)) y x → Decodes Mode.opened (l ++ (10 ∷ y)) (onward (take_line (form l) l) x)
opened-value [] y x n e = apart-value Form.blank [] (10 ∷ y) x refl (λ q. omega arith)
opened-value (c ∷ s) y x n e = form-value c s y x (is_first c) (eqb c 35) (eqb c 43) (all is_blank (c ∷ s)) refl refl refl n.1 e

-- Lines, and a text t behind them that does not begin with a plus.
module _ (t : Bytes) (apart : get_or t 0 0 ≡ 43 → ⊥) where
  regroup : (l : Line) (ls : List Line) → bytes (l ∷ ls) ++ t ≡ l ++ (10 ∷ (bytes ls ++ t))
  regroup l ls = append_assoc l (10 ∷ bytes ls) t

  decodes : (ls : List Line) (m : Mode) → Each Clean ls → Decodes m (bytes ls ++ t) (read_from m ls)
  decodes [] Mode.closed h = tt
  decodes [] Mode.opened h = sym (value-end t apart)
  decodes [] Mode.joined h = tt
  decodes (l ∷ ls) Mode.closed h = decodes-closed (bytes (l ∷ ls) ++ t) (read_from Mode.closed (l ∷ ls))
  decodes (l ∷ ls) Mode.opened h = rw (regroup l ls) (opened-value l (bytes ls ++ t) (read_from (after (form l)) ls) h.0 (decodes ls (after (form l)) h.1))
  decodes (l ∷ ls) Mode.joined h = rw (regroup l ls) (part-value l (bytes ls ++ t) (read_from (pick (joins l) Mode.joined Mode.opened) ls) h.0 (decodes ls (pick (joins l) Mode.joined Mode.opened) h.1))

  module _ (n v w : Bytes) (l : Line) (own : List Line) where
    whole_in : (x : Option Reading) → Clean w → Decodes (pick (joins w) Mode.joined Mode.opened) (bytes own ++ t) x → onward (take_line (Form.field n w) l) x ≡ some (alone (Piece.field n v (l ∷ own) ∷ [])) → v ≡ value_from (w ++ (10 ∷ (bytes own ++ t)))
    whole_in none c d e = absurd (none-ne-some (alone (Piece.field n v (l ∷ own) ∷ [])) e)
    whole_in (some r) c d e =
        let p : Piece.field n (cut w ++ r.value) (l ∷ r.own) ∷ r.pieces ≡ Piece.field n v (l ∷ own) ∷ [] = ap (λ (y : Reading). y.pieces) (some-injective (alone (Piece.field n (cut w ++ r.value) (l ∷ r.own) ∷ r.pieces)) (alone (Piece.field n v (l ∷ own) ∷ [])) e) in
        let q : v ≡ cut w ++ r.value = cc in
        q ∙ text-value w (bytes own ++ t) r c d

    whole-value : Clean w → Each Clean own → form l ≡ Form.field n w → Whole (Piece.field n v (l ∷ own)) → v ≡ value_from (w ++ (10 ∷ (bytes own ++ t)))
    whole-value c h f e = whole_in (read_from (pick (joins w) Mode.joined Mode.opened) own) c (decodes own (pick (joins w) Mode.joined Mode.opened) h) (sym (ap (λ (F : Form). read_as (unopened F) l own) f) ∙ e)

no-fault : (x : Option Reading) (l : Line) (r : Reading) → onward (take_line Form.fault l) x ≡ some r → ⊥
no-fault none l r e = none-ne-some r e
no-fault (some y) l r e = none-ne-some r e

fault-reads : (l : Line) (ls : List Line) (r : Reading) → unopened (form l) ≡ Form.fault → read_from Mode.closed (l ∷ ls) ≡ some r → ⊥
fault-reads l ls r f e = no-fault (read_from Mode.closed ls) l r (sym (ap (λ (F : Form). read_as F l ls) f) ∙ e)

-- so the form of a whole field's first line has its name, and what follows the byte behind the colon, if there is one
starts-form : (n v u : Bytes) (own : List Line) → is_name n ≡ true → Whole (Piece.field n v ((n ++ (58 ∷ u)) ∷ own)) → form (n ++ (58 ∷ u)) ≡ Form.field n (drop 1 u)
starts-form n v [] own e h = name-form n [] e
starts-form n v (c ∷ u) own e h = go (is_blank c) refl
  where
    go : (b : Bool) → is_blank c ≡ b → form (n ++ (58 ∷ c ∷ u)) ≡ Form.field n u
    go true q = name-form n (c ∷ u) e ∙ ap (λ (b : Bool). pick b (Form.field n u) Form.fault) q
    go false q = absurd (fault-reads (n ++ (58 ∷ c ∷ u)) own (alone (Piece.field n v ((n ++ (58 ∷ c ∷ u)) ∷ own) ∷ [])) (ap unopened (name-form n (c ∷ u) e ∙ ap (λ (b : Bool). pick b (Form.field n u) Form.fault) q)) h)

-- and its value begins there
drop-value : (n u y : Bytes) → drop (value_at (length n) (n ++ (58 ∷ u))) ((n ++ (58 ∷ u)) ++ (10 ∷ y)) ≡ drop 1 u ++ (10 ∷ y)
drop-value n [] y = rw (length-append n (58 ∷ []), eq-eqb (length n + 1) (length n + 1) refl, append_assoc) (drop-append-add n (58 ∷ 10 ∷ y) 1)
drop-value n (c ∷ u) y =
    let l : Line = n ++ (58 ∷ c ∷ u) in
    rw (ne_eqb (length l) (length n + 1) (λ q. omega (arith, length-append n (58 ∷ c ∷ u))), append_assoc) (drop-append-add n (58 ∷ c ∷ (u ++ (10 ∷ y))) 2)

clean-behind : (a b : Bytes) → Clean (a ++ b) → Clean b
clean-behind [] b h = h
clean-behind (c ∷ a) b h = clean-behind a b h.1

clean-rest : (u : Bytes) → Clean u → Clean (drop 1 u)
clean-rest [] h = tt
clean-rest (c ∷ u) h = h.1

named_value : (n v u : Bytes) (own : List Line) (t : Bytes) → (get_or t 0 0 ≡ 43 → ⊥) → Sound (Piece.field n v ((n ++ (58 ∷ u)) ∷ own)) → v ≡ value_from (drop (value_at (length n) (n ++ (58 ∷ u))) (bytes ((n ++ (58 ∷ u)) ∷ own) ++ t))
named_value n v u own t a h =
    let l : Line = n ++ (58 ∷ u) in
    let y : Bytes = bytes own ++ t in
    let w : Bytes = drop 1 u in
    let c : Clean w = clean-rest u (clean-behind n (58 ∷ u) h.0.0).1 in
    let d : drop (value_at (length n) l) (bytes (l ∷ own) ++ t) ≡ w ++ (10 ∷ y) = ap (drop (value_at (length n) l)) (append_assoc l (10 ∷ bytes own) t) ∙ drop-value n u y in
    whole-value t a n v w l own c h.0.1 (starts-form n v u own (sound-name n v (l ∷ own) h) h.1) h.1 ∙ sym (ap value_from d)

-- Decoding a field's bytes from where its value begins gives its value; what follows the field does not matter, but for a plus.
pub field-value-followed : (n v : Bytes) (l : Line) (own : List Line) (t : Bytes) → (get_or t 0 0 ≡ 43 → ⊥) → Sound (Piece.field n v (l ∷ own)) → v ≡ value_from (drop (value_at (length n) l) (bytes (l ∷ own) ++ t))
field-value-followed n v l own t a h =
    let f = sound-starts n v (l ∷ own) h in
    let u : Bytes = f.2 in
    let e : n ++ (58 ∷ u) ≡ l = cc in
    let P : Line → Type 0 = λ k. Sound (Piece.field n v (k ∷ own)) → v ≡ value_from (drop (value_at (length n) k) (bytes (k ∷ own) ++ t)) in
    subst P e (named_value n v u own t a) h

pub field-value : (n v : Bytes) (l : Line) (own : List Line) → Sound (Piece.field n v (l ∷ own)) → v ≡ value_from (drop (value_at (length n) l) (bytes (l ∷ own)))
field-value n v l own h = rw append-nil at (field-value-followed n v l own [] (λ q. omega arith) h)

-- Sound pieces begin with no plus, so a field's value may be decoded among the pieces of a file.
first-apart : (l : Line) (ls : List Line) (r : Reading) (y : Bytes) → read_from Mode.closed (l ∷ ls) ≡ some r → get_or (l ++ (10 ∷ y)) 0 0 ≡ 43 → ⊥
first-apart [] ls r y e q = omega arith
first-apart (c ∷ s) ls r y e q = fault-reads (c ∷ s) ls r (ap (λ (d : ℕ). unopened (form (d ∷ s))) q) e

pub sound-apart : (ps : List Piece) → Each Sound ps → get_or (bytes_of ps) 0 0 ≡ 43 → ⊥
unfolding bytes_of
sound-apart [] h q = omega arith
sound-apart (Piece.blank l ∷ ps) h q = first-apart l [] (alone (Piece.blank l ∷ [])) (bytes (all_lines ps)) h.0.1 q
sound-apart (Piece.comment l ∷ ps) h q = first-apart l [] (alone (Piece.comment l ∷ [])) (bytes (all_lines ps)) h.0.1 q
sound-apart (Piece.field n v [] ∷ ps) h q = let f = sound-starts n v [] h.0 in let e = f.3 in let z : ◌≡◌ {A = ℕ} 0 1 = cc in omega arith
sound-apart (Piece.field n v (l ∷ ls) ∷ ps) h q = first-apart l ls (alone (Piece.field n v (l ∷ ls) ∷ [])) (bytes (ls ++ all_lines ps)) h.0.1 q

pub field-value-among : (n v : Bytes) (l : Line) (own : List Line) (ps : List Piece) → Each Sound (Piece.field n v (l ∷ own) ∷ ps) → v ≡ value_from (drop (value_at (length n) l) (bytes_of (Piece.field n v (l ∷ own) ∷ ps)))
unfolding bytes_of
field-value-among n v l own ps h =
    field-value-followed n v l own (bytes_of ps) (sound-apart ps h.1) h.0 ∙ sym (ap (λ (y : Bytes). value_from (drop (value_at (length n) l) y)) (bytes-append (l ∷ own) (all_lines ps)))
