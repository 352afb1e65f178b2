-- A field takes three bytes more than its value has: a name of one byte, a colon, a newline.
use Prim.Native.Nat.{ℕ, suc, ◌+◌, ◌≤◌, ◌<◌}
use native.Mathlib.Omega.{arith}
use mathlib.Core.Path.{◌≡◌, ap}
use mathlib.Core.Bool.{Bool, true, false, false≢true}
use mathlib.Core.List.{List, [], ◌∷◌, ◌++◌}
use mathlib.Core.Option.{Option, none, some, none-ne-some, some-injective}
use lib.Dec.{eqb}
use lib.ListN.{length, length-append}
use Rattle.format.specs.Bytes.{Bytes, is_blank, pick, all}
use Rattle.format.specs.Lists.{onward, front, behind}
use Rattle.format.specs.Lines.{Line, bytes, is_first, is_later, is_name, Form, after_colon, after_name, after_plus, form, cut}
use Rattle.format.specs.Pieces.{Piece, Mode, after, unopened, seen, Reading, begins, take_line, at_end, read_from}
use Rattle.format.specs.Records.{count_of}
use Rattle.format.proofs.Whole.{alone, Sound}
use Rattle.format.proofs.Renaming.{sound-name, sound-starts, sound-reads}

picked-length : (b : Bool) (s t : Bytes) (n : ℕ) → length s ≤ n → length t ≤ n → length (pick b s t) ≤ n
picked-length true s t n h k = h
picked-length false s t n h k = k

cut-length : (s : Bytes) → length (cut s) ≤ length s
cut-length [] = omega arith
cut-length (c ∷ []) = picked-length (eqb c 92) [] (c ∷ []) 1 (omega arith) (omega arith)
cut-length (c ∷ d ∷ s) = omega (arith, cut-length (d ∷ s))

plus-length : (s : Bytes) → length (after_plus s) ≤ length s
plus-length [] = omega arith
plus-length (c ∷ s) = picked-length (eqb c 32) s (c ∷ s) (suc (length s)) (omega arith) (omega arith)

-- what a line adds to the value that is open before it has no more bytes than the line with its newline
abbrev Adds : ℕ → Form → Type 0
Adds n Form.blank = Unit {0}
Adds n Form.comment = Unit {0}
Adds n (Form.field m w) = Unit {0}
Adds n (Form.more w) = length w ≤ n
Adds n Form.fault = Unit {0}

adds-pick : (n : ℕ) (b : Bool) (F G : Form) → Adds n F → Adds n G → Adds n (pick b F G)
adds-pick n true F G h k = h
adds-pick n false F G h k = k

colon-adds : (n : ℕ) (m t : Bytes) → Adds n (after_colon m t)
colon-adds n m [] = tt
colon-adds n m (c ∷ t) = adds-pick n (is_blank c) (Form.field m t) Form.fault tt tt

name-adds : (n : ℕ) (m t : Bytes) → Adds n (after_name m t)
name-adds n m [] = tt
name-adds n m (c ∷ t) = adds-pick n (eqb c 58) (after_colon m t) Form.fault (colon-adds n m t) tt

form-adds : (l : Line) → Adds (suc (length l)) (form l)
form-adds [] = tt
form-adds (c ∷ s) =
    let n : ℕ = suc (suc (length s)) in
    let blank : Form = pick (all is_blank (c ∷ s)) Form.blank Form.fault in
    let more : Form = Form.more (10 ∷ after_plus s) in
    let named : Form = after_name (c ∷ front is_later s) (behind is_later s) in
    adds-pick n (is_first c) named (pick (eqb c 35) Form.comment (pick (eqb c 43) more blank)) (name-adds n (c ∷ front is_later s) (behind is_later s))
    (adds-pick n (eqb c 35) Form.comment (pick (eqb c 43) more blank) tt
    (adds-pick n (eqb c 43) more blank (omega (arith, plus-length s)) (adds-pick n (all is_blank (c ∷ s)) Form.blank Form.fault tt tt)))

unopened-adds : (n : ℕ) (F : Form) → Adds n F → Adds n (unopened F)
unopened-adds n Form.blank h = tt
unopened-adds n Form.comment h = tt
unopened-adds n (Form.field m w) h = tt
unopened-adds n (Form.more w) h = tt
unopened-adds n Form.fault h = tt

seen-adds : (m : Mode) (l : Line) → Adds (suc (length l)) (seen m l)
seen-adds Mode.closed l = unopened-adds (suc (length l)) (form l) (form-adds l)
seen-adds Mode.opened l = form-adds l
seen-adds Mode.joined l = omega arith

abbrev Held : Option Reading → Type 0
Held none = Unit {0}
Held (some r) = length r.value ≤ length (bytes r.own)

held-take : (F : Form) (l : Line) (r : Reading) → Adds (suc (length l)) F → Held (some r) → Held (take_line F l r)
held-take Form.blank l r a h = omega arith
held-take Form.comment l r a h = omega arith
held-take (Form.field m w) l r a h = omega arith
held-take (Form.more w) l r a h = omega (arith, a, h, cut-length w, length-append (cut w) r.value, length-append l (10 ∷ bytes r.own))
held-take Form.fault l r a h = tt

held_in : (F : Form) (l : Line) (x : Option Reading) → Adds (suc (length l)) F → Held x → Held (onward (take_line F l) x)
held_in F l none a h = tt
held_in F l (some r) a h = held-take F l r a h

held-end : (m : Mode) → Held (at_end m)
held-end Mode.closed = omega arith
held-end Mode.opened = omega arith
held-end Mode.joined = tt

held : (ls : List Line) (m : Mode) → Held (read_from m ls)
held [] m = held-end m
held (l ∷ ls) m = held_in (seen m l) l (read_from (after (seen m l)) ls) (seen-adds m l) (held ls (after (seen m l)))

colon-length : (n t w : Bytes) → after_colon n t ≡ Form.field n w → length w ≤ length t
colon-length n [] w e = let q : [] ≡ w = cc in omega (arith, ap length q)
colon-length n (c ∷ s) w e = go (is_blank c) e
  where
    go : (b : Bool) → pick b (Form.field n s) Form.fault ≡ Form.field n w → length w ≤ length (c ∷ s)
    go true q = let k : s ≡ w = cc in omega (arith, ap length k)
    go false q = absurd (let z : ◌≡◌ {A = ℕ} 0 1 = cc in omega arith)

name-some : (n : Bytes) → is_name n ≡ true → 0 < length n
name-some [] e = absurd (false≢true e)
name-some (c ∷ n) e = omega arith

value_of : (n w v : Bytes) (l : Line) (ls : List Line) (x : Option Reading) → Held x → onward (take_line (Form.field n w) l) x ≡ some (alone (Piece.field n v (l ∷ ls) ∷ [])) → length v ≤ length w + length (bytes ls)
value_of n w v l ls none h e = absurd (none-ne-some (alone (Piece.field n v (l ∷ ls) ∷ [])) e)
value_of n w v l ls (some r) h e =
    let p : Piece.field n (cut w ++ r.value) (l ∷ r.own) ∷ r.pieces ≡ Piece.field n v (l ∷ ls) ∷ [] = ap (λ (y : Reading). y.pieces) (some-injective (begins (Piece.field n (cut w ++ r.value) (l ∷ r.own)) r) (alone (Piece.field n v (l ∷ ls) ∷ [])) e) in
    let a : cut w ++ r.value ≡ v = cc in
    let b : r.own ≡ ls = cc in
    omega (arith, h, cut-length w, length-append (cut w) r.value, ap length a, ap (λ (k : List Line). length (bytes k)) b)

pub value-size : (n v : Bytes) (ls : List Line) → Sound (Piece.field n v ls) → length v + 3 ≤ count_of ls
value-size n v [] s = let e = (sound-starts n v [] s).3 in absurd (let z : ◌≡◌ {A = ℕ} 0 1 = cc in omega arith)
value-size n v (l ∷ ls) s =
    let h = sound-reads n v l ls s in
    let t : Bytes = h.0 in
    let w : Bytes = h.1 in
    omega (arith, name-some n (sound-name n v (l ∷ ls) s), ap length h.2, length-append n (58 ∷ t), colon-length n t w h.3, value_of n w v l ls (read_from (after (Form.field n w)) ls) (held ls (after (Form.field n w))) h.4, length-append l (10 ∷ bytes ls))
