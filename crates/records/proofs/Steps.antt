-- One step of a walk over a readable part: the piece that the part goes on with, its size, and the readable rest behind it.
use Rattle.std.specs.Prelude.{Option as Maybe, Some, None}
use Prim.Native.Nat.{ℕ, zero, suc, ◌+◌, ◌-◌, ◌≤◌, ◌<◌}
use native.Mathlib.Omega.{arith}
use mathlib.Core.Path.{◌≡◌, refl, sym, ap, ◌∙◌, subst}
use mathlib.Core.Bool.{Bool, true, false, ◌||◌}
use mathlib.Core.List.{List, [], ◌∷◌, ◌++◌}
use mathlib.Core.Option.{Option, none, some, none-ne-some, some-injective}
use lib.ListN.{length, take, drop, length-drop}
use lib.Seq.{drop-drop, take-nil, length-take-le}
use Rattle.format.proofs.Whole.{Sound}
use Rattle.format.proofs.Elements.{Each, each_append}
use Rattle.format.specs.Bytes.{Bytes, text, same}
use Rattle.format.specs.Lines.{Line, lines, Form, form}
use Rattle.format.specs.Pieces.{Piece, lines_of, all_lines, bytes_of, pieces, some_of, read_of}
use Rattle.format.specs.Records.{count_of, fields_of}
use Rattle.format.proofs.Lines.{lines-bytes, Clean}
use Rattle.format.proofs.Renaming.{sound-starts}
use Rattle.lines.specs.Line.{line_len, first_line}
use Rattle.lines.specs.Piece.{value_at, field_next, extent_of, next_by, next_of, is_fault, size_of}
use Rattle.values.specs.Pieces.{piece_of, on_piece}
use Rattle.values.specs.Value.{value_from}
use Rattle.lines.specs.declared.Next.{Next}
use Rattle.lines.proofs.Cuts.{rest, lines_cut, ended-drop}
use Rattle.lines.proofs.Nexts.{next-first}
use Rattle.values.proofs.Pieces.{next-cut, no_pieces}
use Rattle.lines.proofs.Inside.{Inside, next-inside}
use Rattle.records.specs.Places.{is_readable, size_in, head_line}
use Rattle.records.specs.Walk.{record_in, run_from}
use Rattle.records.proofs.Walks.{size-piece}
use Rattle.records.proofs.Readings.{Reads, reads-length, readable-ended, readable-pieces, readable-reads}

-- a piece of k bytes from byte i on, and the part behind it
pub record Passed (s : Bytes) (i : ℕ) (p : Piece) (k : ℕ) : Type 0 where
  pub reads : read_of (drop i s) ≡ p ∷ read_of (drop (i + k) s)
  pub size : count_of (lines_of p) ≡ k
  pub moves : 0 < k
  pub inside : i + k ≤ length s
  pub readable : is_readable (drop (i + k) s) ≡ true

-- a field from byte i on, whose name has n bytes and whose value begins v bytes further on
pub record FieldAt (s : Bytes) (i n v k : ℕ) : Type 0 where
  pub name : Bytes
  pub value : Bytes
  pub own : List Line
  pub passed : Passed s i (Piece.field name value own) k
  pub named : take ((i + n) - i) (drop i s) ≡ name
  pub begins : v ≡ value_at (length name) (head_line own)
  pub decodes : value_from (take ((i + k) - (i + v)) (drop (i + v) s)) ≡ value
  pub name-inside : n ≤ k
  pub value-inside : v ≤ k

abbrev pub Steps : Bytes → ℕ → Next → Type 0
Steps s i Next.End = read_of (drop i s) ≡ []
Steps s i Next.Fault = ⊥
Steps s i (Next.Blank k) = (l : Line) × Passed s i (Piece.blank l) k
Steps s i (Next.Comment k) = (l : Line) × Passed s i (Piece.comment l) k
Steps s i (Next.Field n v k) = FieldAt s i n v k

-- the rest behind a piece is readable, and the piece has the bytes before it
module _ (s : Bytes) (i : ℕ) (e : is_readable (drop i s) ≡ true) (p : Piece) (k : ℕ) (moves : 0 < k) (inside : k ≤ length (drop i s)) where
  passed-by : (x : Option (List Piece)) → pieces (drop k (drop i s)) ≡ x → some (read_of (drop i s)) ≡ on_piece (some p) x → Passed s i p k
  unfolding is_readable read_of
  passed-by none q h = absurd (none-ne-some (read_of (drop i s)) (sym h))
  passed-by (some ps) q h =
      let t : Bytes = drop i s in
      let u : Bytes = drop (i + k) s in
      let d : drop k t ≡ u = drop-drop k i s in
      let readable : is_readable u ≡ true = rw (← d, ended-drop t k (readable-ended t e), q) in
      let a : read_of t ≡ p ∷ ps = some-injective (read_of t) (p ∷ ps) h in
      let b : read_of u ≡ ps = ap (λ (x : Bytes). read_of x) (sym d) ∙ ap some_of q in
      record {
        reads = a ∙ ap {B = List Piece} (λ x. p ∷ x) (sym b);
        size = omega (arith, reads-length (readable-reads t e), reads-length (readable-reads u readable), length-drop i s, length-drop (i + k) s, ap size_in a, ap size_in b, size-piece p ps);
        moves = moves;
        inside = omega (arith, length-drop i s);
        readable = readable;
      }

-- the first line of a field is the part's
sound-clean : (ps : List Piece) → Each Sound ps → Each Clean (all_lines ps)
sound-clean [] h = tt
sound-clean (p ∷ ps) h = each_append Clean (lines_of p) (all_lines ps) h.0.0 (sound-clean ps h.1)

reads_lines : (s : Bytes) (ps : List Piece) → Reads s ps → lines s ≡ all_lines ps
unfolding bytes_of
reads_lines s ps r = ap lines (sym r.all) ∙ lines-bytes (all_lines ps) (sound-clean ps r.sound)

head-append : (a b : List Line) (l : Line) (r : List Line) → a ≡ l ∷ r → head_line (a ++ b) ≡ head_line a
head-append [] b l r e = absurd (let z : ◌≡◌ {A = ℕ} 0 1 = cc in omega arith)
head-append (x ∷ a) b l r e = refl

field-head : (s : Bytes) (n v : Bytes) (ls : List Line) (ps : List Piece) → 0 < length s → Reads s (Piece.field n v ls ∷ ps) → head_line ls ≡ first_line s
field-head s n v ls ps h r =
    let f = sound-starts n v ls r.sound.0 in
    sym (head-append ls (all_lines ps) f.0 f.1 f.3) ∙ ap head_line (sym (reads_lines s (Piece.field n v ls ∷ ps) r)) ∙ ap head_line (lines_cut s h)

-- and its value begins where that line says
abbrev ValueBy : Line → Next → Type 0
ValueBy l Next.End = Unit {0}
ValueBy l Next.Fault = Unit {0}
ValueBy l (Next.Blank k) = Unit {0}
ValueBy l (Next.Comment k) = Unit {0}
ValueBy l (Next.Field n v k) = v ≡ value_at n l

value-extent : (n : ℕ) (l : Line) (e : Maybe ℕ) → ValueBy l (field_next n (value_at n l) e)
value-extent n l (Some k) = refl
value-extent n l None = tt

value-form : (F : Form) (l : Line) (ls : List Line) → ValueBy l (next_by F l ls)
value-form Form.blank l ls = tt
value-form Form.comment l ls = tt
value-form (Form.field n v) l ls = value-extent (length n) l (extent_of true 0 (l ∷ ls))
value-form (Form.more v) l ls = tt
value-form Form.fault l ls = tt

value-next : (s : Bytes) → 0 < length s → ValueBy (first_line s) (next_of s)
value-next s h = subst (ValueBy (first_line s)) (sym (next-first s h)) (value-form (form (first_line s)) (first_line s) (lines (drop (suc (line_len s)) s)))

-- a part of a part: behind the first a of k bytes
pub drop-take : (a k : ℕ) (s : Bytes) → drop a (take k s) ≡ take (k - a) (drop a s)
drop-take zero k s = ap (λ (j : ℕ). take j s) (let e : k ≡ k - 0 = omega arith in e)
drop-take (suc a) zero s = ap (λ (j : ℕ). take j (drop (suc a) s)) (let e : 0 ≡ 0 - suc a = omega arith in e)
drop-take (suc a) (suc k) [] = sym (take-nil (suc k - suc a))
drop-take (suc a) (suc k) (c ∷ s) = drop-take a k s ∙ ap (λ (j : ℕ). take j (drop a s)) (let e : k - a ≡ suc k - suc a = omega arith in e)

part-inside : (i a k : ℕ) (s : Bytes) → take ((i + k) - (i + a)) (drop (i + a) s) ≡ drop a (take k (drop i s))
part-inside i a k s =
    let e : (i + k) - (i + a) ≡ k - a = omega arith in
    ap (λ (j : ℕ). take j (drop (i + a) s)) e ∙ ap (take (k - a)) (sym (drop-drop a i s)) ∙ sym (drop-take a k (drop i s))

module _ (s : Bytes) (i : ℕ) (e : is_readable (drop i s) ≡ true) (h : 0 < length (drop i s)) where
  step_by : (x : Next) → Inside (length (drop i s)) x → ValueBy (first_line (drop i s)) x → some (read_of (drop i s)) ≡ on_piece (piece_of x (drop i s)) (pieces (drop (size_of x) (drop i s))) → Steps s i x
  step_by Next.End f v q = absurd f
  step_by Next.Fault f v q = none-ne-some (read_of (drop i s)) (sym q)
  step_by (Next.Blank k) f v q = (first_line (drop i s), passed-by s i e (Piece.blank (first_line (drop i s))) k f.0 f.1 (pieces (drop k (drop i s))) refl q)
  step_by (Next.Comment k) f v q = (first_line (drop i s), passed-by s i e (Piece.comment (first_line (drop i s))) k f.0 f.1 (pieces (drop k (drop i s))) refl q)
  step_by (Next.Field n a k) f v q =
      let t : Bytes = drop i s in
      let own : List Line = lines (take k t) in
      let w : Bytes = value_from (drop a (take k t)) in
      let p : Piece = Piece.field (take n t) w own in
      let d = passed-by s i e p k (omega arith) f.3 (pieces (drop k t)) refl q in
      let r : Reads t (p ∷ read_of (drop (i + k) s)) = subst (Reads t) d.reads (readable-reads t e) in
      let m : length (take n t) ≡ n = length-take-le n t (omega arith) in
      let z : (i + n) - i ≡ n = omega arith in
      let g : first_line t ≡ head_line own = sym (field-head t (take n t) w own (read_of (drop (i + k) s)) h r) in
      record {
        name = take n t;
        value = w;
        own = own;
        passed = d;
        named = ap (λ (j : ℕ). take j t) z;
        begins = v ∙ ap (λ (j : ℕ). value_at j (first_line t)) (sym m) ∙ ap (value_at (length (take n t))) g;
        decodes = ap value_from (part-inside i a k s);
        name-inside = omega arith;
        value-inside = omega arith;
      }

step-at : (s : Bytes) (i : ℕ) (t : Bytes) → drop i s ≡ t → is_readable (drop i s) ≡ true → Steps s i (next_of (drop i s))
unfolding next_of read_of
step-at s i [] q e = subst (Steps s i) (ap next_of (sym q)) (ap (λ (x : Bytes). read_of x) q ∙ ap some_of no_pieces)
step-at s i (c ∷ t) q e =
    let h : 0 < length (drop i s) = omega (arith, ap length q) in
    let d = readable-ended (drop i s) e in
    step_by s i e h (next_of (drop i s)) (next-inside (drop i s) d h) (value-next (drop i s) h) (sym (readable-pieces (drop i s) e) ∙ next-cut (drop i s) d h)

-- what an answer about the part from byte i on says, once its form is known
pub steps : (s : Bytes) (i : ℕ) (x : Next) {y : Next} → is_readable (drop i s) ≡ true → x ≡ next_of (take (length s - i) (drop i s)) → x ≡ y → Steps s i y
steps s i x {y} e f g = subst (Steps s i) (ap next_of (sym (rest s i)) ∙ sym f ∙ g) (step-at s i (drop i s) refl e)

-- it is no fault
module _ (s : Bytes) (i : ℕ) where
  no-fault : (x : Next) → Steps s i x → is_fault x ≡ false
  no-fault Next.End h = refl
  no-fault Next.Fault h = absurd h
  no-fault (Next.Blank k) h = refl
  no-fault (Next.Comment k) h = refl
  no-fault (Next.Field n v k) h = refl

  pub part-formed : is_readable (drop i s) ≡ true → is_fault (next_of (take (length s - i) (drop i s))) ≡ false
  part-formed e = rw (rest s i) (no-fault (next_of (drop i s)) (step-at s i (drop i s) refl e))

-- A record's run, step by step.
module _ (s : Bytes) (i end : ℕ) (d : Bool) where
  pub run_none : read_of (drop i s) ≡ [] → run_from i end d (read_of (drop i s)) ≡ record { end = end; after = i; descriptor = d }
  unfolding run_from
  run_none e = ap (run_from i end d) e

  pub run-blank : (l : Line) (k : ℕ) → Passed s i (Piece.blank l) k → run_from i end d (read_of (drop i s)) ≡ record { end = end; after = i; descriptor = d }
  unfolding run_from
  run-blank l k p = ap (run_from i end d) p.reads

  pub run-comment : (l : Line) (k : ℕ) → Passed s i (Piece.comment l) k → run_from i end d (read_of (drop i s)) ≡ run_from (i + k) end d (read_of (drop (i + k) s))
  unfolding run_from
  run-comment l k p = ap (run_from i end d) p.reads ∙ ap (λ (j : ℕ). run_from (i + j) end d (read_of (drop (i + k) s))) p.size

  pub run-field : (n v k : ℕ) (t : Bool) → FieldAt s i n v k → t ≡ same (text "%rec") (take ((i + n) - i) (drop i s)) → run_from i end d (read_of (drop i s)) ≡ run_from (i + k) (i + k) (d || t) (read_of (drop (i + k) s))
  unfolding run_from
  run-field n v k t f e =
      let ps = read_of (drop (i + k) s) in
      ap (run_from i end d) f.passed.reads
      ∙ ap (λ (j : ℕ). run_from (i + j) (i + j) (d || same (text "%rec") f.name) ps) f.passed.size
      ∙ ap (λ (b : Bool). run_from (i + k) (i + k) (d || b) ps) (ap (same (text "%rec")) (sym f.named) ∙ sym e)

-- The fields of a part, step by step.
module _ (s : Bytes) (i : ℕ) where
  pub record-none : read_of (drop i s) ≡ [] → record_in (drop i s) ≡ []
  record-none e = ap fields_of e

  pub record-blank : (l : Line) (k : ℕ) → Passed s i (Piece.blank l) k → record_in (drop i s) ≡ record_in (drop (i + k) s)
  record-blank l k p = ap fields_of p.reads

  pub record-comment : (l : Line) (k : ℕ) → Passed s i (Piece.comment l) k → record_in (drop i s) ≡ record_in (drop (i + k) s)
  record-comment l k p = ap fields_of p.reads

  pub record-field : (n v k : ℕ) → FieldAt s i n v k
      → record_in (drop i s) ≡ record { name = take ((i + n) - i) (drop i s); value = value_from (take ((i + k) - (i + v)) (drop (i + v) s)); count = k } ∷ record_in (drop (i + k) s)
  record-field n v k f =
      ap fields_of f.passed.reads
      ∙ (λ d. record { name = sym f.named d; value = sym f.decodes d; count = f.passed.size d } ∷ record_in (drop (i + k) s))
