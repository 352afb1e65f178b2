-- The next field of a readable part: pieces that are no field are passed over, and a field's value is decoded from the bytes where it begins.
use Rattle.records.specs.declared.FieldPlace.{FieldPlace}
use Rattle.std.specs.Prelude.{Option, Some, None}
use Prim.Native.Nat.{ℕ, ◌+◌, ◌-◌, ◌≤◌, ◌<◌}
use native.Mathlib.Omega.{arith}
use mathlib.Core.Path.{◌≡◌, refl, sym, ap, ◌∙◌, subst}
use mathlib.Core.Bool.{Bool, true, false}
use mathlib.Core.List.{List, [], ◌∷◌, ◌++◌, append-nil, append_assoc}
use lib.Dec.{eqb}
use lib.ListN.{length, take, drop, length-append, length-drop}
use lib.Seq.{drop-drop}
use borrow.Author.Tests.{eqb-false}
use Rattle.format.specs.Bytes.{Bytes, pick}
use Rattle.format.specs.Lines.{Line, bytes}
use Rattle.format.specs.Pieces.{Piece, read_of}
use Rattle.format.specs.Records.{Record, count_of, fields_of}
use Rattle.format.proofs.Grouping.{fields-append}
use Rattle.format.proofs.Whole.{Sound}
use Rattle.format.proofs.Renaming.{sound-starts}
use Rattle.lines.specs.Piece.{value_at}
use Rattle.values.specs.Value.{value_from}
use Rattle.lines.proofs.Cuts.{rest}
use Rattle.values.proofs.Values.{field-value-among}
use Rattle.words.specs.Spans.{span}
use Rattle.records.specs.Places.{is_readable, head_line}
use Rattle.records.specs.Walk.{record_in}
use Rattle.records.specs.Fields.{fields_from, Fieldless, PieceHere, FieldHere, FieldNext}
use Rattle.records.proofs.Walks.{size-append, size-piece, size_none, Loose}
use Rattle.records.proofs.Readings.{Reads, readable-reads}
use Rattle.records.proofs.Steps.{Passed, FieldAt, record-field}

-- a value begins before its line's newline
begins-by : (b : Bool) (n m : ℕ) → eqb m (n + 1) ≡ b → n + 1 ≤ m → pick b (n + 1) (n + 2) ≤ m
begins-by true n m e h = h
begins-by false n m e h = omega (arith, eqb-false m (n + 1) e)

begins-inside : (n v : Bytes) (l : Line) (own : List Line) → Sound (Piece.field n v (l ∷ own)) → value_at (length n) l < count_of (l ∷ own)
begins-inside n v l own h =
    let f = sound-starts n v (l ∷ own) h in
    let u : Bytes = f.2 in
    let e : l ≡ n ++ (58 ∷ u) = cc in
    let m : length l ≡ length n + length (58 ∷ u) = ap length e ∙ length-append n (58 ∷ u) in
    let q : value_at (length n) l ≤ length l = begins-by (eqb (length l) (length n + 1)) (length n) (length l) refl (omega arith) in
    omega (arith, length-append l (10 ∷ bytes own))

-- it is read from there on, whatever stands behind the field
value-reads : (t n v : Bytes) (own : List Line) (ps : List Piece) → Reads t (Piece.field n v own ∷ ps) → (v ≡ value_from (drop (value_at (length n) (head_line own)) t)) × (value_at (length n) (head_line own) < count_of own)
value-reads t n v [] ps r = let f = sound-starts n v [] r.sound.0 in let e = f.3 in absurd (let z : ◌≡◌ {A = ℕ} 0 1 = cc in omega arith)
value-reads t n v (l ∷ own) ps r =
    (field-value-among n v l own ps r.sound ∙ ap (λ (x : Bytes). value_from (drop (value_at (length n) l) x)) r.all, begins-inside n v l own r.sound.0)

module _ (s : Bytes) (i n v k : ℕ) (f : FieldAt s i n v k) (r : is_readable (drop i s) ≡ true) where
  reading : (f.value ≡ value_from (drop (value_at (length f.name) (head_line f.own)) (drop i s))) × (value_at (length f.name) (head_line f.own) < count_of f.own)
  reading = value-reads (drop i s) f.name f.value f.own (read_of (drop (i + k) s)) (subst (Reads (drop i s)) f.passed.reads (readable-reads (drop i s) r))

  value_there : i + v < length s
  value_there = omega (arith, reading.1, f.begins, f.passed.size, f.passed.inside)

  ends-itself : value_from (drop (i + v) s) ≡ value_from (take ((i + k) - (i + v)) (drop (i + v) s))
  ends-itself =
      ap value_from (sym (drop-drop v i s))
      ∙ ap (λ (j : ℕ). value_from (drop j (drop i s))) f.begins
      ∙ sym reading.0
      ∙ sym f.decodes

-- Pieces without a field, one after another.
module _ (s : Bytes) (i : ℕ) where
  pub fieldless-none : Fieldless s i i
  fieldless-none = record { before = []; none = refl; size = omega (arith, size_none); reads = refl }

  module _ (a : ℕ) (f : Fieldless s i a) where
    pub fieldless-on : (p : Piece) (k : ℕ) → Loose p → Passed s a p k → Fieldless s i (a + k)
    fieldless-on p k h q =
        let b = f.before in
        record {
          before = b ++ (p ∷ []);
          none = fields-append b (p ∷ []) ∙ ap (λ (r : Record). fields_of b ++ r) (h []).0 ∙ append-nil (fields_of b) ∙ f.none;
          size = omega (arith, f.size, q.size, size-append b (p ∷ []), size-piece p [], size_none);
          reads = f.reads ∙ ap (λ (ps : List Piece). b ++ ps) q.reads ∙ sym (append_assoc b (p ∷ []) (read_of (drop (a + k) s)));
        }

    pub fieldless-fields : fields_from s i ≡ fields_from s a
    fieldless-fields = ap fields_of f.reads ∙ fields-append f.before (read_of (drop a s)) ∙ ap (λ (r : Record). r ++ fields_from s a) f.none

piece-here : (s : Bytes) (i n v k : ℕ) → FieldAt s i n v k → PieceHere s i (i + n) (i + v) (i + k)
piece-here s i n v k f =
    record {
      own = f.own;
      reads = f.passed.reads ∙ (λ d. Piece.field (sym f.named d) (sym f.decodes d) f.own ∷ read_of (drop (i + k) s));
      begins = ap (λ (x : Bytes). i + value_at (length x) (head_line f.own)) f.named ∙ ap (λ (j : ℕ). i + j) (sym f.begins);
      ends = ap (λ (j : ℕ). i + j) f.passed.size;
    }

-- a field at byte i is the first one, where none stands before
pub field-here : (s : Bytes) (i n v k : ℕ) → FieldAt s i n v k → is_readable (drop i s) ≡ true → Fieldless s 0 i → FieldHere s 0 i (i + n) (i + v) (i + k)
field-here s i n v k f r l =
    let p = f.passed in
    let size : k ≡ (i + k) - i = omega arith in
    record {
      begins = omega arith;
      named = omega arith;
      name-inside = omega (arith, f.name-inside);
      value-behind = omega arith;
      value-inside = omega (arith, f.value-inside);
      moves = omega (arith, p.moves);
      inside = p.inside;
      readable = p.readable;
      value_there = value_there s i n v k f r;
      ends-itself = ends-itself s i n v k f r;
      fields =
          fieldless-fields s 0 i l ∙ record-field s i n v k f
          ∙ ap {B = Record} (λ (m : ℕ). record { name = take ((i + n) - i) (drop i s); value = value_from (take ((i + k) - (i + v)) (drop (i + v) s)); count = m } ∷ fields_from s (i + k)) size;
      loose = l;
      piece = piece-here s i n v k f;
    }

-- The same of the part from byte i on and of the whole text: each place is i bytes further.
abbrev pub moved : ℕ → Option FieldPlace → Option FieldPlace
moved i None = None
moved i (Some f) = Some (record { start = i + f.start; named = i + f.named; value = i + f.value; end = i + f.end })

pub span-moved : (s : Bytes) (i a e : ℕ) → span a e (drop i s) ≡ span (i + a) (i + e) s
span-moved s i a e =
    let m : e - a ≡ (i + e) - (i + a) = omega arith in
    ap (λ (j : ℕ). take j (drop a (drop i s))) m ∙ ap (take ((i + e) - (i + a))) (drop-drop a i s)

module _ (s : Bytes) (i : ℕ) where
  fieldless-moved : (a : ℕ) → Fieldless (drop i s) 0 a → Fieldless s i (i + a)
  fieldless-moved a f =
      record { before = f.before; none = f.none; size = omega (arith, f.size); reads = f.reads ∙ ap (λ (x : Bytes). f.before ++ read_of x) (drop-drop a i s) }

  piece-moved : (a n v e : ℕ) → PieceHere (drop i s) a n v e → PieceHere s (i + a) (i + n) (i + v) (i + e)
  piece-moved a n v e p =
      record {
        own = p.own;
        reads =
            ap (λ (x : Bytes). read_of x) (sym (drop-drop a i s)) ∙ p.reads
            ∙ (λ d. Piece.field (span-moved s i a n d) (value_from (span-moved s i v e d)) p.own ∷ read_of (drop-drop e i s d));
        begins = omega (arith, p.begins, ap (λ (x : Bytes). value_at (length x) (head_line p.own)) (span-moved s i a n));
        ends = omega (arith, p.ends);
      }

  field-moved : (a n v e : ℕ) → FieldHere (drop i s) 0 a n v e → FieldHere s i (i + a) (i + n) (i + v) (i + e)
  field-moved a n v e f =
      let size : e - a ≡ (i + e) - (i + a) = omega arith in
      record {
        begins = omega arith;
        named = omega (arith, f.named);
        name-inside = omega (arith, f.name-inside);
        value-behind = omega (arith, f.value-behind);
        value-inside = omega (arith, f.value-inside);
        moves = omega (arith, f.moves);
        inside = omega (arith, f.moves, f.inside, length-drop i s);
        readable = ap (λ (x : Bytes). is_readable x) (sym (drop-drop e i s)) ∙ f.readable;
        value_there = omega (arith, f.value_there, length-drop i s);
        ends-itself = ap value_from (sym (drop-drop v i s)) ∙ f.ends-itself ∙ ap value_from (span-moved s i v e);
        fields = f.fields ∙ (λ d. record { name = span-moved s i a n d; value = value_from (span-moved s i v e d); count = size d } ∷ record_in (drop-drop e i s d));
        loose = fieldless-moved a f.loose;
        piece = piece-moved a n v e f.piece;
      }

  next-moved : (x : Option FieldPlace) → FieldNext (drop i s) 0 x → FieldNext s i (moved i x)
  next-moved None h = h
  next-moved (Some f) h = field-moved f.start f.named f.value f.end h

-- what an answer about the part `&s[i..]` says, once its form is known
pub next-told : (s : Bytes) (i : ℕ) (x : Option FieldPlace) {y : Option FieldPlace} → FieldNext (take (length s - i) (drop i s)) 0 x → x ≡ y → FieldNext s i (moved i y)
next-told s i x {y} h e = next-moved s i y (subst (λ (t : Bytes). FieldNext t 0 y) (rest s i) (subst (FieldNext (take (length s - i) (drop i s)) 0) e h))
