-- The search for an occurrence of a name, step by step; and what is found is the field's value.
use Rattle.records.specs.declared.ValuePlace.{ValuePlace}
use Rattle.std.specs.Prelude.{Option as Maybe, Some, None}
use Prim.Native.Nat.{ℕ, zero, suc, ◌+◌, ◌-◌, ◌≤◌, ◌<◌}
use native.Mathlib.Omega.{arith}
use mathlib.Core.Path.{◌≡◌, refl, sym, ap, ◌∙◌, subst}
use mathlib.Core.Bool.{Bool, true, false}
use mathlib.Core.List.{List, [], ◌∷◌, ◌++◌}
use mathlib.Core.Option.{Option, none, some}
use lib.ListN.{length, take, drop, length-append, length-drop, get_or}
use lib.Seq.{drop-drop, drop-append-le, take_at}
use Rattle.format.specs.Bytes.{Bytes, text, same, pick}
use Rattle.format.specs.Lines.{Line, bytes}
use Rattle.format.specs.Pieces.{Piece, lines_of, all_lines, bytes_of, pieces, some_of, read_of}
use Rattle.format.specs.Records.{count_of, fields_of}
use Rattle.format.specs.Sets.{values_of}
use Rattle.format.specs.Words.{first_word}
use Rattle.format.proofs.Lines.{bytes-append}
use Rattle.format.proofs.Whole.{Sound}
use Rattle.format.proofs.Renaming.{sound-starts}
use Rattle.lines.specs.Piece.{value_at}
use Rattle.values.specs.Value.{value_from}
use Rattle.lines.proofs.Shapes.{value-inside}
use Rattle.values.proofs.Values.{field-value as decoded}
use Rattle.words.specs.Spans.{span}
use Rattle.records.specs.Places.{is_readable, size_in, names_set, head_line, field_by, field_in, field_from, field_place}
use Rattle.records.specs.Walk.{opens_set}
use Rattle.records.specs.Fields.{fields_from, FieldHere}
use Rattle.records.specs.Named.{occurrence, first_or}
use Rattle.records.proofs.Walks.{size-piece, size_none}
use Rattle.records.proofs.Readings.{Reads, reads-length, readable-reads, reads-drop}

field-from : (name : Bytes) (x : Option (List Piece)) (o : ℕ) → field_from name x o ≡ field_in name (some_of x) 0 o
field-from name none o = refl
field-from name (some ps) o = refl

pub field-read : (name s : Bytes) (o : ℕ) → field_place name s o ≡ field_in name (read_of s) 0 o
unfolding field_place read_of
field-read name s o = field-from name (pieces s) o

-- pieces without a field are passed over, and nothing is found among them
module _ (name : Bytes) where
  in-fieldless : (before ps : List Piece) (at o : ℕ) → fields_of before ≡ [] → field_in name (before ++ ps) at o ≡ field_in name ps (at + size_in before) o
  in-fieldless [] ps at o e = ap (λ (j : ℕ). field_in name ps j o) (omega (arith, size_none))
  in-fieldless (Piece.blank l ∷ b) ps at o e = in-fieldless b ps (at + count_of (l ∷ [])) o e ∙ ap (λ (j : ℕ). field_in name ps j o) (omega (arith, size-piece (Piece.blank l) b))
  in-fieldless (Piece.comment l ∷ b) ps at o e = in-fieldless b ps (at + count_of (l ∷ [])) o e ∙ ap (λ (j : ℕ). field_in name ps j o) (omega (arith, size-piece (Piece.comment l) b))
  in-fieldless (Piece.field n v ls ∷ b) ps at o e = absurd (omega (arith, ap length e))

  in-none : (ps : List Piece) (at o : ℕ) → fields_of ps ≡ [] → field_in name ps at o ≡ None
  in-none [] at o e = refl
  in-none (Piece.blank l ∷ ps) at o e = in-none ps (at + count_of (l ∷ [])) o e
  in-none (Piece.comment l ∷ ps) at o e = in-none ps (at + count_of (l ∷ [])) o e
  in-none (Piece.field n v ls ∷ ps) at o e = absurd (omega (arith, ap length e))

module _ (s name : Bytes) (i : ℕ) where
  pub occurrence-none : fields_from s i ≡ [] → (o : ℕ) → occurrence s name i o ≡ None
  occurrence-none e o = in-none name (read_of (drop i s)) i o e

  module _ (a n v e : ℕ) (f : FieldHere s i a n v e) where
    abbrev onward : Bool → ℕ → Maybe ValuePlace
    onward t o = field_by t o a (span a n s) f.piece.own (occurrence s name e)

    by_name : (o : ℕ) (t : Bool) → same name (span a n s) ≡ t → occurrence s name i o ≡ onward t o
    by_name o t q =
        let l = f.loose in
        let p = f.piece in
        ap (λ (ps : List Piece). field_in name ps i o) l.reads
        ∙ in-fieldless name l.before (read_of (drop a s)) i o l.none
        ∙ ap (λ (j : ℕ). field_in name (read_of (drop a s)) j o) l.size
        ∙ ap (λ (ps : List Piece). field_in name ps a o) p.reads
        ∙ ap (λ (j : ℕ). field_by (same name (span a n s)) o a (span a n s) p.own (λ (k : ℕ). field_in name (read_of (drop e s)) j k)) p.ends
        ∙ ap (λ (b : Bool). onward b o) q

    pub occurrence-other : same name (span a n s) ≡ false → (o : ℕ) → occurrence s name i o ≡ occurrence s name e o
    occurrence-other q o = by_name o false q

    first-here : (o : ℕ) → onward true o ≡ first_or (Some (record { start = a; value = v; end = e })) (occurrence s name e) o
    first-here zero = λ d. Some (record { start = a; value = f.piece.begins d; end = f.piece.ends d })
    first-here (suc o) = refl

    pub occurrence-here : same name (span a n s) ≡ true → (o : ℕ) → occurrence s name i o ≡ first_or (Some (record { start = a; value = v; end = e })) (occurrence s name e) o
    occurrence-here q o = by_name o true q ∙ first-here o

-- What is found is the value of the occurrence, and nothing is found where there are not so many.

pub record FieldFound (s : Bytes) (vs : List Bytes) (o start value end : ℕ) : Type 0 where
  pub there : o < length vs
  pub begins : start < value
  pub within : value ≤ end
  pub inside : end ≤ length s
  pub decodes : value_from (take (end - value) (drop value s)) ≡ get_or vs o []

abbrev pub FieldTold : Bytes → List Bytes → ℕ → Maybe ValuePlace → Type 0
FieldTold s vs o None = length vs ≤ o
FieldTold s vs o (Some f) = FieldFound s vs o f.start f.value f.end

-- a field among sound pieces: its value begins inside it, and its bytes from there on decode to its value
head-value : (n v : Bytes) (ls : List Line) → Sound (Piece.field n v ls) → (0 < value_at (length n) (head_line ls)) × (value_at (length n) (head_line ls) ≤ count_of ls) × (v ≡ value_from (drop (value_at (length n) (head_line ls)) (bytes ls)))
head-value n v [] h = let f = sound-starts n v [] h in let e = f.3 in absurd (let z : ◌≡◌ {A = ℕ} 0 1 = cc in omega arith)
head-value n v (l ∷ own) h =
    let f = sound-starts n v (l ∷ own) h in
    let e : l ≡ n ++ (58 ∷ f.2) = cc in
    let i = value-inside (length n) l (omega (arith, ap length e, length-append n (58 ∷ f.2))) in
    (omega (arith, i.0), omega (arith, i.1, length-append l (10 ∷ bytes own)), decoded n v l own h)

module _ (s : Bytes) (i : ℕ) (fits : i ≤ length s) where
  behind-piece : (p : Piece) (ps : List Piece) → Reads (drop i s) (p ∷ ps) → (i + count_of (lines_of p) ≤ length s) × Reads (drop (i + count_of (lines_of p)) s) ps
  behind-piece p ps r =
      let k : ℕ = count_of (lines_of p) in
      (omega (arith, reads-length r, length-drop i s, size-piece p ps), subst (λ (x : Bytes). Reads x ps) (drop-drop k i s) (reads-drop (p ∷ []) ps r k (omega (arith, size-piece p [], size_none))))

  value-part : (n v : Bytes) (ls : List Line) (ps : List Piece) → Reads (drop i s) (Piece.field n v ls ∷ ps) → value_from (take ((i + count_of ls) - (i + value_at (length n) (head_line ls))) (drop (i + value_at (length n) (head_line ls)) s)) ≡ v
  unfolding bytes_of
  value-part n v ls ps r =
      let x : ℕ = value_at (length n) (head_line ls) in
      let m : ℕ = (i + count_of ls) - (i + x) in
      let h = head-value n v ls r.sound.0 in
      let size : length (drop x (bytes ls)) ≡ m = omega (arith, length-drop x (bytes ls)) in
      let whole : drop i s ≡ bytes ls ++ bytes_of ps = sym r.all ∙ bytes-append ls (all_lines ps) in
      let part : drop (i + x) s ≡ drop x (bytes ls) ++ bytes_of ps = sym (drop-drop x i s) ∙ ap (drop x) whole ∙ drop-append-le x (bytes ls) (bytes_of ps) h.1 in
      ap value_from (ap (take m) part ∙ take_at (drop x (bytes ls)) (bytes_of ps) m size) ∙ sym h.2

told-on : (s v : Bytes) (vs : List Bytes) (o : ℕ) (x : Maybe ValuePlace) → FieldTold s vs o x → FieldTold s (v ∷ vs) (suc o) x
told-on s v vs o None h = omega arith
told-on s v vs o (Some f) h = record { there = omega (arith, h.there); begins = h.begins; within = h.within; inside = h.inside; decodes = h.decodes }

module _ (name s : Bytes) where
  told-by : (t : Bool) (n v : Bytes) (ls : List Line) (ps : List Piece) (i o : ℕ) → i ≤ length s → Reads (drop i s) (Piece.field n v ls ∷ ps)
      → ((k : ℕ) → FieldTold s (values_of name (fields_of ps)) k (field_in name ps (i + count_of ls) k))
      → FieldTold s (pick t (v ∷ values_of name (fields_of ps)) (values_of name (fields_of ps))) o (field_by t o i n ls (λ (k : ℕ). field_in name ps (i + count_of ls) k))
  told-by false n v ls ps i o h r ih = ih o
  told-by true n v ls ps i zero h r ih =
      let d = head-value n v ls r.sound.0 in
      record {
        there = omega arith;
        begins = omega (arith, d.0);
        within = omega (arith, d.1);
        inside = (behind-piece s i h (Piece.field n v ls) ps r).0;
        decodes = value-part s i h n v ls ps r;
      }
  told-by true n v ls ps i (suc o) h r ih = told-on s v (values_of name (fields_of ps)) o (field_in name ps (i + count_of ls) o) (ih o)

  told_in : (ps : List Piece) (i o : ℕ) → i ≤ length s → Reads (drop i s) ps → FieldTold s (values_of name (fields_of ps)) o (field_in name ps i o)
  told_in [] i o h r = omega arith
  told_in (Piece.blank l ∷ ps) i o h r = let b = behind-piece s i h (Piece.blank l) ps r in told_in ps (i + count_of (l ∷ [])) o b.0 b.1
  told_in (Piece.comment l ∷ ps) i o h r = let b = behind-piece s i h (Piece.comment l) ps r in told_in ps (i + count_of (l ∷ [])) o b.0 b.1
  told_in (Piece.field n v ls ∷ ps) i o h r =
      let b = behind-piece s i h (Piece.field n v ls) ps r in
      told-by (same name n) n v ls ps i o h r (λ k. told_in ps (i + count_of ls) k b.0 b.1)

  pub field-value : (o : ℕ) → is_readable s ≡ true → FieldTold s (values_of name (fields_of (read_of s))) o (field_place name s o)
  field-value o e = subst (FieldTold s (values_of name (fields_of (read_of s))) o) (sym (field-read name s o)) (told_in (read_of s) 0 o (omega arith) (readable-reads s e))

  -- the same of an answer, once its form is known
  pub field_told : (o : ℕ) (x : Maybe ValuePlace) {y : Maybe ValuePlace} → is_readable s ≡ true → x ≡ field_place name s o → x ≡ y → FieldTold s (values_of name (fields_of (read_of s))) o y
  field_told o x {y} e f g = subst (FieldTold s (values_of name (fields_of (read_of s))) o) (sym f ∙ g) (field-value o e)

-- So the first value of a descriptor's `%rec` tells which set it opens.
names-none : (n : Bytes) (vs : List Bytes) → length vs ≤ 0 → names_set n vs ≡ false
names-none n [] h = refl
names-none n (v ∷ vs) h = absurd (omega arith)

names-first : (n w : Bytes) (vs : List Bytes) → 0 < length vs → w ≡ get_or vs 0 [] → names_set n vs ≡ same n (first_word w)
names-first n w [] h e = absurd (omega arith)
names-first n w (v ∷ vs) h e = ap (λ (x : Bytes). same n (first_word x)) (sym e)

module _ (n s : Bytes) where
  pub opens-none : length (values_of (text "%rec") (fields_of (read_of s))) ≤ 0 → opens_set n s ≡ false
  unfolding opens_set
  opens-none h = names-none n (values_of (text "%rec") (fields_of (read_of s))) h

  pub opens-first : (start value end : ℕ) → FieldFound s (values_of (text "%rec") (fields_of (read_of s))) 0 start value end → opens_set n s ≡ same n (first_word (value_from (take (end - value) (drop value s))))
  unfolding opens_set
  opens-first start value end f = names-first n (value_from (take (end - value) (drop value s))) (values_of (text "%rec") (fields_of (read_of s))) f.there f.decodes
