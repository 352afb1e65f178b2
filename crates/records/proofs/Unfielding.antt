-- What is left of a readable part without its fields, field by field: what stands before a field stays, and the field goes.
use Prim.Native.Nat.{ℕ, ◌-◌, ◌≤◌}
use native.Mathlib.Omega.{arith}
use mathlib.Core.Path.{◌≡◌, refl, sym, ap, ◌∙◌, subst}
use mathlib.Core.Bool.{true}
use mathlib.Core.List.{List, [], ◌∷◌, ◌++◌, append-nil}
use lib.ListN.{length, drop}
use Rattle.format.specs.Bytes.{Bytes}
use Rattle.format.specs.Pieces.{Piece, bytes_of, read_of}
use Rattle.format.specs.Records.{fields_of}
use Rattle.format.specs.Edits.{unfielded}
use Rattle.format.proofs.Whole.{bytesOf-append}
use Rattle.values.specs.Value.{value_from}
use Rattle.words.specs.Spans.{span}
use Rattle.records.specs.Places.{is_readable, size_in}
use Rattle.records.specs.Fields.{fields_from, FieldHere}
use Rattle.records.proofs.Walks.{size-piece}
use Rattle.records.proofs.Readings.{Reads, readable-reads, reads-length, reads-take}

abbrev pub left_of : Bytes → Bytes
left_of s = bytes_of (unfielded (read_of s))

-- it is no longer than the part
size-left : (ps : List Piece) → size_in (unfielded ps) ≤ size_in ps
size-left [] = omega arith
size-left (Piece.blank l ∷ ps) = omega (arith, size-left ps, size-piece (Piece.blank l) ps, size-piece (Piece.blank l) (unfielded ps))
size-left (Piece.comment l ∷ ps) = omega (arith, size-left ps, size-piece (Piece.comment l) ps, size-piece (Piece.comment l) (unfielded ps))
size-left (Piece.field n v ls ∷ ps) = omega (arith, size-left ps, size-piece (Piece.field n v ls) ps)

pub left_le : (s : Bytes) → is_readable s ≡ true → length (left_of s) ≤ length s
left_le s e = omega (arith, size-left (read_of s), reads-length (readable-reads s e))

-- pieces without a field stay as they are
unfielded-before : (before ps : List Piece) → fields_of before ≡ [] → unfielded (before ++ ps) ≡ before ++ unfielded ps
unfielded-before [] ps e = refl
unfielded-before (Piece.blank l ∷ b) ps e = ap {B = List Piece} (λ x. Piece.blank l ∷ x) (unfielded-before b ps e)
unfielded-before (Piece.comment l ∷ b) ps e = ap {B = List Piece} (λ x. Piece.comment l ∷ x) (unfielded-before b ps e)
unfielded-before (Piece.field n v ls ∷ b) ps e = absurd (omega (arith, ap length e))

module _ (s : Bytes) (i : ℕ) (r : is_readable (drop i s) ≡ true) where
  pub left-all : fields_from s i ≡ [] → left_of (drop i s) ≡ drop i s
  unfolding bytes_of
  left-all e =
      let ps : List Piece = read_of (drop i s) in
      ap (λ (x : List Piece). bytes_of (unfielded x)) (sym (append-nil ps)) ∙ ap bytes_of (unfielded-before ps [] e ∙ append-nil ps) ∙ (readable-reads (drop i s) r).all

  -- what stands before the next field stays, and the field goes
  pub left-field : (a n v e : ℕ) → FieldHere s i a n v e → left_of (drop i s) ≡ span i a s ++ left_of (drop e s)
  left-field a n v e f =
      let l = f.loose in
      let ps : List Piece = read_of (drop e s) in
      let whole : read_of (drop i s) ≡ l.before ++ read_of (drop a s) = l.reads in
      let front : bytes_of l.before ≡ span i a s = (reads-take l.before (read_of (drop a s)) (subst (Reads (drop i s)) whole (readable-reads (drop i s) r)) (a - i) (omega (arith, l.size))).all in
      ap (λ (x : List Piece). bytes_of (unfielded x)) (whole ∙ ap (λ (x : List Piece). l.before ++ x) f.piece.reads)
      ∙ ap bytes_of (unfielded-before l.before (Piece.field (span a n s) (value_from (span v e s)) f.piece.own ∷ ps) l.none)
      ∙ bytesOf-append l.before (unfielded ps)
      ∙ ap (λ (x : Bytes). x ++ left_of (drop e s)) front
