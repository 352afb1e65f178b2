-- The pieces of a text are the one that next_piece finds and the pieces behind it.
use Rattle.std.specs.Prelude.{Option as Maybe, Some, None, ℕ}
use Prim.Native.Nat.{suc, ◌+◌, ◌<◌}
use native.Mathlib.Omega.{arith}
use mathlib.Core.Path.{◌≡◌, refl, sym, ap, ◌∙◌, subst}
use mathlib.Core.Bool.{Bool, true}
use mathlib.Core.List.{List, [], ◌∷◌, ◌++◌, append_assoc}
use mathlib.Core.Option.{Option, none, some}
use lib.ListN.{length, take, drop, length-append}
use lib.Seq.{take-append_seam}
use Rattle.format.specs.Lists.{onward}
use Rattle.format.specs.Bytes.{Bytes, pick}
use Rattle.format.specs.Lines.{Line, lines, bytes, is_ended, Form, form, joins, cut}
use Rattle.format.specs.Pieces.{Piece, Mode, after, unopened, Reading, read_from, pieces_in, pieces, take_line}
use Rattle.format.proofs.Elements.{Each, each-parts}
use Rattle.format.proofs.Lines.{Clean}
use Rattle.format.proofs.Whole.{Sound}
use Rattle.lines.specs.Line.{line_len, first_line}
use Rattle.lines.specs.Piece.{line_size, extent_of, value_at, field_next, next_by, next_of, size_of}
use Rattle.values.specs.Value.{value_from}
use Rattle.values.specs.Pieces.{piece_of, on_piece}
use Rattle.lines.specs.declared.Next.{Next}
use Rattle.values.proofs.Values.{field-value}
use Rattle.lines.proofs.Cuts.{lines_cut}
use Rattle.lines.proofs.Parts.{part_bytes, part-lines, part-rest, first-clean, first-bytes}
use Rattle.lines.proofs.Nexts.{next-first}
use Rattle.lines.proofs.Shapes.{Shaped, shaped, joins-name}
use Rattle.lines.proofs.Owned.{opening, Owns, owns}

-- what stands in front of lines, in front of their pieces
blank-front : (l : Line) (x : Option Reading) → pieces_in (onward (take_line Form.blank l) x) ≡ on_piece (some (Piece.blank l)) (pieces_in x)
blank-front l none = refl
blank-front l (some r) = refl

comment-front : (l : Line) (x : Option Reading) → pieces_in (onward (take_line Form.comment l) x) ≡ on_piece (some (Piece.comment l)) (pieces_in x)
comment-front l none = refl
comment-front l (some r) = refl

field-front : (n v w : Bytes) (l : Line) (own : List Line) (x : Option Reading) → pieces_in (onward (take_line (Form.field n v) l) (opening w own x)) ≡ on_piece (some (Piece.field n (cut v ++ w) (l ∷ own))) (pieces_in x)
field-front n v w l own none = refl
field-front n v w l own (some r) = refl

fault-front : (l : Line) (x : Option Reading) → pieces_in (onward (take_line Form.fault l) x) ≡ none
fault-front l none = refl
fault-front l (some r) = refl

-- The value of a field, by the bytes of its lines.
abbrev ValueLaw : Type 0
ValueLaw = (n v : Bytes) (l : Line) (own : List Line) → Sound (Piece.field n v (l ∷ own)) → v ≡ value_from (drop (value_at (length n) l) (bytes (l ∷ own)))

-- a text whose first line is a field's
module _ (s : Bytes) (l : Line) (ls : List Line) (clean : Each Clean (l ∷ ls)) (are : bytes (l ∷ ls) ≡ s) (n v : Bytes) (is : form l ≡ Form.field n v) where
  shape : Shaped l n v
  shape = shaped l n v is

  mode : pick (joins v) Mode.joined Mode.opened ≡ pick (joins l) Mode.joined Mode.opened
  mode = ap (λ (b : Bool). pick b Mode.joined Mode.opened) (shape.2 ∙ sym (joins-name n shape.0) ∙ ap joins (sym shape.1))

  name-is : take (length n) s ≡ n
  name-is = ap (take (length n)) (sym are ∙ ap (λ (x : Line). x ++ (10 ∷ bytes ls)) shape.1 ∙ append_assoc n (58 ∷ shape.0) (10 ∷ bytes ls)) ∙ take-append_seam n ((58 ∷ shape.0) ++ (10 ∷ bytes ls))

  field-sound : (w : Bytes) (own : List Line) → Each Clean (l ∷ own) → read_from (pick (joins l) Mode.joined Mode.opened) own ≡ opening w own (read_from Mode.closed []) → Sound (Piece.field n (cut v ++ w) (l ∷ own))
  field-sound w own c e = (c, ap (λ (F : Form). onward (take_line (unopened F) l) (read_from (after (unopened F)) own)) is ∙ ap (λ (m : Mode). onward (take_line (Form.field n v) l) (read_from m own)) mode ∙ ap (onward (take_line (Form.field n v) l)) e)

  field_cut : ValueLaw → (e : Maybe ℕ) → Owns (joins l) (0 + line_size l) ls e
      → pieces_in (onward (take_line (Form.field n v) l) (read_from (pick (joins v) Mode.joined Mode.opened) ls)) ≡ on_piece (piece_of (field_next (length n) (value_at (length n) l) e) s) (pieces (drop (size_of (field_next (length n) (value_at (length n) l) e)) s))
  field_cut law None h = ap (λ (m : Mode). pieces_in (onward (take_line (Form.field n v) l) (read_from m ls))) mode ∙ ap (λ (x : Option Reading). pieces_in (onward (take_line (Form.field n v) l) x)) h
  field_cut law (Some k) h =
      let a : List Line = l ∷ h.own in
      let w = h.value in
      let c : Each Clean (a ++ h.rest) = subst (λ (x : List Line). Each Clean (l ∷ x)) h.parts clean in
      let b : bytes (a ++ h.rest) ≡ s = ap (λ (x : List Line). bytes (l ∷ x)) (sym h.parts) ∙ are in
      let size : k ≡ length (bytes a) = omega (arith, h.size, length-append l (10 ∷ bytes h.own)) in
      let sound = field-sound w h.own (each-parts Clean a h.rest c).0 h.whole in
      let value : cut v ++ w ≡ value_from (drop (value_at (length n) l) (take k s)) = law n (cut v ++ w) l h.own sound ∙ ap (λ (x : Bytes). value_from (drop (value_at (length n) l) x)) (sym (part_bytes s a h.rest k c b size)) in
      ap (λ (m : Mode). pieces_in (onward (take_line (Form.field n v) l) (read_from m ls))) mode
      ∙ ap (λ (x : Option Reading). pieces_in (onward (take_line (Form.field n v) l) x)) h.reads
      ∙ field-front n v w l h.own (read_from Mode.closed h.rest)
      ∙ rw (name-is, ← value, part-lines s a h.rest k c b size, part-rest s a h.rest k c b size)

-- whatever form the first line has
module _ (law : ValueLaw) (s : Bytes) (l : Line) (ls : List Line) (clean : Each Clean (l ∷ ls)) (are : bytes (l ∷ ls) ≡ s) (first : first_line s ≡ l) where
  behind-line : pieces (drop (line_size l) s) ≡ pieces_in (read_from Mode.closed ls)
  behind-line = part-rest s (l ∷ []) ls (line_size l) clean are (omega (arith, length-append l (10 ∷ [])))

  line-cut : (F : Form) → form l ≡ F → pieces_in (onward (take_line (unopened F) l) (read_from (after (unopened F)) ls)) ≡ on_piece (piece_of (next_by F l ls) s) (pieces (drop (size_of (next_by F l ls)) s))
  unfolding extent_of
  line-cut Form.blank is = blank-front l (read_from Mode.closed ls) ∙ rw (first, behind-line)
  line-cut Form.comment is = comment-front l (read_from Mode.closed ls) ∙ rw (first, behind-line)
  line-cut (Form.field n v) is = field_cut s l ls clean are n v is law (extent_of (joins l) (0 + line_size l) ls) (owns ls (joins l) (0 + line_size l))
  line-cut (Form.more v) is = fault-front l (read_from Mode.closed ls)
  line-cut Form.fault is = fault-front l (read_from Mode.closed ls)

pub no_pieces : pieces [] ≡ some []
unfolding pieces
no_pieces = refl

-- a text's pieces are its next one and those behind it
pub next-cut : (s : Bytes) → is_ended s ≡ true → 0 < length s → pieces s ≡ on_piece (piece_of (next_of s) s) (pieces (drop (size_of (next_of s)) s))
unfolding pieces
next-cut s e h =
    let l = first_line s in
    let ls = lines (drop (suc (line_len s)) s) in
    ap (λ (x : List Line). pieces_in (read_from Mode.closed x)) (lines_cut s h)
    ∙ line-cut field-value s l ls (first-clean s h) (first-bytes s e h) refl (form l) refl
    ∙ ap (λ (x : Next). on_piece (piece_of x s) (pieces (drop (size_of x) s))) (sym (next-first s h))
