-- What a text goes on with lies in the text, and takes some of its bytes.
use Rattle.std.specs.Prelude.{Option, Some, None}
use Prim.Native.Nat.{ℕ, suc, ◌+◌, ◌≤◌, ◌<◌}
use native.Mathlib.Omega.{arith}
use mathlib.Core.Path.{◌≡◌, refl, sym, ap, ◌∙◌, subst}
use mathlib.Core.Bool.{true}
use mathlib.Core.List.{List, [], ◌∷◌}
use lib.ListN.{length, drop, length-append}
use Rattle.format.specs.Bytes.{Bytes}
use Rattle.format.specs.Lines.{Line, lines, bytes, is_ended, Form, form, joins}
use Rattle.format.proofs.Elements.{Each}
use Rattle.format.proofs.Lines.{Clean}
use Rattle.lines.specs.Line.{line_len, first_line}
use Rattle.lines.specs.Piece.{line_size, extent_of, value_at, field_next, next_by, next_of}
use Rattle.lines.specs.declared.Next.{Next}
use Rattle.lines.proofs.Nexts.{next-first}
use Rattle.lines.proofs.Owned.{Owns, owns}
use Rattle.lines.proofs.Parts.{part-le, first-clean, first-bytes}
use Rattle.lines.proofs.Shapes.{shaped, name-some, value-inside}

abbrev pub Inside : ℕ → Next → Type 0
Inside len Next.End = ⊥
Inside len Next.Fault = Unit {0}
Inside len (Next.Blank k) = (0 < k) × (k ≤ len)
Inside len (Next.Comment k) = (0 < k) × (k ≤ len)
Inside len (Next.Field n v k) = (0 < n) × (n < v) × (v < k) × (k ≤ len)

module _ (s : Bytes) (l : Line) (ls : List Line) (clean : Each Clean (l ∷ ls)) (are : bytes (l ∷ ls) ≡ s) where
  line-fits : line_size l ≤ length s
  line-fits = part-le s (l ∷ []) ls (line_size l) clean are (omega (arith, length-append l (10 ∷ [])))

  field-inside : (n v : Bytes) → form l ≡ Form.field n v → (e : Option ℕ) → Owns (joins l) (0 + line_size l) ls e → Inside (length s) (field_next (length n) (value_at (length n) l) e)
  field-inside n v is None h = tt
  field-inside n v is (Some k) h =
      let shape = shaped l n v is in
      let a : List Line = l ∷ h.own in
      let size : k ≡ length (bytes a) = omega (arith, h.size, length-append l (10 ∷ bytes h.own)) in
      let fits = part-le s a h.rest k (subst (λ (x : List Line). Each Clean (l ∷ x)) h.parts clean) (ap (λ (x : List Line). bytes (l ∷ x)) (sym h.parts) ∙ are) size in
      let value = value-inside (length n) l (omega (arith, ap length shape.1, length-append n (58 ∷ shape.0))) in
      (name-some l n v is, value.0, omega (arith, value.1, h.size), fits)

  line-inside-by : (F : Form) → form l ≡ F → Inside (length s) (next_by F l ls)
  unfolding extent_of
  line-inside-by Form.blank is = (omega arith, line-fits)
  line-inside-by Form.comment is = (omega arith, line-fits)
  line-inside-by (Form.field n v) is = field-inside n v is (extent_of (joins l) (0 + line_size l) ls) (owns ls (joins l) (0 + line_size l))
  line-inside-by (Form.more v) is = tt
  line-inside-by Form.fault is = tt

pub next-inside : (s : Bytes) → is_ended s ≡ true → 0 < length s → Inside (length s) (next_of s)
next-inside s e h =
    let l = first_line s in
    let ls = lines (drop (suc (line_len s)) s) in
    rw (next-first s h) (line-inside-by s l ls (first-clean s h) (first-bytes s e h) (form l) refl)
