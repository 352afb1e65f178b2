-- The parts of an expression by the grammar, and the places where they begin and end: what a derivation has of them.
use Rattle.std.specs.Prelude.{ℕ, List, [], ◌∷◌, ◌++◌}
use Rattle.format.specs.Bytes.{Bytes}
use Rattle.selection.specs.Expressions.{Expression, comparing, not_sign, and_sign, or_sign, open_sign, close_sign, Part, field_name, operand, int, string, sign}
use Rattle.selection.specs.Expressions.{PartAt, behind_blank, at_once, Or, or_one, or_more, And, and_one, and_more, Unary, unary_not, unary_group, unary_int, unary_string, Written}

-- the parts of an expression by the grammar, followed by those of others
abbrev mutual
  pub or_cut : {n : ℕ} {s t : Bytes} {e : Expression} → Or n s t e → List Part → List Part
  or_cut (or_one x) ps = and_cut x ps
  or_cut (or_more x a y) ps = or_cut x (sign or_sign ∷ and_cut y ps)

  pub and_cut : {n : ℕ} {s t : Bytes} {e : Expression} → And n s t e → List Part → List Part
  and_cut (and_one x) ps = unary_cut x ps
  and_cut (and_more x a y) ps = and_cut x (sign and_sign ∷ unary_cut y ps)

  pub unary_cut : {n : ℕ} {s t : Bytes} {e : Expression} → Unary n s t e → List Part → List Part
  unary_cut (unary_not a x) ps = sign not_sign ∷ unary_cut x ps
  unary_cut (unary_group a x b) ps = sign open_sign ∷ or_cut x (sign close_sign ∷ ps)
  unary_cut (unary_int {m = m} {o = o} {z = z} a b c) ps = field_name m ∷ sign (comparing o) ∷ operand (int z) ∷ ps
  unary_cut (unary_string {m = m} {o = o} {w = w} a b q c) ps = field_name m ∷ sign (comparing o) ∷ operand (string w) ∷ ps

abbrev pub cut_of : {n : ℕ} {s : Bytes} {e : Expression} → Written n s e → List Part
cut_of x = or_cut x.expression []

-- the same with the places where the parts begin, behind blanks, and end
pub record Cut : Type 0 where
  pub part : Part
  pub begins : Bytes
  pub ends : Bytes

abbrev pub begins_at : {s t : Bytes} {p : Part} → PartAt s p t → Bytes
begins_at (behind_blank c e n) = begins_at n
begins_at (at_once {w = w} t x) = w ++ t

abbrev pub placed : {s t : Bytes} {p : Part} → PartAt s p t → Cut
placed {t = t} {p = p} a = record { part = p; begins = begins_at a; ends = t }

abbrev mutual
  pub or_places : {n : ℕ} {s t : Bytes} {e : Expression} → Or n s t e → List Cut → List Cut
  or_places (or_one x) cs = and_places x cs
  or_places (or_more x a y) cs = or_places x (placed a ∷ and_places y cs)

  pub and_places : {n : ℕ} {s t : Bytes} {e : Expression} → And n s t e → List Cut → List Cut
  and_places (and_one x) cs = unary_places x cs
  and_places (and_more x a y) cs = and_places x (placed a ∷ unary_places y cs)

  pub unary_places : {n : ℕ} {s t : Bytes} {e : Expression} → Unary n s t e → List Cut → List Cut
  unary_places (unary_not a x) cs = placed a ∷ unary_places x cs
  unary_places (unary_group a x b) cs = placed a ∷ or_places x (placed b ∷ cs)
  unary_places (unary_int a b c) cs = placed a ∷ placed b ∷ placed c ∷ cs
  unary_places (unary_string a b q c) cs = placed a ∷ placed b ∷ placed c ∷ cs

abbrev pub places_of : {n : ℕ} {s : Bytes} {e : Expression} → Written n s e → List Cut
places_of x = or_places x.expression []
