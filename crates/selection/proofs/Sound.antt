-- What is read the grammar has: where a reader has come to, what it holds tells which expressions of the grammar stand before.
use Prim.Native.Nat.{ℕ, zero, suc, ◌≤◌}
use mathlib.Core.Path.{◌≡◌, refl, subst₂, subst}
use mathlib.Core.Bool.{true}
use mathlib.Core.List.{List, [], ◌∷◌}
use mathlib.Core.Option.{Option, none, some}
use lib.Dec.{leb}
use lib.ListN.{length}
use borrow.Author.Tests.{leb-true}
use Rattle.format.specs.Bytes.{Bytes, pick, all, is_blank}
use Rattle.format.specs.Lists.{onward}
use Rattle.selection.specs.Expressions.{Operator, Operand, int, string, Expression, comparison, negation, comparing, not_sign, and_sign, or_sign, open_sign, close_sign, Part, field_name, operand, sign}
use Rattle.selection.specs.Expressions.{PartAt, Or, or_one, or_more, And, and_one, and_more, Unary, unary_not, unary_group, unary_int, unary_string, takes_strings, Written, IsExpression, open_at_most, bytes_at_most}
use Rattle.selection.specs.Reading.{parts_behind, parts_of, Level, Stage, wanting, naming, holding, done, Reader, reader, negated_by, and_with, or_with, operand_on, may_take, advance, at_end, grouped_from, beginning, read_expression}
use Rattle.selection.proofs.Ints.{pick-either}
use Rattle.selection.proofs.Cutting.{CutInto, parts-there}

-- A place of a level that begins where P holds: behind its last `||`, or at its begin; behind the last `&&` after that; behind so many `!`.
abbrev BehindOr : (Bytes → Type 0) → ℕ → Option Expression → Bytes → Type 0
BehindOr P n none s = P s
BehindOr P n (some l) s = (u : Bytes) × (v : Bytes) × P u × Or n u v l × PartAt v (sign or_sign) s

abbrev BehindAnd : (Bytes → Type 0) → ℕ → Option Expression → Option Expression → Bytes → Type 0
BehindAnd P n l none s = BehindOr P n l s
BehindAnd P n l (some a) s = (u : Bytes) × (v : Bytes) × BehindOr P n l u × And n u v a × PartAt v (sign and_sign) s

abbrev BehindNots : (Bytes → Type 0) → ℕ → Option Expression → Option Expression → ℕ → Bytes → Type 0
BehindNots P n l a zero s = BehindAnd P n l a s
BehindNots P n l a (suc b) s = (u : Bytes) × BehindNots P n l a b u × PartAt u (sign not_sign) s

abbrev BeforeOperand : (Bytes → Type 0) → ℕ → Level → Bytes → Type 0
BeforeOperand P n f s = BehindNots P n f.ored f.anded f.nots s

abbrev BehindOperand : (Bytes → Type 0) → ℕ → Option Expression → Expression → Bytes → Type 0
BehindOperand P n l e s = (u : Bytes) × BehindOr P n l u × And n u s e

-- a level begins with the bytes, or behind a `(`
abbrev LevelBegins : Bytes → ℕ → List Level → Bytes → Type 0
LevelBegins start n [] s = (n ≡ open_at_most) × (s ≡ start)
LevelBegins start n (f ∷ k) s = (u : Bytes) × BeforeOperand (LevelBegins start (suc n) k) (suc n) f u × PartAt u (sign open_sign) s

abbrev Reading : Bytes → ℕ → List Level → Stage → Bytes → Type 0
Reading start n k (wanting f) s = BeforeOperand (LevelBegins start n k) n f s
Reading start n k (naming f m) s = (u : Bytes) × BeforeOperand (LevelBegins start n k) n f u × PartAt u (field_name m) s
Reading start n k (holding f m o) s = (u : Bytes) × (v : Bytes) × BeforeOperand (LevelBegins start n k) n f u × PartAt u (field_name m) v × PartAt v (sign (comparing o)) s
Reading start n k (done l e) s = BehindOperand (LevelBegins start n k) n l e s

-- the operand that a reader is done with, and the expression of a level
operand-stands : (P : Bytes → Type 0) (n : ℕ) (l a : Option Expression) (b : ℕ) (u s : Bytes) (e : Expression) → BehindNots P n l a b u → Unary n u s e → BehindOperand P n l (and_with a (negated_by b e)) s
operand-stands P n l none zero u s e h x = (u, h, and_one x)
operand-stands P n l (some a) zero u s e h x = (h.0, h.2, and_more h.3 h.4 x)
operand-stands P n l a (suc b) u s e h x = operand-stands P n l a b h.0 s (negation e) h.1 (unary_not h.2 x)

level-stands : (P : Bytes → Type 0) (n : ℕ) (l : Option Expression) (e : Expression) (s : Bytes) → BehindOperand P n l e s → (w : Bytes) × P w × Or n w s (or_with l e)
level-stands P n none e s h = (h.0, h.1, or_one h.2)
level-stands P n (some l) e s h = let b = h.1 in (b.0, b.2, or_more b.3 b.4 h.2)

-- past a part, what the reader holds tells the same
abbrev ReadingIf : Bytes → Option Reader → Bytes → Type 0
ReadingIf start none t = Unit {0}
ReadingIf start (some r) t = Reading start r.room r.outer r.stage t

value-advances : (start : Bytes) (n : ℕ) (k : List Level) (f : Level) (m : Bytes) (o : Operator) (v : Operand) (s t : Bytes) → Reading start n k (holding f m o) s → PartAt s (operand v) t → ReadingIf start (pick (may_take o v) (reader n k (operand_on f (comparison m o v))) none) t
value-advances start n k f m o (int z) s t h x = operand-stands (LevelBegins start n k) n f.ored f.anded f.nots h.0 t (comparison m o (int z)) h.2 (unary_int h.3 h.4 x)
value-advances start n k f m o (string w) s t h x =
    pick-either (λ (y : Option Reader). ReadingIf start y t) (takes_strings o) (reader n k (operand_on f (comparison m o (string w)))) none
    (λ e. operand-stands (LevelBegins start n k) n f.ored f.anded f.nots h.0 t (comparison m o (string w)) h.2 (unary_string h.3 h.4 e x)) (λ e. tt)

part-advances : (start : Bytes) (n : ℕ) (k : List Level) (x : Stage) (p : Part) (s t : Bytes) → Reading start n k x s → PartAt s p t → ReadingIf start (advance n k x p) t
part-advances start n k (wanting f) (field_name m) s t h x = (s, h, x)
part-advances start n k (wanting f) (operand v) s t h x = tt
part-advances start n k (wanting f) (sign (comparing o)) s t h x = tt
part-advances start n k (wanting f) (sign not_sign) s t h x = (s, h, x)
part-advances start n k (wanting f) (sign and_sign) s t h x = tt
part-advances start n k (wanting f) (sign or_sign) s t h x = tt
part-advances start zero k (wanting f) (sign open_sign) s t h x = tt
part-advances start (suc n) k (wanting f) (sign open_sign) s t h x = (s, h, x)
part-advances start n k (wanting f) (sign close_sign) s t h x = tt
part-advances start n k (naming f m) (field_name l) s t h x = tt
part-advances start n k (naming f m) (operand v) s t h x = tt
part-advances start n k (naming f m) (sign (comparing o)) s t h x = (h.0, s, h.1, h.2, x)
part-advances start n k (naming f m) (sign not_sign) s t h x = tt
part-advances start n k (naming f m) (sign and_sign) s t h x = tt
part-advances start n k (naming f m) (sign or_sign) s t h x = tt
part-advances start n k (naming f m) (sign open_sign) s t h x = tt
part-advances start n k (naming f m) (sign close_sign) s t h x = tt
part-advances start n k (holding f m o) (field_name l) s t h x = tt
part-advances start n k (holding f m o) (operand v) s t h x = value-advances start n k f m o v s t h x
part-advances start n k (holding f m o) (sign g) s t h x = tt
part-advances start n k (done l e) (field_name m) s t h x = tt
part-advances start n k (done l e) (operand v) s t h x = tt
part-advances start n k (done l e) (sign (comparing o)) s t h x = tt
part-advances start n k (done l e) (sign not_sign) s t h x = tt
part-advances start n k (done l e) (sign and_sign) s t h x = (h.0, s, h.1, h.2, x)
part-advances start n k (done l e) (sign or_sign) s t h x = let w = level-stands (LevelBegins start n k) n l e s h in (w.0, s, w.1, w.2, x)
part-advances start n k (done l e) (sign open_sign) s t h x = tt
part-advances start n [] (done l e) (sign close_sign) s t h x = tt
part-advances start n (f ∷ k) (done l e) (sign close_sign) s t h x =
    let w = level-stands (LevelBegins start n (f ∷ k)) n l e s h in
    let b = w.1 in
    operand-stands (LevelBegins start (suc n) k) (suc n) f.ored f.anded f.nots b.0 t (or_with l e) b.1 (unary_group b.2 w.2 x)

-- behind the last part

abbrev IsWritten : Bytes → Option Expression → Type 0
IsWritten start none = Unit {0}
IsWritten start (some e) = Written open_at_most start e

end_read : (start : Bytes) (n : ℕ) (k : List Level) (x : Stage) (s : Bytes) → Reading start n k x s → all is_blank s ≡ true → IsWritten start (at_end k x)
end_read start n k (wanting f) s h e = tt
end_read start n k (naming f m) s h e = tt
end_read start n k (holding f m o) s h e = tt
end_read start n [] (done l a) s h e =
    let w = level-stands (LevelBegins start n []) n l a s h in
    record { end = s; expression = subst₂ (λ (d : ℕ) (y : Bytes). Or d y s (or_with l a)) w.1.0 w.1.1 w.2; blanks = e }
end_read start n (f ∷ k) (done l a) s h e = tt

advance-read : (start : Bytes) (ps : List Part) (x : Option Reader) (t : Bytes) → ((r : Reader) → Reading start r.room r.outer r.stage t → IsWritten start (grouped_from ps r)) → ReadingIf start x t → IsWritten start (onward (grouped_from ps) x)
advance-read start ps none t f h = tt
advance-read start ps (some r) t f h = f r h

parts-read : (ps : List Part) (start : Bytes) (r : Reader) (s : Bytes) → Reading start r.room r.outer r.stage s → CutInto s ps → IsWritten start (grouped_from ps r)
parts-read [] start r s h c = end_read start r.room r.outer r.stage s h c
parts-read (p ∷ ps) start r s h c =
    advance-read start ps (advance r.room r.outer r.stage p) c.0 (λ (q : Reader) (k : Reading start q.room q.outer q.stage c.0). parts-read ps start q c.0 k c.2)
    (part-advances start r.room r.outer r.stage p s c.0 h c.1)

-- The laws

abbrev IsReadAs : Bytes → Option Expression → Type 0
IsReadAs s none = Unit {0}
IsReadAs s (some e) = IsExpression s e

read_fits : (s : Bytes) (x : Option Expression) → length s ≤ bytes_at_most → IsWritten s x → IsReadAs s x
read_fits s none h r = tt
read_fits s (some e) h r = record { stands = r; fits = h }

parts-told : (s : Bytes) (x : Option (List Part)) → parts_behind zero s ≡ x → IsReadAs s (onward (λ (ps : List Part). pick (leb (length s) bytes_at_most) (grouped_from ps beginning) none) x)
parts-told s none e = tt
parts-told s (some ps) e =
    pick-either (IsReadAs s) (leb (length s) bytes_at_most) (grouped_from ps beginning) none
    (λ h. read_fits s (grouped_from ps beginning) (leb-true (length s) bytes_at_most h) (parts-read ps s beginning s (refl, refl) (parts-there s ps e))) (λ h. tt)

-- what is read is an expression, within the limits
pub read-is-expression : (s : Bytes) (e : Expression) → read_expression s ≡ some e → IsExpression s e
unfolding read_expression parts_of
read-is-expression s e h = subst (IsReadAs s) h (parts-told s (parts_behind zero s) refl)
