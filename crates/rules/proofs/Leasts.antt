-- The lesser of two numbers of questions, 0 being none.
use Prim.Native.Nat.{ℕ, zero, suc, ◌<◌, min}
use native.Mathlib.Omega.{arith}
use mathlib.Core.Path.{◌≡◌, refl, sym, ap, ◌∙◌}
use Rattle.std.specs.Prelude.{Result, Ok, Err, IsErrAnd}
use Rattle.format.specs.Refusals.{question_no, no_of}
use Rattle.format.specs.declared.refusals.Question.{Question}
use Rattle.format.proofs.Least.{least}

pub least-none : (a b : ℕ) → b ≡ 0 → a ≡ least a b
least-none zero b e = sym e
least-none (suc a) zero e = refl
least-none (suc a) (suc b) e = absurd (omega arith)

pub least-min : (a b : ℕ) → (a ≡ 0 → ⊥) → (b ≡ 0 → ⊥) → least a b ≡ min a b
least-min zero b h k = absurd (h refl)
least-min (suc a) zero h k = absurd (k refl)
least-min (suc a) (suc b) h k = omega arith

-- a question's number is not 0
pub some-no : (q : Question) → 0 < question_no q
some-no Question.Length = omega arith
some-no Question.Byte = omega arith
some-no Question.Line = omega arith
some-no Question.Limit = omega arith
some-no Question.Rec = omega arith
some-no Question.Descriptor = omega arith
some-no Question.Type = omega arith
some-no Question.Prohibited = omega arith
some-no Question.NotAllowed = omega arith
some-no Question.Missing = omega arith
some-no Question.Repeated = omega arith
some-no Question.Value = omega arith
some-no Question.Key = omega arith
some-no Question.Size = omega arith
some-no Question.Singular = omega arith

-- a question said no, and an answer hands it on
module _ {A : Type 0} (a : Result A Question) (q : Question) (e : a ≡ Err q) where
  pub errs : no_of a ≡ 0 → ⊥
  errs z = omega (arith, some-no q, ap no_of e, z)

  pub handed : {B : Type 0} (r : Result B Question) → IsErrAnd r (λ p. p ≡ q) → no_of r ≡ no_of a
  handed (Ok x) h = absurd h
  handed (Err p) h = ap question_no h ∙ sym (ap no_of e)

pub least-assoc : (a b c : ℕ) → least a (least b c) ≡ least (least a b) c
least-assoc zero b c = refl
least-assoc (suc a) zero c = refl
least-assoc (suc a) (suc b) zero = refl
least-assoc (suc a) (suc b) (suc c) = omega arith
