-- The number that a name gets is a running maximum: an insert raises what it must be above to the largest int that the new record has, and no more.
use Prim.Native.Nat.{ℕ, max}
use native.Mathlib.Omega.{arith}
use mathlib.Core.Path.{◌≡◌, refl, ap, ◌∙◌}
use mathlib.Core.List.{List, [], ◌∷◌, ◌++◌, map}
use mathlib.Core.Option.{Option, none, some}
use Rattle.format.specs.Bytes.{Bytes, all}
use Rattle.format.specs.Lists.{only_if, keep, kept}
use Rattle.format.specs.Records.{Record}
use Rattle.format.specs.Sets.{RecSet}
use Rattle.format.specs.Words.{trim}
use Rattle.format.specs.Numbers.{Int, plus, Bounds, int_of, is_at_most}
use Rattle.format.specs.Rules.{type_rules, kinds_of, Span, all_ints, span_of}
use Rattle.format.specs.Questions.{values_in}
use Rattle.format.specs.Written.{Pair, new_field}
use Rattle.format.specs.Numbering.{ints_of, above, from, largest, next_number}
use Rattle.format.specs.Edits.{Edit, in_set}
use Rattle.spoiling.proofs.Distinct.{record-values-joined}

kept_append : {A B : Type 0} (f : A → Option B) (xs ys : List A) → kept f (xs ++ ys) ≡ kept f xs ++ kept f ys
kept_append f [] ys = refl
kept_append f (x ∷ xs) ys = ap (keep (f x)) (kept_append f xs ys) ∙ go (f x)
  where
    go : (o : Option _) → keep o (kept f xs ++ kept f ys) ≡ keep o (kept f xs) ++ kept f ys
    go none = refl
    go (some y) = refl

largest-append : {A : Type 0} (f : A → ℕ) (xs ys : List A) → largest f (xs ++ ys) ≡ max (largest f xs) (largest f ys)
largest-append f [] ys = omega arith
largest-append f (x ∷ xs) ys = ap (max (f x)) (largest-append f xs ys) ∙ omega arith

-- what a name's number must be above, in records
abbrev pub above_in : Bounds → Bytes → List Record → ℕ
above_in b n rs = largest above (ints_of b n rs)

-- the number, by that and the field's types
abbrev pub least_above : List Span → ℕ → Option ℕ
least_above ss k = let m : ℕ = max k (largest (λ (s : Span). from s.low) ss) in only_if (all (λ (s : Span). is_at_most (plus m) s.high) ss) m

abbrev pub spans_of : Bounds → Record → Bytes → List Span
spans_of b rules n = all_ints b ∷ kept (span_of b) (kinds_of n (type_rules b rules))

pub number_by : (b : Bounds) (s : RecSet) (n : Bytes) → next_number b s n ≡ least_above (spans_of b s.rules n) (above_in b n s.members)
number_by b s n = refl

pub above-joined : (b : Bounds) (n : Bytes) (ms rs : List Record) → above_in b n (ms ++ rs) ≡ max (above_in b n ms) (above_in b n rs)
above-joined b n ms rs =
    let int : Bytes → Option Int = λ (v : Bytes). int_of b (trim v) in
    ap (λ (vs : List Bytes). largest above (kept int vs)) (record-values-joined n ms rs)
    ∙ ap (largest above) (kept_append int (values_in n ms) (values_in n rs))
    ∙ largest-append above (kept int (values_in n ms)) (kept int (values_in n rs))

pub number-after : (b : Bounds) (s : RecSet) (new : List Pair) (n : Bytes) → next_number b (in_set (Edit.insert new) s) n ≡ least_above (spans_of b s.rules n) (max (above_in b n s.members) (above_in b n (map new_field new ∷ [])))
number-after b s new n = ap (least_above (spans_of b s.rules n)) (above-joined b n s.members (map new_field new ∷ []))
