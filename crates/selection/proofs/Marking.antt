-- Which comparisons a field satisfies, as the code marks them one after another.
use Rattle.numbers.specs.declared.Whole.{Whole}
use Rattle.std.specs.Prelude.{Option as Maybe}
use Prim.Native.Nat.{ℕ, zero, suc, ◌+◌, ◌-◌, ◌<◌}
use native.Mathlib.Omega.{arith}
use mathlib.Core.Path.{◌≡◌, refl, sym, ap, ap₂, ◌∙◌, subst}
use mathlib.Core.Bool.{Bool, true, false, ◌&&◌, ◌||◌, or-false}
use mathlib.Core.List.{List, [], ◌∷◌}
use lib.Bits.{bit_or}
use lib.Dec.{eqb, ltb}
use lib.ListN.{length, take, drop, get_or, length-drop, drop_of_length-le}
use lib.Seq.{take_all, take-nil}
use borrow.Author.Tests.{eqb-true, eqb-false, lt-ltb, le-ltb, ltb-true, ltb-false}
use Rattle.format.specs.Bytes.{Bytes, same}
use Rattle.format.specs.Numbers.{Int}
use Rattle.words.specs.Spans.{span}
use Rattle.values.proofs.Tests.{by_bool}
use Rattle.numbers.specs.Meaning.{int_answer}
use Rattle.terms.specs.Sets.{in_set}
use Rattle.terms.proofs.Sets.{in-none, in-or}
use Rattle.selection.specs.Meaning.{ints_compare, int_compares, satisfies}
use Rattle.selection.specs.Tokens.{operator_in}
use Rattle.selection.specs.Rows.{operand_in, no_comparison, name_at, satisfies_at}
use Rattle.selection.specs.declared.parts.Operator.{Operator}
use Rattle.selection.specs.declared.programs.Operand.{Operand}
use Rattle.selection.specs.declared.programs.Comparison.{Comparison}
use Rattle.selection.proofs.Ints.{no_truth}

-- a part as far as there is any

pub span-behind : (s : Bytes) (a e : ℕ) → length s < a → [] ≡ span a e s
span-behind s a e h = sym (ap (take (e - a)) (drop_of_length-le s {i = a} (omega arith)) ∙ take-nil (e - a))

pub span_none : (s : Bytes) (a e : ℕ) → e < a → [] ≡ span a e s
span_none s a e h = let z : e - a ≡ 0 = omega arith in sym (ap (λ (n : ℕ). take n (drop a s)) z)

pub span-all : (s : Bytes) (a e : ℕ) → length s < e → take (length s - a) (drop a s) ≡ span a e s
span-all s a e h = take_all (length s - a) (drop a s) (omega (arith, length-drop a s)) ∙ sym (take_all (e - a) (drop a s) (omega (arith, length-drop a s)))

-- comparisons, by the operator that the code has

module _ (o y : Operator) (e : o ≡ y) where
  pub ints-by : (r : Bool) (m n : Int) → r ≡ ints_compare (operator_in y) m n → r ≡ ints_compare (operator_in o) m n
  ints-by r m n h = h ∙ ap (λ (x : Operator). ints_compare (operator_in x) m n) (sym e)

pub int-by : (o : Operator) (x y : Maybe Whole) (n : Int) (r : Bool) → x ≡ y → r ≡ int_compares (operator_in o) (int_answer y) n → r ≡ int_compares (operator_in o) (int_answer x) n
int-by o x y n r e h = h ∙ ap (λ (z : Maybe Whole). int_compares (operator_in o) (int_answer z) n) (sym e)

pub operand-by : (s : Bytes) (o : Operator) (x y : Operand) (v : Bytes) (r : Bool) → x ≡ y → r ≡ satisfies (operator_in o) (operand_in s y) v → r ≡ satisfies (operator_in o) (operand_in s x) v
operand-by s o x y v r e h = h ∙ ap (λ (z : Operand). satisfies (operator_in o) (operand_in s z) v) (sym e)

-- a set of those below k that pass a test

abbrev pub Marked : (ℕ → Bool) → ℕ → ℕ → Type 0
Marked p k set = (j : ℕ) → in_set j set ≡ (ltb j k && p j)

pub marked-none : (p : ℕ → Bool) → Marked p 0 0
marked-none p j = in-none j ∙ ap (λ (t : Bool). t && p j) (sym (le-ltb j 0 (omega arith)))

pub marked_more : (p : ℕ → Bool) (k set next : ℕ) (hit : Bool) → Marked p k set → ((j : ℕ) → in_set j next ≡ (in_set j set || (hit && eqb j k))) → hit ≡ p k → Marked p (k + 1) next
marked_more p k set next hit m h e j =
    h j ∙ ap (λ (t : Bool). t || (hit && eqb j k)) (m j)
    ∙ by_bool (eqb j k)
    (λ q. let z = eqb-true j k q in
    ap₂ (λ (a b : Bool). (a && p j) || (hit && b)) (le-ltb j k (omega arith)) q ∙ and-true hit ∙ e ∙ ap p (sym z) ∙ ap (λ (t : Bool). t && p j) (sym (lt-ltb j (k + 1) (omega arith))))
    (λ q. let z = eqb-false j k q in
    ap (λ (b : Bool). (ltb j k && p j) || (hit && b)) q ∙ ap (λ (t : Bool). (ltb j k && p j) || t) (and-false hit) ∙ or-false (ltb j k && p j)
    ∙ ap (λ (t : Bool). t && p j) (by_bool (ltb j k) (λ l. l ∙ sym (lt-ltb j (k + 1) (omega (arith, ltb-true j k l)))) (λ l. l ∙ sym (le-ltb j (k + 1) (omega (arith, ltb-false j k l, z))))))
  where
    and-true : (a : Bool) → (a && true) ≡ a
    and-true true = refl
    and-true false = refl

    and-false : (a : Bool) → (a && false) ≡ false
    and-false true = refl
    and-false false = refl

-- an element, whatever stands for one that is not there
pub same-element : (cs : List Comparison) (k : ℕ) (d : Comparison) → k < length cs → get_or cs k d ≡ get_or cs k no_comparison
same-element [] k d h = absurd (omega arith)
same-element (c ∷ cs) zero d h = refl
same-element (c ∷ cs) (suc k) d h = same-element cs k d (omega arith)

pub marked_all : (p : ℕ → Bool) (k n set : ℕ) → k ≡ n → Marked p k set → Marked p n set
marked_all p k n set e m = subst (λ (j : ℕ). Marked p j set) e m

module _ (e : Bytes) (cs : List Comparison) (k : ℕ) (d : Comparison) (there : k < length cs) where
  pub name_by : (own name : Bytes) (hit : Bool) → own ≡ span (get_or cs k d).start (get_or cs k d).end e → hit ≡ same own name → hit ≡ same (name_at e cs k) name
  name_by own name hit h f = f ∙ ap (λ (w : Bytes). same w name) (h ∙ ap (λ (c : Comparison). span c.start c.end e) (same-element cs k d there))

  pub hit-by : (asked hit : Bool) (hits : ℕ) (v : Bytes) → asked ≡ in_set k hits → hit ≡ (asked && satisfies (operator_in (get_or cs k d).operator) (operand_in e (get_or cs k d).operand) v) → hit ≡ (in_set k hits && satisfies_at e cs k v)
  hit-by asked hit hits v h f =
      f ∙ ap (λ (b : Bool). b && satisfies (operator_in (get_or cs k d).operator) (operand_in e (get_or cs k d).operand) v) h
      ∙ ap (λ (c : Comparison). in_set k hits && satisfies (operator_in c.operator) (operand_in e c.operand) v) (same-element cs k d there)

-- what is satisfied, of those that have the name

pub none-hit : (a b c x : Bool) → (a && b) ≡ false → x ≡ (x || (a && (b && c)))
none-hit true true c x e = absurd (no_truth e)
none-hit true false c x e = sym (or-false x)
none-hit false b c x e = sym (or-false x)

pub hit-both : (a b c x hit : Bool) → hit ≡ (a && b) → (x || (a && (hit && c))) ≡ (x || (a && (b && c)))
hit-both true b c x hit e = ap (λ (t : Bool). x || (t && c)) e
hit-both false b c x hit e = refl

-- a set with what a field satisfies
module _ (e : Bytes) (cs : List Comparison) (c set hits : ℕ) (name v : Bytes) (named : (k : ℕ) → in_set k hits ≡ (ltb k c && same (name_at e cs k) name)) where
  pub field-none : hits ≡ 0 → (k : ℕ) → in_set k set ≡ (in_set k set || (ltb k c && (same (name_at e cs k) name && satisfies_at e cs k v)))
  field-none z k = none-hit (ltb k c) (same (name_at e cs k) name) (satisfies_at e cs k v) (in_set k set) (sym (named k) ∙ ap (in_set k) z ∙ in-none k)

  pub field-marks : (some : ℕ) (w : Bytes) → w ≡ v → ((k : ℕ) → in_set k some ≡ (ltb k c && (in_set k hits && satisfies_at e cs k w))) → (k : ℕ) → in_set k (bit_or set some) ≡ (in_set k set || (ltb k c && (same (name_at e cs k) name && satisfies_at e cs k v)))
  field-marks some w q h k =
      in-or k set some ∙ ap (λ (b : Bool). in_set k set || b) (h k ∙ ap (λ (x : Bytes). ltb k c && (in_set k hits && satisfies_at e cs k x)) q)
      ∙ hit-both (ltb k c) (same (name_at e cs k) name) (satisfies_at e cs k v) (in_set k set) (in_set k hits) (named k)
