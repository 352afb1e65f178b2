-- Question 7 by the code's numbers: the typedefs are well formed, and each `%type` field has names and ends in a kind.
use Prim.Native.Nat.{ℕ, ◌+◌, ◌≤◌, ◌<◌}
use native.Mathlib.Omega.{arith}
use mathlib.Core.Path.{◌≡◌, refl, sym, ap, ◌∙◌}
use mathlib.Core.Bool.{Bool, true, false, ◌&&◌, not, and-eq-true_iff}
use mathlib.Core.List.{List, [], ◌∷◌, map}
use lib.ListN.{length, take, drop, drop_of_length-le}
use Rattle.format.specs.Bytes.{Bytes, text, all, among, is_some}
use Rattle.format.specs.Lines.{is_name}
use Rattle.format.specs.Words.{first_word, split, is_type_name}
use Rattle.format.specs.Numbers.{int_bounds}
use Rattle.format.specs.Records.{Record}
use Rattle.format.specs.Sets.{values_of}
use Rattle.format.specs.Rules.{typed_names, end_kind, reserved, is_typedef_name, distinct, are_types_defined}
use Rattle.values.specs.Value.{value_from}
use Rattle.lines.specs.Line.{run}
use Rattle.lines.proofs.Cuts.{at-cons, rest as rest_all}
use Rattle.words.specs.Spans.{span, not_byte}
use Rattle.words.proofs.Splitting.{split_behind, split-run}
use Rattle.records.specs.Named.{values_from, ValueHere}
use Rattle.typedefs.specs.Targets.{target_in, leads, are_defined, well_by}
use Rattle.typedefs.proofs.Filling.{both_true}
use Rattle.typedefs.proofs.Defined.{swap, defs_of, type-leads}

-- five tests, the first three apart
five : (a b c d e : Bool) → (a && b && c && d && e) ≡ (((a && c) && b) && (d && e))
five true true true d e = refl
five true true false d e = refl
five true false true d e = refl
five true false false d e = refl
five false b c d e = refl

-- both tests of every value
both-all : (p q f : Bytes → Bool) → ((v : Bytes) → q v ≡ f v) → (vs : List Bytes) → (all p vs && all q vs) ≡ all (λ (v : Bytes). p v && f v) vs
both-all p q f h [] = refl
both-all p q f h (v ∷ vs) =
    swap (p v) (all p vs) (q v) (all q vs) ∙ ap (λ (t : Bool). (p v && q v) && t) (both-all p q f h vs)
    ∙ ap (λ (t : Bool). (p v && t) && all (λ (w : Bytes). p w && f w) vs) (h v)

-- a test of each first word
pub all_words : (p : Bytes → Bool) (vs : List Bytes) → all (λ (v : Bytes). p (first_word v)) vs ≡ all p (map first_word vs)
all_words p [] = refl
all_words p (v ∷ vs) = ap (λ (t : Bool). p (first_word v) && t) (all_words p vs)

-- a name that a typedef may have is a type name
pub type-names : (ns : List Bytes) → all is_typedef_name ns ≡ true → all is_type_name ns ≡ true
type-names [] e = refl
type-names (n ∷ ns) e =
    let h = (and-eq-true_iff (is_typedef_name n) (all is_typedef_name ns)).0 e in
    (and-eq-true_iff (is_type_name n) (all is_type_name ns)).1 (((and-eq-true_iff (is_type_name n) (not (among n reserved))).0 h.0).0, type-names ns h.1)

module _ (r : Record) where
  abbrev defs : List Bytes
  defs = values_of (text "%typedef") r

  abbrev uses : List Bytes
  uses = values_of (text "%type") r

  abbrev rest : Bool
  rest = all (λ (v : Bytes). all is_name (typed_names v)) uses && all (λ (v : Bytes). is_some (end_kind int_bounds (defs_of defs) v)) uses

  well-by : are_types_defined int_bounds r ≡ (are_defined defs && rest)
  well-by =
      five (all (λ (v : Bytes). is_typedef_name (first_word v)) defs) (all (λ (v : Bytes). is_some (end_kind int_bounds (defs_of defs) v)) defs) (distinct (map first_word defs))
      (all (λ (v : Bytes). all is_name (typed_names v)) uses) (all (λ (v : Bytes). is_some (end_kind int_bounds (defs_of defs) v)) uses)
      ∙ ap (λ (t : Bool). ((t && distinct (map first_word defs)) && all (λ (v : Bytes). is_some (end_kind int_bounds (defs_of defs) v)) defs) && rest) (all_words is_typedef_name defs)

  pub not-defined : are_defined defs ≡ false → are_types_defined int_bounds r ≡ false
  not-defined e = well-by ∙ ap (λ (t : Bool). t && rest) e

  pub well-types : are_defined defs ≡ true → are_types_defined int_bounds r ≡ all (well_by (map first_word defs) (map (target_in (map first_word defs)) defs)) uses
  well-types e =
      let b = both_true (all is_typedef_name (map first_word defs) && distinct (map first_word defs)) (all (λ (v : Bytes). is_some (end_kind int_bounds (defs_of defs) v)) defs) e in
      well-by ∙ ap (λ (t : Bool). t && rest) e
      ∙ both-all (λ (v : Bytes). all is_name (typed_names v)) (λ (v : Bytes). is_some (end_kind int_bounds (defs_of defs) v))
      (λ (v : Bytes). leads (map (target_in (map first_word defs)) defs) (target_in (map first_word defs) v)) (type-leads defs b.1) uses

-- one field more
pub all-cut : (p : Bytes → Bool) (d name : Bytes) (i v e : ℕ) (t : Bool) → ValueHere d name i v e → t ≡ p (value_from (drop v d)) → all p (values_from d name i) ≡ (t && all p (values_from d name e))
all-cut p d name i v e t h q = ap (all p) h.values ∙ ap (λ (b : Bool). b && all p (values_from d name e)) (sym (q ∙ ap p h.ends-itself))

-- the parts of a word
module _ (s : Bytes) (e : ℕ) (q : e ≡ run (not_byte 44) s) where
  parts_cut : split 44 s ≡ take e s ∷ split_behind 44 (drop e s)
  parts_cut = split-run 44 s ∙ ap (λ (m : ℕ). take m s ∷ split_behind 44 (drop m s)) (sym q)

  pub part-bad : is_name (take e s) ≡ false → all is_name (split 44 s) ≡ false
  part-bad b = ap (all is_name) parts_cut ∙ ap (λ (t : Bool). t && all is_name (split_behind 44 (drop e s))) b

  part-good : is_name (take e s) ≡ true → all is_name (split 44 s) ≡ all is_name (split_behind 44 (drop e s))
  part-good b = ap (all is_name) parts_cut ∙ ap (λ (t : Bool). t && all is_name (split_behind 44 (drop e s))) b

  pub part-last : is_name (take e s) ≡ true → e ≡ length s → all is_name (split 44 s) ≡ true
  part-last b h = let l : length s ≤ e = omega arith in part-good b ∙ ap (λ (x : Bytes). all is_name (split_behind 44 x)) (drop_of_length-le s l)

  pub part-more : is_name (take e s) ≡ true → e < length s → all is_name (split 44 s) ≡ all is_name (split 44 (span (e + 1) (length s) s))
  part-more b h = part-good b ∙ ap (λ (x : Bytes). all is_name (split_behind 44 x)) (at-cons s e h) ∙ ap (λ (x : Bytes). all is_name (split 44 x)) (sym (rest_all s (e + 1)))
