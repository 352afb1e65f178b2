-- How many words the lists of a descriptor have: as many as the rules list, which are few.
use Prim.Native.Nat.{ℕ, ◌+◌, ◌≤◌}
use native.Mathlib.Omega.{arith}
use mathlib.Core.Path.{◌≡◌, refl, sym, ap, ◌∙◌}
use mathlib.Core.Bool.{Bool, true, false, ◌&&◌, and-eq-true_iff, or-false, false≢true}
use mathlib.Core.List.{List, [], ◌∷◌, ◌++◌}
use borrow.Author.Tests.{leb-true}
use lib.Dec.{leb, eqb}
use lib.ListN.{length, length-append, length-map}
use Rattle.format.specs.Bytes.{Bytes, text, pick, all, same}
use Rattle.format.specs.Lines.{is_name}
use Rattle.format.specs.Words.{words}
use Rattle.format.specs.Records.{Field, Record}
use Rattle.format.specs.Sets.{values_of}
use Rattle.format.specs.Numbers.{int_bounds}
use Rattle.format.specs.Rules.{listed, mandatory, prohibited, allowed, unique, key, one, is_shaped}
use Rattle.format.proofs.Limits.{rules-few}
use Rattle.format.proofs.Listing.{listed_cons, shaped-as}
use Rattle.records.specs.Walk.{record_in}
use Rattle.terms.specs.Sets.{term_of}
use Rattle.dictionary.specs.Tags.{list_tag}
use Rattle.dictionary.specs.Terms.{terms_by, field_terms, list_terms}
use Rattle.dictionary.specs.Known.{Described}
use Rattle.dictionary.proofs.Listing.{list-none, list-cons, tag-any, Tags, tags-mandatory, tags-prohibit, tags-allowed, tags-unique, tags-key}
use Rattle.dictionary.proofs.Typing.{all-shaped}

-- the words of a field, if its tag is k
abbrev counted : List Bytes → ℕ → ℕ → ℕ
counted ws k t = length (pick (eqb t k) ws [])

-- a field's words are counted once
abbrev Once : List Bytes → ℕ → Type 0
Once ws t = length (terms_by t ws) ≡ counted ws 32 t + counted ws 33 t + counted ws 34 t + counted ws 35 t + counted ws 36 t

once : (ws : List Bytes) (m : Bytes) → Once ws (list_tag m)
once ws m =
    tag-any (Once ws) (omega (arith, length-map ws (term_of 32))) (omega (arith, length-map ws (term_of 33))) (omega (arith, length-map ws (term_of 34))) (omega (arith, length-map ws (term_of 35)))
    (omega (arith, length-map ws (term_of 36))) (omega arith) m

listed-length : (n : Bytes) (k : ℕ) → Tags n k → (f : Field) (r : Record) → length (listed n (f ∷ r)) ≡ counted (words f.value) k (list_tag f.name) + length (listed n r)
listed-length n k q f r =
    ap length (listed_cons n f r)
    ∙ length-append (pick (same n f.name) (words f.value) []) (listed n r)
    ∙ ap (λ (t : Bool). length (pick t (words f.value) []) + length (listed n r)) (q f.name)

list_length : (r : Record) → length (list_terms r) ≡ length (mandatory r) + length (prohibited r) + length (allowed r) + length (unique r) + length (key r)
list_length [] = ap length list-none
list_length (f ∷ r) =
    omega (
      arith,
      ap length (list-cons f r),
      length-append (field_terms f) (list_terms r),
      once (words f.value) f.name,
      listed-length (text "%mandatory") 32 tags-mandatory f r,
      listed-length (text "%prohibit") 33 tags-prohibit f r,
      listed-length (text "%allowed") 34 tags-allowed f r,
      listed-length (text "%unique") 35 tags-unique f r,
      listed-length (text "%key") 36 tags-key f r,
      list_length r,
    )

-- a `%key` field lists one word
one-length : (p : Bytes → Bool) (ws : List Bytes) → one p ws ≡ true → length ws ≡ 1
one-length p [] e = absurd (false≢true e)
one-length p (w ∷ []) e = refl
one-length p (w ∷ v ∷ ws) e = absurd (false≢true e)

key-by : (t : Bool) (v : Bytes) (vs ws : List Bytes) → (t ≡ true → length (words v) ≡ 1) → length ws ≡ length vs → length (pick t (words v) [] ++ ws) ≡ length (pick t (v ∷ vs) vs)
key-by true v vs ws h e = omega (arith, length-append (words v) ws, h refl)
key-by false v vs ws h e = e

pub key-length : (r : Record) → all (is_shaped int_bounds) r ≡ true → length (key r) ≡ length (values_of (text "%key") r)
key-length [] e = refl
key-length (f ∷ r) e =
    let n : Bytes = text "%key" in
    let h = (and-eq-true_iff (is_shaped int_bounds f) (all (is_shaped int_bounds) r)).0 e in
    ap length (listed_cons n f r)
    ∙ key-by (same n f.name) f.value (values_of n r) (listed n r)
    (λ q. one-length is_name (words f.value) (sym (or-false (one is_name (words f.value))) ∙ shaped-as int_bounds f n q h.0))
    (key-length r h.1)

pub lists-few : (d : Bytes) → Described d → length (list_terms (record_in d)) ≤ 257
lists-few d h =
    let rules : Record = record_in d in
    let k : Bool = leb (length (values_of (text "%key") rules)) 1 in
    let z : Bool = leb (length (values_of (text "%size") rules)) 1 in
    let few = rules-few rules h.few in
    let hk = (and-eq-true_iff (all (is_shaped int_bounds) rules) k).0 ((and-eq-true_iff (all (is_shaped int_bounds) rules && k) z).0 h.well).0 in
    omega (
      arith,
      list_length rules,
      few.mandatory-few,
      few.prohibited-few,
      few.allowed-few,
      few.unique-few,
      key-length rules (all-shaped d h),
      leb-true (length (values_of (text "%key") rules)) 1 hk.1,
    )
