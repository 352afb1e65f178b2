-- The number of a tally, by its tests; that of a record's tally is that of questions 8 to 11.
use Prim.Native.Nat.{ℕ, zero, suc, ◌≤◌, ◌<◌, min}
use native.Mathlib.Omega.{arith}
use mathlib.Core.Path.{◌≡◌, refl, sym, ap, ap₂, ◌∙◌}
use mathlib.Core.Bool.{Bool, true, false, ◌&&◌, ◌||◌, not, and-eq-true_iff}
use mathlib.Core.List.{List, [], ◌∷◌}
use borrow.Author.Tests.{eqb-true, eqb-false, eq-eqb, ne_eqb, le-leb, lt-leb, lt-ltb, le-ltb}
use lib.Dec.{leb, ltb, eqb}
use lib.ListN.{length, get_or, take}
use lib.Seq.{take_all}
use Rattle.format.specs.Lists.{is_filled}
use Rattle.format.specs.Bytes.{Bytes, text, pick, all, among}
use Rattle.format.specs.Records.{Record}
use Rattle.format.specs.Sets.{values_of}
use Rattle.format.specs.Numbers.{Bounds}
use Rattle.format.specs.Rules.{mandatory, allowed, unique, key}
use Rattle.format.specs.Questions.{first_no, each_name, none_prohibited, all_allowed, occurrences}
use Rattle.format.proofs.Lines.{all_append}
use Rattle.format.proofs.Judging.{record_rows}
use Rattle.values.proofs.Tests.{by_bool, dec-lt}
use Rattle.terms.specs.Sets.{in_set}
use Rattle.terms.proofs.Sets.{in-none}
use Rattle.dictionary.proofs.Sets.{no_place}
use Rattle.rules.specs.Tallies.{has_all, tally_no, Tallied}
use Rattle.rules.specs.declared.tallies.Tally.{Tally}
use Rattle.rules.proofs.Sets.{all_tested}

-- the number, test by test
pub number_by : (t : Tally) (limited keyed : Bool) (n : ℕ) {prohibited other present keyless single repeated : Bool}
    → t.prohibited ≡ prohibited → (limited && t.other) ≡ other → has_all n t.present ≡ present → (keyed && eqb t.keys 0) ≡ keyless → eqb t.twice 0 ≡ single
    → (keyed && ltb 1 t.keys) ≡ repeated
    → tally_no t limited keyed n ≡ pick prohibited 8 (pick other 9 (pick present (pick keyless 10 (pick single (pick repeated 11 0) 11)) 10))
unfolding tally_no
number_by t limited keyed n p o h z w r = (λ i. pick (p i) 8 (pick (o i) 9 (pick (h i) (pick (z i) 10 (pick (w i) (pick (r i) 11 0) 11)) 10)))

-- a test of words, place by place
place_of : (p : Bytes → Bool) (ws : List Bytes) → all p ws ≡ true → (k : ℕ) → k < length ws → p (get_or ws k []) ≡ true
place_of p [] e k h = absurd (omega arith)
place_of p (w ∷ ws) e zero h = ((and-eq-true_iff (p w) (all p ws)).0 e).0
place_of p (w ∷ ws) e (suc k) h = place_of p ws ((and-eq-true_iff (p w) (all p ws)).0 e).1 k (omega arith)

each-place : (p : Bytes → Bool) (ws : List Bytes) → ((k : ℕ) → k < length ws → p (get_or ws k []) ≡ true) → all p ws ≡ true
each-place p [] f = refl
each-place p (w ∷ ws) f = (and-eq-true_iff (p w) (all p ws)).1 (f 0 (omega arith), each-place p ws (λ k h. f (suc k) (omega arith)))

not-twice : (n : ℕ) → leb 2 n ≡ not (leb n 1)
not-twice n = dec-lt 1 n (λ h. le-leb 2 n h ∙ sym (ap not (lt-leb n 1 h))) (λ h. lt-leb 2 n (omega arith) ∙ sym (ap not (le-leb n 1 h)))

module _ (rules r : Record) (t : Tally) (h : Tallied rules r t) where
  abbrev present : Bytes → Bool
  present n = leb 1 (occurrences n r)

  abbrev single : Bytes → Bool
  single n = leb (occurrences n r) 1

  -- the mandatory words
  all-mandatory : has_all (length (mandatory rules)) t.present ≡ all present (mandatory rules)
  all-mandatory =
      let ws : List Bytes = mandatory rules in
      all_tested present ws t.present (length ws) (omega arith) (λ k g. h.present-is k ∙ ap (λ (b : Bool). b && present (get_or ws k [])) (lt-ltb k (length ws) g))
      ∙ ap (all present) (take_all (length ws) ws (omega arith))

  -- the unique words
  twice-at : (k : ℕ) → in_set k t.twice ≡ (ltb k (length (unique rules)) && not (single (get_or (unique rules) k [])))
  twice-at k = h.twice-is k ∙ ap (λ (b : Bool). ltb k (length (unique rules)) && b) (not-twice (occurrences (get_or (unique rules) k []) r))

  single-then : t.twice ≡ 0 → all single (unique rules) ≡ true
  single-then e =
      each-place single (unique rules)
      (λ k g.
      let ws : List Bytes = unique rules in
      flip (single (get_or ws k [])) (sym (twice-at k ∙ ap (λ (b : Bool). b && not (single (get_or ws k []))) (lt-ltb k (length ws) g)) ∙ ap (in_set k) e ∙ in-none k))
    where
      flip : (b : Bool) → not b ≡ false → b ≡ true
      flip true q = refl
      flip false q = sym q

  then-single : all single (unique rules) ≡ true → t.twice ≡ 0
  then-single e =
      no_place t.twice
      (λ k.
      let ws : List Bytes = unique rules in
      dec-lt k (length ws) (λ g. twice-at k ∙ ap₂ ◌&&◌ (lt-ltb k (length ws) g) (ap not (place_of single ws e k g)))
      (λ g. twice-at k ∙ ap (λ (b : Bool). b && not (single (get_or ws k []))) (le-ltb k (length ws) g)))

  all-unique : eqb t.twice 0 ≡ all single (unique rules)
  all-unique =
      by_bool (eqb t.twice 0) (λ e. e ∙ sym (single-then (eqb-true t.twice 0 e)))
      (λ e. e ∙ sym (off (all single (unique rules)) (λ q. eqb-false t.twice 0 e (then-single q))))
    where
      off : (b : Bool) → (b ≡ true → ⊥) → b ≡ false
      off true q = absurd (q refl)
      off false q = refl

  -- the key
  keys-absent : (keyed : Bool) → keyed ≡ is_filled (key rules) → length (key rules) ≤ 1 → (keyed && eqb t.keys 0) ≡ not (all present (key rules))
  keys-absent keyed e l = ap (λ (b : Bool). b && eqb t.keys 0) e ∙ go (key rules) refl l
    where
      go : (ks : List Bytes) → key rules ≡ ks → length ks ≤ 1 → (is_filled ks && eqb t.keys 0) ≡ not (all present ks)
      go [] q g = refl
      go (w ∷ []) q g =
          let n : ℕ = occurrences w r in
          let k : t.keys ≡ min 2 n = h.keys-is w q in
          dec-lt 0 n (λ p. ne_eqb t.keys 0 (λ z. omega arith) ∙ sym (ap (λ (b : Bool). not (b && true)) (le-leb 1 n p)))
          (λ p. eq-eqb t.keys 0 (omega arith) ∙ sym (ap (λ (b : Bool). not (b && true)) (lt-leb 1 n (omega arith))))
      go (w ∷ v ∷ ks) q g = absurd (omega arith)

  keys-twice : (keyed : Bool) → keyed ≡ is_filled (key rules) → length (key rules) ≤ 1 → (keyed && ltb 1 t.keys) ≡ not (all single (key rules))
  keys-twice keyed e l = ap (λ (b : Bool). b && ltb 1 t.keys) e ∙ go (key rules) refl l
    where
      go : (ks : List Bytes) → key rules ≡ ks → length ks ≤ 1 → (is_filled ks && ltb 1 t.keys) ≡ not (all single ks)
      go [] q g = refl
      go (w ∷ []) q g =
          let n : ℕ = occurrences w r in
          let k : t.keys ≡ min 2 n = h.keys-is w q in
          dec-lt 1 n (λ p. lt-ltb 1 t.keys (omega arith) ∙ sym (ap (λ (b : Bool). not (b && true)) (lt-leb n 1 p)))
          (λ p. le-ltb 1 t.keys (omega arith) ∙ sym (ap (λ (b : Bool). not (b && true)) (le-leb n 1 p)))
      go (w ∷ v ∷ ks) q g = absurd (omega arith)

  -- the questions, each by what was found
  rows-by : (a b c d e g : Bool) → pick {A = ℕ} (not a) 8 (pick (not b) 9 (pick c (pick (not d) 10 (pick e (pick (not g) 11 0) 11)) 10)) ≡ pick a (pick b (pick (c && d) (pick (e && g) 0 11) 10) 9) 8
  rows-by false b c d e g = refl
  rows-by true false c d e g = refl
  rows-by true true false d e g = refl
  rows-by true true true false e g = refl
  rows-by true true true true false g = refl
  rows-by true true true true true false = refl
  rows-by true true true true true true = refl

  limited-by : (z o : Bool) → (not z && not o) ≡ not (z || o)
  limited-by true o = refl
  limited-by false o = refl

  pub tally-no : (b : Bounds) (limited keyed : Bool) (n : ℕ) → limited ≡ not (eqb (length (values_of (text "%allowed") rules)) 0) → keyed ≡ is_filled (key rules) → n ≡ length (mandatory rules) → length (key rules) ≤ 1
      → tally_no t limited keyed n ≡ first_no (take 4 (record_rows b rules)) r
  tally-no b limited keyed n lim ky m few =
      let none : Bool = eqb (length (values_of (text "%allowed") rules)) 0 in
      let only : Bool = each_name (λ (x : Bytes). among x (allowed rules)) r in
      number_by t limited keyed n h.prohibited-is ((λ i. lim i && h.other-is i) ∙ limited-by none only) (ap (λ (j : ℕ). has_all j t.present) m ∙ all-mandatory) (keys-absent keyed ky few) all-unique
      (keys-twice keyed ky few)
      ∙ rows-by (none_prohibited rules r) (all_allowed rules r) (all present (mandatory rules)) (all present (key rules)) (all single (unique rules)) (all single (key rules))
      ∙ (λ i. pick (none_prohibited rules r) (pick (all_allowed rules r) (pick (sym (all_append present (mandatory rules) (key rules)) i) (pick (sym (all_append single (unique rules) (key rules)) i) 0 11) 10) 9) 8)
