-- Sets that pass, and pass with some records inserted, pass with each front part of these.
use Prim.Native.Nat.{ℕ, zero, suc, ◌≤◌}
use native.Mathlib.Omega.{arith}
use mathlib.Core.Path.{◌≡◌, refl, sym, ap, ◌∙◌, subst}
use mathlib.Core.Bool.{Bool, true, false, ◌&&◌, and-eq-true_iff}
use mathlib.Core.List.{List, [], ◌∷◌, ◌++◌, map, append-nil, append_assoc}
use lib.Dec.{leb}
use lib.ListN.{length, length-append}
use Rattle.format.specs.Bytes.{Bytes, text, pick, all}
use Rattle.format.specs.Lists.{is_filled, nth}
use Rattle.format.specs.Words.{words}
use Rattle.format.specs.Records.{Record}
use Rattle.format.specs.Sets.{values_of, RecSet}
use Rattle.format.specs.Limits.{descriptors}
use Rattle.format.specs.Numbers.{Bounds}
use Rattle.format.specs.Rules.{key, singular, size_rule, meets_size, distinct}
use Rattle.format.specs.Questions.{fits_record, fits_rules, values_in, size_met}
use Rattle.format.specs.Written.{new_field}
use Rattle.format.specs.Edits.{Edit, in_set}
use Rattle.format.proofs.Elements.{Each, each-parts, each-imp, each_both, all-each, each_all}
use Rattle.format.proofs.Lines.{all_append}
use Rattle.format.proofs.Judging.{record_no, set_no}
use Rattle.spoiling.specs.Inserts.{NewRecord, with_records}
use Rattle.spoiling.proofs.Distinct.{Within, within-front, within-distinct, record-values-joined, flat-fewer}
use Rattle.spoiling.proofs.Kth.{leasts-none, none-leasts}
use Rattle.spoiling.proofs.Sizes.{size-between}
use Rattle.spoiling.proofs.Passing.{AllPass, SetPasses, number-passes, passes-number, set_fits, with_rules, parts-of-passing, passing-of-parts}

-- a set with records behind its own
abbrev extended : RecSet → List Record → RecSet
extended s xs = record { name = s.name; rules = s.rules; members = s.members ++ xs }

-- A set that passes as it is and with all of some records passes with a front part of them: only the size needs both ends.
module _ (b : Bounds) (s : RecSet) (xs ys : List Record) (g : SetPasses b s) (h : SetPasses b (extended (extended s xs) ys)) where
  abbrev ms : List Record
  ms = s.members ++ xs

  front-values : (n : Bytes) → Within (values_in n ms) (values_in n (ms ++ ys))
  front-values n = rw (record-values-joined n ms ys) (within-front (values_in n ms) (values_in n ys))

  middle-size : size_met b (extended s xs) ≡ true
  middle-size =
      let vs : List Bytes = values_of (text "%size") s.rules in
      let met : List Record → Bytes → Bool = λ (rs : List Record) (v : Bytes). meets_size (size_rule b (words v)) (length rs) in
      let ends = each_both (λ (v : Bytes). met s.members v ≡ true) (λ (v : Bytes). met (ms ++ ys) v ≡ true) vs (all-each (met s.members) vs g.size) (all-each (met (ms ++ ys)) vs h.size) in
      let l : length s.members ≤ length ms = omega (arith, length-append s.members xs) in
      let n : length ms ≤ length (ms ++ ys) = omega (arith, length-append ms ys) in
      each_all (met ms) vs (each-imp (λ (v : Bytes). (met s.members v ≡ true) × (met (ms ++ ys) v ≡ true)) (λ (v : Bytes). met ms v ≡ true) (λ v k. size-between b (words v) (length s.members) (length ms) (length (ms ++ ys)) l n k.0 k.1) vs ends)

  middle-passes : SetPasses b (extended s xs)
  middle-passes =
      let no : Record → ℕ = record_no b s.rules in
      let ns : List Bytes = singular s.rules in
      let once : List Record → Bytes → Bool = λ (rs : List Record) (n : Bytes). distinct (values_in n rs) in
      record {
        records = none-leasts no ms (each-parts (λ (r : Record). no r ≡ 0) ms ys (leasts-none no (ms ++ ys) h.records)).0;
        keys = within-distinct (flat-fewer (λ (n : Bytes). values_in n ms) (λ (n : Bytes). values_in n (ms ++ ys)) front-values (key s.rules)) h.keys;
        size = middle-size;
        singular = each_all (once ms) ns (each-imp (λ (n : Bytes). once (ms ++ ys) n ≡ true) (λ (n : Bytes). once ms n ≡ true) (λ n d. within-distinct (front-values n) d) ns (all-each (once (ms ++ ys)) ns h.singular));
      }

-- question 4
front-limits : (s : RecSet) (ys : List Record) → set_fits (extended s ys) ≡ true → set_fits s ≡ true
front-limits s ys e =
    let k = (and-eq-true_iff (fits_record s.rules && all fits_record (s.members ++ ys)) (fits_rules s.rules)).0 e in
    let l = (and-eq-true_iff (fits_record s.rules) (all fits_record (s.members ++ ys))).0 k.0 in
    let m = (and-eq-true_iff (all fits_record s.members) (all fits_record ys)).0 (sym (all_append fits_record s.members ys) ∙ l.1) in
    (and-eq-true_iff (fits_record s.rules && all fits_record s.members) (fits_rules s.rules)).1 ((and-eq-true_iff (fits_record s.rules) (all fits_record s.members)).1 (l.0, m.0), k.1)

-- sets that differ by records behind their own

abbrev Extends : RecSet → RecSet → Type 0
Extends s t = (xs : List Record) × (t ≡ extended s xs)

abbrev AllExtend : List RecSet → List RecSet → Type 0
AllExtend [] [] = Unit {0}
AllExtend [] (t ∷ ts) = ⊥
AllExtend (s ∷ ss) [] = ⊥
AllExtend (s ∷ ss) (t ∷ ts) = Extends s t × AllExtend ss ts

extends-self : (s : RecSet) → Extends s s
extends-self s = ([], λ i. record { name = s.name; rules = s.rules; members = sym (append-nil s.members) i })

all-self : (ss : List RecSet) → AllExtend ss ss
all-self [] = tt
all-self (s ∷ ss) = (extends-self s, all-self ss)

extends-twice : (s t u : RecSet) → Extends s t → Extends t u → Extends s u
extends-twice s t u h k = (h.0 ++ k.0, k.1 ∙ ap (λ (x : RecSet). extended x k.0) h.1 ∙ (λ i. record { name = s.name; rules = s.rules; members = append_assoc s.members h.0 k.0 i }))

all-twice : (ss ts us : List RecSet) → AllExtend ss ts → AllExtend ts us → AllExtend ss us
all-twice [] [] [] h k = tt
all-twice [] [] (u ∷ us) h k = k
all-twice [] (t ∷ ts) us h k = absurd h
all-twice (s ∷ ss) [] us h k = absurd h
all-twice (s ∷ ss) (t ∷ ts) [] h k = k
all-twice (s ∷ ss) (t ∷ ts) (u ∷ us) h k = (extends-twice s t u h.0 k.0, all-twice ss ts us h.1 k.1)

record-extends : (x : NewRecord) (i : ℕ) (ss : List RecSet) → AllExtend ss (nth i (in_set (Edit.insert x.pairs)) ss)
record-extends x i [] = tt
record-extends x zero (s ∷ ss) = ((map new_field x.pairs ∷ [], refl), all-self ss)
record-extends x (suc i) (s ∷ ss) = (extends-self s, record-extends x i ss)

records-extend : (xs : List NewRecord) (ss : List RecSet) → AllExtend ss (with_records xs ss)
records-extend [] ss = all-self ss
records-extend (x ∷ xs) ss =
    let ts : List RecSet = nth x.place (in_set (Edit.insert x.pairs)) ss in
    all-twice ss ts (with_records xs ts) (record-extends x x.place ss) (records-extend xs ts)

records-joined : (xs ys : List NewRecord) (ss : List RecSet) → with_records (xs ++ ys) ss ≡ with_records ys (with_records xs ss)
records-joined [] ys ss = refl
records-joined (x ∷ xs) ys ss = records-joined xs ys (nth x.place (in_set (Edit.insert x.pairs)) ss)

-- sets in between

between-sets : (b : Bounds) (ss ts us : List RecSet) → AllExtend ss ts → AllExtend ts us → Each (λ (s : RecSet). set_no b s ≡ 0) ss → Each (λ (s : RecSet). set_no b s ≡ 0) us → Each (λ (s : RecSet). set_no b s ≡ 0) ts
between-sets b [] [] us h k p q = tt
between-sets b [] (t ∷ ts) us h k p q = absurd h
between-sets b (s ∷ ss) [] us h k p q = tt
between-sets b (s ∷ ss) (t ∷ ts) [] h k p q = absurd k
between-sets b (s ∷ ss) (t ∷ ts) (u ∷ us) h k p q =
    let xs : List Record = h.0.0 in
    let ys : List Record = k.0.0 in
    let last : SetPasses b (extended (extended s xs) ys) = subst (SetPasses b) (k.0.1 ∙ ap (λ (x : RecSet). extended x ys) h.0.1) (number-passes b u q.0) in
    (subst (λ (x : RecSet). set_no b x ≡ 0) (sym h.0.1) (passes-number b (extended s xs) (middle-passes b s xs ys (number-passes b s p.0) last)), between-sets b ss ts us h.1 k.1 p.1 q.1)

extended_fits : (ts us : List RecSet) → AllExtend ts us → all set_fits us ≡ true → all set_fits ts ≡ true
extended_fits [] us k e = refl
extended_fits (t ∷ ts) [] k e = absurd k
extended_fits (t ∷ ts) (u ∷ us) k e =
    let l = (and-eq-true_iff (set_fits u) (all set_fits us)).0 e in
    (and-eq-true_iff (set_fits t) (all set_fits ts)).1 (front-limits t k.0.0 (ap set_fits (sym k.0.1) ∙ l.0), extended_fits ts us k.1 l.1)

extended-rules : (ts us : List RecSet) → AllExtend ts us → length (with_rules us) ≡ length (with_rules ts)
extended-rules [] [] k = refl
extended-rules [] (u ∷ us) k = absurd k
extended-rules (t ∷ ts) [] k = absurd k
extended-rules (t ∷ ts) (u ∷ us) k = ap (λ (x : RecSet). length (pick (is_filled x.rules) (x ∷ with_rules us) (with_rules us))) k.0.1 ∙ go (is_filled t.rules) (extended-rules ts us k.1)
  where
    go : (c : Bool) → length (with_rules us) ≡ length (with_rules ts) → length (pick c (extended t k.0.0 ∷ with_rules us) (with_rules us)) ≡ length (pick c (t ∷ with_rules ts) (with_rules ts))
    go true e = ap suc e
    go false e = e

between-passes : (b : Bounds) (ss ts us : List RecSet) → AllExtend ss ts → AllExtend ts us → AllPass b ss → AllPass b us → AllPass b ts
between-passes b ss ts us h k p q =
    let first = parts-of-passing b ss p in
    let last = parts-of-passing b us q in
    passing-of-parts b ts (record {
      fits = extended_fits ts us k last.fits;
      few = ap (λ (n : ℕ). leb n descriptors) (sym (extended-rules ts us k)) ∙ last.few;
      numbers = none-leasts (set_no b) ts (between-sets b ss ts us h k (leasts-none (set_no b) ss first.numbers) (leasts-none (set_no b) us last.numbers));
    })

-- Passing falls at most once along inserts.
pub front-passes : (b : Bounds) (ss : List RecSet) (xs ys : List NewRecord) → AllPass b ss → AllPass b (with_records (xs ++ ys) ss) → AllPass b (with_records xs ss)
front-passes b ss xs ys p q =
    let ts : List RecSet = with_records xs ss in
    between-passes b ss ts (with_records ys ts) (records-extend xs ss) (records-extend ys ts) p (subst (AllPass b) (records-joined xs ys ss) q)
