-- A twin is found by its key: a set that passes has at most one record with a key's value, and no other can be the twin.
use Prim.Native.Nat.{ℕ, ◌≤◌}
use native.Mathlib.Omega.{arith}
use mathlib.Core.Path.{◌≡◌, refl, sym, ap, ◌∙◌}
use mathlib.Core.Bool.{Bool, true, false, ◌&&◌, ◌||◌, not, or-false, and-eq-true_iff, false≢true}
use mathlib.Core.List.{List, [], ◌∷◌, ◌++◌, map, append-nil}
use mathlib.Core.Option.{some}
use lib.Dec.{leb}
use lib.ListN.{length, take}
use borrow.Author.Tests.{leb-true, eq-eqb, not-true}
use Rattle.format.specs.Bytes.{Bytes, pick, all, any, same, among}
use Rattle.format.specs.Lists.{is_filled, flat, turn}
use Rattle.format.specs.Pieces.{read_of}
use Rattle.format.specs.Records.{Record}
use Rattle.format.specs.Sets.{values_of, RecSet}
use Rattle.format.specs.Numbers.{Bounds, int_bounds}
use Rattle.format.specs.Rules.{mandatory, unique, key, is_well_formed, distinct}
use Rattle.format.specs.Questions.{occurrences, values_in, name_of, verdict}
use Rattle.format.specs.Written.{Pair, new_field}
use Rattle.format.specs.Numbering.{or_else}
use Rattle.format.specs.Calls.{sets_in}
use Rattle.format.proofs.Elements.{Each, each-imp, each_both, all-each, none_any}
use Rattle.format.proofs.Listing.{same_true}
use Rattle.format.proofs.Questions.{first-yes}
use Rattle.format.proofs.Passing.{SetsPass, verdict-read, verdict-passes}
use Rattle.format.proofs.Judging.{record_rows, record_no, set_no}
use Rattle.spoiling.specs.Effects.{kth_of}
use Rattle.spoiling.proofs.Distinct.{Within, within-self, within-nothing, within_both, within-any, within-distinct}
use Rattle.spoiling.proofs.Kth.{leasts-none}
use Rattle.spoiling.proofs.Passing.{sets-passing, SetPasses, number-passes, parts-of-passing}
use Rattle.spoiling.proofs.Keys.{one-key-name}
use Rattle.merging.specs.Merging.{SpareRecord, is_same_pair, is_twin, has_twin, is_skipped}
use Rattle.merging.specs.Appending.{has_value, twin_with, twin_by_key, is_skipped_by_key}
use Rattle.merging.proofs.Named.{named-alike}

pub same_self : (s : Bytes) → same s s ≡ true
same_self [] = refl
same_self (x ∷ s) = (λ i. eq-eqb x x refl i && same_self s i)

-- twins have the same values of each name
pub twin-values : (n : Bytes) (new : List Pair) (r : Record) → is_twin new r ≡ true → values_of n (map new_field new) ≡ values_of n r
twin-values n [] [] e = refl
twin-values n [] (f ∷ r) e = absurd (false≢true e)
twin-values n (p ∷ new) [] e = absurd (false≢true e)
twin-values n (p ∷ new) (f ∷ r) e =
    let h = (and-eq-true_iff (is_same_pair p f) (is_twin new r)).0 e in
    let k = (and-eq-true_iff (same p.name f.name) (same p.value f.value)).0 h.0 in
    let rest = twin-values n new r h.1 in
    (λ i. pick (same n (same_true p.name f.name k.0 i)) (same_true p.value f.value k.1 i ∷ rest i) (rest i))

-- a value that is among the first of distinct values is not among the others

within-back : (xs ys : List Bytes) → Within ys (xs ++ ys)
within-back xs ys = within_both ys ys (within-nothing xs) (within-self ys)

not_behind : (v : Bytes) (xs ys : List Bytes) → distinct (xs ++ ys) ≡ true → among v xs ≡ true → among v ys ≡ false
not_behind v [] ys d e = absurd (false≢true e)
not_behind v (x ∷ xs) ys d e = go (same v x) refl e (not_behind v xs ys)
  where
    go : (t : Bool) → same v x ≡ t → (t || among v xs) ≡ true → (distinct (xs ++ ys) ≡ true → among v xs ≡ true → among v ys ≡ false) → among v ys ≡ false
    go true q h ih =
        let k = (and-eq-true_iff (not (among x (xs ++ ys))) (distinct (xs ++ ys))).0 d in
        ap (λ (w : Bytes). among w ys) (same_true v x q) ∙ within-any (same x) (within-back xs ys) (not-true (among x (xs ++ ys)) k.0)
    go false q h ih = ih ((and-eq-true_iff (not (among x (xs ++ ys))) (distinct (xs ++ ys))).0 d).1 h

module _ (n : Bytes) (new : List Pair) where
  -- a record without a value of the key, or with several, has no twin among records with one
  no-twin : (length (values_of n (map new_field new)) ≡ 1 → ⊥) → (ms : List Record) → Each (λ (r : Record). occurrences n r ≡ 1) ms → any (is_twin new) ms ≡ false
  no-twin other ms h = none_any (is_twin new) ms (each-imp (λ (r : Record). occurrences n r ≡ 1) (λ (r : Record). is_twin new r ≡ false) (λ r o. go r o (is_twin new r) refl) ms h)
    where
      go : (r : Record) → occurrences n r ≡ 1 → (t : Bool) → is_twin new r ≡ t → t ≡ false
      go r o true e = absurd (other (ap length (twin-values n new r e) ∙ o))
      go r o false e = refl

  module _ (v : Bytes) (own : values_of n (map new_field new) ≡ v ∷ []) where
    -- a twin has the key's value
    twin-keyed : (r : Record) → is_twin new r ≡ true → has_value n v r ≡ true
    twin-keyed r e = ap (among v) (sym (twin-values n new r e) ∙ own) ∙ ap (λ (t : Bool). t || false) (same_self v)

    not-keyed : (r : Record) → has_value n v r ≡ false → is_twin new r ≡ false
    not-keyed r e = go (is_twin new r) refl
      where
        go : (t : Bool) → is_twin new r ≡ t → t ≡ false
        go true q = absurd (false≢true (sym e ∙ twin-keyed r q))
        go false q = refl

    none-keyed : (ms : List Record) → among v (values_in n ms) ≡ false → any (is_twin new) ms ≡ false
    none-keyed [] e = refl
    none-keyed (r ∷ ms) e =
        let here : among v (values_of n r) ≡ false = within-any (same v) (front_of (values_of n r) (values_in n ms)) e in
        let rest : among v (values_in n ms) ≡ false = within-any (same v) (within-back (values_of n r) (values_in n ms)) e in
        (λ i. not-keyed r here i || none-keyed ms rest i)
      where
        front_of : (xs ys : List Bytes) → Within xs (xs ++ ys)
        front_of [] ys = within-nothing ys
        front_of (x ∷ xs) ys = Within.keeps (front_of xs ys)

    twin-found : (ms : List Record) → distinct (values_in n ms) ≡ true → any (is_twin new) ms ≡ or_else false (is_twin new) (kth_of (has_value n v) 0 ms)
    twin-found [] d = refl
    twin-found (r ∷ ms) d = go (has_value n v r) refl (twin-found ms (within-distinct (within-back (values_of n r) (values_in n ms)) d))
      where
        go : (t : Bool) → has_value n v r ≡ t → any (is_twin new) ms ≡ or_else false (is_twin new) (kth_of (has_value n v) 0 ms)
            → (is_twin new r || any (is_twin new) ms) ≡ or_else false (is_twin new) (turn t 0 (some r) (λ (j : ℕ). kth_of (has_value n v) j ms))
        go true e ih = ap (λ (t : Bool). is_twin new r || t) (none-keyed ms (not_behind v (values_of n r) (values_in n ms) d e)) ∙ or-false (is_twin new r)
        go false e ih = ap (λ (t : Bool). t || any (is_twin new) ms) (not-keyed r e) ∙ ih

  -- of records with one value of the key each, all distinct
  pub twin-by-key : (ms : List Record) → Each (λ (r : Record). occurrences n r ≡ 1) ms → distinct (values_in n ms) ≡ true → any (is_twin new) ms ≡ twin_with n (values_of n (map new_field new)) new ms
  twin-by-key ms h d = go (values_of n (map new_field new)) refl
    where
      go : (vs : List Bytes) → values_of n (map new_field new) ≡ vs → any (is_twin new) ms ≡ twin_with n vs new ms
      go [] e = no-twin (λ q. let z = ap length e in absurd (omega arith)) ms h
      go (v ∷ []) e = twin-found v e ms d
      go (v ∷ w ∷ vs) e = no-twin (λ q. let z = ap length e in absurd (omega arith)) ms h

-- questions 10 and 11: a record that passes has one value of the key
record-key : (b : Bounds) (rules : Record) (n : Bytes) → key rules ≡ n ∷ [] → (r : Record) → record_no b rules r ≡ 0 → occurrences n r ≡ 1
unfolding record_no
record-key b rules n k r h =
    let y = first-yes (record_rows b rules) r refl h in
    let there : Bytes → Bool = λ (m : Bytes). leb 1 (occurrences m r) in
    let few : Bytes → Bool = λ (m : Bytes). leb (occurrences m r) 1 in
    let a : all there (key rules) ≡ true = sym (parts there (mandatory rules) (key rules) y.1.1.0) in
    let c : all few (key rules) ≡ true = sym (parts few (unique rules) (key rules) y.1.1.1.0) in
    let low = ((and-eq-true_iff (there n) true).0 (ap (all there) (sym k) ∙ a)).0 in
    let high = ((and-eq-true_iff (few n) true).0 (ap (all few) (sym k) ∙ c)).0 in
    omega (arith, leb-true 1 (occurrences n r) low, leb-true (occurrences n r) 1 high)
  where
    parts : (p : Bytes → Bool) (xs ys : List Bytes) → all p (xs ++ ys) ≡ true → true ≡ all p ys
    parts p [] ys e = sym e
    parts p (x ∷ xs) ys e = parts p xs ys ((and-eq-true_iff (p x) (all p (xs ++ ys))).0 e).1

-- In a set that passes a twin is found by its key,
pub set-by-key : (b : Bounds) (new : List Pair) (s : RecSet) → SetPasses b s → length (key s.rules) ≤ 1 → has_twin new s ≡ twin_by_key (key s.rules) new s.members
set-by-key b new s g l = go (key s.rules) refl
  where
    go : (ns : List Bytes) → key s.rules ≡ ns → (is_filled ns && any (is_twin new) s.members) ≡ twin_by_key ns new s.members
    go [] e = refl
    go (n ∷ []) e =
        let no : Record → ℕ = record_no b s.rules in
        let ms : List Record = s.members in
        let once = each-imp (λ (r : Record). no r ≡ 0) (λ (r : Record). occurrences n r ≡ 1) (record-key b s.rules n e) ms (leasts-none no ms g.records) in
        let apart : distinct (values_in n ms) ≡ true = ap distinct (sym (append-nil (values_in n ms))) ∙ ap (λ (ns : List Bytes). distinct (flat (map (λ (m : Bytes). values_in m ms) ns))) (sym e) ∙ g.keys in
        twin-by-key n new ms once apart
    go (n ∷ m ∷ ns) e = let z = ap length e in absurd (omega arith)

-- so of sets that pass the same records are skipped by key,
pub skipped-by-key : (x : SpareRecord) (ss : List RecSet) → SetsPass ss → is_skipped x ss ≡ is_skipped_by_key x ss
skipped-by-key x ss h =
    let goods = leasts-none (set_no int_bounds) ss (parts-of-passing int_bounds ss (sets-passing ss h)).numbers in
    let wells = all-each (λ (s : RecSet). is_well_formed int_bounds s.rules) ss ((and-eq-true_iff (all (λ (s : RecSet). is_well_formed int_bounds s.rules) ss) (distinct (map name_of ss))).0 h.1.1.0).0 in
    let alike : RecSet → Type 0 = λ (s : RecSet). has_twin x.pairs s ≡ twin_by_key (key s.rules) x.pairs s.members in
    named-alike (has_twin x.pairs) (λ (s : RecSet). twin_by_key (key s.rules) x.pairs s.members) x.set ss
    (each-imp (λ (s : RecSet). (set_no int_bounds s ≡ 0) × (is_well_formed int_bounds s.rules ≡ true)) alike (λ s k. set-by-key int_bounds x.pairs s (number-passes int_bounds s k.0) (one-key-name int_bounds s.rules k.1)) ss
    (each_both (λ (s : RecSet). set_no int_bounds s ≡ 0) (λ (s : RecSet). is_well_formed int_bounds s.rules ≡ true) ss goods wells))

-- and of every file that passes.
pub file-skipped-by-key : (x : SpareRecord) (buffer : Bytes) (used : ℕ) → verdict buffer used ≡ 0 → is_skipped x (sets_in buffer used) ≡ is_skipped_by_key x (sets_in buffer used)
file-skipped-by-key x buffer used v = skipped-by-key x (sets_in buffer used) (verdict-passes buffer used (read_of (take used buffer)) v (verdict-read buffer used v)).sets
