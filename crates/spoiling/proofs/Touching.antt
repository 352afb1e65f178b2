-- Of sets that pass, an edit is asked for its set alone: the touched records, the fresh values of the key and of singular names, the count.
use Prim.Native.Nat.{ℕ, zero, suc, ◌≤◌, ◌<◌}
use native.Mathlib.Omega.{arith}
use mathlib.Core.Path.{◌≡◌, refl, sym, ap, ◌∙◌}
use mathlib.Core.Bool.{Bool, true, false, ◌&&◌, and-true, and-eq-true_iff}
use mathlib.Core.List.{List, [], ◌∷◌, ◌++◌, map, append-nil}
use mathlib.Core.Option.{Option, none, some}
use lib.Dec.{leb}
use lib.ListN.{length, get_or, length-append}
use borrow.Author.Tests.{leb-true}
use Rattle.format.specs.Bytes.{Bytes, pick, all}
use Rattle.format.specs.Lists.{is_filled, filter, flat, always, nth}
use Rattle.format.specs.Records.{Record}
use Rattle.format.specs.Sets.{values_of, RecSet}
use Rattle.format.specs.Limits.{descriptors}
use Rattle.format.specs.Numbers.{Bounds}
use Rattle.format.specs.Rules.{key, singular, unique, distinct}
use Rattle.format.specs.Questions.{first_no, fits_record, fits_rules, fits_limits, occurrences, values_in, keys_of, singular_met, limit_rows, rule_rows}
use Rattle.format.specs.Written.{new_field}
use Rattle.format.specs.Numbering.{or_else}
use Rattle.format.specs.Edits.{Edit, in_record, in_members, in_set}
use Rattle.format.specs.Plain.{set_at}
use Rattle.format.proofs.Elements.{Each, each-parts, each-imp, all-each}
use Rattle.format.proofs.Lines.{all_append}
use Rattle.format.proofs.Questions.{first-yes}
use Rattle.format.proofs.Least.{leasts}
use Rattle.format.proofs.Judging.{record_rows, record_no, set_no, rules-no}
use Rattle.spoiling.specs.Effects.{kth_of, touched_by, fresh_of, fresh_by, kept_by, are_apart, keys_stay_apart, singular_stay_apart, touched_no}
use Rattle.spoiling.proofs.Kth.{kth-element, least-none, leasts-none, leasts-after, leasts-replaced, all-replaced}
use Rattle.spoiling.proofs.Bringing.{act-joins, distinct-after}
use Rattle.spoiling.proofs.Passing.{AllPass, SetPasses, number-passes, set_fits, with_rules, PassingParts, parts-of-passing}

-- 8 to 14 and 30 of one set
pub set-number-alone : (b : Bounds) (s : RecSet) → first_no (rule_rows b) (s ∷ []) ≡ set_no b s
set-number-alone b s = rules-no b (s ∷ []) ∙ least-none (set_no b s)

-- a test of all records, and their least number, by the touched ones

pub all-touched : (p : Record → Bool) (e : Edit) (ms : List Record) → all p ms ≡ true → all p (in_members e ms) ≡ all p (touched_by e ms)
all-touched p (Edit.insert new) ms h = all_append p ms (map new_field new ∷ []) ∙ ap (λ (t : Bool). t && all p (map new_field new ∷ [])) h
all-touched p (Edit.on j a) ms h = all-replaced always (λ (r : Record). filter is_filled (in_record a r ∷ [])) p ms j h

-- Of 8 to 12 only the touched records are asked.
pub leasts-touched : (f : Record → ℕ) (e : Edit) (ms : List Record) → leasts (map f ms) ≡ 0 → leasts (map f (in_members e ms)) ≡ leasts (map f (touched_by e ms))
leasts-touched f (Edit.insert new) ms h = leasts-after f ms (map new_field new ∷ []) h
leasts-touched f (Edit.on j a) ms h = leasts-replaced always (λ (r : Record). filter is_filled (in_record a r ∷ [])) f ms j h

-- the set of a place

pub each_of : {A : Type 0} (P : A → Type 0) (d : A) (xs : List A) (i : ℕ) → i < length xs → Each P xs → P (get_or xs i d)
each_of P d [] i l h = absurd (omega arith)
each_of P d (x ∷ xs) zero l h = h.0
each_of P d (x ∷ xs) (suc i) l h = each_of P d xs i (omega arith) h.1

rules-stay : (e : Edit) (ss : List RecSet) (i : ℕ) → length (with_rules (nth i (in_set e) ss)) ≡ length (with_rules ss)
rules-stay e [] i = refl
rules-stay e (s ∷ ss) zero = go (is_filled s.rules)
  where
    go : (t : Bool) → length (pick t (in_set e s ∷ with_rules ss) (with_rules ss)) ≡ length (pick t (s ∷ with_rules ss) (with_rules ss))
    go true = refl
    go false = refl
rules-stay e (s ∷ ss) (suc i) = go (is_filled s.rules) (rules-stay e ss i)
  where
    go : (t : Bool) → length (with_rules (nth i (in_set e) ss)) ≡ length (with_rules ss) → length (pick t (s ∷ with_rules (nth i (in_set e) ss)) (with_rules (nth i (in_set e) ss))) ≡ length (pick t (s ∷ with_rules ss) (with_rules ss))
    go true h = ap suc h
    go false h = h

-- question 4 of the edited set, by the touched records
touched-fit : (e : Edit) (s : RecSet) → set_fits s ≡ true → set_fits (in_set e s) ≡ all fits_record (touched_by e s.members)
touched-fit e s h =
    let k = (and-eq-true_iff (fits_record s.rules && all fits_record s.members) (fits_rules s.rules)).0 h in
    let l = (and-eq-true_iff (fits_record s.rules) (all fits_record s.members)).0 k.0 in
    let m = all-touched fits_record e s.members l.1 in
    (λ i. l.0 i && m i && k.1 i) ∙ and-true (all fits_record (touched_by e s.members))

module _ (b : Bounds) (e : Edit) (i : ℕ) (ss : List RecSet) (p : AllPass b ss) (l : i < length ss) where
  abbrev s : RecSet
  s = set_at i ss

  abbrev none-set : RecSet
  none-set = record { name = []; rules = []; members = [] }

  parts : PassingParts b ss
  parts = parts-of-passing b ss p

  there : kth_of always i ss ≡ some s
  there = kth-element none-set ss i l

  limits-after : fits_limits (nth i (in_set e) ss) ≡ all fits_record (touched_by e s.members)
  limits-after =
      let put : RecSet → List RecSet = λ (x : RecSet). in_set e x ∷ [] in
      let sets : all set_fits (nth i (in_set e) ss) ≡ set_fits (in_set e s) = all-replaced always put set_fits ss i parts.fits ∙ ap (λ (x : Option RecSet). all set_fits (or_else [] put x)) there ∙ and-true (set_fits (in_set e s)) in
      let few : leb (length (with_rules (nth i (in_set e) ss))) descriptors ≡ true = ap (λ (n : ℕ). leb n descriptors) (rules-stay e ss i) ∙ parts.few in
      let own : set_fits s ≡ true = each_of (λ (x : RecSet). set_fits x ≡ true) none-set ss i l (all-each set_fits ss parts.fits) in
      (λ z. sets z && few z) ∙ and-true (set_fits (in_set e s)) ∙ touched-fit e s own

  numbers_after : first_no (rule_rows b) (nth i (in_set e) ss) ≡ set_no b (in_set e s)
  numbers_after =
      let put : RecSet → List RecSet = λ (x : RecSet). in_set e x ∷ [] in
      rules-no b (nth i (in_set e) ss) ∙ leasts-replaced always put (set_no b) ss i parts.numbers ∙ ap (λ (x : Option RecSet). leasts (map (set_no b) (or_else [] put x))) there ∙ least-none (set_no b (in_set e s))

  -- the set passed before
  pub edited-passed : SetPasses b s
  edited-passed = number-passes b s (each_of (λ (x : RecSet). set_no b x ≡ 0) none-set ss i l (leasts-none (set_no b) ss parts.numbers))

  -- The number is 4 where a touched record breaks a limit, else that of the edited set alone.
  pub only-edited-set : first_no (limit_rows ++ rule_rows b) (nth i (in_set e) ss) ≡ pick (all fits_record (touched_by e s.members)) (set_no b (in_set e s)) 4
  only-edited-set = (λ z. pick (limits-after z) (numbers_after z) 4)

-- 13: question 11 lets a touched record have its key once at most, so at most one key is fresh

few-if-filled : (n : Bytes) (r : Record) → Each (λ (x : Record). occurrences n x ≤ 1) (filter is_filled (r ∷ [])) → occurrences n r ≤ 1
few-if-filled n [] h = omega arith
few-if-filled n (f ∷ r) h = h.0

few-fresh : (n : Bytes) (e : Edit) (ms : List Record) → Each (λ (r : Record). occurrences n r ≤ 1) (touched_by e ms) → length (values_of n (fresh_by e ms)) ≤ 1
few-fresh n (Edit.insert new) ms h = h.0
few-fresh n (Edit.on j a) ms h = go (kth_of always j ms) h
  where
    go : (x : Option Record) → Each (λ (r : Record). occurrences n r ≤ 1) (or_else [] (λ (r : Record). filter is_filled (in_record a r ∷ [])) x) → length (values_of n (or_else [] (fresh_of a) x)) ≤ 1
    go none k = omega arith
    go (some r) k =
        let put = act-joins n a r in
        let vs : List Bytes = values_of n (fresh_of a r) in
        omega (arith, few-if-filled n (in_record a r) k, ap length put.makes, length-append put.front (vs ++ put.back), length-append vs put.back)

few-distinct : (vs : List Bytes) → length vs ≤ 1 → distinct vs ≡ true
few-distinct [] h = refl
few-distinct (v ∷ []) h = refl
few-distinct (v ∷ w ∷ vs) h = absurd (omega arith)

one-key-after : (n : Bytes) (e : Edit) (ms : List Record) → Each (λ (r : Record). occurrences n r ≤ 1) (touched_by e ms) → distinct (values_in n ms) ≡ true → distinct (values_in n (in_members e ms)) ≡ are_apart (values_of n (fresh_by e ms)) (values_in n (kept_by e ms))
one-key-after n e ms h d =
    distinct-after n e ms d ∙ ap (λ (t : Bool). t && are_apart (values_of n (fresh_by e ms)) (values_in n (kept_by e ms))) (few-distinct (values_of n (fresh_by e ms)) (few-fresh n e ms h))

keys-after : (ns : List Bytes) (e : Edit) (ms : List Record) → length ns ≤ 1 → Each (λ (r : Record). Each (λ (n : Bytes). occurrences n r ≤ 1) ns) (touched_by e ms) → distinct (flat (map (λ (n : Bytes). values_in n ms) ns)) ≡ true
    → distinct (flat (map (λ (n : Bytes). values_in n (in_members e ms)) ns)) ≡ are_apart (flat (map (λ (n : Bytes). values_of n (fresh_by e ms)) ns)) (flat (map (λ (n : Bytes). values_in n (kept_by e ms)) ns))
keys-after [] e ms l h d = refl
keys-after (n ∷ []) e ms l h d =
    let once = each-imp (λ (r : Record). Each (λ (m : Bytes). occurrences m r ≤ 1) (n ∷ [])) (λ (r : Record). occurrences n r ≤ 1) (λ r k. k.0) (touched_by e ms) h in
    rw (append-nil (values_in n (in_members e ms)), append-nil (values_of n (fresh_by e ms)), append-nil (values_in n (kept_by e ms))) (one-key-after n e ms once (ap distinct (sym (append-nil (values_in n ms))) ∙ d))
keys-after (n ∷ m ∷ ns) e ms l h d = absurd (omega arith)

key-once : (b : Bounds) (rules r : Record) → record_no b rules r ≡ 0 → Each (λ (n : Bytes). occurrences n r ≤ 1) (key rules)
unfolding record_no
key-once b rules r h =
    let few : Bytes → Bool = λ (n : Bytes). leb (occurrences n r) 1 in
    let all-few = all-each few (unique rules ++ key rules) (first-yes (record_rows b rules) r refl h).1.1.1.0 in
    each-imp (λ (n : Bytes). few n ≡ true) (λ (n : Bytes). occurrences n r ≤ 1) (λ n k. leb-true (occurrences n r) 1 k) (key rules) (each-parts (λ (n : Bytes). few n ≡ true) (unique rules) (key rules) all-few).1

-- Where the touched records pass 8 to 12, the keys are distinct exactly if no fresh key is among the kept ones.
pub keys-distinct-after : (b : Bounds) (e : Edit) (s : RecSet) → length (key s.rules) ≤ 1 → distinct (keys_of s) ≡ true → touched_no b e s ≡ 0 → distinct (keys_of (in_set e s)) ≡ keys_stay_apart e s
keys-distinct-after b e s l d h =
    let no : Record → ℕ = record_no b s.rules in
    let ts : List Record = touched_by e s.members in
    keys-after (key s.rules) e s.members l (each-imp (λ (r : Record). no r ≡ 0) (λ (r : Record). Each (λ (n : Bytes). occurrences n r ≤ 1) (key s.rules)) (key-once b s.rules) ts (leasts-none no ts h)) d

-- question 30

singular-each : (ns : List Bytes) (e : Edit) (ms : List Record) → all (λ (n : Bytes). distinct (values_in n ms)) ns ≡ true
    → all (λ (n : Bytes). distinct (values_in n (in_members e ms))) ns ≡ all (λ (n : Bytes). distinct (values_of n (fresh_by e ms)) && are_apart (values_of n (fresh_by e ms)) (values_in n (kept_by e ms))) ns
singular-each [] e ms h = refl
singular-each (n ∷ ns) e ms h =
    let k = (and-eq-true_iff (distinct (values_in n ms)) (all (λ (m : Bytes). distinct (values_in m ms)) ns)).0 h in
    (λ i. distinct-after n e ms k.0 i && singular-each ns e ms k.1 i)

-- Singular names are met exactly if the fresh values of each are distinct and none is among the kept ones.
pub singular-after : (e : Edit) (s : RecSet) → singular_met s ≡ true → singular_met (in_set e s) ≡ singular_stay_apart e s
singular-after e s h = singular-each (singular s.rules) e s.members h
