-- The questions about sets as a walk over the file's records asks them.
use Prim.Native.Nat.{ℕ, suc}
use mathlib.Core.Path.{◌≡◌, refl, sym, ap, ◌∙◌, subst}
use mathlib.Core.Bool.{Bool, true, false, ◌&&◌, ◌||◌, not, and-eq-true_iff, and_assoc, or-false, false≢true}
use mathlib.Core.List.{List, [], ◌∷◌, map}
use mathlib.Core.Option.{some}
use lib.Dec.{leb, eqb}
use lib.ListN.{length}
use borrow.Author.Tests.{not-true}
use Rattle.format.specs.Lists.{is_filled, filter, front, behind}
use Rattle.format.specs.Bytes.{Bytes, text, pick, is_allowed, all, same, among}
use Rattle.format.specs.Lines.{is_ended}
use Rattle.format.specs.Words.{is_gap, not_gap, first_word, words, is_type_name}
use Rattle.format.specs.Pieces.{Piece, pieces}
use Rattle.format.specs.Records.{Field, Record}
use Rattle.format.specs.Sets.{values_of, rec_values, RecSet}
use Rattle.format.specs.Limits.{descriptors}
use Rattle.format.specs.Numbers.{Bounds, int_bounds}
use Rattle.format.specs.Rules.{one, is_shaped, is_well_formed, is_typed_well, distinct}
use Rattle.format.specs.Questions.{first_no, fits_record, fits_rules, fits_limits, has_rec_once, describes_once, name_of, describes_well, types_well, rule_rows}
use Rattle.format.proofs.Parts.{words-gap}
use Rattle.format.proofs.Elements.{Each, all-each, all_both, all_yes, all_alike, Filled}
use Rattle.format.proofs.Records.{records, default, enters, sets, sets-records}
use Rattle.format.proofs.Least.{least, leasts}
use Rattle.format.proofs.Judging.{set_questions, read_no, text_no, whole_rows, record_no, set_no, rules-no}
use Rattle.format.proofs.Listing.{same_true}

-- a record with `%rec` is a descriptor; its name is the first word of the first such value
abbrev pub is_head : Record → Bool
is_head r = is_filled (rec_values r)

abbrev pub name_in : List Bytes → Bytes
name_in [] = []
name_in (v ∷ vs) = first_word v

abbrev pub head_name : Record → Bytes
head_name r = name_in (rec_values r)

abbrev pub heads : List Record → List Record
heads rs = filter is_head rs

abbrev pub head_names : List Record → List Bytes
head_names rs = map head_name (heads rs)

-- the records before the first descriptor
abbrev pub before : List Record → List Record
before [] = []
before (r ∷ rs) = pick (is_head r) [] (r ∷ before rs)

-- a descriptor's set has the records before the next one
abbrev pub head_set : Record → List Record → RecSet
head_set r rs = record { name = head_name r; rules = r; members = before rs }

abbrev pub head_sets : List Record → List RecSet
head_sets [] = []
head_sets (r ∷ rs) = pick (is_head r) (head_set r rs ∷ head_sets rs) (head_sets rs)

enters-head : (vs : List Bytes) (r : Record) (ms : List Record) (ss : List RecSet) → enters vs r (default ms ∷ ss) ≡ default (pick (is_filled vs) [] (r ∷ ms)) ∷ pick (is_filled vs) (record { name = name_in vs; rules = r; members = ms } ∷ ss) ss
enters-head [] r ms ss = refl
enters-head (v ∷ vs) r ms ss = refl

-- the sets: the default one, and one for each descriptor
pub sets-heads : (rs : List Record) → sets rs ≡ default (before rs) ∷ head_sets rs
sets-heads [] = refl
sets-heads (r ∷ rs) = ap (enters (rec_values r) r) (sets-heads rs) ∙ enters-head (rec_values r) r (before rs) (head_sets rs)

-- a test of the rules of each set, of the members of each, and of both

rules-by : (f : RecSet → Bool) (b : Bool) (s : RecSet) (ss : List RecSet) → all f (pick b (s ∷ ss) ss) ≡ ((not b || f s) && all f ss)
rules-by f true s ss = refl
rules-by f false s ss = refl

rules-heads : (p : Record → Bool) (rs : List Record) → all (λ (s : RecSet). p s.rules) (head_sets rs) ≡ all (λ (r : Record). not (is_head r) || p r) rs
rules-heads p [] = refl
rules-heads p (r ∷ rs) = rules-by (λ (s : RecSet). p s.rules) (is_head r) (head_set r rs) (head_sets rs) ∙ ap (λ (b : Bool). (not (is_head r) || p r) && b) (rules-heads p rs)

pub rules-all : (p : Record → Bool) → p [] ≡ true → (rs : List Record) → all (λ (s : RecSet). p s.rules) (sets rs) ≡ all (λ (r : Record). not (is_head r) || p r) rs
rules-all p e rs = ap (all (λ (s : RecSet). p s.rules)) (sets-heads rs) ∙ (λ i. e i && rules-heads p rs i)

members-by : (q : Record → Bool) (b : Bool) (r : Record) (ms : List Record) (s : RecSet) (ss : List RecSet) → s.members ≡ ms → (all q (pick b [] (r ∷ ms)) && all (λ (t : RecSet). all q t.members) (pick b (s ∷ ss) ss)) ≡ ((b || q r) && (all q ms && all (λ (t : RecSet). all q t.members) ss))
members-by q true r ms s ss e = ap (λ (x : List Record). all q x && all (λ (t : RecSet). all q t.members) ss) e
members-by q false r ms s ss e = and_assoc (q r) (all q ms) (all (λ (t : RecSet). all q t.members) ss)

members-heads : (q : Record → Bool) (rs : List Record) → (all q (before rs) && all (λ (s : RecSet). all q s.members) (head_sets rs)) ≡ all (λ (r : Record). is_head r || q r) rs
members-heads q [] = refl
members-heads q (r ∷ rs) = members-by q (is_head r) r (before rs) (head_set r rs) (head_sets rs) refl ∙ ap (λ (b : Bool). (is_head r || q r) && b) (members-heads q rs)

pub members-all : (q : Record → Bool) (rs : List Record) → all (λ (s : RecSet). all q s.members) (sets rs) ≡ all (λ (r : Record). is_head r || q r) rs
members-all q rs = ap (all (λ (s : RecSet). all q s.members)) (sets-heads rs) ∙ members-heads q rs

either_way : (b c : Bool) → ((not b || c) && (b || c)) ≡ c
either_way true true = refl
either_way true false = refl
either_way false c = refl

pub records-all : (p : Record → Bool) → p [] ≡ true → (rs : List Record) → all (λ (s : RecSet). p s.rules && all p s.members) (sets rs) ≡ all p rs
records-all p e rs =
    all_both (λ (s : RecSet). p s.rules) (λ (s : RecSet). all p s.members) (sets rs)
    ∙ (λ i. rules-all p e rs i && members-all p rs i)
    ∙ sym (all_both (λ (r : Record). not (is_head r) || p r) (λ (r : Record). is_head r || p r) rs)
    ∙ all_alike (λ (r : Record). (not (is_head r) || p r) && (is_head r || p r)) p (λ r. either_way (is_head r) (p r)) rs

-- "4. Limits held?"

abbrev has_rules : RecSet → Bool
has_rules s = is_filled s.rules

described-by : (b : Bool) (f : Field) (fs : Record) (s : RecSet) (ss : List RecSet) (hs : List Record) → s.rules ≡ f ∷ fs → length (filter has_rules ss) ≡ length hs → length (filter has_rules (pick b (s ∷ ss) ss)) ≡ length (pick b ((f ∷ fs) ∷ hs) hs)
described-by true f fs s ss hs e h = ap (λ (r : Record). length (pick (is_filled r) (s ∷ filter has_rules ss) (filter has_rules ss))) e ∙ ap suc h
described-by false f fs s ss hs e h = h

described-heads : (rs : List Record) → length (filter has_rules (head_sets rs)) ≡ length (heads rs)
described-heads [] = refl
described-heads ([] ∷ rs) = described-heads rs
described-heads ((f ∷ fs) ∷ rs) = described-by (is_head (f ∷ fs)) f fs (head_set (f ∷ fs) rs) (head_sets rs) (heads rs) refl (described-heads rs)

abbrev pub walk_fits : List Record → Bool
walk_fits rs = all (λ (r : Record). fits_record r && (not (is_head r) || fits_rules r)) rs && leb (length (heads rs)) descriptors

pub limits-walk : (rs : List Record) → fits_limits (sets rs) ≡ walk_fits rs
limits-walk rs =
    let each : all (λ (s : RecSet). fits_record s.rules && all fits_record s.members && fits_rules s.rules) (sets rs) ≡ all (λ (r : Record). fits_record r && (not (is_head r) || fits_rules r)) rs =
    all_both (λ (s : RecSet). fits_record s.rules && all fits_record s.members) (λ (s : RecSet). fits_rules s.rules) (sets rs)
    ∙ (λ i. records-all fits_record refl rs i && rules-all fits_rules refl rs i)
    ∙ sym (all_both fits_record (λ (r : Record). not (is_head r) || fits_rules r) rs) in
    let count : length (filter has_rules (sets rs)) ≡ length (heads rs) = ap (λ (ss : List RecSet). length (filter has_rules ss)) (sets-heads rs) ∙ described-heads rs in
    (λ i. each i && leb (count i) descriptors)

-- "5. Does a record with a `%` name have `%rec`, once?"

abbrev pub walk_once : List Record → Bool
walk_once rs = all has_rec_once rs

pub once-walk : (rs : List Record) → describes_once (sets rs) ≡ walk_once rs
once-walk rs = records-all has_rec_once refl rs

-- "6. Descriptors well formed", "no two sets alike": a well formed descriptor's name is not the default set's, the empty one.

wordless-by : (c : ℕ) (s : Bytes) (b : Bool) → is_gap c ≡ b → (first_word s ≡ [] → words s ≡ []) → first_word (c ∷ s) ≡ [] → words (c ∷ s) ≡ []
wordless-by c s true g h e =
    words-gap c s g ∙ h (ap (λ (b : Bool). front not_gap (pick b (behind is_gap s) (c ∷ s))) (sym g) ∙ e)
wordless-by c s false g h e =
    let k : c ∷ front not_gap s ≡ [] = ap (λ (b : Bool). pick (not b) (c ∷ front not_gap s) []) (sym g) ∙ ap (λ (b : Bool). front not_gap (pick b (behind is_gap s) (c ∷ s))) (sym g) ∙ e in
    absurd (subst Filled k tt)

wordless : (s : Bytes) → first_word s ≡ [] → words s ≡ []
wordless [] e = refl
wordless (c ∷ s) e = wordless-by c s (is_gap c) refl (wordless s) e

rec-shaped : (b : Bounds) (n v : Bytes) (k : ℕ) → text "%rec" ≡ n → is_shaped b (record { name = n; value = v; count = k }) ≡ true → one is_type_name (words v) ≡ true
rec-shaped b n v k e h =
    sym (or-false (one is_type_name (words v))) ∙ ap (λ (m : Bytes). is_shaped b (record { name = m; value = v; count = k })) e ∙ h

rec-named : (v : Bytes) → one is_type_name (words v) ≡ true → same [] (first_word v) ≡ false
rec-named v h = go (same [] (first_word v)) refl
  where
    go : (t : Bool) → same [] (first_word v) ≡ t → same [] (first_word v) ≡ false
    go true e = absurd (false≢true (ap (one is_type_name) (sym (wordless v (sym (same_true [] (first_word v) e)))) ∙ h))
    go false e = e

named_by : (b : Bounds) (f : Field) (t : Bool) (vs : List Bytes) → same (text "%rec") f.name ≡ t → is_shaped b f ≡ true → (not (is_filled vs) || not (same [] (name_in vs))) ≡ true → (not (is_filled (pick t (f.value ∷ vs) vs)) || not (same [] (name_in (pick t (f.value ∷ vs) vs)))) ≡ true
named_by b f true vs e h k = ap not (rec-named f.value (rec-shaped b f.name f.value f.count (same_true (text "%rec") f.name e) h))
named_by b f false vs e h k = k

shaped-named : (b : Bounds) (r : Record) → Each (λ (f : Field). is_shaped b f ≡ true) r → (not (is_head r) || not (same [] (head_name r))) ≡ true
shaped-named b [] h = refl
shaped-named b (f ∷ fs) h = named_by b f (same (text "%rec") f.name) (rec_values fs) refl h.0 (shaped-named b fs h.1)

named-if : (t w m : Bool) → (w ≡ true → (not t || m) ≡ true) → (not t || w) ≡ true → (not t || m) ≡ true
named-if true w m h e = h e
named-if false w m h e = refl

well-shaped : (b : Bounds) (r : Record) → is_well_formed b r ≡ true → Each (λ (f : Field). is_shaped b f ≡ true) r
well-shaped b r e =
    let keys : Bool = leb (length (values_of (text "%key") r)) 1 in
    let sizes : Bool = leb (length (values_of (text "%size") r)) 1 in
    all-each (is_shaped b) r ((and-eq-true_iff (all (is_shaped b) r) keys).0 ((and-eq-true_iff (all (is_shaped b) r && keys) sizes).0 e).0).0

among-by : (t : Bool) (r : Record) (hs : List Record) → (not t || not (same [] (head_name r))) ≡ true → among [] (map head_name hs) ≡ false → among [] (map head_name (pick t (r ∷ hs) hs)) ≡ false
among-by true r hs h k = ap (λ (x : Bool). x || among [] (map head_name hs)) (not-true (same [] (head_name r)) h) ∙ k
among-by false r hs h k = k

well-named : (b : Bounds) (rs : List Record) → Each (λ (r : Record). (not (is_head r) || is_well_formed b r) ≡ true) rs → among [] (head_names rs) ≡ false
well-named b [] h = refl
well-named b (r ∷ rs) h =
    among-by (is_head r) r (heads rs) (named-if (is_head r) (is_well_formed b r) (not (same [] (head_name r))) (λ w. shaped-named b r (well-shaped b r w)) h.0) (well-named b rs h.1)

names-by : (t : Bool) (r : Record) (s : RecSet) (hs : List Record) (ss : List RecSet) → s.name ≡ head_name r → map name_of ss ≡ map head_name hs → map name_of (pick t (s ∷ ss) ss) ≡ map head_name (pick t (r ∷ hs) hs)
names-by true r s hs ss e h = (λ i. e i ∷ h i)
names-by false r s hs ss e h = h

names-heads : (rs : List Record) → map name_of (head_sets rs) ≡ head_names rs
names-heads [] = refl
names-heads (r ∷ rs) = names-by (is_head r) r (head_set r rs) (heads rs) (head_sets rs) refl (names-heads rs)

well-by : (w n d : Bool) → (w ≡ true → n ≡ false) → (w && (not n && d)) ≡ (w && d)
well-by true n d h = ap (λ (x : Bool). not x && d) (h refl)
well-by false n d h = refl

abbrev pub walk_well : Bounds → List Record → Bool
walk_well b rs = all (λ (r : Record). not (is_head r) || is_well_formed b r) rs && distinct (head_names rs)

pub well-walk : (b : Bounds) (rs : List Record) → describes_well b (sets rs) ≡ walk_well b rs
well-walk b rs =
    let well : Record → Bool = λ (r : Record). not (is_head r) || is_well_formed b r in
    let names : map name_of (sets rs) ≡ [] ∷ head_names rs = ap (map name_of) (sets-heads rs) ∙ ap {B = List Bytes} (λ ns. [] ∷ ns) (names-heads rs) in
    (λ i. rules-all (is_well_formed b) refl rs i && distinct (names i))
    ∙ well-by (all well rs) (among [] (head_names rs)) (distinct (head_names rs)) (λ h. well-named b rs (all-each well rs h))

-- "7. Those fields well formed, types defined, without loop?"

abbrev pub walk_types : Bounds → List Record → Bool
walk_types b rs = all (λ (r : Record). not (is_head r) || is_typed_well b r) rs

pub types-walk : (b : Bounds) (rs : List Record) → types_well b (sets rs) ≡ walk_types b rs
types-walk b rs = rules-all (is_typed_well b) refl rs

-- questions 8 to 14 and 30: a set without rules fails none, and a set's name does not matter

no_record : (b : Bounds) (r : Record) → record_no b [] r ≡ 0
unfolding record_no
no_record b r = ap (λ (t : Bool). pick t (pick t 0 12) 8) (all_yes r)

no-records : (b : Bounds) (ms : List Record) → leasts (map (record_no b []) ms) ≡ 0
no-records b [] = refl
no-records b (m ∷ ms) = ap (λ (k : ℕ). least k (leasts (map (record_no b []) ms))) (no_record b m) ∙ no-records b ms

pub no-rules : (b : Bounds) (ms : List Record) → set_no b (default ms) ≡ 0
unfolding set_no
no-rules b ms = ap (λ (k : ℕ). pick (eqb k 0) (first_no (whole_rows b) (default ms)) k) (no-records b ms)

abbrev pub ruled : Record → List Record → RecSet
ruled rules ms = record { name = []; rules = rules; members = ms }

pub ruled-no : (b : Bounds) (s : RecSet) → set_no b s ≡ set_no b (ruled s.rules s.members)
unfolding set_no
ruled-no b s = refl

-- the least number of a descriptor's set
abbrev pub walk_no : Bounds → List Record → ℕ
walk_no b [] = 0
walk_no b (r ∷ rs) = let others : ℕ = walk_no b rs in pick (is_head r) (least (set_no b (ruled r (before rs))) others) others

heads-by : (b : Bounds) (t : Bool) (s : RecSet) (ss : List RecSet) (n : ℕ) → leasts (map (set_no b) ss) ≡ n → leasts (map (set_no b) (pick t (s ∷ ss) ss)) ≡ pick t (least (set_no b (ruled s.rules s.members)) n) n
heads-by b true s ss n e = (λ i. least (ruled-no b s i) (e i))
heads-by b false s ss n e = e

heads-walk : (b : Bounds) (rs : List Record) → leasts (map (set_no b) (head_sets rs)) ≡ walk_no b rs
heads-walk b [] = refl
heads-walk b (r ∷ rs) = heads-by b (is_head r) (head_set r rs) (head_sets rs) (walk_no b rs) (heads-walk b rs)

pub sets-walk : (b : Bounds) (rs : List Record) → leasts (map (set_no b) (sets rs)) ≡ walk_no b rs
sets-walk b rs = ap (λ (ss : List RecSet). leasts (map (set_no b) ss)) (sets-heads rs) ∙ (λ i. least (no-rules b (before rs) i) (heads-walk b rs i))

-- the number of a file's records, questions 4 to 14 and 30, and of a text that reads as them
unfoldable pub records_no : Bounds → List Record → ℕ
records_no b rs =
    pick (walk_fits rs)
    (pick (walk_once rs)
    (pick (walk_well b rs)
    (pick (walk_types b rs) (walk_no b rs) 7) 6) 5) 4

pub records-no : (b : Bounds) (rs : List Record) → first_no (set_questions b) (sets rs) ≡ records_no b rs
unfolding records_no
records-no b rs =
    let rest : first_no (rule_rows b) (sets rs) ≡ walk_no b rs = rules-no b (sets rs) ∙ sets-walk b rs in
    (λ i. pick (limits-walk rs i) (pick (once-walk rs i) (pick (well-walk b rs i) (pick (types-walk b rs i) (rest i) 7) 6) 5) 4)

pub text-walk : (s : Bytes) (ps : List Piece) → all is_allowed s ≡ true → is_ended s ≡ true → pieces s ≡ some ps → text_no s ≡ records_no int_bounds (records ps)
unfolding text_no
text-walk s ps a e r = (λ i. pick (a i && e i) (read_no (r i)) 2) ∙ ap (first_no (set_questions int_bounds)) (sets-records ps) ∙ records-no int_bounds (records ps)
