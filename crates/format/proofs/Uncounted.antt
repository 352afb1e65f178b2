-- The questions ask for names and values, never for how many bytes a field takes.
use Prim.Native.Nat.{ℕ}
use mathlib.Core.Path.{◌≡◌, refl, ap, ◌∙◌}
use mathlib.Core.Bool.{Bool, true, false, ◌&&◌, ◌||◌, not}
use mathlib.Core.List.{List, [], ◌∷◌, ◌++◌, map}
use mathlib.Core.Option
use lib.Dec.{leb, eqb}
use lib.ListN.{length, length-map}
use Rattle.format.specs.Bytes.{Bytes, text, pick, all, any, same, among, is_some}
use Rattle.format.specs.Lists.{is_filled, filter, flat, kept}
use Rattle.format.specs.Lines.{is_name, is_special}
use Rattle.format.specs.Words.{first_word, words}
use Rattle.format.specs.Records.{Field, Record}
use Rattle.format.specs.Sets.{values_of}
use Rattle.format.specs.Limits.{record_fields, descriptors, typedefs, type_fields, list_words}
use Rattle.format.specs.Numbers.{Bounds}
use Rattle.format.specs.Rules.{listed, typed_names, end_kind, typedef_of, type_rule_of, typedefs_of, type_rules, is_typed, is_shaped, is_well_formed, is_typedef_name, is_counted, autos_counted, are_types_defined, is_typed_well, distinct, size_rule, meets_size, kinds_of, all_ints, span_of}
use Rattle.format.specs.Questions.{fits_field, fits_record, fits_rules, has_rec_once, none_prohibited, all_allowed, all_present, none_repeated, all_typed, keys_of, size_met, singular_met}
use Rattle.format.specs.Written.{Pair}
use Rattle.format.specs.Numbering.{firsts, pair_names, ints_of, least_in, decimal, every, added}
use Rattle.format.proofs.Least.{least, leasts}
use Rattle.format.proofs.Judging.{record_no, set_no}
use Rattle.format.proofs.Walking.{is_head, name_in, head_name, heads, head_names, before, walk_fits, walk_well, walk_types, ruled, walk_no, records_no}

-- a field as if it took no byte
abbrev pub uncounted : Field → Field
uncounted f = record { name = f.name; value = f.value; count = 0 }

abbrev pub bare : Record → Record
bare r = map uncounted r

-- a test that does not tell a thing from what becomes of it
module _ {A : Type 0} (f : A → A) (p : A → Bool) (h : (x : A) → p (f x) ≡ p x) where
  all-through : (xs : List A) → all p (map f xs) ≡ all p xs
  all-through [] = refl
  all-through (x ∷ xs) = λ i. h x i && all-through xs i

  any-through : (xs : List A) → any p (map f xs) ≡ any p xs
  any-through [] = refl
  any-through (x ∷ xs) = λ i. h x i || any-through xs i

map-through : {A B : Type 0} (f : A → A) (g : A → B) → ((x : A) → g (f x) ≡ g x) → (xs : List A) → map g (map f xs) ≡ map g xs
map-through f g h [] = refl
map-through f g h (x ∷ xs) = λ i. h x i ∷ map-through f g h xs i

values-bare : (n : Bytes) (r : Record) → values_of n (bare r) ≡ values_of n r
values-bare n [] = refl
values-bare n (f ∷ fs) = λ i. pick (same n f.name) (f.value ∷ values-bare n fs i) (values-bare n fs i)

listed-bare : (n : Bytes) (r : Record) → flat (map words (values_of n (bare r))) ≡ flat (map words (values_of n r))
listed-bare n r = ap (λ (vs : List Bytes). flat (map words vs)) (values-bare n r)

-- 4
pub fits-bare : (r : Record) → fits_record (bare r) ≡ fits_record r
fits-bare r = λ i. leb (length-map r uncounted i) record_fields && all-through uncounted fits_field (λ f. refl) r i

pub rules-bare : (r : Record) → fits_rules (bare r) ≡ fits_rules r
rules-bare r =
    λ i. leb (length (values-bare (text "%typedef") r i)) typedefs
    && leb (length (values-bare (text "%type") r i)) type_fields
    && leb (length (listed-bare (text "%mandatory") r i)) list_words
    && leb (length (listed-bare (text "%prohibit") r i)) list_words
    && leb (length (listed-bare (text "%allowed") r i)) list_words
    && leb (length (listed-bare (text "%unique") r i)) list_words
    && leb (length (listed-bare (text "%singular") r i)) list_words
    && leb (length (listed-bare (text "%auto") r i)) list_words

head-bare : (r : Record) → is_head (bare r) ≡ is_head r
head-bare r = ap is_filled (values-bare (text "%rec") r)

name-bare : (r : Record) → head_name (bare r) ≡ head_name r
name-bare r = ap name_in (values-bare (text "%rec") r)

heads-by : (b : Bool) (r : Record) (rs hs : List Record) → rs ≡ map bare hs → pick b (bare r ∷ rs) rs ≡ map bare (pick b (r ∷ hs) hs)
heads-by true r rs hs e = ap {B = List Record} (λ x. bare r ∷ x) e
heads-by false r rs hs e = e

heads-bare : (rs : List Record) → heads (map bare rs) ≡ map bare (heads rs)
heads-bare [] = refl
heads-bare (r ∷ rs) =
    ap (λ (b : Bool). pick b (bare r ∷ heads (map bare rs)) (heads (map bare rs))) (head-bare r)
    ∙ heads-by (is_head r) r (heads (map bare rs)) (heads rs) (heads-bare rs)

pub walk-fits : (rs : List Record) → walk_fits (map bare rs) ≡ walk_fits rs
walk-fits rs =
    let count : length (heads (map bare rs)) ≡ length (heads rs) = ap length (heads-bare rs) ∙ length-map (heads rs) bare in
    λ i. all-through bare (λ (r : Record). fits_record r && (not (is_head r) || fits_rules r)) (λ r j. fits-bare r j && (not (head-bare r j) || rules-bare r j)) rs i
    && leb (count i) descriptors

-- 5
once-bare : (r : Record) → has_rec_once (bare r) ≡ has_rec_once r
once-bare r = λ i. not (any-through uncounted (λ (f : Field). is_special f.name) (λ f. refl) r i) || eqb (length (values-bare (text "%rec") r i)) 1

-- 6
pub well-bare : (b : Bounds) (r : Record) → is_well_formed b (bare r) ≡ is_well_formed b r
well-bare b r =
    λ i. all-through uncounted (is_shaped b) (λ f. refl) r i
    && leb (length (values-bare (text "%key") r i)) 1
    && leb (length (values-bare (text "%size") r i)) 1

names-bare : (rs : List Record) → head_names (map bare rs) ≡ head_names rs
names-bare rs = ap (map head_name) (heads-bare rs) ∙ map-through bare head_name name-bare (heads rs)

walk-well : (b : Bounds) (rs : List Record) → walk_well b (map bare rs) ≡ walk_well b rs
walk-well b rs =
    λ i. all-through bare (λ (r : Record). not (is_head r) || is_well_formed b r) (λ r j. not (head-bare r j) || well-bare b r j) rs i && distinct (names-bare rs i)

-- 7
typedefs-bare : (b : Bounds) (r : Record) → typedefs_of b (bare r) ≡ typedefs_of b r
typedefs-bare b r = ap (kept (typedef_of b)) (values-bare (text "%typedef") r)

types-bare : (b : Bounds) (r : Record) → type_rules b (bare r) ≡ type_rules b r
types-bare b r = λ i. kept (type_rule_of b (typedefs-bare b r i)) (values-bare (text "%type") r i)

pub defined-bare : (b : Bounds) (r : Record) → are_types_defined b (bare r) ≡ are_types_defined b r
defined-bare b r =
    λ i. all (λ (v : Bytes). is_typedef_name (first_word v)) (values-bare (text "%typedef") r i)
    && all (λ (v : Bytes). is_some (end_kind b (typedefs-bare b r i) v)) (values-bare (text "%typedef") r i)
    && distinct (map first_word (values-bare (text "%typedef") r i))
    && all (λ (v : Bytes). all is_name (typed_names v)) (values-bare (text "%type") r i)
    && all (λ (v : Bytes). is_some (end_kind b (typedefs-bare b r i) v)) (values-bare (text "%type") r i)

pub counted-bare : (b : Bounds) (r : Record) → autos_counted b (bare r) ≡ autos_counted b r
counted-bare b r = λ i. all (is_counted b (types-bare b r i)) (listed-bare (text "%auto") r i)

typed-bare : (b : Bounds) (r : Record) → is_typed_well b (bare r) ≡ is_typed_well b r
typed-bare b r = λ i. defined-bare b r i && counted-bare b r i

walk-types : (b : Bounds) (rs : List Record) → walk_types b (map bare rs) ≡ walk_types b rs
walk-types b rs = all-through bare (λ (r : Record). not (is_head r) || is_typed_well b r) (λ r j. not (head-bare r j) || typed-bare b r j) rs

-- 8 to 12
module _ (b : Bounds) (rules : Record) where
  module _ (r : Record) where
    none_bare : none_prohibited (bare rules) (bare r) ≡ none_prohibited rules r
    none_bare =
        all-through uncounted (λ (f : Field). not (among f.name (listed (text "%prohibit") (bare rules)))) (λ f. refl) r
        ∙ (λ i. all (λ (f : Field). not (among f.name (listed-bare (text "%prohibit") rules i))) r)

    allowed-bare : all_allowed (bare rules) (bare r) ≡ all_allowed rules r
    allowed-bare =
        ap (λ (t : Bool). eqb (length (values_of (text "%allowed") (bare rules))) 0 || t) (all-through uncounted (λ (f : Field). among f.name (listed (text "%allowed") (bare rules))) (λ f. refl) r)
        ∙ (λ i. eqb (length (values-bare (text "%allowed") rules i)) 0 || all (λ (f : Field). among f.name (listed-bare (text "%allowed") rules i)) r)

    present-bare : all_present (bare rules) (bare r) ≡ all_present rules r
    present-bare = λ i. all (λ (n : Bytes). leb 1 (length (values-bare n r i))) (listed-bare (text "%mandatory") rules i ++ listed-bare (text "%key") rules i)

    repeated-bare : none_repeated (bare rules) (bare r) ≡ none_repeated rules r
    repeated-bare = λ i. all (λ (n : Bytes). leb (length (values-bare n r i)) 1) (listed-bare (text "%unique") rules i ++ listed-bare (text "%key") rules i)

    met-bare : all_typed b (bare rules) (bare r) ≡ all_typed b rules r
    met-bare = all-through uncounted (is_typed b (type_rules b (bare rules))) (λ f. refl) r ∙ (λ i. all (is_typed b (types-bare b rules i)) r)

    record-bare : record_no b (bare rules) (bare r) ≡ record_no b rules r
    unfolding record_no
    record-bare = λ i. pick (none_bare i) (pick (allowed-bare i) (pick (present-bare i) (pick (repeated-bare i) (pick (met-bare i) 0 12) 11) 10) 9) 8

  records-bare : (ms : List Record) → map (record_no b (bare rules)) (map bare ms) ≡ map (record_no b rules) ms
  records-bare [] = refl
  records-bare (m ∷ ms) = λ i. record-bare m i ∷ records-bare ms i

  -- 13, 14 and 30
  module _ (ms : List Record) where
    keys-bare : keys_of (ruled (bare rules) (map bare ms)) ≡ keys_of (ruled rules ms)
    keys-bare = λ i. flat (map (λ (n : Bytes). flat (map-through bare (values_of n) (values-bare n) ms i)) (listed-bare (text "%key") rules i))

    size-bare : size_met b (ruled (bare rules) (map bare ms)) ≡ size_met b (ruled rules ms)
    size-bare = λ i. all (λ (v : Bytes). meets_size (size_rule b (words v)) (length-map ms bare i)) (values-bare (text "%size") rules i)

    singular-bare : singular_met (ruled (bare rules) (map bare ms)) ≡ singular_met (ruled rules ms)
    singular-bare = λ i. all (λ (n : Bytes). distinct (flat (map-through bare (values_of n) (values-bare n) ms i))) (listed-bare (text "%singular") rules i)

    set-bare : set_no b (ruled (bare rules) (map bare ms)) ≡ set_no b (ruled rules ms)
    unfolding set_no
    set-bare =
        λ i. let k : ℕ = leasts (records-bare ms i) in
        pick (eqb k 0) (pick (distinct (keys-bare i)) (pick (size-bare i) (pick (singular-bare i) 0 30) 14) 13) k

before-by : (t : Bool) (r : Record) (ms : List Record) (rs : List Record) → ms ≡ map bare rs → pick t [] (bare r ∷ ms) ≡ map bare (pick t [] (r ∷ rs))
before-by true r ms rs e = refl
before-by false r ms rs e = ap {B = List Record} (λ x. bare r ∷ x) e

before-bare : (rs : List Record) → before (map bare rs) ≡ map bare (before rs)
before-bare [] = refl
before-bare (r ∷ rs) = ap (λ (t : Bool). pick t [] (bare r ∷ before (map bare rs))) (head-bare r) ∙ before-by (is_head r) r (before (map bare rs)) (before rs) (before-bare rs)

walk_no_lem : (b : Bounds) (rs : List Record) → walk_no b (map bare rs) ≡ walk_no b rs
walk_no_lem b [] = refl
walk_no_lem b (r ∷ rs) =
    let set : set_no b (ruled (bare r) (before (map bare rs))) ≡ set_no b (ruled r (before rs)) = ap (λ (ms : List Record). set_no b (ruled (bare r) ms)) (before-bare rs) ∙ set-bare b r (before rs) in
    λ i. pick (head-bare r i) (least (set i) (walk_no_lem b rs i)) (walk_no_lem b rs i)

-- all of them: records with the same names and values have the same number
pub number-bare : (b : Bounds) (rs : List Record) → records_no b (map bare rs) ≡ records_no b rs
unfolding records_no
number-bare b rs =
    λ i. pick (walk-fits rs i)
    (pick (all-through bare has_rec_once once-bare rs i)
    (pick (walk-well b rs i)
    (pick (walk-types b rs i) (walk_no_lem b rs i) 7) 6) 5) 4

-- nor does what an insert gets for the names that it omits
pub added-bare : (b : Bounds) (rules : Record) (ms : List Record) (new : List Pair) → added b (ruled (bare rules) ms) new ≡ added b (ruled rules ms) new
added-bare b rules ms new =
    λ i. every (λ (n : Bytes). Option.map (λ (k : ℕ). record { name = n; value = decimal k }) (least_in (all_ints b ∷ kept (span_of b) (kinds_of n (types-bare b rules i))) (ints_of b n ms)))
    (filter (λ (n : Bytes). not (among n (pair_names new))) (firsts (listed-bare (text "%auto") rules i)))
