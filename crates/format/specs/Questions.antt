-- The questions of a file, in order.
use Rattle.std.specs.Prelude.{ℕ, Bool, ◌&&◌, ◌||◌, not, List, [], ◌∷◌, ◌++◌, map, leb, eqb, length, take}
use Rattle.std.proofs.Math.Option.{Option}
use Rattle.format.specs.Lists.{is_filled, filter, flat}
use Rattle.format.specs.Bytes.{Bytes, text, pick, is_allowed, all, any, among, is_some}
use Rattle.format.specs.Lines.{is_ended, is_special}
use Rattle.format.specs.Pieces.{Piece, pieces, some_of}
use Rattle.format.specs.Records.{Field, Record}
use Rattle.format.specs.Sets.{RecSet, values_of, sets_of}
use Rattle.format.specs.Limits.{file_bytes, name_bytes, value_bytes, record_fields, descriptors, typedefs, type_fields, list_words}
use Rattle.format.specs.Words.{words}
use Rattle.format.specs.Numbers.{Bounds, int_bounds}
use Rattle.format.specs.Rules.{mandatory, prohibited, allowed, unique, singular, auto, key, size_rule, meets_size, type_rules, is_typed, is_well_formed, is_typed_well, distinct}

-- a question and the number of its no
pub record Row (A : Type 0) : Type 0 where
  pub number : ℕ
  pub asks : A → Bool

-- the number of the first that says no, else 0
abbrev pub first_no : {A : Type 0} → List (Row A) → A → ℕ
first_no [] a = 0
first_no (r ∷ rs) a = let others : ℕ = first_no rs a in pick (r.asks a) others r.number

-- the same questions, asked of what another thing holds
abbrev pub ask_of : {A B : Type 0} → (A → B) → List (Row B) → List (Row A)
ask_of f rs = map (λ (r : Row _). record { number = r.number; asks = λ (a : _). r.asks (f a) }) rs

-- A used buffer and what it reads as.
pub record File : Type 0 where
  pub room : ℕ
  pub used : ℕ
  pub content : Bytes
  pub reads : Option (List Piece)
  pub sets : List RecSet

unfoldable pub file_of : Bytes → ℕ → File
file_of buffer used =
    let s : Bytes = take used buffer in
    let ps : Option (List Piece) = pieces s in
    record { room = length buffer; used = used; content = s; reads = ps; sets = sets_of (some_of ps) }

-- "4. Limits held?"
abbrev pub fits_field : Field → Bool
fits_field f = leb (length f.name) name_bytes && leb (length f.value) value_bytes

abbrev pub fits_record : Record → Bool
fits_record r = leb (length r) record_fields && all fits_field r

abbrev pub fits_rules : Record → Bool
fits_rules r =
    leb (length (values_of (text "%typedef") r)) typedefs
    && leb (length (values_of (text "%type") r)) type_fields
    && leb (length (mandatory r)) list_words
    && leb (length (prohibited r)) list_words
    && leb (length (allowed r)) list_words
    && leb (length (unique r)) list_words
    && leb (length (singular r)) list_words
    && leb (length (auto r)) list_words

abbrev pub fits_limits : List RecSet → Bool
fits_limits ss =
    all (λ (s : RecSet). fits_record s.rules && all fits_record s.members && fits_rules s.rules) ss
    && leb (length (filter (λ (s : RecSet). is_filled s.rules) ss)) descriptors

-- "5. Does a record with a `%` name have `%rec`, once?"
abbrev pub has_rec_once : Record → Bool
has_rec_once r = not (any (λ (f : Field). is_special f.name) r) || eqb (length (values_of (text "%rec") r)) 1

abbrev pub describes_once : List RecSet → Bool
describes_once ss = all (λ (s : RecSet). has_rec_once s.rules && all has_rec_once s.members) ss

-- "6. Descriptors well formed, `%typedef` and `%type` fields aside?", "no two sets alike"
abbrev pub name_of : RecSet → Bytes
name_of s = s.name

abbrev pub describes_well : Bounds → List RecSet → Bool
describes_well b ss = all (λ (s : RecSet). is_well_formed b s.rules) ss && distinct (map name_of ss)

-- "7. Those fields well formed, types defined, without loop?", and those of `%auto` names int or range
abbrev pub types_well : Bounds → List RecSet → Bool
types_well b ss = all (λ (s : RecSet). is_typed_well b s.rules) ss

-- Questions 8 to 14 and 30 are asked of the records of sets: a test of the rules and of each record.
abbrev pub each_record : (Record → Record → Bool) → List RecSet → Bool
each_record p ss = all (λ (s : RecSet). all (p s.rules) s.members) ss

abbrev pub each_name : (Bytes → Bool) → Record → Bool
each_name p r = all (λ (f : Field). p f.name) r

-- "8. No prohibited name?"
abbrev pub none_prohibited : Record → Record → Bool
none_prohibited rules r = let ns : List Bytes = prohibited rules in each_name (λ (n : Bytes). not (among n ns)) r

-- "9. Only allowed names?" "Allowed, where given: a name not listed there may not occur, be it the key or a mandatory one."
abbrev pub all_allowed : Record → Record → Bool
all_allowed rules r =
    let ns : List Bytes = allowed rules in
    eqb (length (values_of (text "%allowed") rules)) 0 || each_name (λ (n : Bytes). among n ns) r

-- "10. Mandatory names and the key present?"
abbrev pub occurrences : Bytes → Record → ℕ
occurrences n r = length (values_of n r)

abbrev pub all_present : Record → Record → Bool
all_present rules r = all (λ (n : Bytes). leb 1 (occurrences n r)) (mandatory rules ++ key rules)

-- "11. Unique names and the key not repeated?" "Unique: at most once in a record."
abbrev pub none_repeated : Record → Record → Bool
none_repeated rules r = all (λ (n : Bytes). leb (occurrences n r) 1) (unique rules ++ key rules)

-- "12. Types met?"
abbrev pub all_typed : Bounds → Record → Record → Bool
all_typed b rules r = all (is_typed b (type_rules b rules)) r

-- the values of a name in records
abbrev pub values_in : Bytes → List Record → List Bytes
values_in n rs = flat (map (values_of n) rs)

-- "13. Keys distinct?" "no two records of the set have the same bytes there"
abbrev pub keys_of : RecSet → List Bytes
keys_of s = flat (map (λ (n : Bytes). values_in n s.members) (key s.rules))

abbrev pub keys_distinct : List RecSet → Bool
keys_distinct ss = all (λ (s : RecSet). distinct (keys_of s)) ss

-- "14. Size met?" "about the set's record count"
abbrev pub size_met : Bounds → RecSet → Bool
size_met b s = all (λ (v : Bytes). meets_size (size_rule b (words v)) (length s.members)) (values_of (text "%size") s.rules)

-- "For each of these names, no two fields of the set with that name have values of the same bytes, in one record or two." (document 02, order 5)
abbrev pub singular_met : RecSet → Bool
singular_met s = all (λ (n : Bytes). distinct (values_in n s.members)) (singular s.rules)

-- the questions about sets: 4, those about descriptors, those about the records of a set
abbrev pub limit_rows : List (Row (List RecSet))
limit_rows = record { number = 4; asks = fits_limits } ∷ []

abbrev pub descriptor_rows : Bounds → List (Row (List RecSet))
descriptor_rows b =
    record { number = 5; asks = describes_once } ∷
    record { number = 6; asks = describes_well b } ∷
    record { number = 7; asks = types_well b } ∷ []

abbrev pub rule_rows : Bounds → List (Row (List RecSet))
rule_rows b =
    record { number = 8; asks = each_record none_prohibited } ∷
    record { number = 9; asks = each_record all_allowed } ∷
    record { number = 10; asks = each_record all_present } ∷
    record { number = 11; asks = each_record none_repeated } ∷
    record { number = 12; asks = each_record (all_typed b) } ∷
    record { number = 13; asks = keys_distinct } ∷
    record { number = 14; asks = λ (ss : List RecSet). all (size_met b) ss } ∷
    record { number = 30; asks = λ (ss : List RecSet). all singular_met ss } ∷ []

-- "1. Is the used length at most the buffer's and 65,536? 2. Allowed bytes, final newline? 3. Every line of a form above?", then those about the sets
abbrev pub questions : Bounds → List (Row File)
questions b =
    record { number = 1; asks = λ (f : File). leb f.used f.room && leb f.used file_bytes } ∷
    record { number = 2; asks = λ (f : File). all is_allowed f.content && is_ended f.content } ∷
    record { number = 3; asks = λ (f : File). is_some f.reads } ∷
    ask_of (λ (f : File). f.sets) (limit_rows ++ descriptor_rows b ++ rule_rows b)

unfoldable pub verdict_in : Bounds → Bytes → ℕ → ℕ
verdict_in b buffer used = first_no (questions b) (file_of buffer used)

-- the number of the first question that says no of a used buffer, else 0
unfoldable pub verdict : Bytes → ℕ → ℕ
verdict buffer used = verdict_in int_bounds buffer used
