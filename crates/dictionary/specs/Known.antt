-- What a dictionary says of a name.
use Rattle.std.specs.Prelude.{ℕ, ◌≤◌, ◌<◌, ◌≡◌, true, List, [], ◌++◌, length, get_or, take, drop}
use Rattle.format.specs.Bytes.{Bytes, text, among}
use Rattle.format.specs.Limits.{file_bytes}
use Rattle.format.specs.Records.{Record}
use Rattle.format.specs.Sets.{values_of}
use Rattle.format.specs.Numbers.{int_bounds}
use Rattle.format.specs.Rules.{mandatory, prohibited, allowed, unique, key, typed_names, is_well_formed, are_types_defined}
use Rattle.format.specs.Questions.{fits_record, fits_rules}
use Rattle.records.specs.Places.{is_readable}
use Rattle.records.specs.Walk.{record_in}
use Rattle.records.specs.Named.{values_from}
use Rattle.terms.specs.Sets.{in_set, tagged}
use Rattle.terms.specs.Entries.{terms_of}
use Rattle.terms.specs.Order.{IsTable}
use Rattle.dictionary.specs.Tags.{mandatory_tag, prohibited_tag, allowed_tag, unique_tag, key_tag}
use Rattle.dictionary.specs.Terms.{list_terms, row_terms}
use Rattle.dictionary.specs.declared.Dictionary.{Dictionary}

-- a part whose fields are rules that pass questions 4, 6 and 7, the types of `%auto` names aside
pub record Described (d : Bytes) : Type 0 where
  pub reads : is_readable d ≡ true
  pub short : length d ≤ file_bytes
  pub fits : fits_record (record_in d) ≡ true
  pub few : fits_rules (record_in d) ≡ true
  pub well : is_well_formed int_bounds (record_in d) ≡ true
  pub typed : are_types_defined int_bounds (record_in d) ≡ true

-- the value of `%type` field k
abbrev pub type_value : Record → ℕ → Bytes
type_value rules k = get_or (values_of (text "%type") rules) k []

-- x tells of the name w which lists have it, and which `%type` fields from one on up to another name it
pub record Known (rules : Record) (from to : ℕ) (w : Bytes) (x : ℕ) : Type 0 where
  pub mandatory-is : in_set mandatory_tag x ≡ among w (mandatory rules)
  pub prohibited-is : in_set prohibited_tag x ≡ among w (prohibited rules)
  pub allowed-is : in_set allowed_tag x ≡ among w (allowed rules)
  pub unique-is : in_set unique_tag x ≡ among w (unique rules)
  pub key-is : in_set key_tag x ≡ among w (key rules)
  pub typed-is : (k : ℕ) → from ≤ k → k < to → in_set k x ≡ among w (typed_names (type_value rules k))

-- the room that a dictionary needs: the words of four lists, the key, and the names of one `%type` field
abbrev pub dictionary_room : ℕ
dictionary_room = 4354

-- a table of a descriptor's terms, of its `%type` fields those from one on; those from the next on are left
pub record IsDictionary (d : Bytes) (l : List ℕ) (r : Dictionary) : Type 0 where
  pub table : IsTable d l r.table
  pub begins : r.from ≤ r.next
  pub within : r.next ≤ length (values_from d (text "%type") 0)
  pub some : r.from < length (values_from d (text "%type") 0) → r.from < r.next
  pub terms : (w : Bytes) (k : ℕ) → tagged w k (terms_of d (take r.table.count l) ++ row_terms r.next (drop r.next (values_from d (text "%type") 0))) ≡ tagged w k (list_terms (record_in d) ++ row_terms r.from (drop r.from (values_from d (text "%type") 0)))
