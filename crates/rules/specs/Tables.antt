-- The tables of a descriptor in lent arrays, and what they say of a name that stands in a text.
use Rattle.std.specs.Prelude.{ℕ, ◌≤◌, List, length}
use Rattle.format.specs.Bytes.{Bytes}
use Rattle.format.specs.Limits.{list_words}
use Rattle.format.specs.Records.{Record}
use Rattle.format.specs.Rules.{mandatory, unique}
use Rattle.words.specs.Spans.{span}
use Rattle.records.specs.Walk.{record_in}
use Rattle.dictionary.specs.Known.{Described, IsDictionary, Known}
use Rattle.dictionary.specs.Numbered.{IsWords, Places}
use Rattle.rules.specs.declared.tables.Tables.{Tables}
use Rattle.rules.specs.declared.tables.Seen.{Seen}
use Rattle.rules.specs.declared.tables.SeenName.{SeenName}

-- where the unique words, the names and the symbols begin among the entries, behind the mandatory words, and where the symbols end
abbrev pub unique_at : ℕ
unique_at = list_words

abbrev pub names_at : ℕ
names_at = 128

abbrev pub symbols_at : ℕ
symbols_at = 8320

abbrev pub entries_end : ℕ
entries_end = 16384

-- the tables of a descriptor, their words in some entries and the words' sets in others
pub record IsTables (d : Bytes) (l sets : List ℕ) (t : Tables) : Type 0 where
  pub described : Described d
  pub entries-long : entries_end ≤ length l
  pub sets-long : names_at ≤ length sets
  pub mandatory-are : IsWords d (mandatory (record_in d)) (span 0 unique_at l) (span 0 unique_at sets) t.mandatory
  pub unique-are : IsWords d (unique (record_in d)) (span unique_at names_at l) (span unique_at names_at sets) t.unique
  pub names-are : IsDictionary d (span names_at symbols_at l) t.names

-- what is known of a name, by the rules
pub record Stands (rules : Record) (from next : ℕ) (name : Bytes) (x : Seen) : Type 0 where
  pub tags : Known rules from next name x.known
  pub mandatory-at : Places (mandatory rules) name x.mandatory
  pub unique-at : Places (unique rules) name x.unique

-- and of the name at its own place
pub record SeenAt (rules : Record) (from next : ℕ) (s : Bytes) (x : SeenName) : Type 0 where
  pub ordered : x.at ≤ x.end
  pub inside : x.end ≤ length s
  pub stands : Stands rules from next (span x.at x.end s) x.seen
