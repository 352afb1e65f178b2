-- What a walk over the records of a set is given, and the number that it answers.
use Rattle.std.specs.Prelude.{ℕ, ◌≤◌, ◌≡◌, Bool, not, List, map, leb, eqb, length, take}
use Rattle.format.specs.Lists.{is_filled}
use Rattle.format.specs.Bytes.{Bytes, text, pick, all}
use Rattle.format.specs.Records.{Field, Record}
use Rattle.format.specs.Sets.{values_of}
use Rattle.format.specs.Numbers.{int_bounds}
use Rattle.format.specs.Rules.{key}
use Rattle.format.specs.Questions.{first_no}
use Rattle.format.proofs.Least.{least, leasts}
use Rattle.format.proofs.Judging.{record_rows}
use Rattle.records.specs.Walk.{record_in}
use Rattle.words.specs.Spans.{span}
use Rattle.rules.specs.Tables.{symbols_at, entries_end, IsTables}
use Rattle.columns.specs.Meets.{typed_between}
use Rattle.columns.specs.Rows.{IsTyped}
use Rattle.rules.specs.declared.members.Rulebook.{Rulebook}

-- the tables of a descriptor's rules; they and the symbols are of the `%type` fields from one on, the symbols of no more of them
pub record IsRulebook (d : Bytes) (l sets : List ℕ) (r : Rulebook) : Type 0 where
  pub tables-are : IsTables d l sets r.tables
  pub typed-are : IsTyped d (span symbols_at entries_end l) r.typed
  pub from_is : r.typed.symbols.from ≡ r.tables.names.from
  pub within : r.typed.symbols.next ≤ r.tables.names.next
  pub limited-is : r.limited ≡ not (eqb (length (values_of (text "%allowed") (record_in d))) 0)
  pub keyed-is : r.keyed ≡ is_filled (key (record_in d))

-- does a value fit n bytes
abbrev pub fits_in : ℕ → Field → Bool
fits_in n f = leb (length f.value) n

-- the number of a record on questions 8 to 11
unfoldable pub names_no : Record → Record → ℕ
names_no rules r = first_no (take 4 (record_rows int_bounds rules)) r

-- does a field meet the types of m `%type` fields, from one on, that name it
unfoldable pub is_met : Bytes → ℕ → ℕ → Field → Bool
is_met d from m f = typed_between d from m f.name f.value

-- the least number of records on questions 8 to 11 and on these types
unfoldable pub part_no : Bytes → ℕ → ℕ → List Record → ℕ
part_no d from m rs = least (leasts (map (names_no (record_in d)) rs)) (pick (all (all (is_met d from m)) rs) 0 12)
