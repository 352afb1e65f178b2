-- What is read of a descriptor, and what its records answer, by some of its `%type` fields and by all.
use Rattle.std.specs.Prelude.{ℕ, ◌-◌, ◌≤◌, ◌<◌, ◌≡◌, not, List, map, eqb, length}
use Rattle.format.specs.Lists.{is_filled}
use Rattle.format.specs.Bytes.{Bytes, text}
use Rattle.format.specs.Records.{Record}
use Rattle.format.specs.Sets.{values_of}
use Rattle.format.specs.Numbers.{int_bounds}
use Rattle.format.specs.Refusals.{no_of}
use Rattle.format.specs.Rules.{key}
use Rattle.format.specs.Questions.{occurrences}
use Rattle.format.proofs.Elements.{Each}
use Rattle.format.proofs.Least.{leasts}
use Rattle.format.proofs.Judging.{record_no}
use Rattle.records.specs.Walk.{record_in}
use Rattle.dictionary.specs.Known.{Described}
use Rattle.columns.specs.Rows.{IsKinds}
use Rattle.rules.specs.Members.{part_no}
use Rattle.rules.specs.declared.members.Asked.{Asked}
use Rattle.rules.specs.declared.Book.{Book}
use Rattle.rules.specs.declared.Chunk.{Chunk}

-- b was read of a descriptor
pub record IsBook (d : Bytes) (b : Book) : Type 0 where
  pub described : Described d
  pub kinds-are : IsKinds d b.kinds
  pub limited-is : b.limited ≡ not (eqb (length (values_of (text "%allowed") (record_in d))) 0)
  pub keyed-is : b.keyed ≡ is_filled (key (record_in d))

-- the records were asked by the `%type` fields from one on before the next
pub record Chunked (d : Bytes) (from count : ℕ) (rs : List Record) (c : Chunk) : Type 0 where
  pub begins : from ≤ c.next
  pub within : c.next ≤ count
  pub some : from < count → from < c.next
  pub number_is : no_of c.answer ≡ part_no d from (c.next - from) rs
  pub count-is : c.count ≡ length rs

-- and by all
pub record SetAsked (rules : Record) (rs : List Record) (a : Asked) : Type 0 where
  pub number_is : no_of a.answer ≡ leasts (map (record_no int_bounds rules) rs)
  pub count-is : a.count ≡ length rs

-- each of some records has every key once that the rules name
abbrev pub HaveKeys : Record → List Record → Type 0
HaveKeys rules rs = Each (λ (r : Record). Each (λ (w : Bytes). occurrences w r ≡ 1) (key rules)) rs
