-- What the descriptors' questions grant to the later ones.
use Rattle.std.specs.Prelude.{◌≡◌, true, List}
use Rattle.format.specs.Bytes.{Bytes}
use Rattle.format.specs.Numbers.{int_bounds}
use Rattle.format.specs.Questions.{fits_record, fits_rules}
use Rattle.format.specs.Records.{Record}
use Rattle.format.specs.Rules.{is_well_formed}
use Rattle.format.proofs.Walking.{walk_fits, walk_well, walk_types}
use Rattle.records.specs.Places.{is_readable}
use Rattle.records.specs.Walk.{record_in}

-- a descriptor's part, of which questions 4 and 6 say yes
pub record IsFormed (d : Bytes) : Type 0 where
  pub reads : is_readable d ≡ true
  pub fits : fits_record (record_in d) ≡ true
  pub few : fits_rules (record_in d) ≡ true
  pub well : is_well_formed int_bounds (record_in d) ≡ true

-- questions 4, 6 and 7 say yes of a file's records
pub record Granted (rs : List Record) : Type 0 where
  pub fit : walk_fits rs ≡ true
  pub well : walk_well int_bounds rs ≡ true
  pub types : walk_types int_bounds rs ≡ true
