-- What questions 4, 6 and 7 grant of a descriptor, the types of `%auto` names aside, and of records.
use Rattle.std.specs.Prelude.{◌≡◌, true, List}
use Rattle.format.specs.Bytes.{Bytes, all}
use Rattle.format.specs.Records.{Record}
use Rattle.format.specs.Numbers.{int_bounds}
use Rattle.format.specs.Rules.{is_well_formed, are_types_defined}
use Rattle.format.specs.Questions.{fits_record, fits_rules}
use Rattle.records.specs.Places.{is_readable}
use Rattle.records.specs.Walk.{record_in}

-- a part whose fields are the rules of a set
pub record IsRules (d : Bytes) : Type 0 where
  pub reads : is_readable d ≡ true
  pub fits : fits_record (record_in d) ≡ true
  pub few : fits_rules (record_in d) ≡ true
  pub well : is_well_formed int_bounds (record_in d) ≡ true
  pub typed : are_types_defined int_bounds (record_in d) ≡ true

-- records whose limits are held
abbrev pub AllFit : List Record → Type 0
AllFit rs = all fits_record rs ≡ true
