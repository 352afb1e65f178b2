-- Descriptors and sets, the default set first.
use Rattle.std.specs.Prelude.{Bool, ◌&&◌, not, List, [], ◌∷◌, map, get_or}
use Rattle.std.proofs.Math.Option.{Option}
use Rattle.format.specs.Bytes.{Bytes, text, pick, same}
use Rattle.format.specs.Lists.{only_if, is_filled, kept, cut_at}
use Rattle.format.specs.Words.{first_word}
use Rattle.format.specs.Pieces.{Piece}
use Rattle.format.specs.Records.{Record, Block, blocks, fields_of, is_record}

-- the values of a record's fields of one name
abbrev pub values_of : Bytes → Record → List Bytes
values_of n [] = []
values_of n (f ∷ fs) = pick (same n f.name) (f.value ∷ values_of n fs) (values_of n fs)

abbrev pub rec_values : Record → List Bytes
rec_values r = values_of (text "%rec") r

-- "A record with `%rec` is a descriptor and opens its set."
abbrev pub is_descriptor : Block → Bool
is_descriptor b = is_filled (rec_values (fields_of b))

-- The blocks of each set, its descriptor's first. "Records before any descriptor form the default set": its group comes first and has no descriptor.
abbrev pub Group : Type 0
Group = List Block

abbrev pub groups : List Piece → List Group
groups ps = cut_at is_descriptor (blocks ps)

-- the set's records: those that are no descriptor
abbrev pub is_member : Block → Bool
is_member b = is_record b && not (is_descriptor b)

abbrev pub member_of : Block → Option Record
member_of b = only_if (is_member b) (fields_of b)

-- a set: its name, its rules (the fields of its descriptor, none in the default set) and its records
pub record RecSet : Type 0 where
  pub name : Bytes
  pub rules : Record
  pub members : List Record

abbrev pub rules_of : Group → Record
rules_of [] = []
rules_of (b ∷ g) = pick (is_descriptor b) (fields_of b) []

-- the set's name is the one word of its `%rec` value, and empty without one
abbrev pub set_of : Group → RecSet
set_of g = record { name = first_word (get_or (rec_values (rules_of g)) 0 []); rules = rules_of g; members = kept member_of g }

unfoldable pub sets_of : List Piece → List RecSet
sets_of ps = map set_of (groups ps)
