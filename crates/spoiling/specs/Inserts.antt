-- Records put into sets, one after another.
use Rattle.std.specs.Prelude.{ℕ, List, [], ◌∷◌}
use Rattle.std.proofs.Math.Option.{Option, some, map}
use Rattle.format.specs.Lists.{onward, nth}
use Rattle.format.specs.Sets.{RecSet}
use Rattle.format.specs.Numbers.{Bounds}
use Rattle.format.specs.Written.{Pair}
use Rattle.format.specs.Numbering.{completed}
use Rattle.format.specs.Edits.{Edit, in_set}
use Rattle.format.specs.Plain.{set_at}

-- a record's fields, and the place of the set that gets it
pub record NewRecord : Type 0 where
  pub place : ℕ
  pub pairs : List Pair

abbrev pub with_record : NewRecord → List RecSet → List RecSet
with_record x ss = nth x.place (in_set (Edit.insert x.pairs)) ss

abbrev pub with_records : List NewRecord → List RecSet → List RecSet
with_records [] ss = ss
with_records (x ∷ xs) ss = with_records xs (with_record x ss)

-- with numbers for the names that it omits (document 02, order 6), from the records that stand when it comes; none where a name has no number
abbrev pub completed_record : Bounds → NewRecord → List RecSet → Option NewRecord
completed_record b x ss = map (λ (ps : List Pair). record { place = x.place; pairs = ps }) (completed b (set_at x.place ss) x.pairs)

abbrev pub completed_records : Bounds → List NewRecord → List RecSet → Option (List NewRecord)
completed_records b [] ss = some []
completed_records b (x ∷ xs) ss = onward (λ (y : NewRecord). map (λ (ys : List NewRecord). y ∷ ys) (completed_records b xs (with_record y ss))) (completed_record b x ss)
