-- A value against the kinds at the end of a descriptor's types.
use Rattle.std.specs.Prelude.{ℕ, zero, suc, Bool, true, ◌&&◌, ◌||◌, not}
use Rattle.std.proofs.Math.Option.{Option, none, some}
use Rattle.format.specs.Bytes.{Bytes, among}
use Rattle.format.specs.Numbers.{int_bounds}
use Rattle.format.specs.Types.{Kind, meets}
use Rattle.format.specs.Rules.{typedefs_of, typed_names, end_kind}
use Rattle.records.specs.Walk.{record_in}
use Rattle.terms.specs.Sets.{in_set}
use Rattle.dictionary.specs.Known.{type_value}

-- by a kind, where there is one
abbrev pub meets_kind : Option Kind → Bytes → Bool
meets_kind none v = true
meets_kind (some k) v = meets int_bounds k v

-- the kind at the end of the type of a `%type` value
abbrev pub kind_of : Bytes → Bytes → Option Kind
kind_of d w = end_kind int_bounds (typedefs_of int_bounds (record_in d)) w

-- does a value meet the kind of `%type` field k
abbrev pub row_met : Bytes → ℕ → Bytes → Bool
row_met d k v = meets_kind (kind_of d (type_value (record_in d) k)) v

-- and the kinds of those of m fields, from k on, that are in a set of tags
abbrev pub rows_met : Bytes → ℕ → ℕ → ℕ → Bytes → Bool
rows_met d tags k zero v = true
rows_met d tags k (suc m) v = (not (in_set k tags) || row_met d k v) && rows_met d tags (suc k) m v

-- or that name its field
abbrev pub is_named : Bytes → ℕ → Bytes → Bool
is_named d k name = among name (typed_names (type_value (record_in d) k))

abbrev pub typed_between : Bytes → ℕ → ℕ → Bytes → Bytes → Bool
typed_between d k zero name v = true
typed_between d k (suc m) name v = (not (is_named d k name) || row_met d k v) && typed_between d (suc k) m name v
