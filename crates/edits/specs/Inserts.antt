-- What an insert does, once the fields are known that it gets.
use Rattle.std.specs.Prelude.{ℕ, ◌+◌, ◌≡◌, true, ltb}
use Rattle.format.specs.Bytes.{Bytes, pick}
use Rattle.format.specs.Limits.{file_bytes}
use Rattle.format.specs.Numbers.{int_bounds}
use Rattle.format.specs.Rules.{autos_counted}
use Rattle.records.specs.Walk.{record_in}
use Rattle.dictionary.specs.Known.{Described}
use Rattle.numbering.specs.declared.Added.{Added}
use Rattle.format.specs.declared.refusals.Refusal.{Refusal}
use Rattle.edits.specs.declared.Located.{Located}
use Rattle.edits.specs.declared.Splice.{Splice}
use Rattle.edits.specs.Splices.{made_len}

-- a part whose fields are rules that pass questions 4, 6 and 7
abbrev pub Numberable : Bytes → Type 0
Numberable d = Described d × (autos_counted int_bounds (record_in d) ≡ true)

-- the sum of two lengths; where one of them is beyond what a file may have, that one
abbrev pub capped_len : ℕ → ℕ → ℕ
capped_len own len = pick (ltb file_bytes own) own (pick (ltb file_bytes len) len (own + len))

-- of a text of `used` bytes, at a place, with pairs of a text of len bytes
abbrev pub located_by : ℕ → ℕ → ℕ → ℕ → Added → Located
located_by used at from len Added.Numberless = Located.Refused Refusal.Numberless
located_by used at from len (Added.Text own) =
    pick (ltb file_bytes (capped_len own len)) (Located.Over (capped_len own len)) (Located.At (Splice.Record (record { at = at; from = from; len = capped_len own len }) own))
located_by used at from len (Added.Long own) =
    pick (ltb file_bytes (capped_len own len)) (Located.Over (capped_len own len)) (Located.Over (made_len used (capped_len own len)))
