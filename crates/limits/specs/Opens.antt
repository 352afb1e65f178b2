-- A record that goes on, field by field, and the row of a descriptor where it ends.
use Rattle.std.specs.Prelude.{ℕ, ◌+◌, false, ◌||◌, List, eqb, set}
use Rattle.format.specs.Bytes.{Bytes, text, pick, same}
use Rattle.format.specs.Lines.{is_special}
use Rattle.limits.specs.declared.Open.{Open}

abbrev pub not_open : Open
not_open = record { fields = 0; special = false; recs = 0; start = 0; end = 0 }

-- one more field, by its name, from a to e
abbrev pub open_on : Open → Bytes → ℕ → ℕ → Open
open_on o n a e =
    record {
      fields = o.fields + 1;
      special = o.special || is_special n;
      recs = o.recs + pick (same (text "%rec") n) 1 0;
      start = pick (eqb o.fields 0) a o.start;
      end = e;
    }

-- row k has a place of the record, if it is a descriptor; beyond the last row nothing is put
abbrev pub put_row : Open → List ℕ → ℕ → ℕ → List ℕ
put_row o rows k place = pick (eqb o.recs 0) rows (set rows k place)
