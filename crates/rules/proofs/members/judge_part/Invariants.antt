-- `rules::members::judge_part` meets its contract. The invariant: the record that goes on has its tally, those before it their least number and their count, typed tells whether the fields so far meet
-- their types, what was seen of names holds, and the values to come fit the scratch. The measure is what is left of the part.
use Rattle.format.specs.Refusals.{no_of}
use Prim.Native.Nat.{◌-◌}
use mathlib.Core.Path.{◌≡◌}
use mathlib.Core.Bool.{true}
use lib.ListN.{length}
use Rattle.format.specs.Bytes.{all}
use Rattle.records.specs.Walk.{record_in}
use Rattle.records.specs.Fields.{fields_from}
use Rattle.rules.specs.Members.{fits_in}
use Rattle.rules.proofs.Walking.{Walked, AllSeen}
use Rattle.rules.proofs.members.judge_part.Given as goal

abbrev pub invariant-loop-size : goal.invariant-loop-size
invariant-loop-size l = (length l.scratch ≡ length l.initial.scratch) × (length l.seen ≡ 16) × AllSeen (record_in l.d) l.r.tables.names.from l.r.tables.names.next l.s l.seen × Walked l.d l.r.tables.names.from (l.r.typed.symbols.next - l.r.tables.names.from) l.s l.t l.fields l.typed (no_of l.a.answer) l.a.count l.i × (all (fits_in (length l.initial.scratch)) (fields_from l.s l.i) ≡ true)

abbrev pub decreases-loop-size : goal.decreases-loop-size
decreases-loop-size l = length l.s - l.i
