-- The rules of a set of a file that passes are such that a dictionary can be made of them.
use Rattle.format.specs.Bytes.{Bytes}
use Rattle.words.specs.Spans.{span}
use Rattle.records.specs.declared.RecordSet.{RecordSet}
use Rattle.records.proofs.SetOf.{PassingSet}
use Rattle.dictionary.specs.Known.{Described}

pub set-described : (s n : Bytes) (p : RecordSet) → PassingSet s n p → Described (span p.start p.end s)
set-described s n p h = record { reads = h.set.rules-readable; short = h.rules-short; fits = h.rules-fit; few = h.rules-few; well = h.rules-well; typed = h.rules-typed }
