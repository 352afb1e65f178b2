-- A text that reads has the number of the dense one.
use mathlib.Core.Path.{◌≡◌}
use mathlib.Core.Bool.{true, ◌&&◌}
use Rattle.format.specs.Bytes.{Bytes, is_allowed, all}
use Rattle.format.specs.Lines.{is_ended}
use Rattle.format.specs.Pieces.{read_of}
use Rattle.format.proofs.Dense.{dense, dense-no}
use Rattle.format.proofs.Judging.{text_no}
use Rattle.records.specs.Places.{is_readable}
use Rattle.records.proofs.Readings.{readable-pieces}

pub number-dense : (s : Bytes) → (all is_allowed s && is_ended s) ≡ true → is_readable s ≡ true → text_no (dense s) ≡ text_no s
number-dense s t h = dense-no s (read_of s) t (readable-pieces s h)
